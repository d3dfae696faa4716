-- A well-sized expression has a value where the cells that it reads are defined, of as many elements as its size says.
use Rattle.std.proofs.Common.{◌≡◌, ℕ, suc, true, List, [], ◌∷◌, ◌++◌, length, map, Some, refl, sym, ap, ◌∙◌, arith}
use Rattle.std.specs.Prelude.{option_map, option_and_then}
use Rattle.std.proofs.lemmas.List.{length-append, length-map}
use Rattle.usuba_model.specs.Assignments.{cells_read}
use Rattle.usuba_model.specs.Cells.{Cell}
use Rattle.usuba_model.specs.Names.{is_name_among}
use Rattle.usuba_model.specs.Operations.{calls_of}
use Rattle.usuba_model.specs.Rounds.{Operators, Environment, Callees, both, whole, element_by_element, value_of}
use Rattle.usuba_model.specs.Unrolled.{Expression, cells, number, nothing, joined, call, complement, operation, shift, refresh}
use Rattle.usuba_model.specs.Walk.{Signature, signature_of, size_of}
use Rattle.usuba_model.proofs.Sizing.{IsSized}

-- each of some names is known
abbrev pub AreKnown : List (List ℕ) → List (List ℕ) → Type 0
AreKnown known [] = Unit {0}
AreKnown known (name ∷ names) = (is_name_among known name ≡ true) × AreKnown known names

known_first : (known a b : List (List ℕ)) → AreKnown known (a ++ b) → AreKnown known a
known_first known [] b k = tt
known_first known (name ∷ a) b k = (k.0, known_first known a b k.1)

known_second : (known a b : List (List ℕ)) → AreKnown known (a ++ b) → AreKnown known b
known_second known [] b k = k
known_second known (name ∷ a) b k = known_second known a b k.1

-- two values of equally many elements, joined element by element, make as many
pub length_two : {X : Type 0} (f : X → X → X) (xs ys : List X) → length xs ≡ length ys → length (element_by_element f xs ys) ≡ length xs
length_two f [] ys e = refl
length_two f (x ∷ xs) [] e = absurd (omega (arith, e))
length_two f (x ∷ xs) (y ∷ ys) e = ap suc (length_two f xs ys (omega (arith, e)))

module _ {V : Type 0} where
  -- each of some cells is defined
  abbrev pub AllDefined : Environment V → List Cell → Type 0
  AllDefined e [] = Unit {0}
  AllDefined e (c ∷ cs) = ((v : V) × (e c ≡ Some v)) × AllDefined e cs

  pub defined_first : (e : Environment V) (a b : List Cell) → AllDefined e (a ++ b) → AllDefined e a
  defined_first e [] b d = tt
  defined_first e (c ∷ a) b d = (d.0, defined_first e a b d.1)

  pub defined_second : (e : Environment V) (a b : List Cell) → AllDefined e (a ++ b) → AllDefined e b
  defined_second e [] b d = d
  defined_second e (c ∷ a) b d = defined_second e a b d.1

  -- defined cells are all there
  pub whole_defined : (e : Environment V) (cs : List Cell) → AllDefined e cs
      → (vs : List V) × (whole (map e cs) ≡ Some vs) × (length vs ≡ length cs)
  whole_defined e [] d = ([], refl, refl)
  whole_defined e (c ∷ cs) d =
      let rest = whole_defined e cs d.1 in (
        d.0.0 ∷ rest.0,
        ap (λ o. both (λ v vs. v ∷ vs) o (whole (map e cs))) d.0.1 ∙ ap (both (λ v vs. v ∷ vs) (Some d.0.0)) rest.1,
        ap suc rest.2,
      )

  -- definitions of these names answer arguments that fit their inputs, by as many elements as they have outputs
  abbrev pub AreTotal : List (List ℕ) → List Signature → Callees V → Type 0
  AreTotal known signatures callees = (name : List ℕ) → is_name_among known name ≡ true → (xs : List V)
      → length xs ≡ (signature_of signatures name).inputs
      → (ys : List V) × (callees name xs ≡ Some ys) × (length ys ≡ (signature_of signatures name).outputs)

  module _ (w : ℕ) (known : List (List ℕ)) (signatures : List Signature) (operators : Operators V) (callees : Callees V)
      (total : AreTotal known signatures callees) (e : Environment V) where
    -- an expression has a value of its size
    abbrev pub HasValue : Expression → Type 0
    HasValue x = (vs : List V) × (value_of operators callees e x ≡ Some vs) × (length vs ≡ size_of signatures x)

    mapped_value : (f : V → V) (x : Expression) → HasValue x
        → (vs : List V) × (option_map (map f) (value_of operators callees e x) ≡ Some vs) × (length vs ≡ size_of signatures x)
    mapped_value f x has = (map f has.0, ap (option_map (map f)) has.1, length-map has.0 f ∙ has.2)

    both_values : (f : List V → List V → List V) (x y : Expression) (hx : HasValue x) (hy : HasValue y)
        → both f (value_of operators callees e x) (value_of operators callees e y) ≡ Some (f hx.0 hy.0)
    both_values f x y hx hy =
        ap (λ o. both f o (value_of operators callees e y)) hx.1 ∙ ap (both f (Some hx.0)) hy.1

    pub has_value : (x : Expression) → IsSized w signatures x → AreKnown known (calls_of x) → AllDefined e (cells_read x) → HasValue x
    has_value (number value) sized calls d = (operators.number_of value ∷ [], refl, refl)
    has_value (cells read) sized calls d = whole_defined e read d
    has_value nothing sized calls d = ([], refl, refl)
    has_value (joined a b) sized calls d =
        let ha = has_value a sized.0 (known_first known (calls_of a) (calls_of b) calls) (defined_first e (cells_read a) (cells_read b) d) in
        let hb = has_value b sized.1 (known_second known (calls_of a) (calls_of b) calls) (defined_second e (cells_read a) (cells_read b) d) in
        let len = length-append ha.0 hb.0 in
        (ha.0 ++ hb.0, both_values (λ xs ys. xs ++ ys) a b ha hb, omega (arith, len, ha.2, hb.2))
    has_value (call name args) sized calls d =
        let ha = has_value args sized.0 calls.1 d in
        let answer = total name calls.0 ha.0 (ha.2 ∙ sym sized.1) in
        (answer.0, ap (option_and_then (callees name)) ha.1 ∙ answer.1, answer.2)
    has_value (complement a) sized calls d = mapped_value operators.complement_of a (has_value a sized calls d)
    has_value (operation op a b) sized calls d =
        let ha = has_value a sized.0 (known_first known (calls_of a) (calls_of b) calls) (defined_first e (cells_read a) (cells_read b) d) in
        let hb = has_value b sized.1 (known_second known (calls_of a) (calls_of b) calls) (defined_second e (cells_read a) (cells_read b) d) in
        let f = operators.operation_of op in (
          element_by_element f ha.0 hb.0,
          both_values (element_by_element f) a b ha hb,
          length_two f ha.0 hb.0 (ha.2 ∙ sized.2 ∙ sym hb.2) ∙ ha.2,
        )
    has_value (shift kind k a) sized calls d =
        let ha = mapped_value (operators.shift_of kind k) a (has_value a sized.0 calls d) in
        (ha.0, ha.1, ha.2 ∙ sized.1)
    has_value (refresh k a) sized calls d = mapped_value (operators.refresh_of k) a (has_value a sized.0 calls d)
