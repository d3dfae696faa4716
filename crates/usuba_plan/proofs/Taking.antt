-- The instances of a node, taken in a ready order over numbered cells, give what they give over named cells.
use Rattle.std.proofs.Common.{◌≡◌, ℕ, zero, suc, Bool, true, false, ◌&&◌, List, [], ◌∷◌, ◌++◌, map, get_or, Option, Some, None, refl, sym, ap, ◌∙◌, subst}
use Rattle.std.specs.Prelude.{option_map, option_and_then, if◌then◌else◌}
use Rattle.std.specs.List.{list_all}
use Rattle.std.specs.Option.{option_or}
use Rattle.std.proofs.lemmas.Bool.{and_parts}
use Rattle.std.proofs.lemmas.List.{map-append}
use Rattle.std.proofs.lemmas.List.Folds.{list_all-append}
use Rattle.usuba_trees.specs.declared.Decl.{Decl}
use Rattle.usuba_model.specs.Assignments.{cells_read}
use Rattle.usuba_model.specs.Cells.{Cell, same_cell, is_among}
use Rattle.usuba_model.specs.Operations.{calls_of}
use Rattle.usuba_model.specs.Rounds.{Operators, Environment, Callees, value_of, given}
use Rattle.usuba_model.specs.Unrolled.{nothing, Instance, left_cells}
use Rattle.usuba_model.specs.Walk.{Signature}
use Rattle.usuba_model.proofs.CellLemmas.{false_true, all_among_defined, given_all}
use Rattle.usuba_model.proofs.Ordering.{AreFresh, extended, in_order, extended_within, given_among}
use Rattle.usuba_model.proofs.Reaching.{IsSizedInstance}
use Rattle.usuba_model.proofs.Valuing.{AreTotal, AllDefined, has_value}
use Rattle.usuba_model.specs.Numbers.{cell_number, is_declared}
use Rattle.usuba_code.specs.Code.{Coded, coded, coded_at, code_of}
use Rattle.usuba_code.specs.CodeLaw.{Each, HoldsSame, AnswersSame, CodeGivesValue}
use Rattle.usuba_code.specs.Machine.{NumberedCallees, NumberedEnvironment, run_code}
use Rattle.usuba_code.proofs.Premises.{has_sizes, answers_all}
use Rattle.ready_order.specs.Numbered.{is_one_of, left_numbers, numbers_read}
use Rattle.ready_order.specs.Order.{AreReady}
use Rattle.usuba_code.proofs.Numbering.{same_number}
use Rattle.ready_order.proofs.CodedNumbers.{among_numbers, code_numbers, left_cells_numbers}
use Rattle.usuba_plan.specs.Made.{given_at, with_given, taken, taken_in_order}

-- what is defined stands at known cells
abbrev pub IsKnown : {V : Type 0} → List Cell → Environment V → Type 0
IsKnown {V} known e = (cell : Cell) (y : V) → e cell ≡ Some y → is_among known cell ≡ true

-- a cell that is not known is not defined
not_known : {V : Type 0} (known : List Cell) (e : Environment V) → IsKnown known e → (cell : Cell) → is_among known cell ≡ false → e cell ≡ None
not_known {V} known e within cell out = of_it (e cell) refl
  where
    of_it : (o : Option V) → e cell ≡ o → e cell ≡ None
    of_it None is = is
    of_it (Some y) is = false_true (sym out ∙ within cell y is)

-- an instance without left sides and value
abbrev pub no_instance : Instance
no_instance = record { targets = []; right = nothing }

-- the instance at a number
abbrev pub instance_at : List Instance → ℕ → Instance
instance_at instances k = get_or instances k no_instance

pub get_or-map : {A B : Type 0} (f : A → B) (xs : List A) (k : ℕ) (d : A) → get_or (map f xs) k (f d) ≡ f (get_or xs k d)
get_or-map f [] k d = refl
get_or-map f (x ∷ xs) zero d = refl
get_or-map f (x ∷ xs) (suc k) d = get_or-map f xs k d

module _ (declared : List Decl) where
  -- each of some cells is declared
  abbrev pub AllDeclared : List Cell → Type 0
  AllDeclared cs = list_all (is_declared declared) cs ≡ true

  module _ {V : Type 0} where
    -- numbered cells hold what the declared cells hold
    abbrev pub Agree : NumberedEnvironment V → Environment V → Type 0
    Agree numbered environment = (c : Cell) → is_declared declared c ≡ true → numbered (cell_number declared c) ≡ environment c

    pub given_same : (cs : List Cell) (vs : List V) (c : Cell) → AllDeclared cs → is_declared declared c ≡ true
        → given_at (map (cell_number declared) cs) vs (cell_number declared c) ≡ given cs vs c
    given_same [] vs c all here = refl
    given_same (x ∷ cs) [] c all here = refl
    given_same (x ∷ cs) (v ∷ vs) c all here =
        let parts = and_parts (is_declared declared x) (list_all (is_declared declared) cs) all in
        ap (λ (b : Bool). if b then Some v else given_at (map (cell_number declared) cs) vs (cell_number declared c)) (sym (same_number declared c x here parts.0))
        ∙ ap (λ (o : Option V). if same_cell c x then Some v else o) (given_same cs vs c parts.1 here)

    or_other_way : (o p : Option V) → ((v : V) → o ≡ Some v → p ≡ None) → option_or o p ≡ option_or p o
    or_other_way (Some v) p apart = ap (λ (q : Option V). option_or (Some v) q) (apart v refl) ∙ sym (ap (λ (q : Option V). option_or q (Some v)) (apart v refl))
    or_other_way None (Some v) apart = refl
    or_other_way None None apart = refl

    pub agree_next : (known : List Cell) (numbered : NumberedEnvironment V) (e : Environment V) (cs : List Cell) (vs : List V)
        → Agree numbered e → IsKnown known e → AllDeclared cs → ((c : Cell) → is_among cs c ≡ true → is_among known c ≡ false)
        → Agree (with_given (map (cell_number declared) cs) vs numbered) (extended e cs vs)
    agree_next known numbered e cs vs agree within all fresh c here =
        ap (λ (o : Option V). option_or o (numbered (cell_number declared c))) (given_same cs vs c all here)
        ∙ ap (λ (o : Option V). option_or (given cs vs c) o) (agree c here)
        ∙ or_other_way (given cs vs c) (e c) (λ v is. not_known known e within c (fresh c (given_among cs vs c v is)))

    each_agrees : (numbered : NumberedEnvironment V) (e : Environment V) → Agree numbered e → (cs : List Cell) → AllDeclared cs
        → Each (HoldsSame declared numbered e) cs
    each_agrees numbered e agree [] all = tt
    each_agrees numbered e agree (c ∷ cs) all =
        let parts = and_parts (is_declared declared c) (list_all (is_declared declared) cs) all in
        (agree c parts.0, each_agrees numbered e agree cs parts.1)

  -- cells whose numbers are known are known
  known_cells : (known : List Cell) → AllDeclared known → (cs : List Cell) → AllDeclared cs
      → list_all (is_one_of (map (cell_number declared) known)) (map (cell_number declared) cs) ≡ list_all (is_among known) cs
  known_cells known all [] here = refl
  known_cells known all (c ∷ cs) here =
      let parts = and_parts (is_declared declared c) (list_all (is_declared declared) cs) here in
      ap (λ (b : Bool). b && list_all (is_one_of (map (cell_number declared) known)) (map (cell_number declared) cs)) (among_numbers declared known c all parts.0)
      ∙ ap (λ (b : Bool). is_among known c && b) (known_cells known all cs parts.1)

module _ {V : Type 0} (w : ℕ) (known_names : List (List ℕ)) (signatures : List Signature) (declared : List Decl) (operators : Operators V)
    (callees : Callees V) (answers : NumberedCallees V) (total : AreTotal known_names signatures callees) (law : CodeGivesValue V) where
  -- what is known of an instance: it is well sized, its cells are declared, and what it calls answers the same by number
  pub record IsGood (i : Instance) : Type 0 where
    pub sized : IsSizedInstance w known_names signatures i
    pub reads : AllDeclared declared (cells_read i.right)
    pub assigns : AllDeclared declared (left_cells i)
    pub calls : Each (AnswersSame signatures answers callees) (calls_of i.right)

  -- the code of an instance makes what its right side is
  code_value : (i : Instance) → IsGood i → (numbered : NumberedEnvironment V) (e : Environment V) → Agree declared numbered e
      → run_code operators answers numbered (code_of signatures declared i.right) [] ≡ value_of operators callees e i.right
  code_value i good numbered e agree =
      law operators callees e answers numbered signatures declared i.right
      (has_sizes w signatures i.right good.sized.right)
      (each_agrees declared numbered e agree (cells_read i.right) good.reads)
      good.calls
      (answers_all known_names signatures callees total (calls_of i.right) good.sized.calls)
      []
      ∙ nothing_below (value_of operators callees e i.right)
    where
      nothing_below : (o : Option (List V)) → option_map (λ value. [] ++ value) o ≡ o
      nothing_below (Some vs) = refl
      nothing_below None = refl

  defined_join : (e : Environment V) (a b : List Cell) → AllDefined e a → AllDefined e b → AllDefined e (a ++ b)
  defined_join e [] b d f = f
  defined_join e (c ∷ a) b d f = (d.0, defined_join e a b d.1 f)

  extended_old : (e : Environment V) (cs : List Cell) (vs : List V) (known : List Cell) → AllDefined e known → AllDefined (extended e cs vs) known
  extended_old e cs vs [] d = tt
  extended_old e cs vs (c ∷ known) d =
      ((d.0.0, ap (λ (o : Option V). option_or o (given cs vs c)) d.0.1), extended_old e cs vs known d.1)

  extended_new : (e : Environment V) (cs : List Cell) (vs : List V) (some : List Cell) → AllDefined (given cs vs) some → AllDefined (extended e cs vs) some
  extended_new e cs vs [] d = tt
  extended_new e cs vs (c ∷ some) d = (either_way (e c), extended_new e cs vs some d.1)
    where
      either_way : (o : Option V) → (v : V) × (option_or o (given cs vs c) ≡ Some v)
      either_way (Some v) = (v, refl)
      either_way None = d.0

  -- an order was taken both by numbers and by names, and what the cells hold agrees
  pub record AreTaken (instances : List Instance) (order : List ℕ) (numbered : NumberedEnvironment V) (e : Environment V) : Type 0 where
    pub numbered_end : NumberedEnvironment V
    pub end : Environment V
    pub by_number : taken_in_order operators answers (map (coded signatures declared) instances) order numbered ≡ Some numbered_end
    pub by_name : in_order operators callees (map (instance_at instances) order) e ≡ Some end
    pub agree : Agree declared numbered_end end

  module _ (instances : List Instance) where
    code_at : (k : ℕ) → coded_at (map (coded signatures declared) instances) k ≡ coded signatures declared (instance_at instances k)
    code_at k = get_or-map (coded signatures declared) instances k no_instance

    pub all_taken : (order : List ℕ) → Each (λ k. IsGood (instance_at instances k)) order → (known : List Cell) → AllDeclared declared known
        → (numbered : NumberedEnvironment V) (e : Environment V) → Agree declared numbered e → AllDefined e known → IsKnown known e
        → AreFresh known (map (instance_at instances) order)
        → AreReady (map (cell_number declared) known) (map (coded_at (map (coded signatures declared) instances)) order)
        → AreTaken instances order numbered e
    all_taken [] good known all numbered e agree defined within fresh ready = record {
      numbered_end = numbered;
      end = e;
      by_number = refl;
      by_name = refl;
      agree = agree;
    }
    all_taken (k ∷ order) good known all numbered e agree defined within fresh ready =
        let i = instance_at instances k in
        let cs = left_cells i in
        let read : list_all (is_among known) (cells_read i.right) ≡ true
        = sym (known_cells declared known all (cells_read i.right) good.0.reads)
        ∙ ap (list_all (is_one_of (map (cell_number declared) known))) (sym (code_numbers signatures declared i.right))
        ∙ ap (λ (c : Coded). list_all (is_one_of (map (cell_number declared) known)) (numbers_read c.code)) (sym (code_at k)) ∙ ready.0 in
        let value = has_value w known_names signatures operators callees total e i.right good.0.sized.right good.0.sized.calls
        (all_among_defined e known defined (cells_read i.right) read) in
        let given_now : AllDefined (given cs value.0) cs = given_all cs value.0 (value.2 ∙ sym good.0.sized.sizes) in
        let numbers : left_numbers (coded_at (map (coded signatures declared) instances) k) ≡ map (cell_number declared) cs
        = ap (λ (c : Coded). left_numbers c) (code_at k) ∙ left_cells_numbers signatures declared i in
        let next_numbered : NumberedEnvironment V = with_given (map (cell_number declared) cs) value.0 numbered in
        let next : Environment V = extended e cs value.0 in
        let taken_now : taken operators answers (coded_at (map (coded signatures declared) instances) k) numbered ≡ Some next_numbered
        = ap (λ (c : Coded). option_map (λ elements. with_given (left_numbers (coded_at (map (coded signatures declared) instances) k)) elements numbered)
        (run_code operators answers numbered c.code [])) (code_at k)
        ∙ ap (option_map (λ elements. with_given (left_numbers (coded_at (map (coded signatures declared) instances) k)) elements numbered))
        (code_value i good.0 numbered e agree ∙ value.1)
        ∙ ap (λ (ns : List ℕ). Some (with_given ns value.0 numbered)) numbers in
        let known_next : left_numbers (coded_at (map (coded signatures declared) instances) k) ++ map (cell_number declared) known
        ≡ map (cell_number declared) (cs ++ known)
        = ap (λ (ns : List ℕ). ns ++ map (cell_number declared) known) numbers ∙ sym (map-append (cell_number declared) cs known) in
        let all_next : AllDeclared declared (cs ++ known)
        = list_all-append (is_declared declared) cs known ∙ ap (λ (b : Bool). b && list_all (is_declared declared) known) good.0.assigns ∙ all in
        let rest = all_taken order good.1 (cs ++ known) all_next next_numbered next
        (agree_next declared known numbered e cs value.0 agree within good.0.assigns fresh.0)
        (defined_join next cs known (extended_new e cs value.0 cs given_now) (extended_old e cs value.0 known defined))
        (extended_within operators callees known e within cs value.0)
        fresh.1
        (subst (λ (ns : List ℕ). AreReady ns (map (coded_at (map (coded signatures declared) instances)) order)) known_next ready.1) in
        record {
          numbered_end = rest.numbered_end;
          end = rest.end;
          by_number =
              ap (option_and_then (taken_in_order operators answers (map (coded signatures declared) instances) order)) taken_now ∙ rest.by_number;
          by_name =
              ap (option_and_then (λ vs. in_order operators callees (map (instance_at instances) order) (extended e cs vs))) value.1 ∙ rest.by_name;
          agree = rest.agree;
        }
