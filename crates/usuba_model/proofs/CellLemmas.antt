-- Facts about cells: equality, membership, and what is given at them.
use Rattle.std.proofs.Common.{◌≡◌, ℕ, Bool, true, false, ◌||◌, ◌&&◌, ◌==◌, List, [], ◌∷◌, length, Some, refl, ap, ◌∙◌, subst, arith}
use Rattle.std.specs.Prelude.{bytes_eq, if◌then◌else◌}
use Rattle.std.specs.List.{list_all}
use Rattle.std.proofs.lemmas.Bool.{eqb-true, eq-eqb}
use Rattle.std.proofs.lemmas.Slice.Eq.{bytes_eq-Decides}
use Rattle.usuba_model.specs.Cells.{Cell, same_cell, is_among}
use Rattle.usuba_model.specs.Rounds.{Environment, given}
use Rattle.usuba_model.proofs.Valuing.{AllDefined}

-- false is not true
pub false_true {ℓ} : {A : Type ℓ} → false ≡ true → A
false_true e = absurd (subst (λ (b : Bool). elim b as (λ _. Type 0) [ true ↦ ⊥ | false ↦ Unit {0} ]) e tt)

both_true : (a b : Bool) → (a && b) ≡ true → (a ≡ true) × (b ≡ true)
both_true true b e = (refl, e)
both_true false b e = false_true e

-- cells that are one are equal
pub same_cells : (a b : Cell) → same_cell a b ≡ true → a ≡ b
same_cells a b e =
    let tests = both_true (bytes_eq a.name b.name) (a.element == b.element) e in
    let names : a.name ≡ b.name = (bytes_eq-Decides a.name b.name).0 tests.0 in
    let numbers : a.element ≡ b.element = eqb-true a.element b.element tests.1 in
    ap (λ (name : List ℕ). record { name = name; element = a.element }) names
    ∙ ap (λ (element : ℕ). record { name = b.name; element = element }) numbers

pub same_cell_itself : (a : Cell) → same_cell a a ≡ true
same_cell_itself a =
    ap (λ (b : Bool). b && (a.element == a.element)) ((bytes_eq-Decides a.name a.name).1 refl) ∙ eq-eqb a.element a.element refl

or_first : (a b : Bool) → a ≡ true → (a || b) ≡ true
or_first true b e = refl
or_first false b e = false_true e

-- a cell that is one of two is the first or the second
or_cases {ℓ} : {A : Type ℓ} → (a b : Bool) → (a || b) ≡ true → (a ≡ true → A) → (b ≡ true → A) → A
or_cases true b e first second = first refl
or_cases false b e first second = second e

module _ {V : Type 0} where
  -- a cell among defined ones is defined
  pub among_defined : (e : Environment V) (cs : List Cell) → AllDefined e cs → (c : Cell) → is_among cs c ≡ true → (v : V) × (e c ≡ Some v)
  among_defined e [] d c m = false_true m
  among_defined e (x ∷ cs) d c m =
      or_cases (same_cell c x) (is_among cs c) m
      (λ first. (d.0.0, ap e (same_cells c x first) ∙ d.0.1))
      (λ later. among_defined e cs d.1 c later)

  -- cells that are all among defined ones are defined
  pub all_among_defined : (e : Environment V) (known : List Cell) → AllDefined e known → (cs : List Cell)
      → list_all (is_among known) cs ≡ true → AllDefined e cs
  all_among_defined e known d [] m = tt
  all_among_defined e known d (c ∷ cs) m =
      let parts = both_true (is_among known c) (list_all (is_among known) cs) m in
      (among_defined e known d c parts.0, all_among_defined e known d cs parts.1)

  -- an element is given at each of the cells, where there are as many
  given_there : (cs : List Cell) (vs : List V) → length vs ≡ length cs → (c : Cell) → is_among cs c ≡ true → (v : V) × (given cs vs c ≡ Some v)
  given_there [] vs len c m = false_true m
  given_there (x ∷ cs) [] len c m = absurd (omega (arith, len))
  given_there (x ∷ cs) (v ∷ vs) len c m = at_first (same_cell c x) m (given_there cs vs (omega (arith, len)) c)
    where
      at_first : (b : Bool) → (b || is_among cs c) ≡ true → (is_among cs c ≡ true → (y : V) × (given cs vs c ≡ Some y))
          → (y : V) × ((if b then Some v else given cs vs c) ≡ Some y)
      at_first true m later = (v, refl)
      at_first false m later = later m

  given_at_each : (cs vs' : List Cell) (vs : List V) → ((c : Cell) → is_among vs' c ≡ true → is_among cs c ≡ true)
      → length vs ≡ length cs → AllDefined (given cs vs) vs'
  given_at_each cs [] vs within len = tt
  given_at_each cs (c ∷ rest) vs within len = (
    given_there cs vs len c (within c (or_first (same_cell c c) (is_among rest c) (same_cell_itself c))),
    given_at_each cs rest vs (λ d m. within d (or_second (same_cell d c) (is_among rest d) m)) len,
  )
    where
      or_second : (a b : Bool) → b ≡ true → (a || b) ≡ true
      or_second true b e = refl
      or_second false b e = e

  -- so all of them are defined
  pub given_all : (cs : List Cell) (vs : List V) → length vs ≡ length cs → AllDefined (given cs vs) cs
  given_all cs vs len = given_at_each cs cs vs (λ c m. m) len
