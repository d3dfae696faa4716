-- Rounds stay within each environment that solves the instances.
use Rattle.std.proofs.Common.{◌≡◌, ℕ, zero, suc, List, [], ◌∷◌, ◌++◌, map, Option, Some, None, refl, ap, ◌∙◌}
use Rattle.std.specs.Prelude.{option_map, option_and_then}
use Rattle.std.specs.Option.{option_or}
use Rattle.std.proofs.lemmas.Option.{none-some}
use Rattle.usuba_model.specs.Cells.{Cell}
use Rattle.usuba_model.specs.Rounds.{Operators, Environment, Callees, both, whole, element_by_element, value_of, given, defined, rounds}
use Rattle.usuba_model.specs.Unrolled.{Expression, cells, number, nothing, joined, call, complement, operation, shift, refresh, Instance, left_cells}

-- where the first is there, the second is the same
abbrev pub Below : {A : Type 0} → Option A → Option A → Type 0
Below {A = A} o p = (x : A) → o ≡ Some x → p ≡ Some x

below_map : {A B : Type 0} → (f : A → B) (o p : Option A) → Below o p → Below (option_map f o) (option_map f p)
below_map f (Some x) p b y e = ap (option_map f) (b x refl) ∙ e
below_map f None p b y e = absurd (none-some y e)

below_both : {A B C : Type 0} → (f : A → B → C) (o p : Option A) (o' p' : Option B) → Below o p → Below o' p' → Below (both f o o') (both f p p')
below_both f (Some x) p (Some x') p' b b' y e = ap (λ q. both f q p') (b x refl) ∙ ap (both f (Some x)) (b' x' refl) ∙ e
below_both f (Some x) p None p' b b' y e = absurd (none-some y e)
below_both f None p o' p' b b' y e = absurd (none-some y e)

below_then : {A B : Type 0} → (f : A → Option B) (o p : Option A) → Below o p → Below (option_and_then f o) (option_and_then f p)
below_then f (Some x) p b y e = ap (option_and_then f) (b x refl) ∙ e
below_then f None p b y e = absurd (none-some y e)

below_or : {A : Type 0} → (o o' p : Option A) → Below o p → Below o' p → Below (option_or o o') p
below_or (Some x) o' p b b' y e = b y e
below_or None o' p b b' y e = b' y e

module _ {V : Type 0} where
  below_whole : (e e' : Environment V) → ((c : Cell) → Below (e c) (e' c)) → (cs : List Cell) → Below (whole (map e cs)) (whole (map e' cs))
  below_whole e e' b [] y s = s
  below_whole e e' b (c ∷ cs) y s =
      below_both (λ v vs. v ∷ vs) (e c) (e' c) (whole (map e cs)) (whole (map e' cs)) (b c) (below_whole e e' b cs) y s

  module _ (operators : Operators V) (callees : Callees V) where
    -- more defined cells give no other value
    pub below_values : (e e' : Environment V) → ((c : Cell) → Below (e c) (e' c)) → (x : Expression)
        → Below (value_of operators callees e x) (value_of operators callees e' x)
    below_values e e' b (number value) y s = s
    below_values e e' b (cells read) y s = below_whole e e' b read y s
    below_values e e' b nothing y s = s
    below_values e e' b (joined p q) y s = below_both (λ xs ys. xs ++ ys)
        (value_of operators callees e p) (value_of operators callees e' p) (value_of operators callees e q) (value_of operators callees e' q)
        (below_values e e' b p) (below_values e e' b q) y s
    below_values e e' b (call name args) y s = below_then (callees name)
        (value_of operators callees e args) (value_of operators callees e' args) (below_values e e' b args) y s
    below_values e e' b (complement p) y s = below_map (map operators.complement_of)
        (value_of operators callees e p) (value_of operators callees e' p) (below_values e e' b p) y s
    below_values e e' b (operation op p q) y s = below_both (element_by_element (operators.operation_of op))
        (value_of operators callees e p) (value_of operators callees e' p) (value_of operators callees e q) (value_of operators callees e' q)
        (below_values e e' b p) (below_values e e' b q) y s
    below_values e e' b (shift kind k p) y s = below_map (map (operators.shift_of kind k))
        (value_of operators callees e p) (value_of operators callees e' p) (below_values e e' b p) y s
    below_values e e' b (refresh k p) y s = below_map (map (operators.refresh_of k))
        (value_of operators callees e p) (value_of operators callees e' p) (below_values e e' b p) y s

    -- an instance is solved: what its right side is here stands at its left cells
    abbrev pub IsSolved : Environment V → Instance → Type 0
    IsSolved e instance = (vs : List V) → value_of operators callees e instance.right ≡ Some vs
        → (cell : Cell) → Below (given (left_cells instance) vs cell) (e cell)

    -- all instances are solved
    abbrev pub Solves : Environment V → List Instance → Type 0
    Solves e [] = Unit {0}
    Solves e (instance ∷ instances) = IsSolved e instance × Solves e instances

    below_instance : (e e' : Environment V) → ((c : Cell) → Below (e c) (e' c)) → (instance : Instance) → IsSolved e' instance → (cell : Cell)
        → Below (option_and_then (λ elements. given (left_cells instance) elements cell) (value_of operators callees e instance.right)) (e' cell)
    below_instance e e' b instance solved cell =
        found_below (value_of operators callees e instance.right) (below_values e e' b instance.right)
      where
        found_below : (o : Option (List V)) → Below o (value_of operators callees e' instance.right)
            → Below (option_and_then (λ elements. given (left_cells instance) elements cell) o) (e' cell)
        found_below (Some vs) below y s = solved vs (below vs refl) cell y s
        found_below None below y s = absurd (none-some y s)

    below_defined : (e e' : Environment V) → ((c : Cell) → Below (e c) (e' c)) → (instances : List Instance) → Solves e' instances
        → (cell : Cell) → Below (defined operators callees e instances cell) (e' cell)
    below_defined e e' b [] solves cell y s = absurd (none-some y s)
    below_defined e e' b (instance ∷ instances) solves cell y s = below_or
        (option_and_then (λ elements. given (left_cells instance) elements cell) (value_of operators callees e instance.right))
        (defined operators callees e instances cell) (e' cell)
        (below_instance e e' b instance solves.0 cell) (below_defined e e' b instances solves.1 cell) y s

    -- so many rounds stay within an environment that solves the instances, where their beginning does
    pub rounds_within : (instances : List Instance) (e' : Environment V) → Solves e' instances → (n : ℕ) (e : Environment V)
        → ((c : Cell) → Below (e c) (e' c)) → (cell : Cell) → Below (rounds operators callees instances n e cell) (e' cell)
    rounds_within instances e' solves zero e b cell = b cell
    rounds_within instances e' solves (suc n) e b cell = below_or
        (rounds operators callees instances n e cell) (defined operators callees (rounds operators callees instances n e) instances cell) (e' cell)
        (rounds_within instances e' solves n e b cell)
        (below_defined (rounds operators callees instances n e) e' (rounds_within instances e' solves n e b) instances solves cell)
