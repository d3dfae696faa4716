-- The rounds define each cell that becomes known, so a node whose instances all become ready and whose outputs are assigned has
-- an outcome.
use Rattle.std.proofs.Common.{◌≡◌, inl, inr, ℕ, zero, suc, Bool, true, false, List, [], ◌∷◌, ◌++◌, length, Option, Some, None, refl, sym, ap, ◌∙◌, subst}
use Rattle.std.specs.Prelude.{if◌then◌else◌}
use Rattle.std.specs.Option.{option_or}
use Rattle.usuba_model.specs.Assignments.{cells_read, is_ready, made_ready, known_after}
use Rattle.usuba_model.specs.Cells.{Cell}
use Rattle.usuba_model.specs.Operations.{calls_of}
use Rattle.usuba_model.specs.Rounds.{Operators, Environment, Callees, given, defined, rounds}
use Rattle.usuba_model.specs.Unrolled.{Instance, left_cells}
use Rattle.usuba_model.specs.Walk.{Signature, size_of}
use Rattle.usuba_model.proofs.CellLemmas.{all_among_defined, given_all}
use Rattle.usuba_model.proofs.Ordering.{IsIn, some_defined}
use Rattle.usuba_model.proofs.Sizing.{IsSized}
use Rattle.usuba_model.proofs.Valuing.{AreKnown, AreTotal, AllDefined, HasValue, has_value}

-- an instance is well sized: its right side is, calls what is known, and has as many elements as its left side
pub record IsSizedInstance (w : ℕ) (known : List (List ℕ)) (signatures : List Signature) (instance : Instance) : Type 0 where
  pub right : IsSized w signatures instance.right
  pub calls : AreKnown known (calls_of instance.right)
  pub sizes : length (left_cells instance) ≡ size_of signatures instance.right

-- each of some instances is
abbrev pub AreSized : ℕ → List (List ℕ) → List Signature → List Instance → Type 0
AreSized w known signatures [] = Unit {0}
AreSized w known signatures (i ∷ instances) = IsSizedInstance w known signatures i × AreSized w known signatures instances

module _ {V : Type 0} where
  -- more is defined
  defined_by : (e e' : Environment V) → ((c : Cell) (v : V) → e c ≡ Some v → (v' : V) × (e' c ≡ Some v')) → (cs : List Cell)
      → AllDefined e cs → AllDefined e' cs
  defined_by e e' more [] d = tt
  defined_by e e' more (c ∷ cs) d = (more c d.0.0 d.0.1, defined_by e e' more cs d.1)

  all_defined_append : (e : Environment V) (a b : List Cell) → AllDefined e a → AllDefined e b → AllDefined e (a ++ b)
  all_defined_append e [] b d d' = d'
  all_defined_append e (c ∷ a) b d d' = (d.0, all_defined_append e a b d.1 d')

  module _ (w : ℕ) (known : List (List ℕ)) (signatures : List Signature) (operators : Operators V) (callees : Callees V)
      (total : AreTotal known signatures callees) where
    -- a ready instance defines its left cells in the next round
    ready_defines : (instances : List Instance) (n : ℕ) (e0 : Environment V) (i : Instance) → IsIn i instances
        → IsSizedInstance w known signatures i → AllDefined (rounds operators callees instances n e0) (cells_read i.right)
        → AllDefined (rounds operators callees instances (suc n) e0) (left_cells i)
    ready_defines instances n e0 i m sized d =
        defined_by (given (left_cells i) value.0) (rounds operators callees instances (suc n) e0)
        (λ c v is. or_defined (now c) c (some_defined operators callees now instances i m value.0 value.1 c v is))
        (left_cells i) (given_all (left_cells i) value.0 (value.2 ∙ sym sized.sizes))
      where
        now : Environment V
        now = rounds operators callees instances n e0

        value : HasValue w known signatures operators callees total now i.right
        value = has_value w known signatures operators callees total now i.right sized.right sized.calls d

        or_defined : (o : Option V) (c : Cell) → ((z : V) × (defined operators callees now instances c ≡ Some z))
            → (z : V) × (option_or o (defined operators callees now instances c) ≡ Some z)
        or_defined (Some z) c there = (z, refl)
        or_defined None c there = there

    -- what the ready ones of some instances assign is defined after the next round
    made_defined : (instances : List Instance) (n : ℕ) (e0 : Environment V) (before : List Cell)
        → AllDefined (rounds operators callees instances n e0) before → (some : List Instance)
        → ((i : Instance) → IsIn i some → IsIn i instances) → AreSized w known signatures some
        → AllDefined (rounds operators callees instances (suc n) e0) (made_ready before some)
    made_defined instances n e0 before d [] m sized = tt
    made_defined instances n e0 before d (i ∷ some) m sized =
        at_first (is_ready before i) refl (made_defined instances n e0 before d some (λ j h. m j (inr h)) sized.1)
      where
        later : Environment V
        later = rounds operators callees instances (suc n) e0

        at_first : (b : Bool) → is_ready before i ≡ b → AllDefined later (made_ready before some)
            → AllDefined later (if b then left_cells i ++ made_ready before some else made_ready before some)
        at_first true ready rest =
            all_defined_append later (left_cells i) (made_ready before some)
            (ready_defines instances n e0 i (m i (inl refl)) sized.0
            (all_among_defined (rounds operators callees instances n e0) before d (cells_read i.right) ready))
            rest
        at_first false ready rest = rest

    -- known cells are defined after as many rounds
    pub known_defined : (instances : List Instance) → AreSized w known signatures instances → (inputs : List Cell) (e0 : Environment V)
        → AllDefined e0 inputs → (n : ℕ) → AllDefined (rounds operators callees instances n e0) (known_after instances n inputs)
    known_defined instances sized inputs e0 d zero = d
    known_defined instances sized inputs e0 d (suc n) =
        let before = known_after instances n inputs in
        let now : Environment V = rounds operators callees instances n e0 in
        let d' = known_defined instances sized inputs e0 d n in
        all_defined_append (rounds operators callees instances (suc n) e0) (made_ready before instances) before
        (made_defined instances n e0 before d' instances (λ i h. h) sized)
        (defined_by now (rounds operators callees instances (suc n) e0)
        (λ c v is. (v, ap (λ o. option_or o (defined operators callees now instances c)) is)) before d')

    -- an instance that is ready after so many rounds defines its left cells in the next one; so after one round more than there are
    -- instances each cell of an instance that becomes ready is defined
    pub ready_assigned : (instances : List Instance) → AreSized w known signatures instances → (inputs : List Cell) (e0 : Environment V)
        → AllDefined e0 inputs → (n : ℕ) → (some : List Instance) → ((i : Instance) → IsIn i some → IsIn i instances)
        → AreSized w known signatures some
        → ((i : Instance) → IsIn i some → is_ready (known_after instances n inputs) i ≡ true)
        → (i : Instance) → IsIn i some → AllDefined (rounds operators callees instances (suc n) e0) (left_cells i)
    ready_assigned instances all inputs e0 d n [] m sized ready i h = absurd h
    ready_assigned instances all inputs e0 d n (j ∷ some) m sized ready i (inl same) =
        subst (λ k. AllDefined (rounds operators callees instances (suc n) e0) (left_cells k)) same
        (ready_defines instances n e0 j (m j (inl refl)) sized.0
        (all_among_defined (rounds operators callees instances n e0) (known_after instances n inputs)
        (known_defined instances all inputs e0 d n) (cells_read j.right) (ready j (inl refl))))
    ready_assigned instances all inputs e0 d n (j ∷ some) m sized ready i (inr h) =
        ready_assigned instances all inputs e0 d n some (λ k g. m k (inr g)) sized.1 (λ k g. ready k (inr g)) i h
