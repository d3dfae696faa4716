-- What the definitions below a number make, and the room that they want.
use Rattle.std.proofs.Common.{◌≡◌, ◌<◌, ℕ, zero, suc, Bool, true, false, ◌==◌, List, Option, Some, None, refl, sym, ap, ◌∙◌, arith}
use Rattle.std.specs.Prelude.{IsSome, slice_get, if◌then◌else◌}
use Rattle.std.proofs.lemmas.Bool.{eqb-true, eqb-false}
use Rattle.usuba_trees.specs.declared.Def.{Def}
use Rattle.usuba_model.specs.Rounds.{Operators}
use Rattle.usuba_plan.specs.Made.{made_by, made_of, made_below, plan_outcome}
use Rattle.usuba_plan.specs.Room.{room_of, room_below, plan_room}
use Rattle.usuba_plan.specs.declared.plans.Plan.{Plan}
use Rattle.usuba_plan.proofs.Picking.{false_true}

module _ (defs : List Def) (plans : List Plan) where
  pub room_at : (n callee : ℕ) → callee < n → room_below defs plans n callee ≡ plan_room defs plans callee
  room_at zero callee less = absurd (omega (arith, less))
  room_at (suc n) callee less = of_test (callee == n) refl (room_at n callee)
    where
      of_test : (b : Bool) → (callee == n) ≡ b → (callee < n → room_below defs plans n callee ≡ plan_room defs plans callee)
          → (if b then room_of (room_below defs plans n) (slice_get plans n) (slice_get defs n) else room_below defs plans n callee) ≡ plan_room defs plans callee
      of_test true is later = ap (plan_room defs plans) (sym (eqb-true callee n is))
      of_test false is later = later (other is)
        where
          other : (callee == n) ≡ false → callee < n
          other e = let differs = eqb-false callee n e in omega (arith, less, differs)

  module _ {V : Type 0} (operators : Operators V) (elements : List V) where
    pub made_at : (n callee : ℕ) → callee < n → made_below operators defs plans n callee elements ≡ plan_outcome operators defs plans callee elements
    made_at zero callee less = absurd (omega (arith, less))
    made_at (suc n) callee less = of_test (callee == n) refl (made_at n callee)
      where
        of_test : (b : Bool) → (callee == n) ≡ b
            → (callee < n → made_below operators defs plans n callee elements ≡ plan_outcome operators defs plans callee elements)
            → (if b then made_of operators (made_below operators defs plans n) (slice_get plans n) (slice_get defs n) elements
            else made_below operators defs plans n callee elements)
            ≡ plan_outcome operators defs plans callee elements
        of_test true is later = ap (λ (m : ℕ). plan_outcome operators defs plans m elements) (sym (eqb-true callee n is))
        of_test false is later = later (other is)
          where
            other : (callee == n) ≡ false → callee < n
            other e = let differs = eqb-false callee n e in omega (arith, less, differs)

    -- only those below a number make something
    pub made_within : (n callee : ℕ) → IsSome (made_below operators defs plans n callee elements) → callee < n
    made_within zero callee there = false_true there
    made_within (suc n) callee there = of_test (callee == n) refl (made_within n callee) there
      where
        of_test : (b : Bool) → (callee == n) ≡ b → (IsSome (made_below operators defs plans n callee elements) → callee < n)
            → IsSome (if b then made_of operators (made_below operators defs plans n) (slice_get plans n) (slice_get defs n) elements
            else made_below operators defs plans n callee elements)
            → callee < suc n
        of_test true is later there = let same = eqb-true callee n is in omega (arith, same)
        of_test false is later there = let below = later there in omega (arith, below)

    -- what makes something has a plan and a definition
    pub made_there : (number : ℕ) → IsSome (plan_outcome operators defs plans number elements)
        → (p : Plan) × (d : Def) × (slice_get plans number ≡ Some p) × (slice_get defs number ≡ Some d)
        × (plan_outcome operators defs plans number elements ≡ made_by operators (made_below operators defs plans number) p d elements)
    made_there number there = of_both (slice_get plans number) (slice_get defs number) refl refl there
      where
        of_both : (o : Option Plan) (q : Option Def) → slice_get plans number ≡ o → slice_get defs number ≡ q
            → IsSome (made_of operators (made_below operators defs plans number) o q elements)
            → (p : Plan) × (d : Def) × (slice_get plans number ≡ Some p) × (slice_get defs number ≡ Some d)
            × (made_of operators (made_below operators defs plans number) (slice_get plans number) (slice_get defs number) elements
            ≡ made_by operators (made_below operators defs plans number) p d elements)
        of_both (Some p) (Some d) is is' there = (
          p,
          d,
          is,
          is',
          ap (λ (o : Option Plan). made_of operators (made_below operators defs plans number) o (slice_get defs number) elements) is
              ∙ ap (λ (q : Option Def). made_of operators (made_below operators defs plans number) (Some p) q elements) is',
        )
        of_both (Some p) None is is' there = false_true there
        of_both None q is is' there = false_true there
