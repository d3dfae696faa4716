-- The core of what a plan makes of the inputs, and what making it asks for.
use Rattle.std.specs.Prelude.{◌≡◌, ℕ, ◌+◌, ◌-◌, ◌<◌, ◌≤◌, List, length, map, Option, Some, option_map, IsSome}
use Rattle.std.specs.List.{range_with_len}
use Rattle.usuba_trees.specs.declared.Def.{Def}
use Rattle.usuba0.specs.declared.limit.TheConstants.{MAX_TERMS}
use Rattle.usuba0.specs.Builder.{Held}
use Rattle.usuba0.specs.Circuit.{Circuit}
use Rattle.usuba0.specs.CoreOfTerms.{core_of_terms}
use Rattle.usuba0.specs.Term.{Term, Input}
use Rattle.usuba_plan.specs.Fit.{inputs_at, AllFit}
use Rattle.usuba_plan.specs.Made.{plan_outcome}
use Rattle.usuba_plan.specs.Room.{plan_room}
use Rattle.usuba_plan.specs.declared.plans.Plan.{Plan}
use Rattle.source_terms.specs.SourceTerms.{term_operators}

-- the terms of n inputs, in order
abbrev pub terms_of_inputs : ℕ → List Term
terms_of_inputs n = map Input (range_with_len 0 n)

-- the terms that the definition at a number makes of its n inputs by its plan, at width w
abbrev pub plan_terms : ℕ → List Def → List Plan → ℕ → ℕ → Option (List Term)
plan_terms w defs plans number n = plan_outcome (term_operators w) defs plans number (terms_of_inputs n)

-- the core of these terms
abbrev pub plan_core : ℕ → List Def → List Plan → ℕ → ℕ → Option Circuit
plan_core w defs plans number n = option_map (core_of_terms w n) (plan_terms w defs plans number n)

-- a builder of n inputs can make the terms of the definition at a number: the plans fit, the definition has n inputs,
-- there is room for the terms, and by its plan it makes some
pub record CanMake (held : Held) (defs : List Def) (plans : List Plan) (number n : ℕ) : Type 0 where
  pub inputs : n ≡ held.inputs
  pub fits : AllFit held.width defs plans
  pub count : n ≡ inputs_at defs number
  pub room : plan_room defs plans number ≤ MAX_TERMS - length held.terms
  pub makes : IsSome (plan_terms held.width defs plans number n)

-- the core of the definition at a number can be made, at width w and of its n inputs: the plans fit, there is room for
-- the inputs and all terms, and by its plan it makes output terms, of which there are some and not too many
pub record CanMakeCore (w : ℕ) (defs : List Def) (plans : List Plan) (number n : ℕ) : Type 0 where
  pub fits : AllFit w defs plans
  pub count : n ≡ inputs_at defs number
  pub room : n + plan_room defs plans number < MAX_TERMS
  pub outputs : List Term
  pub makes : plan_terms w defs plans number n ≡ Some outputs
  pub some : 0 < length outputs
  pub few : length outputs ≤ MAX_TERMS
