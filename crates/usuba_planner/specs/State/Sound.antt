-- What is known of each definition of a judged file, and what planning one of them comes to.
use Rattle.std.specs.Prelude.{◌≡◌, ℕ, ◌<◌, ◌≤◌, Bool, true, List, [], ◌∷◌, length, map, take, reverse, Some, None, slice_get}
use Rattle.usuba_trees.specs.declared.Def.{Def}
use Rattle.usuba_model.specs.declared.fault.FaultKind.TheVariants.{Cyclic}
use Rattle.usuba_model.specs.Faults.{first_of}
use Rattle.usuba_model.specs.Names.{declared_in}
use Rattle.usuba_model.specs.Shapes.{all_elements}
use Rattle.usuba_model.specs.Walk.{Signature, signature, most_operations, definition_steps, walk_fault}
use Rattle.ready_order.specs.Numbered.{is_one_of, cyclic_numbered}
use Rattle.ready_order.specs.State.Marks.{is_marked, all_marked}
use Rattle.usuba_walk.specs.Signatures.{place_of}
use Rattle.usuba_walk.specs.Walking.{coded_definition}
use Rattle.usuba_plan.specs.Plans.{IsPlanOf, is_planned}
use Rattle.usuba_plan.specs.declared.plans.Plan.{Plan}
use Rattle.usuba_planner.specs.State.Calls.{all_called, called_by}

-- a definition after these earlier ones is walked without a fault, each of its instances becomes ready, it calls only earlier
-- definitions, and its name is new
pub record IsSound (w : ℕ) (signatures : List Signature) (d : Def) : Type 0 where
  pub walks : walk_fault 0 (definition_steps w signatures d) ≡ None
  pub ready : first_of Cyclic (cyclic_numbered (signature d).inputs (coded_definition signatures d)) ≡ None
  pub earlier : (callee : ℕ) → is_one_of (all_called (coded_definition signatures d)) callee ≡ true → callee < length signatures
  pub new : place_of signatures (signature d).name ≡ None

-- what calls see of the first so many definitions, the latest first
abbrev pub signatures_before : List Def → ℕ → List Signature
signatures_before defs number = map signature (reverse (take number defs))

-- each definition is sound after those before it
abbrev pub AllSound : ℕ → List Def → Type 0
AllSound w defs = (number : ℕ) (d : Def) → slice_get defs number ≡ Some d → IsSound w (signatures_before defs number) d

-- the definition after these earlier ones is planned where its number is marked, and then what it calls is marked too
pub record IsStep (signatures : List Signature) (d : Def) (before after : List Bool) (plan : Plan) : Type 0 where
  pub of : IsPlanOf signatures plan d
  pub planned : is_planned (Some plan) ≡ is_marked before (length signatures)
  pub marks : after ≡ all_marked before (called_by plan)

-- each definition has no more elements than a source may have operations
abbrev pub AllFew : List Def → Type 0
AllFew [] = Unit {0}
AllFew (d ∷ defs) = (all_elements (declared_in d) ≤ most_operations) × AllFew defs
