-- What is known after one more definition, over its numbered instances.
use Rattle.std.specs.Prelude.{◌≡◌, ℕ, ◌+◌, ◌*◌, ◌^◌, List, [], ◌∷◌, ◌++◌, Option, Some, None}
use Rattle.usuba_trees.specs.declared.Def.{Def}
use Rattle.usuba_trees.specs.declared.Def.TheVariants as def
use Rattle.usuba_trees.specs.declared.Node.{Node}
use Rattle.usuba_model.specs.declared.fault.Fault.{Fault}
use Rattle.usuba_model.specs.declared.fault.FaultKind.TheVariants.{AssignedTwice, Unassigned, Cyclic}
use Rattle.usuba_model.specs.Faults.{either, first_of}
use Rattle.usuba_model.specs.Shapes.{all_elements}
use Rattle.usuba_model.specs.Walk.{signature, definition_steps, walk_fault, count_of}
use Rattle.usuba_code.specs.Code.{Coded}
use Rattle.ready_order.specs.Numbered.{twice_numbered, cyclic_numbered}
use Rattle.ready_order.specs.NumberedLaws.{unassigned_numbered}
use Rattle.usuba_walk.specs.Walking.{coded_definition}
use Rattle.usuba_types.specs.declared.faults.FirstFaults.{FirstFaults}
use Rattle.usuba_types.specs.declared.passing.Pass.{Pass}
use Rattle.usuba_types.specs.declared.sizes.CappedSize.{CappedSize}
use Rattle.usuba_types.specs.Sizes.{capped, node_size}

-- the first faults after a node of these instances
abbrev pub kept_numbered : FirstFaults → Node → List Coded → FirstFaults
kept_numbered kept node instances = record {
  twice = either kept.twice (first_of AssignedTwice (twice_numbered (all_elements node.inputs) instances));
  unassigned = either kept.unassigned (first_of Unassigned (unassigned_numbered node instances));
  cyclic = either kept.cyclic (first_of Cyclic (cyclic_numbered (all_elements node.inputs) instances));
}

-- the same after a definition
abbrev pub kept_after_numbered : FirstFaults → Def → List Coded → FirstFaults
kept_after_numbered kept (def.Node node) instances = kept_numbered kept node instances
kept_after_numbered kept (def.Table grid) instances = kept
kept_after_numbered kept (def.Perm grid) instances = kept

-- the size of a definition of so many operations of its own and these instances
abbrev pub sized_numbered : List CappedSize → Def → ℕ → List Coded → CappedSize
sized_numbered known (def.Node node) count instances = node_size known count instances
sized_numbered known (def.Table grid) count instances =
    capped (record { operations = 2 ^ all_elements grid.inputs * (all_elements grid.outputs + 1); chain = 0 })
sized_numbered known (def.Perm grid) count instances = capped (record { operations = all_elements grid.outputs; chain = 0 })

-- a definition was walked without a fault, and all is kept of it
pub record Passes (w : ℕ) (before after : Pass) (d : Def) : Type 0 where
  pub clean : walk_fault 0 (definition_steps w before.definitions d) ≡ None
  pub definitions : after.definitions ≡ signature d ∷ before.definitions
  pub sizes : after.sizes.items ≡ before.sizes.items
      ++ sized_numbered before.sizes.items d (count_of (definition_steps w before.definitions d)) (coded_definition before.definitions d) ∷ []
  pub kept : after.kept ≡ kept_after_numbered before.kept d (coded_definition before.definitions d)

-- a fault of the walk through a definition, or none
abbrev pub IsStep : ℕ → Pass → Pass → Def → Option Fault → Type 0
IsStep w before after d (Some fault) = walk_fault 0 (definition_steps w before.definitions d) ≡ Some fault
IsStep w before after d None = Passes w before after d
