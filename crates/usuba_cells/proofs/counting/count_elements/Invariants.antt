use Rattle.std.proofs.Common.{◌≡◌, ◌+◌, ◌-◌, ◌^◌, min, drop}
use Rattle.usuba_model.specs.Shapes.{all_elements}
use Rattle.usuba_cells.proofs.counting.count_elements.Given as goal

abbrev pub invariant-loop-declaration : goal.invariant-loop-declaration
invariant-loop-declaration l =
    min (l.total + all_elements (drop l.declaration-index l.declarations)) (2 ^ 64 - 1) ≡ min (all_elements l.declarations) (2 ^ 64 - 1)
