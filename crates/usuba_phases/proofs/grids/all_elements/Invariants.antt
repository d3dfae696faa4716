use Rattle.std.proofs.Common.{◌≡◌, ◌≤◌, ◌+◌, ◌^◌, ◌-◌, min, drop}
use Rattle.usuba_model.specs.Shapes.{all_elements}
use Rattle.usuba_phases.proofs.grids.all_elements.Given as goal

abbrev pub invariant-loop-declaration : goal.invariant-loop-declaration
invariant-loop-declaration l = record {
  fits : l.count ≤ 2 ^ 64 - 1;
  so_far : min (l.count + all_elements (drop l.declaration-index l.declarations)) (2 ^ 64 - 1)
      ≡ min (all_elements l.declarations) (2 ^ 64 - 1);
}
