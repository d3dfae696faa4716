use Rattle.std.proofs.Common.{◌≡◌, ◌≤◌, ◌*◌, ◌^◌, ◌-◌, min, drop}
use Rattle.usuba_model.specs.Shapes.{product, elements}
use Rattle.usuba_phases.proofs.grids.elements.Given as goal

abbrev pub invariant-loop-size : goal.invariant-loop-size
invariant-loop-size l = record {
  fits : l.count ≤ 2 ^ 64 - 1;
  so_far : min (l.count * product (drop l.size-index l.size-items)) (2 ^ 64 - 1)
      ≡ min (elements l.declaration) (2 ^ 64 - 1);
}
