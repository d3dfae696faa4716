use Rattle.std.proofs.Common.{◌≡◌, ◌*◌, ◌-◌, ◌^◌, ◌≤◌, min, drop}
use Rattle.usuba_model.specs.Shapes.{product}
use Rattle.usuba_cells.proofs.counting.product.Given as goal

abbrev pub invariant-loop-size : goal.invariant-loop-size
invariant-loop-size l =
    (min (l.product * product (drop l.size-index l.sizes)) (2 ^ 64 - 1) ≡ min (product l.sizes) (2 ^ 64 - 1)) × (l.product ≤ 2 ^ 64 - 1)
