use Rattle.std.proofs.Common.{◌≡◌, drop}
use Rattle.usuba_walk.specs.State.Progress.{with_cells}
use Rattle.usuba_walk.proofs.pushes.push_cells.Given as goal

abbrev pub invariant-loop-cell : goal.invariant-loop-cell
invariant-loop-cell l = with_cells l.fn.table l.cells ≡ with_cells l.table (drop l.cell-index l.cells)
