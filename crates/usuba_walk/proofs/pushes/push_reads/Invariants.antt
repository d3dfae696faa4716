use Rattle.std.proofs.Common.{◌≡◌, drop}
use Rattle.usuba_walk.specs.State.Progress.{with_code, cell_code}
use Rattle.usuba_walk.proofs.pushes.push_reads.Given as goal

abbrev pub invariant-loop-cell : goal.invariant-loop-cell
invariant-loop-cell l = with_code l.fn.table (cell_code l.cells) ≡ with_code l.table (cell_code (drop l.cell-index l.cells))
