use Rattle.std.proofs.Common.{drop}
use Rattle.usuba_cells.specs.State.Brackets.{brackets}
use Rattle.usuba_cells.proofs.BracketLemmas.{SoFar}
use Rattle.usuba_cells.proofs.brackets.read_brackets.Given as goal

abbrev pub invariant-loop-level : goal.invariant-loop-level
invariant-loop-level l =
    SoFar l.sizes (brackets l.counters l.picks) (brackets l.counters (drop l.level l.picks)) l.level
    l.so_far.divided_by_zero l.so_far.too_big l.so_far.outside
