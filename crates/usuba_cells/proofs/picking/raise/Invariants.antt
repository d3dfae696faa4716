use Rattle.std.proofs.Common.{◌≡◌}
use Rattle.usuba_cells.proofs.Numbered.{raised_to}
use Rattle.usuba_cells.proofs.picking.raise.Given as goal

abbrev pub invariant-loop-at : goal.invariant-loop-at
invariant-loop-at l = l.numbers ≡ raised_to l.by l.fn.numbers l.start l.at
