use Rattle.tightprove.proofs.Passes.{PiecesSoFar}
use Rattle.gf2_span.specs.Basis.{row_sets}
use Rattle.tightprove.proofs.pieces.pieces.Given as goal

abbrev pub invariant-loop-i : goal.invariant-loop-i
invariant-loop-i l = PiecesSoFar l.classes.list.items l.candidates (row_sets l.span) l.i-items l.i-index l.pieces.items
