use Rattle.std.proofs.Common.{take}
use Rattle.tor_edge.specs.Gathered.{SentOrWaiting}
use Rattle.tor_edge.specs.Pieces.{text_of}
use Rattle.tor_edge.proofs.put.put_pieces.Given as goal

abbrev pub invariant-loop-piece : goal.invariant-loop-piece
invariant-loop-piece g l =
    SentOrWaiting g.S.Sink.faults g.S.Sink.written l.fn.sink l.sink (text_of (take l.piece-index l.pieces)) l.waiting.items
