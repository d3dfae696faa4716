use Rattle.tor_edge.proofs.Writing.{Wrote-is}
use Rattle.tor_edge.specs.Pieces.{piece_text}
use Rattle.c_text.proofs.Joining.{loop_start_is}
use Rattle.c_text.proofs.statement.put_loop_start.Goals as goal

pub returns : goal.returns
returns g c =
    Wrote-is
    (loop_start_is c.args.depth c.blanks.result.now c.args.counter.now (piece_text c.low_pieces.result.0)
    (piece_text c.low_pieces.result.1) c.args.low.now c.blanks.ensures c.low_pieces.ensures)
    c.put_pieces.ensures
