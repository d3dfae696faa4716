use Rattle.std.proofs.Common.{rules, ◌≡◌, take, ap}
use Rattle.std.proofs.lemmas.List.{take_all}
use Rattle.tor_edge.specs.Pieces.{piece_text, text_of}
use Rattle.tor_edge.proofs.Writing.{Wrote-is}
use Rattle.tor_edge.proofs.Gathering.{SentOrWaiting-written, Gathered-next, Gathered-next_stops}
use Rattle.tor_edge.proofs.put.put_pieces.Goals as goal

pub loop-piece-preserved : goal.loop-piece-preserved
loop-piece-preserved g c =
    Gathered-next c.in_ok-gather_piece.field-0 piece_text _ _ _ c.loop-piece-test.true c.loop-piece.invariant
    c.in_ok-gather_piece.ensures

pub returns-in_err-gather_piece : goal.returns-in_err-gather_piece
returns-in_err-gather_piece g c =
    Gathered-next_stops piece_text _ _ _ c.loop-piece-test.true c.loop-piece.invariant
    c.in_err-gather_piece.ensures c.from_residual.ensures.0

pub returns : goal.returns
returns g c =
    let all : take c.loop-piece.piece-index c.args.pieces.now ≡ c.args.pieces.now =
    take_all c.loop-piece.piece-index c.args.pieces.now c.loop-piece-test.false in
    let waited : c.as_slice.result.now ≡ c.loop-piece.waiting.items = search rules in
    Wrote-is {q = c.put_bytes.result} (ap text_of all)
    (SentOrWaiting-written c.loop-piece.invariant (Wrote-is {q = c.put_bytes.result} waited c.put_bytes.ensures.wrote))
