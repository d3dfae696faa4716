use Rattle.tor_edge.proofs.Writing.{Wrote-is, Wrote-then, Wrote-stops}
use Rattle.tornado_main.proofs.MessageLemmas.{message_parts}
use Rattle.tornado_main.proofs.message.write_fault.Goals as goal

pub returns-in_err-put_text : goal.returns-in_err-put_text
returns-in_err-put_text g c = Wrote-is (message_parts c.args.name.now c.args.fault) (Wrote-stops _ c.in_err-put_text.ensures.wrote c.from_residual.ensures.0)

pub returns-in_err-put_text-2 : goal.returns-in_err-put_text-2
returns-in_err-put_text-2 g c =
    Wrote-is (message_parts c.args.name.now c.args.fault)
    (Wrote-then c.in_ok-put_text.ensures.wrote (Wrote-stops _ c.in_err-put_text-2.ensures.wrote c.from_residual-in_err-put_text-2.ensures.0))

pub returns-in_err-put_spot : goal.returns-in_err-put_spot
returns-in_err-put_spot g c =
    Wrote-is (message_parts c.args.name.now c.args.fault)
    (Wrote-then c.in_ok-put_text.ensures.wrote
    (Wrote-then c.in_ok-put_text-2.ensures.wrote (Wrote-stops _ c.in_err-put_spot.ensures c.from_residual-in_err-put_spot.ensures.0)))

pub returns : goal.returns
returns g c =
    Wrote-is (message_parts c.args.name.now c.args.fault)
    (Wrote-then c.in_ok-put_text.ensures.wrote (Wrote-then c.in_ok-put_text-2.ensures.wrote (Wrote-then c.in_ok-put_spot.ensures c.put_end.ensures)))
