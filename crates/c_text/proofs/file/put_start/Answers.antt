use Rattle.tor_edge.proofs.Writing.{Wrote-then, Wrote-stops}
use Rattle.c_text.specs.CText.{slots_text}
use Rattle.c_text.proofs.file.put_start.Goals as goal

pub returns-in_err-put_masked : goal.returns-in_err-put_masked
returns-in_err-put_masked g c =
    Wrote-stops (slots_text c.args.file.now.slots) c.in_err-put_masked.ensures c.from_residual.ensures.0

pub returns : goal.returns
returns g c = Wrote-then c.in_ok-put_masked.ensures c.put_slots.ensures
