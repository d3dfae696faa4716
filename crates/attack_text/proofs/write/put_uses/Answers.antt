use Rattle.std.proofs.Common.{ap, ◌∙◌, flat_map}
use Rattle.std.proofs.lemmas.List.{take_all}
use Rattle.tor_edge.proofs.Writing.{Wrote-is, Wrote-next_stops}
use Rattle.attack_text.proofs.WriteLemmas.{use_text, uses_are}
use Rattle.attack_text.proofs.write.put_uses.Goals as goal

pub returns-in_err-put_use : goal.returns-in_err-put_use
returns-in_err-put_use g c =
    Wrote-is (uses_are c.args.uses.now)
    (Wrote-next_stops use_text c.args.uses.now c.loop-number.number-index 0 c.loop-number-test.true c.loop-number.invariant c.in_err-put_use.ensures c.from_residual.ensures.0)

pub returns : goal.returns
returns g c =
    Wrote-is (ap (flat_map use_text) (take_all c.loop-number.number-index c.args.uses.now c.loop-number-test.false) ∙ uses_are c.args.uses.now) c.loop-number.invariant
