use Rattle.std.proofs.Common.{◌++◌, codes, decimal, map, refl}
use Rattle.tor_edge.proofs.Writing.{Wrote-is, Wrote-then, Wrote-stops}
use Rattle.attack_text.proofs.WriteLemmas.{step_is}
use Rattle.text_lines.specs.Words.{spaced}
use Rattle.attack_text.proofs.write.put_step.Goals as goal

pub returns-in_err-put_step_head : goal.returns-in_err-put_step_head
returns-in_err-put_step_head g c =
    Wrote-is (step_is c.args.index c.args.step.now c.args.step.now.uses refl)
    (Wrote-stops (spaced (map decimal c.args.step.now.uses) ++ codes "\n") c.in_err-put_step_head.ensures c.from_residual.ensures.0)

pub returns-in_err-put_uses : goal.returns-in_err-put_uses
returns-in_err-put_uses g c =
    Wrote-is (step_is c.args.index c.args.step.now c.as_slice.result.now c.as_slice.ensures)
    (Wrote-then c.in_ok-put_step_head.ensures (Wrote-stops (codes "\n") c.in_err-put_uses.ensures c.from_residual-in_err-put_uses.ensures.0))

pub returns : goal.returns
returns g c =
    Wrote-is (step_is c.args.index c.args.step.now c.as_slice.result.now c.as_slice.ensures)
    (Wrote-then c.in_ok-put_step_head.ensures (Wrote-then c.in_ok-put_uses.ensures c.put_text.ensures.wrote))
