use Rattle.tor_edge.proofs.Writing.{Wrote-then, Wrote-stops}
use Rattle.attack_text.specs.AttackText.{steps_text}
use Rattle.attack_text.proofs.write.put_steps.Goals as goal

pub returns-in_err-put_steps_count : goal.returns-in_err-put_steps_count
returns-in_err-put_steps_count g c = Wrote-stops (steps_text 0 c.args.steps.now) c.in_err-put_steps_count.ensures c.from_residual.ensures.0

pub returns : goal.returns
returns g c = Wrote-then c.in_ok-put_steps_count.ensures c.put_step_lines.ensures
