use Rattle.tor_edge.proofs.Writing.{Wrote-then, Wrote-stops}
use Rattle.attack_text.specs.AttackText.{probes_text}
use Rattle.attack_text.proofs.write.put_probes.Goals as goal

pub returns-in_err-put_probes_count : goal.returns-in_err-put_probes_count
returns-in_err-put_probes_count g c = Wrote-stops (probes_text c.args.probes.now) c.in_err-put_probes_count.ensures c.from_residual.ensures.0

pub returns : goal.returns
returns g c = Wrote-then c.in_ok-put_probes_count.ensures c.put_probe_lines.ensures
