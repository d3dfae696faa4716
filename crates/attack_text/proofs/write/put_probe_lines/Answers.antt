use Rattle.tor_edge.proofs.Writing.{Wrote-next_stops}
use Rattle.attack_text.specs.AttackText.{probe_words}
use Rattle.text_lines.specs.Words.{line_text}
use Rattle.attack_text.proofs.write.put_probe_lines.Goals as goal

pub returns-in_err-put_probe : goal.returns-in_err-put_probe
returns-in_err-put_probe g c =
    Wrote-next_stops (λ probe. line_text (probe_words probe)) _ _ _ c.loop-probe-test.true c.loop-probe.invariant c.in_err-put_probe.ensures c.from_residual.ensures.0
