use Rattle.tor_edge.proofs.Writing.{Wrote-next_stops}
use Rattle.data_text.specs.Writing.{value_after}
use Rattle.data_text.proofs.write.put_more.Goals as goal

pub returns-in_err-put_after : goal.returns-in_err-put_after
returns-in_err-put_after g c =
    Wrote-next_stops value_after _ _ _ c.loop-value-test.true c.loop-value.invariant c.in_err-put_after.ensures c.from_residual.ensures.0
