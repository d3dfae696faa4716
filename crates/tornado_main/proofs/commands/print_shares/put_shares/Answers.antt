use Rattle.tor_edge.proofs.Writing.{Wrote-next_stops}
use Rattle.tornado_main.specs.commands.Run.{share_text}
use Rattle.tornado_main.proofs.commands.print_shares.put_shares.Goals as goal

pub returns-in_err-put_share : goal.returns-in_err-put_share
returns-in_err-put_share g c =
    Wrote-next_stops share_text _ _ _ c.loop-share-test.true c.loop-share.invariant c.in_err-put_share.ensures c.from_residual.ensures.0
