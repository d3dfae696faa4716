use Rattle.std.proofs.Common.{Ok, take, flat_map}
use Rattle.tor_edge.specs.Written.{Wrote}
use Rattle.tornado_main.specs.commands.Run.{share_text}
use Rattle.tornado_main.proofs.commands.print_shares.put_shares.Given as goal

abbrev pub invariant-loop-share : goal.invariant-loop-share
invariant-loop-share g l =
    Wrote {T = Unit {0}} g.S.Sink.faults g.S.Sink.written l.fn.sink l.sink (flat_map share_text (take l.share-index l.shares)) (Ok tt)
