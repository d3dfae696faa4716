use Rattle.std.proofs.Common.{◌≡◌, ◌*◌, Ok, drop, flat_map}
use Rattle.std.specs.List.{range_with_len}
use Rattle.tor_edge.specs.Written.{Wrote}
use Rattle.tornado_main.specs.commands.Run.{line_text}
use Rattle.tornado_main.proofs.commands.print_shares.put_outputs.Given as goal

abbrev pub invariant-loop-k : goal.invariant-loop-k
invariant-loop-k g l = record {
  left : l.rest ≡ drop (l.k * l.shares) l.words;
  wrote : Wrote {T = Unit {0}} g.S.Sink.faults g.S.Sink.written l.fn.sink l.sink
      (flat_map (line_text l.shares l.words) (range_with_len 0 l.k)) (Ok tt);
}
