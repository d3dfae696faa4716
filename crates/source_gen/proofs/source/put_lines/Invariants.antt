use Rattle.std.proofs.Common.{◌≡◌, ◌*◌, Ok, flat_map}
use Rattle.std.specs.List.{range_with_len}
use Rattle.source_gen.specs.Source.{generated_line}
use Rattle.tor_edge.specs.Written.{Wrote}
use Rattle.word_draws.specs.Draws.{start, after_draws}
use Rattle.source_gen.proofs.source.put_lines.Given as goal

abbrev pub invariant-loop-line : goal.invariant-loop-line
invariant-loop-line g l =
    record {
      drawn : l.draws ≡ after_draws (start l.seed) (3 * l.line);
      wrote : Wrote {T = Unit {0}} g.S.Sink.faults g.S.Sink.written l.fn.sink l.sink
          (flat_map (generated_line l.seed) (range_with_len 0 l.line)) (Ok tt);
    }
