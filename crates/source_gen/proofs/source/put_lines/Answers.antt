use Rattle.std.proofs.Common.{◌+◌, ◌-◌, ℕ, List, ◌++◌, flat_map, sym, ap, ◌∙◌}
use Rattle.std.specs.List.{range_with_len}
use Rattle.source_gen.specs.Source.{generated_line}
use Rattle.tor_edge.proofs.Writing.{Wrote-nothing, Wrote-ok, Wrote-then, Wrote-stops, Wrote-is}
use Rattle.word_draws.specs.Draws.{start, next}
use Rattle.source_gen.proofs.Lines.{texts_around, texts_more, after_none, after_line, line_drawn}
use Rattle.source_gen.proofs.source.put_lines.Goals as goal

pub loop-line-init : goal.loop-line-init
loop-line-init g c = record {
  drawn = c.new-draws.ensures ∙ sym (after_none (start c.args.seed));
  wrote = Wrote-nothing c.args.sink.now tt;
}

pub returns-in_err-put_line : goal.returns-in_err-put_line
returns-in_err-put_line g c =
    let k = c.loop-line.line in
    let f = generated_line c.args.seed in
    let rest = flat_map f (range_with_len (k + 1) (c.args.size - (k + 1))) in
    let line = line_drawn c.args.seed k c.loop-line.draws c.draw_operands-operands.result
    c.draw_operands-operands.ensures.picked c.loop-line.invariant.drawn in
    Wrote-is
    (ap (λ (t : List ℕ). flat_map f (range_with_len 0 k) ++ (t ++ rest)) line
    ∙ texts_around f k c.args.size c.loop-line-test.true)
    (Wrote-then c.loop-line.invariant.wrote (Wrote-stops rest c.in_err-put_line.ensures c.from_residual.ensures.0))

pub loop-line-preserved : goal.loop-line-preserved
loop-line-preserved g c =
    let k = c.loop-line.line in
    let f = generated_line c.args.seed in
    let line = line_drawn c.args.seed k c.loop-line.draws c.draw_operands-operands.result
    c.draw_operands-operands.ensures.picked c.loop-line.invariant.drawn in
    record {
      drawn = c.draw_operands-operands.ensures.state
          ∙ ap (λ (s : ℕ). next (next (next s))) c.loop-line.invariant.drawn ∙ after_line (start c.args.seed) k;
      wrote = Wrote-is (ap (λ (t : List ℕ). flat_map f (range_with_len 0 k) ++ t) line ∙ texts_more f k)
          (Wrote-ok _ tt (Wrote-then c.loop-line.invariant.wrote c.in_ok-put_line.ensures));
    }
