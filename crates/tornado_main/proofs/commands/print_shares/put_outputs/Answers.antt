use Rattle.std.proofs.Common.{ℕ, ◌+◌, ◌-◌, List, ◌++◌, take, drop, flat_map, ap, ◌∙◌}
use Rattle.std.specs.List.{range_with_len}
use Rattle.source_gen.proofs.Lines.{texts_around, texts_more}
use Rattle.tor_edge.proofs.Writing.{Wrote-nothing, Wrote-ok, Wrote-then, Wrote-stops, Wrote-is}
use Rattle.tornado_main.specs.commands.Run.{line_text}
use Rattle.tornado_main.proofs.RunTextLemmas.{all_left, first_line, left_after}
use Rattle.tornado_main.proofs.commands.print_shares.put_outputs.Goals as goal

pub loop-k-init : goal.loop-k-init
loop-k-init g c = record { left = all_left c.args.shares c.args.words.now; wrote = Wrote-nothing c.args.sink.now tt }

pub returns-in_err-put_output : goal.returns-in_err-put_output
returns-in_err-put_output g c =
    let k = c.loop-k.k in
    let f = line_text c.args.shares c.args.words.now in
    let rest = flat_map f (range_with_len (k + 1) (c.args.outputs - (k + 1))) in
    Wrote-is
    (ap (λ (t : List ℕ). flat_map f (range_with_len 0 k) ++ (t ++ rest))
    (first_line c.args.shares k c.from.result c.args.words.now c.loop-k.rest.now c.split_at.result.0.now c.loop-k.invariant.left
    (c.split_at.ensures.front ∙ ap (λ (m : ℕ). take m c.loop-k.rest.now) c.min.ensures) c.from.ensures)
    ∙ texts_around f k c.args.outputs c.loop-k-test.true)
    (Wrote-then c.loop-k.invariant.wrote (Wrote-stops rest c.in_err-put_output.ensures c.from_residual.ensures.0))

pub loop-k-preserved : goal.loop-k-preserved
loop-k-preserved g c =
    let k = c.loop-k.k in
    let f = line_text c.args.shares c.args.words.now in
    record {
      left = left_after c.args.shares k c.args.words.now c.loop-k.rest.now c.split_at.result.1.now c.loop-k.invariant.left
          (c.split_at.ensures.back ∙ ap (λ (m : ℕ). drop m c.loop-k.rest.now) c.min.ensures);
      wrote = Wrote-is
          (ap (λ (t : List ℕ). flat_map f (range_with_len 0 k) ++ t)
          (first_line c.args.shares k c.from.result c.args.words.now c.loop-k.rest.now c.split_at.result.0.now c.loop-k.invariant.left
          (c.split_at.ensures.front ∙ ap (λ (m : ℕ). take m c.loop-k.rest.now) c.min.ensures) c.from.ensures)
          ∙ texts_more f k)
          (Wrote-ok _ tt (Wrote-then c.loop-k.invariant.wrote c.in_ok-put_output.ensures));
    }
