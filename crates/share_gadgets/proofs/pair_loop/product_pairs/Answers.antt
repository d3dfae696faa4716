use Rattle.std.proofs.Common.{◌≡◌, ℕ, ◌+◌, ◌-◌, length, map, ap, ◌∙◌, arith}
use Rattle.std.specs.Prelude.{slice_index}
use Rattle.share_gadgets.specs.Private.PairLoop.{product_before}
use Rattle.share_gadgets.proofs.PairNumbers.{start_fits}
use Rattle.share_gadgets.proofs.PairSteps.{next_start}
use Rattle.share_gadgets.proofs.pair_loop.product_pairs.Goals as goal

pub overflow_add-start : goal.overflow_add-start
overflow_add-start g c =
    let d = length c.args.a.now in
    let next = next_start d c.loop-i.i c.loop-i.start c.loop-i-test.true c.loop-i.invariant.place in
    let fits = start_fits d (c.loop-i.i + 1) (c.loop-i.start + (d - c.loop-i.i - 1)) (omega arith) c.requires.few next in
    omega (arith, fits)

pub loop-i-preserved : goal.loop-i-preserved
loop-i-preserved g c =
    let d = length c.args.a.now in
    let e : c.loop-i.i + 2 ≡ c.loop-i.i + 1 + 1 = omega arith in
    record {
      many = c.product_row.ensures.len ∙ c.loop-i.invariant.many;
      place = next_start d c.loop-i.i c.loop-i.start c.loop-i-test.true c.loop-i.invariant.place;
      before = c.product_row.ensures.after
          ∙ ap (λ (n : ℕ). product_before d (map g.R.Register.word c.args.a.now) (map g.R.Register.word c.args.b.now) (slice_index (map g.R.Register.word c.args.words.now)) (c.loop-i.i + 1) n) e;
    }

pub returns-clause-after : goal.returns-clause-after
returns-clause-after g c =
    let d = length c.args.a.now in
    let end : c.loop-i.i ≡ d = omega arith in
    c.loop-i.invariant.before
    ∙ ap (λ (n : ℕ). product_before d (map g.R.Register.word c.args.a.now) (map g.R.Register.word c.args.b.now) (slice_index (map g.R.Register.word c.args.words.now)) n (n + 1)) end
