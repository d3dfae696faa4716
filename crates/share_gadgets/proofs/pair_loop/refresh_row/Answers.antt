use Rattle.std.proofs.Common.{◌≡◌, ℕ, ◌+◌, ◌-◌, length, get_or, map, ap, ◌∙◌, arith}
use Rattle.std.specs.Prelude.{slice_index}
use Rattle.share_gadgets.specs.Gadgets.{pair}
use Rattle.share_gadgets.specs.Private.PairLoop.{refreshed_before}
use Rattle.share_gadgets.proofs.PairNumbers.{place_below, pairs_fit}
use Rattle.share_gadgets.proofs.PairSteps.{refreshed_step, refreshed_row_end}
use Rattle.share_gadgets.proofs.ShareLemmas.{read_word}
use Rattle.share_gadgets.proofs.pair_loop.refresh_row.Goals as goal

pub overflow_add-drawn : goal.overflow_add-drawn
overflow_add-drawn g c =
    let below = place_below (length c.args.a.now) c.args.i c.loop-j.j c.args.start (omega arith) c.loop-j-test.true c.requires.start in
    let few = pairs_fit (length c.args.a.now) c.requires.few in
    omega (arith, below, few)

pub offset_bounds-words-start : goal.offset_bounds-words-start
offset_bounds-words-start g c =
    let below = place_below (length c.args.a.now) c.args.i c.loop-j.j c.args.start (omega arith) c.loop-j-test.true c.requires.start in
    omega (arith, below, c.requires.words)

pub bounds-words-start : goal.bounds-words-start
bounds-words-start g c =
    let below = place_below (length c.args.a.now) c.args.i c.loop-j.j c.args.start (omega arith) c.loop-j-test.true c.requires.start in
    omega (arith, below, c.requires.words)

pub loop-j-preserved : goal.loop-j-preserved
loop-j-preserved g c =
    let d = length c.args.a.now in
    let i = c.args.i in
    let j = c.loop-j.j in
    let below = place_below d i j c.args.start (omega arith) c.loop-j-test.true c.requires.start in
    let place : c.args.start + (j - i - 1) ≡ pair d i j = ap (λ (n : ℕ). n + (j - i - 1)) c.requires.start in
    record {
      many = c.take_term-in-loop-j.ensures.len ∙ c.take_term.ensures.len ∙ c.loop-j.invariant.many;
      before = refreshed_step d (map g.R.Register.word c.args.a.now) (slice_index (map g.R.Register.word c.args.words.now)) i j
          (map g.R.Register.word c.loop-j.shares.items) (map g.R.Register.word c.take_term.new.shares.items) (map g.R.Register.word c.take_term-in-loop-j.new.shares.items)
          (g.R.Register.word c.index-words-start.result)
          (omega arith) c.loop-j-test.true c.loop-j.invariant.before c.take_term.ensures.words c.take_term-in-loop-j.ensures.words
          (read_word g.R.Register.word c.args.words.now (c.args.start + (j - i - 1)) c.index-words-start.result (omega (arith, below, c.requires.words)) c.index-words-start.is
          ∙ ap (λ (n : ℕ). get_or (map g.R.Register.word c.args.words.now) n 0) place);
    }

pub returns-clause-after : goal.returns-clause-after
returns-clause-after g c =
    let end : c.loop-j.j ≡ length c.args.a.now = omega (arith, c.requires.row) in
    c.loop-j.invariant.before
    ∙ ap (λ (n : ℕ). refreshed_before (length c.args.a.now) (map g.R.Register.word c.args.a.now) (slice_index (map g.R.Register.word c.args.words.now)) c.args.i n) end
    ∙ refreshed_row_end (length c.args.a.now) (map g.R.Register.word c.args.a.now) (slice_index (map g.R.Register.word c.args.words.now)) c.args.i c.requires.row
