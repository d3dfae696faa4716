use Rattle.std.proofs.Common.{arith}
use Rattle.word_draws.proofs.Drawing.{words_step, state_step, words_end, state_end, drawn_below}
use Rattle.word_draws.proofs.draws.Draws.words.Goals as goal

pub loop-k-preserved : goal.loop-k-preserved
loop-k-preserved c = record {
  words = words_step c.args.bits c.loop-k.self c.word.new.self c.loop-k._k c.args.count c.word.result c.loop-k.words.items c.push.new.self.items _
      (omega arith) c.word.ensures.state c.word.ensures.drawn c.loop-k.invariant.words c.in_ok-push.ensures.items;
  state = state_step c.args.bits c.loop-k.self c.word.new.self c.loop-k._k c.args.count _ (omega arith) c.word.ensures.state c.loop-k.invariant.state;
}

pub returns-clause-drawn : goal.returns-clause-drawn
returns-clause-drawn c = words_end c.args.bits c.loop-k.self c.loop-k._k c.args.count c.loop-k.words.items _ (omega arith) c.loop-k.invariant.words

pub returns-clause-state : goal.returns-clause-state
returns-clause-state c = state_end c.args.bits c.loop-k.self c.loop-k._k c.args.count _ (omega arith) c.loop-k.invariant.state

pub returns-clause-below : goal.returns-clause-below
returns-clause-below c =
    drawn_below c.args.bits c.args.self.now c.args.count c.loop-k.words.items
    (words_end c.args.bits c.loop-k.self c.loop-k._k c.args.count c.loop-k.words.items _ (omega arith) c.loop-k.invariant.words)
