use Rattle.std.proofs.Common.{◌≡◌, ◌++◌, ◌-◌}
use Rattle.word_draws.specs.Draws.{drawn_words, after_words}
use Rattle.word_draws.proofs.draws.Draws.words.Given as goal

abbrev pub invariant-loop-k : goal.invariant-loop-k
invariant-loop-k l =
    record {
      words : l.words.items ++ drawn_words l.bits l.self (l.count - l._k) ≡ drawn_words l.bits l.fn.self l.count;
      state : after_words l.bits l.self (l.count - l._k) ≡ after_words l.bits l.fn.self l.count;
    }
