use Rattle.std.proofs.Common.{◌≡◌, ◌++◌, false, [], drop}
use Rattle.c_grammar.specs.Classes as classes
use Rattle.c_grammar.proofs.classes.classes_of.Given as goal
use denote.Shadow.{shadow}
use denote.Text.{Utf8}

-- the classes so far, with those of the other tokens behind them, are all
abbrev pub invariant-loop-token : goal.invariant-loop-token
invariant-loop-token l = record {
  text : shadow (Utf8 l.counter);
  so_far : l.classes.items ++ classes.classes_from l.behind_unsigned l.counter (drop l.token-index l.tokens)
      ≡ classes.classes_from false [] l.tokens;
}
