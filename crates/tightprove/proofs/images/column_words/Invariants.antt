use Rattle.std.proofs.Common.{◌≡◌, length}
use Rattle.tightprove.proofs.images.column_words.Given as goal

abbrev pub invariant-loop-c : goal.invariant-loop-c
invariant-loop-c l = length l.words.items ≡ l.c
