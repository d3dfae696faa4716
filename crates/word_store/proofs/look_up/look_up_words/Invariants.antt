use Rattle.std.proofs.Common.{◌≡◌, map}
use Rattle.std.specs.List.{range_with_len}
use Rattle.usuba_model.specs.Meaning.{looked_up_word}
use Rattle.word_store.proofs.look_up.look_up_words.Given as goal

abbrev pub invariant-loop-j : goal.invariant-loop-j
invariant-loop-j l = l.made.items ≡ map (looked_up_word l.bits l.outputs l.entries l.words) (range_with_len 0 l.j)
