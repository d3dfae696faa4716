use Rattle.word_store.proofs.LookUps.{Gathered}
use Rattle.word_store.proofs.look_up.word_of_entries.Given as goal

abbrev pub invariant-loop-position : goal.invariant-loop-position
invariant-loop-position l = Gathered l.entries l.place l.position l.word
