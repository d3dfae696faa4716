use Rattle.word_store.proofs.Indexing.{Indexed}
use Rattle.word_store.proofs.look_up.index_at.Given as goal

abbrev pub invariant-loop-word : goal.invariant-loop-word
invariant-loop-word l = Indexed l.words l.position l.word-index l.index
