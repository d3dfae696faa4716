use Rattle.std.proofs.Common.{◌≡◌, map}
use Rattle.std.specs.List.{range_with_len}
use Rattle.usuba_model.specs.Meaning.{entry_at}
use Rattle.word_store.proofs.look_up.picked_entries.Given as goal

abbrev pub invariant-loop-position : goal.invariant-loop-position
invariant-loop-position l = l.picked.items ≡ map (entry_at l.entries l.words) (range_with_len 0 l.position)
