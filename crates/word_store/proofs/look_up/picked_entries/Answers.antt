use Rattle.std.proofs.Common.{ap, slice_index}
use Rattle.usuba_model.specs.Meaning.{entry_at}
use Rattle.word_store.proofs.LookUps.{pushed}
use Rattle.word_store.proofs.look_up.picked_entries.Goals as goal

pub loop-position-preserved : goal.loop-position-preserved
loop-position-preserved c =
    pushed (entry_at c.args.entries.now c.args.words.now) c.loop-position.position c.loop-position.picked.items c.push.new.self.items
    (slice_index c.args.entries.now c.index_at.result) c.loop-position.invariant c.in_ok-push.ensures.items
    (ap (slice_index c.args.entries.now) c.index_at.ensures.index)
