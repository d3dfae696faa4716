use Rattle.usuba_model.proofs.EntryOutcome.{entry_outcome}
use Rattle.usuba_model.proofs.judging.judged_has_outcome.Goals as goal

pub returns : goal.returns
returns g c = entry_outcome
