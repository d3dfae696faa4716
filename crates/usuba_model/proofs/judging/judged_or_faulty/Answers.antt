use Rattle.usuba_model.proofs.JudgingLemmas.{judged_or_faulty}
use Rattle.usuba_model.proofs.judging.judged_or_faulty.Goals as goal

pub returns : goal.returns
returns c = judged_or_faulty
