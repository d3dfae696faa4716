use Rattle.source_shapes.proofs.Entry.{judged_takes_and_gives}
use Rattle.source_shapes.proofs.laws.judged_takes_and_gives.Goals as goal

pub returns : goal.returns
returns c = judged_takes_and_gives
