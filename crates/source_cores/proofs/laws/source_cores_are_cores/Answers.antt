use Rattle.source_cores.proofs.CoreOfSource.{source_core_is_core}
use Rattle.source_cores.proofs.laws.source_cores_are_cores.Goals as goal

pub returns : goal.returns
returns c = source_core_is_core c.judged_takes_and_gives.ensures
