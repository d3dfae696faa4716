use Rattle.source_terms.proofs.CoreRun.{core_keeps_values}
use Rattle.source_terms.proofs.laws.core_keeps_values.Goals as goal

pub returns : goal.returns
returns c = core_keeps_values
