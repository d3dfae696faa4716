use Rattle.usuba_phases.proofs.Phasing.{passed_or_early}
use Rattle.usuba_phases.proofs.early.passed_or_early.Goals as goal

pub returns : goal.returns
returns c = passed_or_early
