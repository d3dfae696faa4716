use Rattle.usuba_phases.proofs.Phasing.{early_faults_come_first}
use Rattle.usuba_phases.proofs.early.early_faults_come_first.Goals as goal

pub returns : goal.returns
returns c = early_faults_come_first
