use Rattle.core_refresh.proofs.Running.{runs_the_same}
use Rattle.core_refresh.proofs.laws.runs_the_same.Goals as goal

pub returns : goal.returns
returns c = runs_the_same
