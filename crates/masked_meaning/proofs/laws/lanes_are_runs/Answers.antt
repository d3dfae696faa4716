use Rattle.masked_meaning.proofs.LaneRuns.{lanes_run}
use Rattle.masked_meaning.proofs.laws.lanes_are_runs.Goals as goal

pub returns : goal.returns
returns c = lanes_run
