use Rattle.share_trial.proofs.Outputs.{shares_have_the_value}
use Rattle.share_trial.proofs.laws.shares_have_the_value.Goals as goal

pub returns : goal.returns
returns c = shares_have_the_value
