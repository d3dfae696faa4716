use Rattle.usuba_code.proofs.Running.{code_gives_value}
use Rattle.usuba_plan.proofs.FilePlans as plans
use Rattle.usuba_plan.proofs.laws.plan_gives_outcome.Goals as goal

pub returns : goal.returns
returns g c = plans.plan_gives_outcome code_gives_value
