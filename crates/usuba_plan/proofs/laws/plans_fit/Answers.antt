use Rattle.usuba_plan.proofs.Fitting as fitting
use Rattle.usuba_plan.proofs.laws.plans_fit.Goals as goal

pub returns : goal.returns
returns c = fitting.plans_fit
