use Rattle.plan_bounds.proofs.Entries as entries
use Rattle.plan_bounds.proofs.laws.entry_makes.Goals as goal

pub returns : goal.returns
returns g c = entries.entry_makes
