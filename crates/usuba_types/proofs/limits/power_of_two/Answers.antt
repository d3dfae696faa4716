use Rattle.usuba_types.proofs.Stopping.{power_past}
use Rattle.usuba_types.proofs.limits.power_of_two.Goals as goal

pub returns-then-exponent-ge64 : goal.returns-then-exponent-ge64
returns-then-exponent-ge64 c = power_past c.args.exponent c.if-exponent-ge64.true
