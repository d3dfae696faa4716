use Rattle.usuba_code.proofs.Running.{code_gives_value}
use Rattle.usuba_code.proofs.laws.code_gives_value.Goals as goal

pub returns : goal.returns
returns g c = code_gives_value
