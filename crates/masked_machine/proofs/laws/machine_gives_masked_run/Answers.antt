use Rattle.masked_machine.proofs.Answering.{gives_masked_run}
use Rattle.masked_machine.proofs.laws.machine_gives_masked_run.Goals as goal

pub returns : goal.returns
returns c = gives_masked_run
