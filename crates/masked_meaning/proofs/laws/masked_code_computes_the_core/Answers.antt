use Rattle.masked_meaning.proofs.Composing.{computes_the_core}
use Rattle.masked_meaning.proofs.laws.masked_code_computes_the_core.Goals as goal

pub returns : goal.returns
returns c =
    computes_the_core c.runs_the_same.ensures c.refreshed_core_size.ensures c.machine_gives_masked_run.ensures
    c.values_of_masked_run.ensures c.outputs_are_sharings.ensures
