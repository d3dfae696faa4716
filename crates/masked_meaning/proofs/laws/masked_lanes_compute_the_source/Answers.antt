use Rattle.masked_meaning.proofs.Composing.{lanes_compute_the_source}
use Rattle.masked_meaning.proofs.laws.masked_lanes_compute_the_source.Goals as goal

pub returns : goal.returns
returns c =
    lanes_compute_the_source c.masked_code_computes_the_core.ensures c.lanes_are_runs.ensures c.meanings_agree.ensures
