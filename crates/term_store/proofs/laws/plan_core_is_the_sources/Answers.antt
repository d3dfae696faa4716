use Rattle.term_store.proofs.SourceCores.{source_cores}
use Rattle.term_store.proofs.laws.plan_core_is_the_sources.Goals as goal

pub returns : goal.returns
returns c = source_cores
