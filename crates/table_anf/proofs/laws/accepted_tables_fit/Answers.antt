use Rattle.table_anf.proofs.Accepted.{accepted_tables_fit}
use Rattle.table_anf.proofs.laws.accepted_tables_fit.Goals as goal

pub returns : goal.returns
returns c = accepted_tables_fit
