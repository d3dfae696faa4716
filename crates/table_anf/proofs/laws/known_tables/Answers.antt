use Rattle.std.proofs.Common.{refl}
use Rattle.table_anf.proofs.laws.known_tables.Goals as goal

pub returns : goal.returns
returns c = record { either = refl; two_outputs = refl; constants = refl }
