use Rattle.table_anf.proofs.Polynomials.{polynomial_is_table}
use Rattle.table_anf.proofs.laws.polynomial_is_table.Goals as goal

pub returns : goal.returns
returns c = polynomial_is_table
