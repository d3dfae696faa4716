use Rattle.column_lists.proofs.PlaceLemmas.{row_is_named, named_is_row}
use Rattle.column_lists.proofs.laws.rows_are_named.Goals as goal

pub returns : goal.returns
returns c = record { named = row_is_named; found = named_is_row }
