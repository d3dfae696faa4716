use Rattle.column_lists.proofs.RowLemmas.{RowState}
use Rattle.column_lists.proofs.row.read_row.Given as goal

abbrev pub invariant-loop-c : goal.invariant-loop-c
invariant-loop-c l = RowState l.view.columns l.fn.words l.c l.row l.next l.words
