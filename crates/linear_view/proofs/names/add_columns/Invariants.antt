use Rattle.std.proofs.Common.{◌≡◌, ◌++◌}
use Rattle.linear_view.specs.Names.{own_columns}
use Rattle.linear_view.proofs.names.add_columns.Given as goal

abbrev pub invariant-loop-bit : goal.invariant-loop-bit
invariant-loop-bit l = l.columns.keys ≡ l.fn.columns.keys ++ own_columns l.bit l.kind l.number
