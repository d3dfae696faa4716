use Rattle.std.proofs.Common.{◌≡◌}
use Rattle.linear_view.specs.Names.{input_columns}
use Rattle.linear_view.proofs.names.columns_of_inputs.Given as goal

abbrev pub invariant-loop-number : goal.invariant-loop-number
invariant-loop-number l = l.columns.keys ≡ input_columns l.width l.number
