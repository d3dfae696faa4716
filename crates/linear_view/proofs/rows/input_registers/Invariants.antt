use Rattle.std.proofs.Common.{◌≡◌, ℕ, map}
use Rattle.std.specs.List.{range_with_len}
use Rattle.linear_view.specs.Rows.{input_rows, rows_over}
use Rattle.linear_view.proofs.rows.input_registers.Given as goal

abbrev pub invariant-loop-number : goal.invariant-loop-number
invariant-loop-number l = l.registers.items ≡ map (λ (i : ℕ). rows_over l.columns.keys (input_rows l.width i)) (range_with_len 0 l.number)
