use Rattle.std.proofs.Common.{◌≡◌, ◌++◌, ◌-◌, vec_items}
use Rattle.c_machine.specs.Run.{zero_rows}
use Rattle.c_machine.proofs.run.push_zero_rows.Given as goal

abbrev pub invariant-loop : goal.invariant-loop
invariant-loop l = vec_items l.rows ++ zero_rows l.shares (l.count - l.counter) ≡ vec_items l.fn.rows ++ zero_rows l.shares l.count
