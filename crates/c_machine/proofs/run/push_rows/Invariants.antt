use Rattle.std.proofs.Common.{◌≡◌, ◌++◌, ◌-◌, ◌*◌, length, vec_items}
use Rattle.c_machine.specs.Run.{rows_of}
use Rattle.c_machine.proofs.run.push_rows.Given as goal

abbrev pub invariant-loop : goal.invariant-loop
invariant-loop l = record {
  rows : vec_items l.rows ++ rows_of l.shares (l.count - l.counter) l.rest ≡ vec_items l.fn.rows ++ rows_of l.shares l.count l.words;
  rest : length l.rest ≡ (l.count - l.counter) * l.shares;
}
