use Rattle.std.proofs.Common.{◌≡◌, ◌++◌, take, drop, vec_items}
use Rattle.c_machine.specs.Run.{words_of_rows}
use Rattle.c_machine.proofs.run.words_of.Given as goal

abbrev pub invariant-loop-k : goal.invariant-loop-k
invariant-loop-k l = vec_items l.words ++ words_of_rows (drop l.k (take l.count l.rows)) ≡ words_of_rows (take l.count l.rows)
