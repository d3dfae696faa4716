use Rattle.std.proofs.Common.{◌≡◌, drop, map}
use Rattle.c_names.specs.Names.{all_checked, checked}
use Rattle.c_names.specs.State.Answers.{passed}
use Rattle.c_names.proofs.statement.+statements.Given as goal

abbrev pub invariant-check_all-loop-statement : goal.invariant-check_all-loop-statement
invariant-check_all-loop-statement l =
    let left = all_checked (map checked (drop l.statement-index l.statements)) l.scope in
    let all = all_checked (map checked l.statements) l.fn.scope in
    record { names : passed left.names l.places.left.now ≡ passed all.names l.fn.places.left.now; scope : left.scope ≡ all.scope }
