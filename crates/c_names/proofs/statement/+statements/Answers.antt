use Rattle.std.proofs.Common.{◌≡◌, ℕ, ◌++◌, List, map, take, length, ap, sym, subst, ◌∙◌}
use Rattle.c_tree.specs.declared.CStmt.{CStmt}
use Rattle.c_names.specs.Names as spec
use Rattle.c_names.specs.Scope.{InScope}
use Rattle.c_names.specs.State.Answers.{IsPassed, passed}
use Rattle.c_names.specs.declared.scope.Role.TheVariants as role
use Rattle.c_names.proofs.Passing.{then_passed}
use Rattle.c_names.proofs.Trees.{loop_names}
use Rattle.c_names.proofs.Turns.{turn_names, turn_not, turn_scope}
use Rattle.c_names.proofs.statement.+statements.Goals as goal

pub check_body-returns-clause-scope : goal.check_body-returns-clause-scope
check_body-returns-clause-scope t c =
    let before = c.args.scope.now in
    c.truncate.ensures
    ∙ ap (λ (n : ℕ). take n c.check_all.new.scope) c.len-before.ensures
    ∙ ap (take (length before)) c.in_ok-check_all.ensures.scope
    ∙ ap (λ (known : List InScope). take (length before) (spec.all_checked (map spec.checked c.args.body.now) known).scope) c.in_ok-add.ensures

pub check_statement-returns-in_ok-check_head-in-For-clause-names : goal.check_statement-returns-in_ok-check_head-in-For-clause-names
check_statement-returns-in_ok-check_head-in-For-clause-names t c =
    let scope = c.args.scope.now in
    let places = c.args.places.now.left.now in
    let head = spec.head_names scope c.in-For.counter c.in-For.low in
    let inner = spec.with_name scope c.in-For.counter role.Counter in
    let body = (spec.all_checked (map spec.checked c.as_slice.result.now) inner).names in
    let same : (spec.checked c.args.statement.now scope).names ≡ head ++ body =
    ap (λ (x : CStmt). (spec.checked x scope).names) c.in-For.is
    ∙ loop_names c.in-For.counter c.in-For.low c.in-For.body scope
    ∙ ap (λ (b : List CStmt). head ++ (spec.all_checked (map spec.checked b) inner).names) (sym c.as_slice.ensures) in
    subst (λ ns. IsPassed (passed ns places) c.check_body.result c.check_body.new.places.left.now) (sym same)
    (then_passed head body places c.check_head.new.places.left.now c.check_body.new.places.left.now c.check_body.result c.in_ok-check_head-in-For.ensures c.check_body.ensures.names)

pub check_all-returns-in_err-check_statement-clause-names : goal.check_all-returns-in_err-check_statement-clause-names
check_all-returns-in_err-check_statement-clause-names t c =
    turn_not spec.checked c.args.statements.now c.loop-statement.statement-index c.statement-item.result c.loop-statement.scope c.loop-statement.places.left.now
    c.check_statement.new.places.left.now c.check_statement.new.places.left.now _ c.from_residual.result c.in_err-check_statement.field-0.0 c.loop-statement-test.true
    c.statement-item.is c.loop-statement.invariant.names c.from_residual.ensures.1 c.in_err-check_statement.ensures.names

pub check_all-loop-statement-preserved : goal.check_all-loop-statement-preserved
check_all-loop-statement-preserved t c =
    let xs = c.args.statements.now in
    let i = c.loop-statement.statement-index in
    let before = c.loop-statement.scope in
    let after = c.check_statement.new.scope in
    record {
      names =
          turn_names spec.checked xs i c.statement-item.result before after c.loop-statement.places.left.now c.check_statement.new.places.left.now c.loop-statement-test.true
          c.statement-item.is c.in_ok-check_statement.ensures.names c.in_ok-check_statement.ensures.scope
          ∙ c.loop-statement.invariant.names;
      scope =
          turn_scope spec.checked xs i c.statement-item.result before after c.loop-statement-test.true c.statement-item.is c.in_ok-check_statement.ensures.scope
          ∙ c.loop-statement.invariant.scope;
    }
