use Rattle.std.proofs.Common.{Bool, [], ◌∷◌, ◌++◌, subst}
use Rattle.c_names.specs.Names as spec
use Rattle.c_names.specs.State.Answers.{IsPassed, passed}
use Rattle.c_names.proofs.Passing.{then_passed}
use Rattle.c_names.proofs.statement.check_assignment.Goals as goal

pub returns : goal.returns
returns c =
    let scope = c.args.scope.now in
    let index = spec.index_names scope c.args.index.now in
    let value = spec.expression_names c.args.value.now scope in
    let left = c.check_expression.new.places.left.now in
    subst (λ (b : Bool). IsPassed (passed (b ∷ (index ++ value)) c.args.places.now.left.now) c.check_expression.result left) c.is_array.ensures
    (then_passed (c.is_array.result ∷ []) (index ++ value) c.args.places.now.left.now c.pass.new.self.left.now left c.check_expression.result c.in_ok-pass.ensures
    (then_passed index value c.pass.new.self.left.now c.check_index.new.places.left.now left c.check_expression.result c.in_ok-check_index.ensures c.check_expression.ensures))
