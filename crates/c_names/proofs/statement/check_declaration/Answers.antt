use Rattle.std.proofs.Common.{Bool, List, [], ◌∷◌, ap, sym, subst, ◌∙◌}
use Rattle.c_names.specs.Names as spec
use Rattle.c_names.specs.State.Answers.{IsPassed, passed}
use Rattle.c_names.proofs.Passing.{handed_on, passed_on, then_passed}
use Rattle.c_names.proofs.statement.check_declaration.Goals as goal

pub returns-in_err-check_expression-clause-names : goal.returns-in_err-check_expression-clause-names
returns-in_err-check_expression-clause-names c =
    let places = c.args.places.now.left.now in
    let left = c.check_expression.new.places.left.now in
    let said = c.from_residual-in_err-check_expression.result in
    let value = spec.expression_names c.args.value.now c.args.scope.now in
    subst (λ (names : List Bool). IsPassed (passed names places) said left) (ap (λ (b : Bool). b ∷ value) c.is_new.ensures)
    (then_passed (c.is_new.result ∷ []) value places c.pass.new.self.left.now left said c.in_ok-pass.ensures
    (handed_on (passed value c.pass.new.self.left.now) left left said c.in_err-check_expression.field-0.0 c.from_residual-in_err-check_expression.ensures.1
    c.in_err-check_expression.ensures))

pub returns-clause-names : goal.returns-clause-names
returns-clause-names c =
    let places = c.args.places.now.left.now in
    let value = spec.expression_names c.args.value.now c.args.scope.now in
    ap (λ (b : Bool). passed (b ∷ value) places) (sym c.is_new.ensures)
    ∙ passed_on (c.is_new.result ∷ []) value places c.pass.new.self.left.now c.in_ok-pass.ensures
    ∙ c.in_ok-check_expression.ensures
