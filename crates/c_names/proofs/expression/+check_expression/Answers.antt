use Rattle.std.proofs.Common.{◌≡◌, ◌++◌, ap, sym, subst, ◌∙◌}
use Rattle.c_tree.specs.declared.CExpr.{CExpr}
use Rattle.c_names.specs.Names as spec
use Rattle.c_names.specs.State.Answers.{IsPassed, passed}
use Rattle.c_names.proofs.Passing.{not_passed, then_passed}
use Rattle.c_names.proofs.Trees.{two_names}
use Rattle.c_names.proofs.expression.+check_expression.Goals as goal

pub returns-in_err-check_expression-in-Two : goal.returns-in_err-check_expression-in-Two
returns-in_err-check_expression-in-Two t c =
    let scope = c.args.scope.now in
    let places = c.args.places.now.left.now in
    let same : spec.expression_names c.args.expression.now scope ≡ spec.expression_names c.get.result.now scope ++ spec.expression_names c.in-Two.right scope =
    ap (λ (x : CExpr). spec.expression_names x scope) c.in-Two.is
    ∙ two_names c.in-Two.op c.in-Two.left c.in-Two.right scope
    ∙ ap (λ (x : CExpr). spec.expression_names x scope ++ spec.expression_names c.in-Two.right scope) (sym c.get.ensures) in
    subst (λ ns. IsPassed (passed ns places) c.from_residual-in_err-check_expression-in-Two.result c.check_expression.new.places.left.now) (sym same)
    (not_passed (spec.expression_names c.get.result.now scope) (spec.expression_names c.in-Two.right scope) places c.check_expression.new.places.left.now
    c.check_expression.new.places.left.now c.from_residual-in_err-check_expression-in-Two.result c.in_err-check_expression-in-Two.field-0.0
    c.from_residual-in_err-check_expression-in-Two.ensures.1 c.in_err-check_expression-in-Two.ensures)

pub returns-in_ok-check_expression-in-Two : goal.returns-in_ok-check_expression-in-Two
returns-in_ok-check_expression-in-Two t c =
    let scope = c.args.scope.now in
    let places = c.args.places.now.left.now in
    let left = c.check_expression-in-Two.new.places.left.now in
    let same : spec.expression_names c.args.expression.now scope ≡ spec.expression_names c.get.result.now scope ++ spec.expression_names c.get-in-Two.result.now scope =
    ap (λ (x : CExpr). spec.expression_names x scope) c.in-Two.is
    ∙ two_names c.in-Two.op c.in-Two.left c.in-Two.right scope
    ∙ ap (λ (x : CExpr). spec.expression_names x scope ++ spec.expression_names c.in-Two.right scope) (sym c.get.ensures)
    ∙ ap (λ (x : CExpr). spec.expression_names c.get.result.now scope ++ spec.expression_names x scope) (sym c.get-in-Two.ensures) in
    subst (λ ns. IsPassed (passed ns places) c.check_expression-in-Two.result left) (sym same)
    (then_passed (spec.expression_names c.get.result.now scope) (spec.expression_names c.get-in-Two.result.now scope) places c.check_expression.new.places.left.now left
    c.check_expression-in-Two.result c.in_ok-check_expression-in-Two.ensures c.check_expression-in-Two.ensures)
