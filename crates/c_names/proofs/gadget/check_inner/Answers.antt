use Rattle.std.proofs.Common.{◌≡◌, List, [], ◌++◌, map, Bool, ap, subst, ◌∙◌}
use Rattle.c_tree.specs.declared.CParam.{CParam}
use Rattle.c_tree.specs.declared.CStmt.{CStmt}
use Rattle.c_names.specs.Names as spec
use Rattle.c_names.specs.Scope.{InScope}
use Rattle.c_names.specs.State.Answers.{IsPassed, passed}
use Rattle.c_names.proofs.Passing.{not_passed, then_passed}
use Rattle.c_names.proofs.gadget.check_inner.Goals as goal

pub returns-in_err-check_parameters : goal.returns-in_err-check_parameters
returns-in_err-check_parameters c =
    let gadget = c.args.gadget.now in
    let places = c.args.places.now.left.now in
    let left = c.check_parameters.new.places.left.now in
    let body = (spec.all_checked (map spec.checked gadget.body) (spec.all_checked (map spec.parameter_checked gadget.params) []).scope).names in
    let begun = spec.all_checked (map spec.parameter_checked c.as_slice.result.now) c.new-scope.result in
    let same : begun ≡ spec.all_checked (map spec.parameter_checked gadget.params) [] =
    ap (λ (ps : List CParam). spec.all_checked (map spec.parameter_checked ps) c.new-scope.result) c.as_slice.ensures
    ∙ ap (spec.all_checked (map spec.parameter_checked gadget.params)) c.new-scope.ensures in
    subst (λ (j : spec.Checked). IsPassed (passed (j.names ++ body) places) c.from_residual.result left) same
    (not_passed begun.names body places left left c.from_residual.result c.in_err-check_parameters.field-0.0 c.from_residual.ensures.1 c.in_err-check_parameters.ensures.names)

pub returns : goal.returns
returns c =
    let gadget = c.args.gadget.now in
    let places = c.args.places.now.left.now in
    let left = c.check_all.new.places.left.now in
    let begun = spec.all_checked (map spec.parameter_checked c.as_slice.result.now) c.new-scope.result in
    let inner = c.check_parameters.new.scope in
    let body = (spec.all_checked (map spec.checked c.as_slice-2.result.now) inner).names in
    let same : begun ≡ spec.all_checked (map spec.parameter_checked gadget.params) [] =
    ap (λ (ps : List CParam). spec.all_checked (map spec.parameter_checked ps) c.new-scope.result) c.as_slice.ensures
    ∙ ap (spec.all_checked (map spec.parameter_checked gadget.params)) c.new-scope.ensures in
    let names : begun.names ++ body ≡ spec.inner_names gadget =
    ap (λ (known : List InScope). begun.names ++ (spec.all_checked (map spec.checked c.as_slice-2.result.now) known).names) c.in_ok-check_parameters.ensures.scope
    ∙ ap (λ (b : List CStmt). begun.names ++ (spec.all_checked (map spec.checked b) begun.scope).names) c.as_slice-2.ensures
    ∙ ap (λ (j : spec.Checked). j.names ++ (spec.all_checked (map spec.checked gadget.body) j.scope).names) same in
    subst (λ (ns : List Bool). IsPassed (passed ns places) c.check_all.result left) names
    (then_passed begun.names body places c.check_parameters.new.places.left.now left c.check_all.result c.in_ok-check_parameters.ensures.names c.check_all.ensures.names)
