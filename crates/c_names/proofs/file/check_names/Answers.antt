use Rattle.std.proofs.Common.{◌≡◌, Bool, List, [], ◌++◌, map, ap, subst, ◌∙◌}
use Rattle.c_tree.specs.declared.CCall.{CCall}
use Rattle.c_tree.specs.declared.CFun.{CFun}
use Rattle.c_names.specs.Names as spec
use Rattle.c_names.specs.State.Answers.{IsPassed, passed}
use Rattle.c_names.specs.State.Gadgets.{fits_by, gadget_at}
use Rattle.c_names.proofs.Gadgets.{calls-found}
use Rattle.c_names.proofs.Passing.{answered, not_passed, then_passed}
use Rattle.c_names.proofs.file.check_names.Goals as goal

pub returns-in_err-check_gadgets : goal.returns-in_err-check_gadgets
returns-in_err-check_gadgets c =
    let file = c.args.file.now in
    let places = c.args.places.now in
    let left = c.check_gadgets.new.places.left.now in
    let calls = map (spec.call_is_right file.gadgets) file.calls in
    answered (spec.names_of file) places left c.from_residual.result
    (subst (λ (gs : List CFun). IsPassed (passed (spec.gadgets_names [] gs ++ calls) places) c.from_residual.result left) c.as_slice.ensures
    (not_passed (spec.gadgets_names [] c.as_slice.result.now) calls places left left c.from_residual.result c.in_err-check_gadgets.field-0.0 c.from_residual.ensures.1
    c.in_err-check_gadgets.ensures.names))

pub returns : goal.returns
returns c =
    let file = c.args.file.now in
    let places = c.args.places.now in
    let left = c.check_calls.new.places.left.now in
    let gadgets = spec.gadgets_names [] c.as_slice.result.now in
    let found = gadget_at c.check_gadgets.new.found in
    let calls = map (fits_by found) c.as_slice-2.result.now in
    let names : gadgets ++ calls ≡ spec.names_of file =
    ap (λ (bs : List Bool). gadgets ++ bs) (calls-found c.as_slice-2.result.now found (spec.gadget_called c.as_slice.result.now) c.in_ok-check_gadgets.ensures.found)
    ∙ ap (λ (gs : List CFun). spec.gadgets_names [] gs ++ map (spec.call_is_right gs) c.as_slice-2.result.now) c.as_slice.ensures
    ∙ ap (λ (cs : List CCall). spec.gadgets_names [] file.gadgets ++ map (spec.call_is_right file.gadgets) cs) c.as_slice-2.ensures in
    answered (spec.names_of file) places left c.check_calls.result
    (subst (λ (ns : List Bool). IsPassed (passed ns places) c.check_calls.result left) names
    (then_passed gadgets calls places c.check_gadgets.new.places.left.now left c.check_calls.result c.in_ok-check_gadgets.ensures.names c.check_calls.ensures))
