use Rattle.std.proofs.Common.{◌≡◌, ◌++◌, ap, ◌∙◌, arith}
use Rattle.usuba_model.specs.Shapes.{all_elements}
use Rattle.usuba_walk.proofs.Whole.{all_elements-append}
use Rattle.usuba_walk.proofs.definition.count_node.Goals as goal

pub returns-in_err-first : goal.returns-in_err-first
returns-in_err-first c =
    let two : all_elements (c.as_slice.result.now ++ c.as_slice-2.result.now) ≡ all_elements (c.args.node.now.inputs ++ c.args.node.now.outputs)
    = ap (λ a. all_elements (a ++ c.as_slice-2.result.now)) c.as_slice.ensures ∙ ap (λ b. all_elements (c.args.node.now.inputs ++ b)) c.as_slice-2.ensures in
    rw c.from_residual.ensures (omega (arith, all_elements-append (c.args.node.now.inputs ++ c.args.node.now.outputs) c.args.node.now.locals, c.in_err-first.ensures, two))

pub returns-in_err-second : goal.returns-in_err-second
returns-in_err-second c =
    let one : all_elements c.as_slice-3.result.now ≡ all_elements c.args.node.now.locals = ap all_elements c.as_slice-3.ensures in
    rw c.from_residual-in_err-second.ensures (omega (arith, all_elements-append (c.args.node.now.inputs ++ c.args.node.now.outputs) c.args.node.now.locals, c.in_err-second.ensures, one))

pub returns-then-count-gt-MOST_OPERATIONS : goal.returns-then-count-gt-MOST_OPERATIONS
returns-then-count-gt-MOST_OPERATIONS c =
    let two : all_elements (c.as_slice.result.now ++ c.as_slice-2.result.now) ≡ all_elements (c.args.node.now.inputs ++ c.args.node.now.outputs)
    = ap (λ a. all_elements (a ++ c.as_slice-2.result.now)) c.as_slice.ensures ∙ ap (λ b. all_elements (c.args.node.now.inputs ++ b)) c.as_slice-2.ensures in
    let one : all_elements c.as_slice-3.result.now ≡ all_elements c.args.node.now.locals = ap all_elements c.as_slice-3.ensures in
    omega (arith, all_elements-append (c.args.node.now.inputs ++ c.args.node.now.outputs) c.args.node.now.locals, two, one, c.in_ok-first.ensures.0, c.in_ok-second.ensures.0, c.if-count-gt-MOST_OPERATIONS.true)

pub returns-else-count-gt-MOST_OPERATIONS : goal.returns-else-count-gt-MOST_OPERATIONS
returns-else-count-gt-MOST_OPERATIONS c =
    let two : all_elements (c.as_slice.result.now ++ c.as_slice-2.result.now) ≡ all_elements (c.args.node.now.inputs ++ c.args.node.now.outputs)
    = ap (λ a. all_elements (a ++ c.as_slice-2.result.now)) c.as_slice.ensures ∙ ap (λ b. all_elements (c.args.node.now.inputs ++ b)) c.as_slice-2.ensures in
    let one : all_elements c.as_slice-3.result.now ≡ all_elements c.args.node.now.locals = ap all_elements c.as_slice-3.ensures in
    (omega (arith, all_elements-append (c.args.node.now.inputs ++ c.args.node.now.outputs) c.args.node.now.locals, two, one, c.in_ok-first.ensures.0, c.in_ok-second.ensures.0), omega (arith, c.if-count-gt-MOST_OPERATIONS.false))
