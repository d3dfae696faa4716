use Rattle.std.proofs.Common.{List, [], ◌∷◌, ◌++◌, take, ap, ◌∙◌}
use Rattle.c_tree.specs.declared.CCall.{CCall}
use Rattle.c_form.specs.MaskedForm.{output_calls}
use Rattle.c_print.proofs.Calls.{output_calls-more}
use Rattle.c_print.proofs.masked.output_calls.Goals as goal

pub loop-k-preserved : goal.loop-k-preserved
loop-k-preserved c =
    let inputs = c.args.rows.inputs in
    let slots = c.args.rows.places.now in
    c.in_ok-push.ensures.ok
    ∙ ap (λ (calls : List CCall). calls ++ c.in_ok-call.call ∷ []) c.loop-k.invariant
    ∙ ap (λ (call : CCall). output_calls inputs slots 0 (take c.loop-k.k c.args.registers.now) ++ call ∷ [])
    c.in_ok-call.ensures
    ∙ output_calls-more inputs slots c.args.registers.now c.loop-k.k _ c.loop-k-test.true
