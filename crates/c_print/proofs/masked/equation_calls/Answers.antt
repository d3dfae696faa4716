use Rattle.std.proofs.Common.{List, [], ◌∷◌, ◌++◌, take, ap, ◌∙◌}
use Rattle.c_tree.specs.declared.CCall.{CCall}
use Rattle.usuba0.specs.declared.circuit.Gate.TheVariants as gate
use Rattle.c_form.specs.MaskedForm.{equation_calls}
use Rattle.c_print.proofs.Calls.{equation_calls-more, operands-within}
use Rattle.c_print.proofs.masked.equation_calls.Goals as goal

pub equation_call-requires-clause-registers : goal.equation_call-requires-clause-registers
equation_call-requires-clause-registers c =
    operands-within c.args.width c.args.rows.inputs _ c.args.gates.now c.loop-k.k (gate.Const 0) c.requires.equations
    c.requires.slots c.loop-k-test.true

pub loop-k-preserved : goal.loop-k-preserved
loop-k-preserved c =
    let inputs = c.args.rows.inputs in
    let slots = c.args.rows.places.now in
    c.in_ok-push.ensures.ok
    ∙ ap (λ (calls : List CCall). calls ++ c.in_ok-call.call ∷ []) c.loop-k.invariant
    ∙ ap (λ (call : CCall). equation_calls c.args.width c.args.bits inputs slots 0 (take c.loop-k.k c.args.gates.now)
    ++ call ∷ []) c.in_ok-call.ensures
    ∙ equation_calls-more inputs slots c.args.width c.args.bits c.args.gates.now c.loop-k.k (gate.Const 0)
    c.loop-k-test.true
