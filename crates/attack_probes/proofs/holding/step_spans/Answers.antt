use Rattle.std.proofs.Common.{◌≡◌, ◌<◌, ◌++◌, ◌∷◌, [], List, Bool, MatchBool, All, length, subst, sym}
use Rattle.std.proofs.lemmas.List.Elements.{All-push}
use Rattle.std.proofs.lemmas.Result.{IfOk-weaker}
use Rattle.span_model.specs.Columns.{set_of}
use Rattle.span_model.specs.Span.{InSpan}
use Rattle.linear_view.specs.View.{products_of}
use Rattle.linear_view.specs.declared.operand.Operand.{Operand}
use Rattle.attack_probes.specs.Derivations.{IsDerived}
use Rattle.attack_probes.specs.Operands.{co_operands_of, rows_of}
use Rattle.attack_model.specs.Derivations.{operand_of}
use Rattle.attack_probes.proofs.Reading.{used_among}
use Rattle.attack_probes.proofs.Verdicts.{derived_if, step_operands}
use Rattle.attack_probes.proofs.holding.step_spans.Goals as goal

pub spans-requires-clause-within : goal.spans-requires-clause-within
spans-requires-clause-within c =
    let steps = c.args.steps.now in
    let step = c.args.step.now in
    let operands : c.as_slice-2.result.now ≡ co_operands_of steps step.uses ++ operand_of step ∷ [] =
    step_operands steps step c.as_slice.result.now c.as_slice-2.result.now c.push.new.self.items c.in_ok-operands.operands.items c.operand.result
    c.as_slice-2.ensures.value c.in_ok-push.ensures.items c.in_ok-operands.ensures c.as_slice.ensures c.operand.ensures in
    subst (λ (x : List Operand). All (λ (operand : Operand). operand.product < length c.args.view.now.products) x) (sym operands)
    (All-push (λ (operand : Operand). operand.product < length c.args.view.now.products) (co_operands_of steps step.uses) (operand_of step)
    (used_among (length c.args.view.now.products) steps step.uses c.requires.products c.requires.uses) c.requires.product)

pub returns : goal.returns
returns c =
    let steps = c.args.steps.now in
    let step = c.args.step.now in
    let products = products_of c.args.view.now in
    let leak = set_of c.args.leak.now in
    let operands : c.as_slice-2.result.now ≡ co_operands_of steps step.uses ++ operand_of step ∷ [] =
    step_operands steps step c.as_slice.result.now c.as_slice-2.result.now c.push.new.self.items c.in_ok-operands.operands.items c.operand.result
    c.as_slice-2.ensures.value c.in_ok-push.ensures.items c.in_ok-operands.ensures c.as_slice.ensures c.operand.ensures in
    IfOk-weaker c.spans.result
    (λ (answer : Bool). MatchBool answer (InSpan (rows_of products c.as_slice-2.result.now) leak) (¬ InSpan (rows_of products c.as_slice-2.result.now) leak))
    (λ (answer : Bool). MatchBool answer (IsDerived products leak steps step) (¬ IsDerived products leak steps step))
    (λ answer h. derived_if products leak steps step answer
    (subst (λ (x : List Operand). MatchBool answer (InSpan (rows_of products x) leak) (¬ InSpan (rows_of products x) leak)) operands h))
    c.spans.ensures
