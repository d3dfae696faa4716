use Rattle.std.proofs.Common.{◌≡◌, ◌≢◌, ◌<◌, ◌≤◌, ℕ, List, Bool, true≢false, IsTrue, ◌↔◌, MatchBool, All, length, ap, ◌∙◌, subst, sym, arith}
use Rattle.std.proofs.lemmas.Result.{IfOk-weaker}
use Rattle.span_model.specs.Columns.{empty, set_of}
use Rattle.span_model.specs.Span.{InSpan}
use Rattle.linear_view.specs.View.{products_of}
use Rattle.attack_model.specs.declared.attack.Step.{Step}
use Rattle.linear_view.specs.declared.operand.Operand.{Operand}
use Rattle.attack_model.proofs.UseLemmas.{uses_below}
use Rattle.attack_probes.specs.Derivations.{IsDerived, IsSound}
use Rattle.attack_model.specs.Derivations.{IsInOrder}
use Rattle.attack_probes.specs.Operands.{co_operands_of, rows_of}
use Rattle.attack_probes.proofs.Counting.{step_uses_below}
use Rattle.attack_probes.proofs.Reading.{used_among}
use Rattle.attack_probes.proofs.Verdicts.{told_true, told_false, derived_more, not_sound, sound_if}
use Rattle.attack_probes.proofs.holding.derivation_holds.Goals as goal

pub step_spans-requires-clause-uses : goal.step_spans-requires-clause-uses
step_spans-requires-clause-uses c =
    let all = c.as_slice-steps.result.now in
    let within : c.loop-step.step-index < length all = omega arith in
    let order : IsInOrder all c.args.derivation.now.root =
    subst (λ (x : List Step). IsInOrder x c.args.derivation.now.root) (sym c.as_slice-steps.ensures) c.requires.order in
    let below = step_uses_below all c.loop-step.step-index c.step-item.result order.earlier within c.step-item.is in
    λ k d lt. let less = below k d lt in omega arith

pub returns-then-not-branch : goal.returns-then-not-branch
returns-then-not-branch c =
    let all = c.as_slice-steps.result.now in
    let within : c.loop-step.step-index < length all = omega arith in
    let products = products_of c.args.view.now in
    let leak = set_of c.args.derivation.now.leak in
    let not = told_false (IsDerived products leak all c.step-item.result) c.in_ok-step_spans.field-0 c.if-not-branch.true c.in_ok-step_spans.ensures in (
      λ e. absurd (true≢false (sym e)),
      λ sound. absurd (not_sound products leak all c.args.derivation.now.steps c.args.derivation.now.root c.loop-step.step-index c.step-item.result
          c.as_slice-steps.ensures within c.step-item.is not sound),
    )

pub loop-step-preserved : goal.loop-step-preserved
loop-step-preserved c =
    let all = c.as_slice-steps.result.now in
    let within : c.loop-step.step-index < length all = omega arith in
    let products = products_of c.args.view.now in
    let leak = set_of c.args.derivation.now.leak in
    let now = told_true (IsDerived products leak all c.step-item.result) c.in_ok-step_spans.field-0 c.if-not-branch.false c.in_ok-step_spans.ensures in
    derived_more products leak all c.loop-step.step-index c.step-item.result within c.step-item.is c.loop-step.invariant now

pub co_operands-requires : goal.co_operands-requires
co_operands-requires c =
    rw (c.as_slice.ensures, c.as_slice-steps.ensures)
    (uses_below (length c.args.derivation.now.steps) c.args.derivation.now.root c.requires.order.within)

pub spans-requires-clause-within : goal.spans-requires-clause-within
spans-requires-clause-within c =
    let steps = c.args.derivation.now.steps in
    let operands : c.as_slice-2.result.now ≡ co_operands_of steps c.args.derivation.now.root =
    c.as_slice-2.ensures.value ∙ c.in_ok-operands.ensures
    ∙ ap (λ (x : List Step). co_operands_of x c.as_slice.result.now) c.as_slice-steps.ensures
    ∙ ap (λ (x : List ℕ). co_operands_of steps x) c.as_slice.ensures in
    subst (λ (x : List Operand). All (λ (operand : Operand). operand.product < length c.args.view.now.products) x) (sym operands)
    (used_among (length c.args.view.now.products) steps c.args.derivation.now.root c.requires.products (uses_below (length steps) c.args.derivation.now.root c.requires.order.within))

pub returns : goal.returns
returns c =
    let all = c.as_slice-steps.result.now in
    let root = c.args.derivation.now.root in
    let products = products_of c.args.view.now in
    let leak = set_of c.args.derivation.now.leak in
    let operands : c.as_slice-2.result.now ≡ co_operands_of all root =
    c.as_slice-2.ensures.value ∙ c.in_ok-operands.ensures ∙ ap (λ (x : List ℕ). co_operands_of all x) c.as_slice.ensures in
    let past : length all ≤ c.loop-step.step-index = omega arith in
    let nonempty : leak ≢ empty = λ e. true≢false (sym (c.is_zero.ensures.1 e) ∙ c.if-is_zero.false) in
    IfOk-weaker c.spans.result
    (λ (answer : Bool). MatchBool answer (InSpan (rows_of products c.as_slice-2.result.now) leak) (¬ InSpan (rows_of products c.as_slice-2.result.now) leak))
    (λ (answer : Bool). IsTrue answer ↔ IsSound products leak c.args.derivation.now.steps root)
    (λ answer h. sound_if products leak all c.args.derivation.now.steps root answer c.as_slice-steps.ensures nonempty
    (λ k d lt. c.loop-step.invariant k d (omega arith))
    (subst (λ (x : List Operand). MatchBool answer (InSpan (rows_of products x) leak) (¬ InSpan (rows_of products x) leak)) operands h))
    c.spans.ensures
