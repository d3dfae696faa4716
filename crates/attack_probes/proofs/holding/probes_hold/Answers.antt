use Rattle.std.proofs.Common.{◌≡◌, ◌≢◌, ◌<◌, ◌≤◌, [], ℕ, List, true≢false, All, length, get_or, refl, ap, ◌∙◌, subst, sym, inl, inr, arith}
use Rattle.std.proofs.lemmas.Bool.{cases_eq}
use Rattle.std.proofs.lemmas.List.{length-map, get_or_read}
use Rattle.span_model.specs.Columns.{empty, set_of}
use Rattle.span_model.specs.Span.{InSpan}
use Rattle.linear_view.specs.View.{product_of, products_of}
use Rattle.linear_view.specs.declared.operand.Operand.{Operand}
use Rattle.attack_probes.specs.Operands.{operands_at, rows_of}
use Rattle.attack_probes.proofs.Reading.{operands_among}
use Rattle.attack_probes.proofs.Verdicts.{told_true, told_false, share_operands, attack_spans, probes_attack}
use Rattle.attack_probes.proofs.holding.probes_hold.Goals as goal

pub loop-operands-init : goal.loop-operands-init
loop-operands-init c = λ s lt. absurd (omega arith)

pub spans-requires-clause-within : goal.spans-requires-clause-within
spans-requires-clause-within c =
    let list = c.args.probes.now in
    let items = c.deref-operands-items.result.now in
    let index = c.loop-operands.operands-index in
    let shares = share_operands list items c.in_ok-shares.shares.items c.deref-operands-items.ensures.value c.in_ok-shares.ensures in
    let within : index < length items = omega arith in
    let operands : c.as_slice.result.now ≡ operands_at list index =
    c.as_slice.ensures ∙ get_or_read items index c.operands-item.result within c.operands-item.is [] ∙ shares.1 index (omega (arith, shares.0)) in
    subst (λ (x : List Operand). All (λ (operand : Operand). operand.product < length c.args.view.now.products) x) (sym operands)
    (operands_among (length c.args.view.now.products) (length list) list index c.requires.within)

pub returns-then-not-branch : goal.returns-then-not-branch
returns-then-not-branch c =
    let list = c.args.probes.now in
    let items = c.deref-operands-items.result.now in
    let index = c.loop-operands.operands-index in
    let products = products_of c.args.view.now in
    let leak = set_of c.args.leak.now in
    let shares = share_operands list items c.in_ok-shares.shares.items c.deref-operands-items.ensures.value c.in_ok-shares.ensures in
    let within : index < length items = omega arith in
    let operands : c.as_slice.result.now ≡ operands_at list index =
    c.as_slice.ensures ∙ get_or_read items index c.operands-item.result within c.operands-item.is [] ∙ shares.1 index (omega (arith, shares.0)) in
    let not = told_false (InSpan (rows_of products c.as_slice.result.now) leak) c.in_ok-spans.field-0 c.if-not-branch.true c.in_ok-spans.ensures in (
      λ e. absurd (true≢false (sym e)),
      λ attack. absurd (not (subst (λ (x : List Operand). InSpan (rows_of products x) leak) (sym operands)
          (attack_spans products leak list attack index (omega (arith, shares.0))))),
    )

pub loop-operands-preserved : goal.loop-operands-preserved
loop-operands-preserved c =
    let items = c.deref-operands-items.result.now in
    let index = c.loop-operands.operands-index in
    let products = products_of c.args.view.now in
    let leak = set_of c.args.leak.now in
    let within : index < length items = omega arith in
    let now = told_true (InSpan (rows_of products c.as_slice.result.now) leak) c.in_ok-spans.field-0 c.if-not-branch.false c.in_ok-spans.ensures in
    λ s lt. elim (cases_eq s index) [
      | inl same ↦ subst (λ (x : List Operand). InSpan (rows_of products x) leak)
          (c.as_slice.ensures ∙ get_or_read items index c.operands-item.result within c.operands-item.is [] ∙ ap (λ (x : ℕ). get_or items x []) (sym same)) now
      | inr other ↦ c.loop-operands.invariant s (omega arith)
    ]

pub returns : goal.returns
returns c =
    let list = c.args.probes.now in
    let items = c.deref-operands-items.result.now in
    let products = products_of c.args.view.now in
    let leak = set_of c.args.leak.now in
    let shares = share_operands list items c.in_ok-shares.shares.items c.deref-operands-items.ensures.value c.in_ok-shares.ensures in
    let past : length items ≤ c.loop-operands.operands-index = omega arith in
    let nonempty : leak ≢ empty = λ e. true≢false (sym (c.is_zero.ensures.1 e) ∙ c.if-is_zero.false) in (
      λ e. probes_attack products leak list nonempty (length c.args.view.now.products) (length-map c.args.view.now.products product_of) c.requires.within
          (λ s le. subst (λ (x : List Operand). InSpan (rows_of products x) leak) (shares.1 s le) (c.loop-operands.invariant s (omega (arith, shares.0)))),
      λ attack. refl,
    )
