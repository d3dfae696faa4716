use Rattle.std.proofs.Common.{ℕ, ◌+◌, ◌-◌, ◌<◌, List, [], ◌∷◌, ◌++◌, length, get_or, take, vec_len, sym, ap, subst, ◌∙◌, arith}
use Rattle.usuba0.specs.declared.circuit.Gate.{Gate}
use Rattle.usuba0.specs.declared.builder.Head.TheVariants as head
use Rattle.usuba0.specs.CoreOfTerms.{equations_of, register_of}
use Rattle.usuba0.specs.State.Walk.{all_terms, terms_in, place_in, gate_of_head, AreOperands}
use Rattle.usuba0.proofs.WalkSteps.{AreOperands-map}
use Rattle.usuba0.proofs.CloseLemmas.{equations_more, order_operands}
use Rattle.usuba0.proofs.finish.equations.Goals as goal

pub gate-requires : goal.gate-requires
gate-requires c =
    let i = c.loop-term.term-index in
    let order = c.args.walk.now.order.items in
    let within : i < length order = subst (λ (l : List ℕ). i < length l) c.deref-term-items.ensures.value c.loop-term-test.true in
    subst (λ (l : List ℕ). AreOperands (λ a. a.0 < vec_len c.args.walk.now.places) (get_or c.args.heads.now (get_or l i 0 - c.args.inputs) (head.Const 0)))
    (sym c.deref-term-items.ensures.value)
    (AreOperands-map (λ a. a.0 < c.args.inputs + length c.args.heads.now) (λ a. a.0 < vec_len c.args.walk.now.places) _
    (λ a q. omega (arith, c.requires.walk.all, c.args.walk.now.places.ok.0))
    (order_operands c.args.width c.args.inputs c.args.heads.now c.args.walk.now.places.items order c.requires.builder c.requires.walk i within))

pub loop-term-preserved : goal.loop-term-preserved
loop-term-preserved c =
    let i = c.loop-term.term-index in
    let n = c.args.inputs in
    let heads = c.args.heads.now in
    let order = c.args.walk.now.order.items in
    let places = c.args.walk.now.places.items in
    let within : i < length order = subst (λ (l : List ℕ). i < length l) c.deref-term-items.ensures.value c.loop-term-test.true in
    c.in_ok-push.ensures.items
    ∙ ap (λ (l : List Gate). l ++ c.gate.result ∷ []) c.loop-term.invariant
    ∙ ap (λ (x : Gate). equations_of (register_of n (terms_in (all_terms n heads) order)) (terms_in (all_terms n heads) (take i order)) ++ x ∷ [])
    (c.gate.ensures ∙ ap (λ (l : List ℕ). gate_of_head (place_in places) (get_or heads (get_or l i 0 - n) (head.Const 0))) c.deref-term-items.ensures.value)
    ∙ sym (equations_more c.args.width n heads places order c.requires.builder c.requires.walk i within)
