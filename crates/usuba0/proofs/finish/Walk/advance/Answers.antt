use Rattle.std.proofs.Common.{ℕ, ◌-◌, ◌<◌, length, take, vec_len, refl, sym, ap, ◌∙◌, arith}
use Rattle.usuba0.proofs.WalkSteps.{AreOperands-map}
use Rattle.usuba0.proofs.AdvanceLemmas.{Advanced, step_operands, step_push, step_place}
use Rattle.usuba0.proofs.finish.Walk.advance.Goals as goal

pub missing_operand-requires : goal.missing_operand-requires
missing_operand-requires c =
    AreOperands-map (λ a. a.0 < length c.args.self.now.places.items) (λ a. a.0 < vec_len c.args.self.now.places) _ (λ a q. omega (arith, c.args.self.now.places.ok.0))
    (step_operands c.args.width c.args.inputs c.args.heads.now c.args.self.now.places.items c.args.self.now.order.items c.args.pending.now.items c.len.result (c.len.result - 1)
    c.index-top.result.now c.requires.builder c.requires.under_way (omega (arith, c.args.pending.now.ok.0, c.len.ensures)) (omega (arith, c.requires.some, c.len.ensures)) refl c.index-top.ensures)

pushed : (c : goal.In_ok-push-in-Some)
    → Advanced c.args.width c.args.inputs c.args.heads.now c.args.self.now.places.items c.args.self.now.order.items c.args.pending.now.items
    c.args.self.now.places.items c.args.self.now.order.items c.push.new.self.items
pushed c =
    step_push c.args.width c.args.inputs c.args.heads.now c.args.self.now.places.items c.args.self.now.order.items c.args.pending.now.items c.len.result (c.len.result - 1)
    c.index-top.result.now c.requires.builder c.requires.under_way (omega (arith, c.args.pending.now.ok.0, c.len.ensures)) (omega (arith, c.requires.some, c.len.ensures)) refl c.index-top.ensures
    c.in-Some.operand c.push.new.self.items c.in-Some.ensures.next.0 c.in-Some.ensures.next.1 c.in_ok-push-in-Some.ensures.items

pub returns-in_ok-push-in-Some-clause-under_way : goal.returns-in_ok-push-in-Some-clause-under_way
returns-in_ok-push-in-Some-clause-under_way c = (pushed c).under_way

pub returns-in_ok-push-in-Some-clause-same_end : goal.returns-in_ok-push-in-Some-clause-same_end
returns-in_ok-push-in-Some-clause-same_end c = (pushed c).same_end

pub returns-in_ok-push-in-Some-clause-nearer : goal.returns-in_ok-push-in-Some-clause-nearer
returns-in_ok-push-in-Some-clause-nearer c = (pushed c).nearer

placed : (c : goal.After-pop)
    → Advanced c.args.width c.args.inputs c.args.heads.now c.args.self.now.places.items c.args.self.now.order.items c.args.pending.now.items
    c.place.new.self.places.items c.place.new.self.order.items c.pop.new.self.items
placed c =
    step_place c.args.width c.args.inputs c.args.heads.now c.args.self.now.places.items c.args.self.now.order.items c.args.pending.now.items c.len.result (c.len.result - 1)
    c.index-top.result.now c.requires.builder c.requires.under_way (omega (arith, c.args.pending.now.ok.0, c.len.ensures)) (omega (arith, c.requires.some, c.len.ensures)) refl c.index-top.ensures
    (vec_len c.args.self.now.order) c.place.new.self.places.items c.place.new.self.order.items c.pop.new.self.items c.in-None.ensures.next
    (omega (arith, c.args.self.now.order.ok.0)) c.in_ok-place-in-None.ensures.places c.in_ok-place-in-None.ensures.order
    (c.pop.ensures.rest ∙ ap (λ (m : ℕ). take (m - 1) c.args.pending.now.items) (sym c.len.ensures))

pub returns-in_ok-place-in-None-clause-under_way : goal.returns-in_ok-place-in-None-clause-under_way
returns-in_ok-place-in-None-clause-under_way c = (placed c).under_way

pub returns-in_ok-place-in-None-clause-same_end : goal.returns-in_ok-place-in-None-clause-same_end
returns-in_ok-place-in-None-clause-same_end c = (placed c).same_end

pub returns-in_ok-place-in-None-clause-nearer : goal.returns-in_ok-place-in-None-clause-nearer
returns-in_ok-place-in-None-clause-nearer c = (placed c).nearer
