use Rattle.std.proofs.Common.{◌≡◌, ℕ, List, [], ◌∷◌, ◌++◌, ap, ◌∙◌, true≢false, sym}
use Rattle.usuba0.specs.State.Walk.{order_at_end}
use Rattle.usuba0.proofs.AdvanceLemmas.{placed_end, start_under_way}
use Rattle.usuba0.proofs.finish.Walk.visit.Goals as goal

pub returns-then-is_placed-clause-order : goal.returns-then-is_placed-clause-order
returns-then-is_placed-clause-order c =
    placed_end c.args.width c.args.inputs c.args.heads.now c.args.self.now.places.items c.args.self.now.order.items c.args.term c.requires.builder c.requires.walk c.requires.held
    (c.is_placed.ensures.0 c.if-is_placed.true)

one_waits : (c : goal.In_ok-push) → c.push.new.self.items ≡ c.args.term ∷ []
one_waits c = c.in_ok-push.ensures.items ∙ ap (λ (l : List ℕ). l ++ c.args.term ∷ []) c.new-pending.ensures.items

pub loop-self-init : goal.loop-self-init
loop-self-init c =
    record {
      under =
          start_under_way c.args.width c.args.inputs c.args.heads.now c.args.self.now.places.items c.args.self.now.order.items _ c.args.term c.requires.builder c.requires.walk
          c.requires.held (λ p. true≢false (sym (c.is_placed.ensures.1 p) ∙ c.if-is_placed.false)) (one_waits c);
      same = ap (order_at_end c.args.inputs c.args.heads.now c.args.self.now.order.items) (one_waits c);
    }
