use Rattle.std.proofs.Common.{◌≡◌, ◌+◌, inl, inr, ℕ, Bool, subst, arith}
use Rattle.std.proofs.lemmas.Bool.{cases_lt}
use Rattle.span_model.specs.Attack.{HasAttack}
use Rattle.span_model.specs.Refresh.{left_out}
use Rattle.tightprove.specs.Private.Gathered.{marks_of, beyond}
use Rattle.tightprove.proofs.bounds.rest_bound.Goals as goal

pub returns-clause-bound : goal.returns-clause-bound
returns-clause-bound c products is clean attack =
    let set : ℕ → Bool = marks_of c.args.set.now in
    let found = c.in_ok-reached.ensures.reach products is clean (attack c.if-bound-m.false) in
    elim (cases_lt c.args.m c.in_ok-reached.reached) [
      | inl more ↦ inr (inl (more, found.0))
      | inr most ↦
          let same : c.in_ok-reached.reached ≡ c.args.m = omega (arith, c.in_ok-reached.ensures.within) in
          inr (inr (same, subst (λ (b : ℕ). HasAttack (left_out (beyond set (b + 1)) products)) same found.1))
    ]
