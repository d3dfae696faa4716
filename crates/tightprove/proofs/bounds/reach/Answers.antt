use Rattle.std.proofs.Common.{◌≡◌, ◌+◌, ℕ, Bool, List, sym, subst, arith}
use Rattle.std.proofs.lemmas.Bool.{MatchBool-at_true, MatchBool-at_false}
use Rattle.span_model.specs.Columns.{Columns}
use Rattle.span_model.specs.Attack.{HasAttack}
use Rattle.span_model.specs.Refresh.{left_out}
use Rattle.tightprove.specs.Private.Gathered.{marks_of, beyond, rows_in, HasNoLeak}
use Rattle.tightprove.proofs.Calls.{of_true}
use Rattle.tightprove.proofs.Leaving.{rows_twice, gathered_same}
use Rattle.tightprove.proofs.bounds.reach.Goals as goal

pub returns-then-told-high-clause-reach : goal.returns-then-told-high-clause-reach
returns-then-told-high-clause-reach c products is clean attack = (
  c.in_ok-told.ensures.clean products is clean,
  (let next : c.args.high ≡ c.in_ok-told.told + 1 = omega arith in
      subst (λ (b : ℕ). HasAttack (left_out (beyond (marks_of c.args.set.now) b) products)) next attack),
)

pub returns-then-branch-clause-reach : goal.returns-then-branch-clause-reach
returns-then-branch-clause-reach c products is clean attack = (
  c.in_ok-told.ensures.clean products is clean,
  of_true c.in_ok-leaks_by.field-0 _ c.if-branch.true c.in_ok-leaks_by.ensures products is,
)

pub returns-then-branch-2-clause-reach : goal.returns-then-branch-2-clause-reach
returns-then-branch-2-clause-reach c products is clean attack = (
  c.in_ok-told.ensures.clean products is clean,
  MatchBool-at_true _ _ c.if-branch-2.true (c.in_ok-leaks_below.ensures.answer products is),
)

pub returns-clause-reach : goal.returns-clause-reach
returns-clause-reach c products is clean attack =
    let set : ℕ → Bool = marks_of c.args.set.now in
    let told : ℕ = c.in_ok-told.told in
    let after = c.leaks_below.new.gathered in
    let rows = c.in_ok-leaks_below.ensures.rows in
    let below : HasNoLeak products (beyond set (c.in_ok-told.told + 1)) (rows_in c.args.gathered.now c.args.i) =
    MatchBool-at_false _ _ c.if-branch-2.false (c.in_ok-leaks_below.ensures.answer products is) in
    let found =
    c.in_ok-reached.ensures.reach products (gathered_same products c.args.gathered.now after rows is)
    (subst (λ (r : List (Columns ℕ)). HasNoLeak products (beyond set (told + 1)) r) (sym (rows.rows c.args.i)) below) attack in (
      subst (λ (r : List (Columns ℕ)). HasNoLeak products (beyond set c.in_ok-reached.reached) r) (rows.rows c.args.i) found.0,
      found.1,
    )

pub returns-clause-rows : goal.returns-clause-rows
returns-clause-rows c =
    rows_twice c.args.gathered.now c.leaks_below.new.gathered c.reach_exactly.new.gathered c.in_ok-leaks_below.ensures.rows c.in_ok-reached.ensures.rows
