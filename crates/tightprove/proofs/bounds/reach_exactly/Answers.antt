use Rattle.std.proofs.Common.{◌≡◌, ◌+◌, ◌-◌, ◌/◌, ℕ, List, subst, arith}
use Rattle.std.proofs.lemmas.Bool.{MatchBool-at_true, MatchBool-at_false}
use Rattle.span_model.specs.Columns.{Columns}
use Rattle.span_model.specs.Attack.{HasAttack}
use Rattle.span_model.specs.Refresh.{left_out}
use Rattle.tightprove.specs.Private.Gathered.{marks_of, beyond, HasNoLeak}
use Rattle.tightprove.proofs.Leaving.{rows_twice, gathered_same}
use Rattle.tightprove.proofs.bounds.reach_exactly.Goals as goal

pub halve-preserved-then-branch : goal.halve-preserved-then-branch
halve-preserved-then-branch c =
    let before = c.halve.invariant in
    record {
      ready = c.in_ok-leaks_below.ensures.ready;
      rows = rows_twice c.args.gathered.now c.halve.gathered c.leaks_below.new.gathered before.rows c.in_ok-leaks_below.ensures.rows;
      low = before.low;
      some = omega arith;
      high = omega (arith, before.high);
      reach = λ products is clean attack. (
        (before.reach products is clean attack).0,
        MatchBool-at_true _ _ c.if-branch.true (c.in_ok-leaks_below.ensures.answer products (gathered_same products c.args.gathered.now c.halve.gathered before.rows is)),
      );
    }

pub halve-preserved : goal.halve-preserved
halve-preserved c =
    let before = c.halve.invariant in
    record {
      ready = c.in_ok-leaks_below.ensures.ready;
      rows = rows_twice c.args.gathered.now c.halve.gathered c.leaks_below.new.gathered before.rows c.in_ok-leaks_below.ensures.rows;
      low = omega (arith, before.low);
      some = omega arith;
      high = before.high;
      reach = λ products is clean attack. (
        subst (λ (r : List (Columns ℕ)). HasNoLeak products (beyond (marks_of c.args.set.now) (c.halve.low + (c.halve.high - c.halve.low) / 2)) r) (before.rows.rows c.args.i)
            (MatchBool-at_false _ _ c.if-branch.false (c.in_ok-leaks_below.ensures.answer products (gathered_same products c.args.gathered.now c.halve.gathered before.rows is))),
        (before.reach products is clean attack).1,
      );
    }

pub returns-clause-reach : goal.returns-clause-reach
returns-clause-reach c products is clean attack =
    let found = c.halve.invariant.reach products is clean attack in
    let next : c.halve.high ≡ c.halve.low + 1 = omega (arith, c.halve.invariant.some, c.halve-test.false) in (
      found.0,
      subst (λ (b : ℕ). HasAttack (left_out (beyond (marks_of c.args.set.now) b) products)) next found.1,
    )
