use Rattle.std.proofs.Common.{◌<◌, ◌≤◌, ℕ, List, length, get_or, sym, subst, arith}
use Rattle.span_model.specs.Columns.{Columns}
use Rattle.span_model.specs.Attack.{Product}
use Rattle.tightprove.specs.Private.Gathered.{marks_of, beyond, rows_in, HasNoLeak, IsGatheredOf}
use Rattle.tightprove.specs.Private.Bounds.{IsCleanTo, AreStuck, IsRestBound}
use Rattle.tightprove.proofs.Leaving.{rows_twice, gathered_same}
use Rattle.tightprove.proofs.Raising.{rest_bounds, rest_stuck, behind}
use Rattle.tightprove.proofs.bounds.raise_rest.Goals as goal

pub loop-i-preserved : goal.loop-i-preserved
loop-i-preserved c =
    let before = c.loop-i.invariant in
    let set = marks_of c.args.set.now in
    let within : c.loop-i.i < length c.loop-i.bounds = omega (arith, c.loop-i-test.true, c.loop-i.auto.bounds) in
    let inside : c.loop-i.i < length c.args.gathered.now.classes.list.items = omega (arith, c.loop-i-test.true, c.loop-i.auto.bounds, c.requires.count) in
    let found : (products : List (Product ℕ)) → IsGatheredOf products c.args.gathered.now → IsCleanTo products set c.args.gathered.now c.args.m
    → AreStuck products set c.args.gathered.now c.args.m (length c.args.set.now) c.args.bounds.now
    → IsRestBound products set (rows_in c.loop-i.gathered c.loop-i.i) (get_or c.loop-i.bounds c.loop-i.i 0) c.args.m c.in_ok-bounds.field-0 =
    λ products is clean stuck.
    c.in_ok-bounds.ensures.bound products (gathered_same products c.args.gathered.now c.loop-i.gathered before.rows is)
    (subst (λ (r : List (Columns ℕ)). HasNoLeak products (beyond set c.args.m) r) (sym (before.rows.rows c.loop-i.i)) (clean c.loop-i.i inside))
    (λ low. stuck c.loop-i.i inside (subst (λ (b : ℕ). b ≤ c.args.m) (before.behind c.loop-i.i (omega arith)) low)) in
    record {
      ready = c.in_ok-bounds.ensures.ready;
      rows = rows_twice c.args.gathered.now c.loop-i.gathered c.rest_bound.new.gathered before.rows c.in_ok-bounds.ensures.rows;
      behind = behind c.loop-i.bounds c.args.bounds.now c.loop-i.i c.in_ok-bounds.field-0 before.behind;
      bounds = λ products is clean stuck old.
          rest_bounds products set c.args.gathered.now (rows_in c.loop-i.gathered c.loop-i.i) c.loop-i.i c.args.m c.in_ok-bounds.field-0 c.loop-i.bounds
          (before.rows.rows c.loop-i.i) within (found products is clean stuck) clean (before.bounds products is clean stuck old);
      stuck = λ products is clean stuck.
          rest_stuck products set (rows_in c.loop-i.gathered c.loop-i.i) c.loop-i.i c.args.m c.in_ok-bounds.field-0 c.loop-i.bounds within
          (found products is clean stuck) (before.stuck products is clean stuck);
    }
