use Rattle.std.proofs.Common.{◌≡◌, ◌∙◌, ◌<◌, ◌+◌, ◌++◌, ℕ, List, length, take, drop, set, sym, ap, subst, arith}
use Rattle.std.proofs.lemmas.List.{take_at, length-replicate, length-set}
use Rattle.linear_view.specs.View.{products_of}
use Rattle.tightprove.specs.Private.Gathered.{marks_of}
use Rattle.tightprove.specs.Private.Bounds.{IsSettled}
use Rattle.tightprove.proofs.Leaving.{rows_twice}
use Rattle.tightprove.proofs.Raising.{least_same}
use Rattle.tightprove.proofs.Settling.{settled_start, settled_all, goes_step, rows_itself}
use Rattle.tightprove.proofs.leaving_out.least_left_out.Goals as goal

pub loop-m-init : goal.loop-m-init
loop-m-init c =
    let bounds = c.in_ok-bounds.ensures.items_if_clones_equal (λ y h. h) in
    let marks = c.in_ok-set.ensures.items_if_clones_equal (λ y h. h) in
    record {
      ready = c.in_ok-gathered.ensures.ready;
      rows = rows_itself c.in_ok-gathered.gathered;
      count = ap length bounds ∙ length-replicate _ _ ∙ omega (arith, c.len.ensures);
      marks = ap length marks ∙ length-replicate _ _ ∙ omega (arith, c.len-2.ensures);
      least = least_same c.deref.result.now c.in_ok-bounds.bounds.items c.len-3.result (length c.in_ok-set.set.items) c.least_of-least.result
          c.deref.ensures.value (omega (arith, c.len-3.ensures, c.in_ok-set.set.ok.0)) c.least_of-least.ensures;
      settled = settled_start c.leaks_are_closed.ensures (products_of c.args.view.now) c.in_ok-gathered.gathered _ _ c.in_ok-set.set.items c.in_ok-bounds.bounds.items marks bounds;
    }

pub must_go-requires-clause-least : goal.must_go-requires-clause-least
must_go-requires-clause-least c =
    least_same c.loop-m.bounds.items c.as_mut_slice.result.now (length c.loop-m.set.items) (length c.as_slice.result.now) c.loop-m.least
    (sym c.as_mut_slice.ensures.value) (ap length (sym c.as_slice.ensures.value)) c.loop-m.invariant.least

pub loop-m-preserved : goal.loop-m-preserved
loop-m-preserved c =
    let before = c.loop-m.invariant in
    let first = c.in_ok-gathered.gathered in
    let m = c.loop-m.m in
    let written : take c.loop-m.bounds.len (c.must_go.new.bounds ++ drop (length c.must_go.new.bounds) c.loop-m.bounds.items) ≡ c.must_go.new.bounds =
    take_at c.must_go.new.bounds _ c.loop-m.bounds.len (omega (arith, c.must_go.auto.bounds, c.as_mut_slice.ensures.len)) in
    let within : m < length c.loop-m.set.items =
    omega (arith, c.loop-m-test.true, before.marks, c.len-m-end.ensures, ap (λ v. length v.items) before.rows.places) in
    record {
      ready = c.in_ok-goes.ensures.ready;
      rows = rows_twice first c.loop-m.gathered c.must_go.new.gathered before.rows c.in_ok-goes.ensures.rows;
      count = ap length written ∙ omega (arith, c.must_go.auto.bounds, c.as_mut_slice.ensures.len, before.count, c.in_ok-goes.ensures.rows.count);
      marks = length-set c.loop-m.set.items m c.in_ok-goes.goes ∙ before.marks ∙ sym (ap (λ v. length v.items) c.in_ok-goes.ensures.rows.places);
      least = least_same c.must_go.new.bounds _ (length c.as_slice.result.now) _ c.must_go.new.least (sym written)
          (ap length c.as_slice.ensures.value ∙ sym (length-set c.loop-m.set.items m c.in_ok-goes.goes)) c.in_ok-goes.ensures.least;
      settled = subst (λ (l : List ℕ). IsSettled (products_of c.args.view.now) first (m + 1) (marks_of (set c.loop-m.set.items m c.in_ok-goes.goes)) l) (sym written)
          (goes_step c.attack_carries_over.ensures (products_of c.args.view.now) first c.loop-m.gathered m c.loop-m.set.items c.as_slice.result.now c.loop-m.bounds.items
          c.as_mut_slice.result.now c.must_go.new.bounds c.in_ok-goes.goes before.rows c.in_ok-gathered.ensures.products c.as_slice.ensures.value c.as_mut_slice.ensures.value
          before.settled within (c.in_ok-goes.ensures.bounds (products_of c.args.view.now)) (c.in_ok-goes.ensures.answer (products_of c.args.view.now)));
    }

pub returns-clause-least : goal.returns-clause-least
returns-clause-least c =
    settled_all c.leaks_are_closed.ensures c.attack_carries_over.ensures (products_of c.args.view.now) c.in_ok-gathered.gathered c.loop-m.m (marks_of c.loop-m.set.items)
    c.loop-m.bounds.items c.in_ok-gathered.ensures.products c.loop-m.invariant.settled
    (omega (arith, c.loop-m-test.false, c.loop-m.auto.m-end, c.len-m-end.ensures, c.in_ok-gathered.ensures.products.count))
