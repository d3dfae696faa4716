use Rattle.std.proofs.Common.{◌≡◌, ◌+◌, length, refl, arith}
use Rattle.std.specs.Prelude.{nat_le}
use Rattle.tightprove.specs.Private.Gathered.{marks_of}
use Rattle.tightprove.specs.Private.Bounds.{class_count}
use Rattle.tightprove.proofs.Leaving.{gathered_same}
use Rattle.tightprove.proofs.Settling.{clean_above, goes_answer, clean_same, bounds_same, bounds_back, stuck_same, stuck_back}
use Rattle.tightprove.proofs.leaving_out.must_go.Goals as goal

pub returns-then-m-least-clause-answer : goal.returns-then-m-least-clause-answer
returns-then-m-least-clause-answer c products is clean are =
    clean_above c.attack_carries_over.ensures products (marks_of c.args.set.now) c.args.gathered.now c.args.m c.args.bounds.now are
    (λ i h. omega (arith, c.if-m-least.true, c.requires.least.lower i (omega (arith, h, c.requires.count))))

pub returns-clause-bounds : goal.returns-clause-bounds
returns-clause-bounds c products is clean old =
    let set = marks_of c.args.set.now in
    let before = c.args.gathered.now in
    let after = c.raise_clean.new.gathered in
    let rows = c.in_ok-raise_clean.ensures.rows in
    bounds_back products set before after c.raise_rest.new.bounds rows
    (c.in_ok-raise_rest.ensures.bounds products (gathered_same products before after rows is) (clean_same products set before after c.args.m rows clean)
    (stuck_same products set before after c.args.m (length c.args.set.now) c.raise_clean.new.bounds rows (c.in_ok-raise_clean.ensures.stuck products is c.requires.within))
    (bounds_same products set before after c.raise_clean.new.bounds rows (c.in_ok-raise_clean.ensures.bounds products is old)))

pub returns-clause-answer : goal.returns-clause-answer
returns-clause-answer c products is clean old =
    let set = marks_of c.args.set.now in
    let before = c.args.gathered.now in
    let after = c.raise_clean.new.gathered in
    let rows = c.in_ok-raise_clean.ensures.rows in
    let same = gathered_same products before after rows is in
    let clean_after = clean_same products set before after c.args.m rows clean in
    let stuck_after = stuck_same products set before after c.args.m (length c.args.set.now) c.raise_clean.new.bounds rows (c.in_ok-raise_clean.ensures.stuck products is c.requires.within) in
    let bounds_after = bounds_same products set before after c.raise_clean.new.bounds rows (c.in_ok-raise_clean.ensures.bounds products is old) in
    let count : length c.raise_rest.new.bounds ≡ class_count before = omega (arith, c.raise_rest.auto.bounds, c.raise_clean.auto.bounds, c.requires.count) in
    goes_answer c.attack_carries_over.ensures products set before c.args.m (length c.args.set.now) c.least_of.result c.raise_rest.new.bounds (nat_le c.least_of.result c.args.m) refl
    c.least_of.ensures c.requires.within count
    (stuck_back products set before after c.args.m (c.args.m + 1) c.raise_rest.new.bounds rows (c.in_ok-raise_rest.ensures.stuck products same clean_after stuck_after))
    (bounds_back products set before after c.raise_rest.new.bounds rows (c.in_ok-raise_rest.ensures.bounds products same clean_after stuck_after bounds_after))
