use Rattle.std.proofs.Common.{◌<◌, length, arith}
use Rattle.tightprove.specs.Private.Gathered.{marks_of}
use Rattle.tightprove.proofs.Raising.{clean_bounds, clean_stuck}
use Rattle.tightprove.proofs.bounds.raise_clean.Goals as goal

pub loop-i-preserved : goal.loop-i-preserved
loop-i-preserved c =
    let set = marks_of c.args.set.now in
    let all = length c.args.set.now in
    let within : c.loop-i.i < length c.loop-i.bounds = omega (arith, c.loop-i-test.true, c.loop-i.auto.bounds) in
    record {
      known = c.in_ok-bounds.ensures.known;
      bounds = λ products is old.
          clean_bounds c.leaks_are_closed.ensures products set c.args.gathered.now c.leave_out.new.self c.loop-i.i c.args.m all c.in_ok-bounds.field-0 c.loop-i.bounds
          c.in_ok-leave_out.ensures.rows (c.in_ok-leave_out.ensures.products products is) within c.in_ok-bounds.ensures.bound (c.loop-i.invariant.bounds products is old);
      stuck = λ products is high.
          clean_stuck c.leaks_are_closed.ensures products set c.args.gathered.now c.leave_out.new.self c.loop-i.i c.args.m all c.in_ok-bounds.field-0 c.loop-i.bounds
          c.in_ok-leave_out.ensures.rows (c.in_ok-leave_out.ensures.products products is) within c.in_ok-bounds.ensures.bound high (c.loop-i.invariant.stuck products is high);
    }
