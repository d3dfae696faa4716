use Rattle.std.proofs.Common.{◌-◌, length, refl}
use Rattle.c_trees.specs.State.Making as making
use Rattle.c_trees.proofs.Choosing.{before_void, at_void}
use Rattle.c_trees.proofs.Looping.{step, stop}
use Rattle.c_trees.proofs.gadgets.gadgets.Goals as goal

pub returns-in-Void : goal.returns-in-Void
returns-in-Void c =
    stop making.ends_gadgets making.gadget_of (length c.args.text.now - c.loop.counter) c.loop.made c.loop.rest.now _
    (at_void c.loop.rest.now c.first_of.result c.first_of.ensures c.in-Void.is) c.loop.invariant.so_far

pub loop-preserved : goal.loop-preserved
loop-preserved c = record {
  so_far = step making.ends_gadgets making.gadget_of (length c.args.text.now) c.loop.counter c.loop.made c.push.new.self c.loop.rest.now
      c.in_ok-item.behind.now c.in_ok-item.item _ c.loop-test.true
      (before_void c.loop.rest.now c.first_of.result c.first_of.ensures c.in_default.not-Void) c.in_ok-item.ensures c.in_ok-push.ensures.ok
      c.loop.invariant.so_far;
  end = refl;
}
