use Rattle.std.proofs.Common.{◌-◌, length, refl}
use Rattle.c_trees.specs.State.Making as making
use Rattle.c_trees.proofs.Choosing.{goes_on, is_closed}
use Rattle.c_trees.proofs.Looping.{step, stop}
use Rattle.c_trees.proofs.calls.calls.Goals as goal

pub returns-in-Close : goal.returns-in-Close
returns-in-Close c =
    stop making.closes making.call_of (length c.args.text.now - c.loop.counter) c.loop.made c.loop.rest.now _
    (is_closed c.loop.rest.now c.first_of.result c.first_of.ensures c.in-Close.is) c.loop.invariant.so_far

pub loop-preserved : goal.loop-preserved
loop-preserved c = record {
  so_far = step making.closes making.call_of (length c.args.text.now) c.loop.counter c.loop.made c.push.new.self c.loop.rest.now
      c.in_ok-item.behind.now c.in_ok-item.item _ c.loop-test.true
      (goes_on c.loop.rest.now c.first_of.result c.first_of.ensures c.in_default.not-Close) c.in_ok-item.ensures c.in_ok-push.ensures.ok
      c.loop.invariant.so_far;
  end = refl;
}
