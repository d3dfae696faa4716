use Rattle.std.proofs.Common.{◌-◌, length, refl, ap, ◌∙◌}
use Rattle.c_trees.specs.State.Making as making
use Rattle.c_trees.proofs.Choosing.{at_comma, past_comma}
use Rattle.c_trees.proofs.Looping.{step, stop}
use Rattle.c_trees.proofs.gadgets.more_params.Goals as goal

pub returns-in_default : goal.returns-in_default
returns-in_default c =
    stop making.ends_list making.next_param (length c.args.text.now - c.loop.counter) c.loop.made c.loop.rest.now _
    (past_comma c.loop.rest.now c.first_of.result c.first_of.ensures c.in_default.not-Comma) c.loop.invariant.so_far

pub loop-preserved : goal.loop-preserved
loop-preserved c = record {
  so_far = step making.ends_list making.next_param (length c.args.text.now) c.loop.counter c.loop.made c.push-in-loop.new.self
      c.loop.rest.now c.in_ok-item.behind.now c.in_ok-item.item _ c.loop-test.true
      (at_comma c.loop.rest.now c.first_of.result c.first_of.ensures c.in-Comma.is) (c.in_ok-item.ensures ∙ ap making.param_of c.skip.ensures) c.in_ok-push-2.ensures.ok
      c.loop.invariant.so_far;
  end = refl;
}
