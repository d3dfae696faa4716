use Rattle.std.proofs.Common.{◌<◌, length, arith}
use Rattle.attack_probes.specs.declared.listing.TheConstants.{MANY}
use Rattle.attack_probes.proofs.Counting.{step_uses_below, counts_more}
use Rattle.attack_probes.proofs.listing.counts_of.Goals as goal

pub count_of_uses-below-requires : goal.count_of_uses-below-requires
count_of_uses-below-requires c =
    let within : c.loop-step.step-index < length c.args.steps.now = omega arith in
    let below = step_uses_below c.args.steps.now c.loop-step.step-index c.step-item.result c.requires within c.step-item.is in
    rw (c.as_slice-in-loop-step.ensures, c.as_slice.ensures.value, c.loop-step.invariant.each) below

pub loop-step-preserved : goal.loop-step-preserved
loop-step-preserved c =
    let within : c.loop-step.step-index < length c.args.steps.now = omega arith in
    rw c.in_ok-push.ensures.items
    (counts_more MANY c.args.steps.now c.loop-step.counts.items c.loop-step.step-index c.step-item.result c.count_of_uses-below.result c.min.result
    c.requires within c.step-item.is c.loop-step.invariant
    (rw (c.as_slice.ensures.value, c.as_slice-in-loop-step.ensures) at c.count_of_uses-below.ensures)
    c.min.ensures)
