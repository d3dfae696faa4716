use Rattle.std.proofs.Common.{◌≡◌, ◌+◌, length, ap, ◌∙◌, arith}
use Rattle.std.proofs.lemmas.List.{length_push}
use Rattle.attack_probes.proofs.Stacking.{unfolds_first, listed_fewer, listed_next}
use Rattle.attack_probes.proofs.listing.listed.Goals as goal

pub loop-next-init : goal.loop-next-init
loop-next-init c =
    rw (c.new-list.ensures, c.in_ok-push_uses.ensures, c.new-stack.ensures.items) (unfolds_first c.args.steps.now c.args.root.now c.requires.order)

pub loop-next-smaller : goal.loop-next-smaller
loop-next-smaller c =
    let fewer = listed_fewer c.args.steps.now c.args.root.now c.loop-next.list c.loop-next.stack.items c.pop.new.self.items c.in-Some.next
    c.requires.order c.loop-next.invariant c.in-Some.ensures.items in
    let more : length c.push.new.self ≡ length c.loop-next.list + 1 = ap length c.in_ok-push.ensures.ok ∙ length_push c.loop-next.list c.probe_of_use.result in
    omega arith

pub loop-next-preserved : goal.loop-next-preserved
loop-next-preserved c =
    rw (c.in_ok-push.ensures.ok, c.in_ok-push_uses-2.ensures, c.as_slice.ensures)
    (listed_next c.args.steps.now c.args.root.now c.loop-next.list c.loop-next.stack.items c.pop.new.self.items c.in-Some.next
    c.requires.order c.loop-next.invariant c.in-Some.ensures.items c.index-steps-next.result c.len.result c.probe_of_use.result
    c.index-steps-next.is c.len.ensures c.probe_of_use.ensures)
