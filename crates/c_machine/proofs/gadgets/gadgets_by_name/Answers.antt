use Rattle.std.proofs.Common.{◌≡◌, ◌-◌, ◌+◌, drop, arith, subst}
use Rattle.c_machine.specs.State.Gadgets.{Finds, gadget_at}
use Rattle.c_machine.proofs.Found.{found-more}
use Rattle.c_machine.proofs.gadgets.gadgets_by_name.Goals as goal

pub loop-k-preserved : goal.loop-k-preserved
loop-k-preserved c =
    let k = c.loop-k.k - 1 in
    let next : c.loop-k.k ≡ k + 1 = omega (arith, c.loop-k-test.true) in
    found-more c.args.gadgets.now k c.index-gadgets-k.result
    (gadget_at c.loop-k.found) (gadget_at c.keep_gadget.new.found)
    (omega (arith, c.loop-k-test.true, c.loop-k.auto.k)) c.index-gadgets-k.is
    (subst (λ n. Finds c.loop-k.found (drop n c.args.gadgets.now)) next c.loop-k.invariant)
    c.in_ok-keep_gadget.ensures
