use Rattle.std.proofs.Common.{◌≡◌, ◌<◌, ℕ, length, get_or, ap, ◌∙◌, arith}
use Rattle.tightprove.specs.Private.Affine.{cleared_by}
use Rattle.tightprove.proofs.Clearing.{one_cleared, others_stay, all_cleared}
use Rattle.tightprove.proofs.affine.clear_all.Goals as goal

pub loop-k-preserved : goal.loop-k-preserved
loop-k-preserved c =
    let before = c.loop-k.invariant in
    let k : ℕ = c.loop-k.k in
    let within : c.loop-k.k < length c.loop-k.rests = omega (arith, c.loop-k-test.true, c.loop-k.auto.rests) in
    let is : c.cleared.result ≡ cleared_by c.args.pivot (get_or c.args.rests.now c.loop-k.k 0) =
    c.cleared.ensures ∙ ap (cleared_by c.args.pivot) (before.others k (omega arith)) in
    record {
      done = one_cleared (cleared_by c.args.pivot) c.args.rests.now c.loop-k.rests k c.cleared.result within is before.done;
      others = others_stay c.args.rests.now c.loop-k.rests k c.cleared.result before.others;
    }

pub returns : goal.returns
returns c =
    all_cleared (cleared_by c.args.pivot) c.args.rests.now c.loop-k.rests c.loop-k.k c.loop-k.auto.rests (omega (arith, c.loop-k-test.false, c.loop-k.auto.rests))
    c.loop-k.invariant.done
