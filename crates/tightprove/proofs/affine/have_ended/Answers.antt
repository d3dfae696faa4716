use Rattle.std.proofs.Common.{List}
use Rattle.tightprove.specs.Private.Affine.{HasEnded}
use Rattle.tightprove.specs.declared.class.Class.{Class}
use Rattle.tightprove.proofs.Calls.{of_true}
use Rattle.tightprove.proofs.Imaging.{more_than}
use Rattle.tightprove.proofs.affine.have_ended.Goals as goal

pub loop-k-preserved : goal.loop-k-preserved
loop-k-preserved c =
    let classes : List Class = c.args.classes.now.list.items in
    more_than (λ k. HasEnded classes c.args.rests.now c.args.i k) c.loop-k.k c.loop-k.invariant
    (of_true c.has_ended.result _ c.if-not-has_ended.false c.has_ended.ensures)
