use Rattle.tightprove.proofs.Taking.{own_at}
use Rattle.tightprove.proofs.growth.take_if_meets.Goals as goal

pub meets_outside-requires-clause-own : goal.meets_outside-requires-clause-own
meets_outside-requires-clause-own c =
    own_at c.args.classes.now.columns c.args.classes.now.list.items c.args.i c.index.result.now c.as_slice.result.now c.requires.classes.classes c.requires.i c.index.ensures c.as_slice.ensures
