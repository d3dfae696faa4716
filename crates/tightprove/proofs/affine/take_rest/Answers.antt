use Rattle.tightprove.proofs.Clearing.{mapped_none, mapped_cleared}
use Rattle.tightprove.proofs.affine.take_rest.Goals as goal

pub returns-then-rest-eq0 : goal.returns-then-rest-eq0
returns-then-rest-eq0 c = mapped_none c.args.rests.now

pub returns : goal.returns
returns c = mapped_cleared c.args.rest c.args.rests.now c.clear_all.new.rests c.clear_all.ensures
