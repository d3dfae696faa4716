use Rattle.ll_reader.proofs.Once.{begun_once, whole_once}
use Rattle.ll_reader.proofs.laws.steps_are_determined.Goals as goal

pub returns-clause-begun : goal.returns-clause-begun
returns-clause-begun c = begun_once c.args._table.now c.args._frame c.requires

pub returns-clause-whole : goal.returns-clause-whole
returns-clause-whole c = whole_once c.args._table.now c.args._frame c.requires
