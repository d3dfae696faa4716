use Rattle.usuba0.proofs.StartLemmas.{start_walk}
use Rattle.usuba0.proofs.finish.Walk.start.Goals as goal

pub returns-clause-walk : goal.returns-clause-walk
returns-clause-walk c = start_walk c.args.width c.args.inputs c.args.heads.now _ _ c.requires c.in_ok-input_places.ensures c.new.ensures.items
