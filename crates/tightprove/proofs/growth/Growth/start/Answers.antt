use Rattle.tightprove.specs.declared.growth.Growth.{Growth}
use Rattle.tightprove.proofs.Calls.{growth_starts}
use Rattle.tightprove.proofs.growth.Growth.start.Goals as goal

pub returns-clause-growth : goal.returns-clause-growth
returns-clause-growth c =
    let growth : Growth = record { span = c.in_ok-new.field-0; rest = c.in_ok-copy.field-0; taken = c.in_ok-new-2.field-0 } in
    growth_starts c.args.classes.now.list.items c.args.candidates.now growth c.args.classes.now.columns c.count.result c.requires.columns c.in_ok-new.ensures c.in_ok-copy.ensures c.in_ok-new-2.ensures c.count.ensures
