use Rattle.usuba_types.proofs.Deciding.{passed-entry}
use Rattle.usuba_types.proofs.judging.judge_passed.Goals as goal

pub later_fault-requires-clause-entry : goal.later_fault-requires-clause-entry
later_fault-requires-clause-entry c =
    passed-entry c.requires.asked_width c.requires.asked_entry c.args.file c.args.width c.args.entry c.requires.passed
