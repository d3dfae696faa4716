use Rattle.core_slots.proofs.Noting.{AreEnds-operand}
use Rattle.core_slots.proofs.ends.note_operand.Goals as goal

pub returns-in-Some-clause-noted : goal.returns-in-Some-clause-noted
returns-in-Some-clause-noted c =
    λ groups part last are.
    AreEnds-operand c.args.inputs c.args.place c.args.operand c.in-Some.register groups part c.args.ends.now.items
    c.note.new.ends.items c.in-Some.is last are c.note.ensures.noted c.note.ensures.count
