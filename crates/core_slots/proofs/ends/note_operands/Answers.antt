use Rattle.std.proofs.Common.{[]}
use Rattle.core_slots.specs.State.Ends.{numbers}
use Rattle.core_slots.proofs.Noting.{AreEnds-next}
use Rattle.core_slots.proofs.ends.note_operands.Goals as goal

pub returns-clause-noted : goal.returns-clause-noted
returns-clause-noted c =
    λ groups last are.
    c.note_operand-2.ensures.noted groups (numbers c.args.operands.first) last
    (c.note_operand.ensures.noted groups [] last (AreEnds-next c.args.inputs groups c.args.ends.now.items are))
