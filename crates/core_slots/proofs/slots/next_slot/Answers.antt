use Rattle.std.proofs.Common.{arith}
use Rattle.core_slots.proofs.Allotting.{taken-le}
use Rattle.core_slots.proofs.slots.next_slot.Goals as goal

pub overflow_add-slot : goal.overflow_add-slot
overflow_add-slot c =
    let le = taken-le c.args.core.now c.args.allotment.now.places.items c.args.allotment.now.count
    c.take_slot-slot.result
    _ _ c.requires.allotted c.take_slot-slot.ensures in
    omega arith
