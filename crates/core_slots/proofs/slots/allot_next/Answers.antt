use Rattle.std.proofs.Common.{◌≡◌, [], ◌∷◌, ◌+◌, ◌<◌, length, ap, ◌∙◌, arith}
use Rattle.std.proofs.lemmas.List.{length-append}
use Rattle.std.proofs.lemmas.List.Elements.{All-same, All-weaker}
use Rattle.std.proofs.lemmas.Result.{on_ok_weaker}
use Rattle.c_form.specs.Slots.{operands}
use Rattle.core_slots.proofs.Allotting.{AreAllotted-step}
use Rattle.core_slots.proofs.slots.allot_next.Goals as goal

pub release_operands-requires-clause-registers : goal.release_operands-requires-clause-registers
release_operands-requires-clause-registers c =
    let places = c.args.allotment.now.places.items in
    let inputs : c.inputs.result ≡ c.args.core.now.inputs = c.inputs.ensures in
    let long : length c.as_slice.result.now ≡ length places + 1
    = ap length (c.as_slice.ensures.value ∙ c.in_ok-slot.ensures.places)
    ∙ length-append places (c.in_ok-slot.slot ∷ []) in
    All-weaker (λ r. r < c.args.core.now.inputs + length places)
    (λ r. r < c.inputs.result + length c.as_slice.result.now)
    (λ r below. omega arith) _
    (All-same (λ r. r < c.args.core.now.inputs + length places) _ (operands c.args.gate.now) c.of.ensures
    c.requires.registers)

pub returns-clause-allotted : goal.returns-clause-allotted
returns-clause-allotted c =
    on_ok_weaker c.release_unread.result
    (λ own.
    AreAllotted-step c.args.core.now c.args.allotment.now.places.items c.args.ends.now c.as_slice.result.now
    c.next_slot.new.allotment.places.items _ c.args.allotment.now.count c.in_ok-slot.slot c.len-place.result
    c.inputs.result c.next_slot.new.allotment.count _ _ _ _ c.args.gate.now
    (omega arith) c.inputs.ensures c.of.ensures (c.as_slice.ensures.value ∙ c.in_ok-slot.ensures.places)
    c.in_ok-slot.ensures.places c.in_ok-slot.ensures.count c.requires.allotted c.in_ok-slot.ensures.taken
    c.requires.ends
    c.requires.within c.requires.here c.requires.registers c.in_ok-release_operands.ensures own)
    c.release_unread.ensures
