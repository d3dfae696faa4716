use Rattle.std.proofs.Common.{ap, ◌∙◌}
use Rattle.c_form.specs.MaskedForm.{calls_of}
use Rattle.c_form.specs.Template.{template}
use Rattle.c_print.specs.WordSize.{bits_of_c}
use Rattle.c_print.proofs.Parts.{IsMaskedForm-parts}
use Rattle.c_print.proofs.masked.masked_file.Goals as goal

pub returns : goal.returns
returns c =
    IsMaskedForm-parts c.args.core.now (bits_of_c c.args.word c.args.core.now.width) c.bits_for-bits.result
    c.all_ones.result c.reg_size.result c.outputs.result c.inputs.result c.in_ok-slots.slots.count
    c.in_ok-slots.slots.places c.in_ok-gadgets.gadgets c.in_ok-calls.calls c.width.ensures.core
    c.in_ok-slots.ensures.least
    (c.bits_for-bits.ensures.value ∙ ap (bits_of_c c.args.word) c.width.ensures.value)
    c.reg_size.ensures c.all_ones.ensures (c.in_ok-gadgets.ensures ∙ ap (template c.all_ones.result) c.from.ensures)
    c.outputs.ensures c.inputs.ensures c.in_ok-slots.ensures.count
    (c.in_ok-calls.ensures ∙ ap (calls_of c.args.core.now c.bits_for-bits.result) c.as_slice.ensures)
