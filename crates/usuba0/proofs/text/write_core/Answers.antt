use Rattle.std.proofs.Common.{refl, ◌∙◌}
use Rattle.tor_edge.proofs.Writing.{Wrote-is, Wrote-then, Wrote-stops}
use Rattle.usuba0.proofs.TextLemmas.{core_text_parts}
use Rattle.usuba0.proofs.text.write_core.Goals as goal

pub returns-in_err-put_head : goal.returns-in_err-put_head
returns-in_err-put_head g c =
    Wrote-is (core_text_parts c.args.core.now c.width.result c.inputs-inputs.result _ _ _ c.width.ensures.value c.inputs-inputs.ensures refl refl refl)
    (Wrote-stops _ c.in_err-put_head.ensures c.from_residual.ensures.0)

pub returns-in_err-put_equations : goal.returns-in_err-put_equations
returns-in_err-put_equations g c =
    Wrote-is
    (core_text_parts c.args.core.now c.width.result c.inputs-inputs.result c.from.result c.equation_slice.result.now _ c.width.ensures.value c.inputs-inputs.ensures
    (c.from.ensures ∙ c.inputs-inputs.ensures) c.equation_slice.ensures.gates refl)
    (Wrote-then c.in_ok-put_head.ensures (Wrote-stops _ c.in_err-put_equations.ensures c.from_residual-in_err-put_equations.ensures.0))

pub returns-in_err-put_text : goal.returns-in_err-put_text
returns-in_err-put_text g c =
    Wrote-is
    (core_text_parts c.args.core.now c.width.result c.inputs-inputs.result c.from.result c.equation_slice.result.now _ c.width.ensures.value c.inputs-inputs.ensures
    (c.from.ensures ∙ c.inputs-inputs.ensures) c.equation_slice.ensures.gates refl)
    (Wrote-then c.in_ok-put_head.ensures
    (Wrote-then c.in_ok-put_equations.ensures (Wrote-stops _ c.in_err-put_text.ensures.wrote c.from_residual-in_err-put_text.ensures.0)))

pub returns-in_err-put_outputs : goal.returns-in_err-put_outputs
returns-in_err-put_outputs g c =
    Wrote-is
    (core_text_parts c.args.core.now c.width.result c.inputs-inputs.result c.from.result c.equation_slice.result.now c.output_slice.result.now c.width.ensures.value
    c.inputs-inputs.ensures (c.from.ensures ∙ c.inputs-inputs.ensures) c.equation_slice.ensures.gates c.output_slice.ensures.registers)
    (Wrote-then c.in_ok-put_head.ensures
    (Wrote-then c.in_ok-put_equations.ensures
    (Wrote-then c.in_ok-put_text.ensures.wrote (Wrote-stops _ c.in_err-put_outputs.ensures c.from_residual-in_err-put_outputs.ensures.0))))

pub returns : goal.returns
returns g c =
    Wrote-is
    (core_text_parts c.args.core.now c.width.result c.inputs-inputs.result c.from.result c.equation_slice.result.now c.output_slice.result.now c.width.ensures.value
    c.inputs-inputs.ensures (c.from.ensures ∙ c.inputs-inputs.ensures) c.equation_slice.ensures.gates c.output_slice.ensures.registers)
    (Wrote-then c.in_ok-put_head.ensures
    (Wrote-then c.in_ok-put_equations.ensures
    (Wrote-then c.in_ok-put_text.ensures.wrote (Wrote-then c.in_ok-put_outputs.ensures c.put_text-2.ensures.wrote))))
