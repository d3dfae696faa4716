use Rattle.std.proofs.Common.{Err, refl, ◌∙◌, ap}
use Rattle.data_text.specs.declared.fault.ValueFault.TheVariants as value_fault
use Rattle.usuba0.specs.Term.{bits_of_width}
use Rattle.tornado_main.specs.commands.Eval.{IsFaultyInputs, syntax, out_of_range}
use Rattle.tornado_main.specs.declared.status.Status.TheVariants.{Values}
use Rattle.tornado_main.proofs.RefusedLemmas.{refused_for}
use Rattle.tornado_main.proofs.EvalLemmas.{of_core, syntax_is, range_is}
use Rattle.tornado_main.proofs.commands.evaluate.inputs_of_bytes.Goals as goal

pub returns-in-Err-Syntax-clause-refused : goal.returns-in-Err-Syntax-clause-refused
returns-in-Err-Syntax-clause-refused c =
    refused_for Values c.args.name.now (λ f. IsFaultyInputs c.args.core.now f c.args.bytes.now) _ _ c.faulty_line.ensures refl
    (syntax c.args.bytes.now c.in-Err-Syntax.line
    (of_core c.args.core.now c.inputs.result c.word_bits.result c.args.bytes.now (Err (value_fault.Syntax c.in-Err-Syntax.line)) c.inputs.ensures
    (c.word_bits.ensures ∙ ap bits_of_width c.width.ensures.value)
    (syntax_is _ _ _ (c.in-Err-Syntax.is ∙ ap Err c.in-Err-Syntax.field-0-is) c.read_values.ensures.said)))

pub returns-in-Err-OutOfRange-clause-refused : goal.returns-in-Err-OutOfRange-clause-refused
returns-in-Err-OutOfRange-clause-refused c =
    refused_for Values c.args.name.now (λ f. IsFaultyInputs c.args.core.now f c.args.bytes.now) _ _ c.faulty_line-in-Err-OutOfRange.ensures refl
    (out_of_range c.args.bytes.now c.in-Err-OutOfRange.line
    (of_core c.args.core.now c.inputs.result c.word_bits.result c.args.bytes.now (Err (value_fault.OutOfRange c.in-Err-OutOfRange.line))
    c.inputs.ensures (c.word_bits.ensures ∙ ap bits_of_width c.width.ensures.value)
    (range_is _ _ _ (c.in-Err-OutOfRange.is ∙ ap Err c.in-Err-OutOfRange.field-0-is) c.read_values.ensures.said)))
