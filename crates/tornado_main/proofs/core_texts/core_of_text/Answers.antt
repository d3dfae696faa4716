use Rattle.std.proofs.Common.{Err, refl, ◌∙◌, ap}
use Rattle.tornado_main.specs.CoreText.{IsFaultyCoreText, syntax, out_of_range, past_limit}
use Rattle.tornado_main.specs.declared.status.Status.TheVariants.{Source}
use Rattle.tornado_main.proofs.RefusedLemmas.{refused_for}
use Rattle.tornado_main.proofs.CoreTextLemmas.{text_syntax_is, text_range_is, text_limit_is, text_of_core}
use Rattle.tornado_main.proofs.core_texts.core_of_text.Goals as goal

pub returns-in-Ok-clause-core : goal.returns-in-Ok-clause-core
returns-in-Ok-clause-core c =
    text_of_core c.read_is_written.ensures c.args.bytes.now c.read_core.result c.in-Ok.core c.in-Ok.is c.read_core.ensures

pub returns-in-Err-Syntax-clause-refused : goal.returns-in-Err-Syntax-clause-refused
returns-in-Err-Syntax-clause-refused c =
    refused_for Source c.args.name.now (λ f. IsFaultyCoreText f c.args.bytes.now) _ _ c.faulty_line.ensures refl
    (syntax c.args.bytes.now c.in-Err-Syntax.line (text_syntax_is _ _ _ (c.in-Err-Syntax.is ∙ ap Err c.in-Err-Syntax.field-0-is) c.read_core.ensures))

pub returns-in-Err-OutOfRange-clause-refused : goal.returns-in-Err-OutOfRange-clause-refused
returns-in-Err-OutOfRange-clause-refused c =
    refused_for Source c.args.name.now (λ f. IsFaultyCoreText f c.args.bytes.now) _ _ c.faulty_line-in-Err-OutOfRange.ensures refl
    (out_of_range c.args.bytes.now c.in-Err-OutOfRange.line (text_range_is _ _ _ (c.in-Err-OutOfRange.is ∙ ap Err c.in-Err-OutOfRange.field-0-is) c.read_core.ensures))

pub returns-in-Err-Limit-clause-refused : goal.returns-in-Err-Limit-clause-refused
returns-in-Err-Limit-clause-refused c =
    refused_for Source c.args.name.now (λ f. IsFaultyCoreText f c.args.bytes.now) _ _ c.faulty_file.ensures refl
    (past_limit c.args.bytes.now (text_limit_is _ _ (c.in-Err-Limit.is ∙ ap Err c.in-Err-Limit.field-0-is) c.read_core.ensures))
