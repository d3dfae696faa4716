use Rattle.std.proofs.Common.{Err, refl, ◌∙◌, ap}
use Rattle.tornado_main.specs.commands.Run.{IsFaultyRun, out_of_range}
use Rattle.tornado_main.specs.commands.Run as run
use Rattle.tornado_main.specs.declared.status.Status.TheVariants.{Values}
use Rattle.tornado_main.proofs.RefusedLemmas.{refused_for}
use Rattle.tornado_main.proofs.RunCLemmas.{run_syntax_is, run_range_is}
use Rattle.tornado_main.proofs.commands.print_shares.values_of_bytes.Goals as goal

pub returns-in-Err-Syntax-clause-refused : goal.returns-in-Err-Syntax-clause-refused
returns-in-Err-Syntax-clause-refused c =
    refused_for Values c.args.name.now (λ f. IsFaultyRun c.args.file.now f c.args.bytes.now) _ _ c.faulty_line.ensures refl
    (run.syntax c.args.bytes.now c.in-Err-Syntax.line (run_syntax_is _ _ _ (c.in-Err-Syntax.is ∙ ap Err c.in-Err-Syntax.field-0-is) c.read_run.ensures.said))

pub returns-in-Err-OutOfRange-clause-refused : goal.returns-in-Err-OutOfRange-clause-refused
returns-in-Err-OutOfRange-clause-refused c =
    refused_for Values c.args.name.now (λ f. IsFaultyRun c.args.file.now f c.args.bytes.now) _ _ c.faulty_line-in-Err-OutOfRange.ensures refl
    (out_of_range c.args.bytes.now c.in-Err-OutOfRange.line (run_range_is _ _ _ (c.in-Err-OutOfRange.is ∙ ap Err c.in-Err-OutOfRange.field-0-is) c.read_run.ensures.said))
