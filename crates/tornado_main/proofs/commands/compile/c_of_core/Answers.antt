use Rattle.std.proofs.Common.{sym, ◌∙◌, subst}
use Rattle.tornado_main.specs.Ending.{Stops}
use Rattle.tornado_main.specs.commands.Compile.{IsCompiled, other_width}
use Rattle.tornado_main.proofs.commands.compile.c_of_core.Goals as goal

pub returns-then-width-ne1-clause-refused : goal.returns-then-width-ne1-clause-refused
returns-then-width-ne1-clause-refused c =
    subst (Stops (IsCompiled c.args.file.now c.args.word c.args.core.now)) (sym c.faulty_file.ensures)
    (other_width (sym c.is_some.ensures ∙ c.if-is_some.true) (λ one. c.if-width-ne1.true (c.width.ensures.value ∙ one)))
