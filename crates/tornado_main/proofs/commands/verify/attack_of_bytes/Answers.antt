use Rattle.std.proofs.Common.{Err, refl, ◌∙◌, ap}
use Rattle.tornado_main.specs.commands.Verify.{IsFaultyAttack, syntax, out_of_range, other_core}
use Rattle.tornado_main.specs.declared.status.Status.TheVariants.{Values}
use Rattle.tornado_main.proofs.RefusedLemmas.{refused_for, syntax_is, range_is, core_is}
use Rattle.tornado_main.proofs.commands.verify.attack_of_bytes.Goals as goal

pub returns-in-Err-Syntax-clause-refused : goal.returns-in-Err-Syntax-clause-refused
returns-in-Err-Syntax-clause-refused c =
    refused_for Values c.args.name.now (λ f. IsFaultyAttack c.args.view.now f c.args.bytes.now) _ _ c.faulty_line.ensures refl
    (syntax c.args.bytes.now c.in-Err-Syntax.line (syntax_is _ _ _ (c.in-Err-Syntax.is ∙ ap Err c.in-Err-Syntax.field-0-is) c.read_attack.ensures.attack))

pub returns-in-Err-OutOfRange-clause-refused : goal.returns-in-Err-OutOfRange-clause-refused
returns-in-Err-OutOfRange-clause-refused c =
    refused_for Values c.args.name.now (λ f. IsFaultyAttack c.args.view.now f c.args.bytes.now) _ _ c.faulty_line-in-Err-OutOfRange.ensures refl
    (out_of_range c.args.bytes.now c.in-Err-OutOfRange.line (range_is _ _ _ (c.in-Err-OutOfRange.is ∙ ap Err c.in-Err-OutOfRange.field-0-is) c.read_attack.ensures.attack))

pub returns-in-Err-OtherCore-clause-refused : goal.returns-in-Err-OtherCore-clause-refused
returns-in-Err-OtherCore-clause-refused c =
    refused_for Values c.args.name.now (λ f. IsFaultyAttack c.args.view.now f c.args.bytes.now) _ _ c.faulty_line-in-Err-OtherCore.ensures refl
    (other_core c.args.bytes.now c.in-Err-OtherCore.line (core_is _ _ _ (c.in-Err-OtherCore.is ∙ ap Err c.in-Err-OtherCore.field-0-is) c.read_attack.ensures.attack))
