use Rattle.std.proofs.Common.{Err, refl, ◌∙◌, ap}
use Rattle.c_meaning.specs.declared.read.CFault.TheVariants as c_fault
use Rattle.tornado_main.specs.commands.Run.{IsFaultyCFile, syntax, bad_name}
use Rattle.tornado_main.specs.declared.message.Complaint.TheVariants as complaint
use Rattle.tornado_main.specs.declared.status.Status.TheVariants.{Values}
use Rattle.tornado_main.proofs.RefusedLemmas.{refused_for}
use Rattle.tornado_main.proofs.RunCLemmas.{c_at_place, c_refusal, few_bits}
use Rattle.tornado_main.specs.commands.Run as run
use Rattle.tornado_main.proofs.commands.print_shares.file_of_bytes.Goals as goal

pub returns-in-Ok-clause-bits : goal.returns-in-Ok-clause-bits
returns-in-Ok-clause-bits c = few_bits c.args.bytes.now c.in-Ok.file c.in-Ok.ensures.file

pub returns-in-Err-Syntax-clause-refused : goal.returns-in-Err-Syntax-clause-refused
returns-in-Err-Syntax-clause-refused c =
    refused_for Values c.args.name.now (λ f. IsFaultyCFile f c.args.bytes.now) _ _ c.faulty_place.ensures refl
    (c_at_place complaint.Syntax c.args.bytes.now _ _ c.in-Err-Syntax.at-is
    (run.syntax c.args.bytes.now c.in-Err-Syntax.at
    (c_refusal c.args.bytes.now c.read_c.result (c_fault.Syntax c.in-Err-Syntax.at) (c.in-Err-Syntax.is ∙ ap Err c.in-Err-Syntax.field-0-is) c.read_c.ensures.fault)))

pub returns-in-Err-BadName-clause-refused : goal.returns-in-Err-BadName-clause-refused
returns-in-Err-BadName-clause-refused c =
    refused_for Values c.args.name.now (λ f. IsFaultyCFile f c.args.bytes.now) _ _ c.faulty_place-in-Err-BadName.ensures refl
    (c_at_place complaint.BadName c.args.bytes.now _ _ c.in-Err-BadName.at-is
    (bad_name c.args.bytes.now c.in-Err-BadName.at
    (c_refusal c.args.bytes.now c.read_c.result (c_fault.BadName c.in-Err-BadName.at) (c.in-Err-BadName.is ∙ ap Err c.in-Err-BadName.field-0-is) c.read_c.ensures.fault)))
