use Rattle.std.proofs.Common.{Err, refl, ◌∙◌, ap}
use Rattle.usuba0.specs.Circuit.{Circuit}
use Rattle.flatten.specs.CoreOf.{IsCoreOf, IsFlatRefusal}
use Rattle.flatten.specs.declared.fault.FlatFault.TheVariants as flat_fault
use Rattle.tornado_main.specs.Source.{PassesLimit, too_large, too_many}
use Rattle.tornado_main.specs.declared.status.Status.TheVariants.{Source}
use Rattle.tornado_main.proofs.RefusedLemmas.{refused_for}
use Rattle.tornado_main.proofs.SourceLemmas.{limit_told}
use Rattle.tornado_main.proofs.sources.core_of_judged.Goals as goal

pub returns-in-Err-CoreTooLarge-clause-refused : goal.returns-in-Err-CoreTooLarge-clause-refused
returns-in-Err-CoreTooLarge-clause-refused c =
    let told : IsFlatRefusal c.args.judged.now flat_fault.CoreTooLarge =
    limit_told c.args.judged.now c.core_of.result flat_fault.CoreTooLarge
    (c.in-Err-CoreTooLarge.is ∙ ap Err c.in-Err-CoreTooLarge.field-0-is) c.core_of.ensures.refused in
    refused_for Source c.args.name.now (λ f. (core : Circuit) × IsCoreOf c.args.judged.now core × PassesLimit core f) _ _ c.faulty_file.ensures refl
    (told.0, told.1, too_large told.2)

pub returns-in-Err-ColumnsTooMany-clause-refused : goal.returns-in-Err-ColumnsTooMany-clause-refused
returns-in-Err-ColumnsTooMany-clause-refused c =
    let told : IsFlatRefusal c.args.judged.now flat_fault.ColumnsTooMany =
    limit_told c.args.judged.now c.core_of.result flat_fault.ColumnsTooMany
    (c.in-Err-ColumnsTooMany.is ∙ ap Err c.in-Err-ColumnsTooMany.field-0-is) c.core_of.ensures.refused in
    refused_for Source c.args.name.now (λ f. (core : Circuit) × IsCoreOf c.args.judged.now core × PassesLimit core f) _ _
    c.faulty_file-in-Err-ColumnsTooMany.ensures refl (told.0, told.1, too_many told.2 told.3)
