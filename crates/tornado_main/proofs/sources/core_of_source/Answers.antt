use Rattle.std.proofs.Common.{Err, refl, ◌∙◌, ap}
use Rattle.std.specs.Prelude.{option_map}
use Rattle.usuba_syntax.specs.declared.read.ReadFault.TheVariants as read
use Rattle.usuba_syntax.specs.SourceFaults as source
use Rattle.tornado_main.specs.Source.{IsFaultySource, syntax, too_deep, number_too_big}
use Rattle.tornado_main.specs.declared.message.Complaint.TheVariants as complaint
use Rattle.tornado_main.specs.declared.status.Status.TheVariants.{Source}
use Rattle.tornado_main.proofs.RefusedLemmas.{refused_for}
use Rattle.tornado_main.proofs.SourceLemmas.{has_fault, at_place, source_of_these, refused_of_these}
use Rattle.tornado_main.proofs.sources.core_of_source.Goals as goal

pub core_of_tree-requires-clause-spelled : goal.core_of_tree-requires-clause-spelled
core_of_tree-requires-clause-spelled c = (c.args.bytes.now, c.in-Ok.ensures.file)

pub returns-in-Ok-clause-core : goal.returns-in-Ok-clause-core
returns-in-Ok-clause-core c =
    source_of_these c.args.width (option_map (λ t. t.now) c.args.entry) c.args.bytes.now c.in-Ok.file c.in-Ok.ensures.file c.core_of_tree.result c.core_of_tree.ensures.core

pub returns-in-Ok-clause-refused : goal.returns-in-Ok-clause-refused
returns-in-Ok-clause-refused c =
    refused_of_these c.args.width (option_map (λ t. t.now) c.args.entry) c.args.name.now c.args.bytes.now c.in-Ok.file c.in-Ok.ensures.file c.core_of_tree.result c.core_of_tree.ensures.refused

pub returns-in-Err-Syntax-clause-refused : goal.returns-in-Err-Syntax-clause-refused
returns-in-Err-Syntax-clause-refused c =
    refused_for Source c.args.name.now (λ f. IsFaultySource c.args.width (option_map (λ t. t.now) c.args.entry) f c.args.bytes.now) _ _ c.faulty_place.ensures refl
    (at_place c.args.width (option_map (λ t. t.now) c.args.entry) complaint.Syntax c.args.bytes.now _ _ c.in-Err-Syntax.at-is
    (syntax c.args.bytes.now c.in-Err-Syntax.at
    (has_fault _ _ (read.Syntax c.in-Err-Syntax.at) (source.Syntax c.in-Err-Syntax.at) (c.in-Err-Syntax.is ∙ ap Err c.in-Err-Syntax.field-0-is) refl c.read_file.ensures.fault)))

pub returns-in-Err-TooDeep-clause-refused : goal.returns-in-Err-TooDeep-clause-refused
returns-in-Err-TooDeep-clause-refused c =
    refused_for Source c.args.name.now (λ f. IsFaultySource c.args.width (option_map (λ t. t.now) c.args.entry) f c.args.bytes.now) _ _ c.faulty_place-in-Err-TooDeep.ensures refl
    (at_place c.args.width (option_map (λ t. t.now) c.args.entry) complaint.TooDeep c.args.bytes.now _ _ c.in-Err-TooDeep.at-is
    (too_deep c.args.bytes.now c.in-Err-TooDeep.at
    (has_fault _ _ (read.TooDeep c.in-Err-TooDeep.at) (source.TooDeep c.in-Err-TooDeep.at) (c.in-Err-TooDeep.is ∙ ap Err c.in-Err-TooDeep.field-0-is) refl c.read_file.ensures.fault)))

pub returns-in-Err-NumberTooBig-clause-refused : goal.returns-in-Err-NumberTooBig-clause-refused
returns-in-Err-NumberTooBig-clause-refused c =
    refused_for Source c.args.name.now (λ f. IsFaultySource c.args.width (option_map (λ t. t.now) c.args.entry) f c.args.bytes.now) _ _ c.faulty_place-in-Err-NumberTooBig.ensures refl
    (at_place c.args.width (option_map (λ t. t.now) c.args.entry) complaint.NumberTooBig c.args.bytes.now _ _ c.in-Err-NumberTooBig.at-is
    (number_too_big c.args.bytes.now c.in-Err-NumberTooBig.at
    (has_fault _ _ (read.NumberTooBig c.in-Err-NumberTooBig.at) (source.NumberTooBig c.in-Err-NumberTooBig.at) (c.in-Err-NumberTooBig.is ∙ ap Err c.in-Err-NumberTooBig.field-0-is) refl c.read_file.ensures.fault)))
