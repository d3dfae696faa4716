use Rattle.std.proofs.Common.{Err, refl, ◌∙◌, ap}
use Rattle.std.specs.Prelude.{option_map}
use Rattle.tornado_main.specs.Source.{IsFaultySource, not_judged}
use Rattle.tornado_main.specs.declared.status.Status.TheVariants.{Source}
use Rattle.tornado_main.proofs.RefusedLemmas.{refused_for}
use Rattle.tornado_main.proofs.SourceLemmas.{judged_at, judged_fault, source_of_spelled, limits_of_spelled}
use Rattle.tornado_main.proofs.sources.core_of_tree.Goals as goal

pub returns-in-Ok-clause-core : goal.returns-in-Ok-clause-core
returns-in-Ok-clause-core c =
    source_of_spelled c.args.width (option_map (λ t. t.now) c.args.entry) c.args.file c.in-Ok.judged c.in-Ok.ensures.program c.core_of_judged.result c.core_of_judged.ensures.core c.core_of_judged.ensures.within

pub returns-in-Ok-clause-refused : goal.returns-in-Ok-clause-refused
returns-in-Ok-clause-refused c =
    limits_of_spelled c.args.width (option_map (λ t. t.now) c.args.entry) c.args.name.now c.args.file c.in-Ok.judged c.in-Ok.ensures.program c.core_of_judged.result c.core_of_judged.ensures.refused

pub returns-in-Err-At-clause-refused : goal.returns-in-Err-At-clause-refused
returns-in-Err-At-clause-refused c bytes spelled =
    refused_for Source c.args.name.now (λ f. IsFaultySource c.args.width (option_map (λ t. t.now) c.args.entry) f bytes) _ _ c.faulty_place.ensures refl
    (judged_at c.args.width (option_map (λ t. t.now) c.args.entry) bytes _ c.in-Err-At.place _ c.in-Err-At.kind c.in-Err-At.place-is c.in-Err-At.kind-is
    (not_judged bytes c.args.file c.in-Err-At.kind c.in-Err-At.place spelled
    (judged_fault c.args.width (option_map (λ t. t.now) c.args.entry) c.args.file c.judge.result _ _ (c.in-Err-At.is ∙ ap Err c.in-Err-At.field-0-is) c.judge.ensures.refusal)))
