use Rattle.std.proofs.Common.{List, ℕ, None, Err, sym, ◌∙◌, ap, subst}
use Rattle.generated_files.specs.GeneratedLaw.{IsClean}
use Rattle.tornado_main.specs.Source.{IsSource}
use Rattle.tornado_main.proofs.GenLemmas.{never_faulty}
use Rattle.tornado_main.proofs.commands.generate.generated_core.Goals as goal

pub returns-in-Ok-clause-core : goal.returns-in-Ok-clause-core
returns-in-Ok-clause-core c =
    subst (λ (b : List ℕ). IsSource None None c.in-Ok.core b) (c.as_slice.ensures ∙ c.in_ok-bytes.ensures.source) c.in-Ok.ensures.core

pub unreachable-requires : goal.unreachable-requires
unreachable-requires c =
    never_faulty _ c.as_slice.result.now
    (subst IsClean (sym (c.as_slice.ensures ∙ c.in_ok-bytes.ensures.source)) (c.generated_is_clean.ensures c.args.seed c.args.size c.requires.some c.requires.few))
    c.core_of_source.result c.in-Err-Faulty.field-0-0 c.in-Err-Faulty.field-0-2 (c.in-Err-Faulty.is ∙ ap Err c.in-Err-Faulty.field-0-is)
    c.core_of_source.ensures.refused
