use Rattle.std.proofs.Common.{ℕ, List, ◌∙◌, subst}
use Rattle.ll_reader.specs.Answer.{IsFault}
use Rattle.c_grammar.specs.declared.table.TheConstants.{PRODUCTIONS, FRAME}
use Rattle.c_grammar.proofs.Classing.{ends_last}
use Rattle.c_grammar.proofs.Predictive.{predictive, derived_by}
use Rattle.c_grammar.proofs.read.steps_of.Goals as goal

pub read-requires : goal.read-requires
read-requires c =
    let ends = ends_last c.args.tokens.now c.args.ending in
    (predictive, (ends.0, c.as_slice.ensures.value ∙ c.in_ok-classes.ensures ∙ ends.1))

pub returns-in-Ok-clause-derived : goal.returns-in-Ok-clause-derived
returns-in-Ok-clause-derived c =
    derived_by c.args.tokens.now c.args.ending c.in-Ok.steps.items c.as_slice.result.now
    (c.as_slice.ensures.value ∙ c.in_ok-classes.ensures) c.in-Ok.ensures.text c.in-Ok.ensures.shallow

pub fault_of-requires : goal.fault_of-requires
fault_of-requires c =
    subst (λ (cs : List ℕ). IsFault PRODUCTIONS FRAME cs c.in-Err.error) (c.as_slice.ensures.value ∙ c.in_ok-classes.ensures)
    c.in-Err.ensures.fault
