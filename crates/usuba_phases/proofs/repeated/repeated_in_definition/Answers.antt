use Rattle.std.proofs.Common.{[], ◌∷◌, ap, ◌∙◌}
use Rattle.std.specs.Prelude.{map}
use Rattle.std.specs.Option.{option_or}
use Rattle.usuba_model.specs.declared.fault.FaultKind.TheVariants.{DuplicateName}
use Rattle.usuba_model.specs.Faults.{first_of}
use Rattle.usuba_model.specs.Names.{repeated}
use Rattle.usuba_phases.specs.State.Names.{names_in}
use Rattle.usuba_phases.proofs.PerDefinition.{repeated_own-is}
use Rattle.usuba_phases.proofs.repeated.repeated_in_definition.Goals as goal

pub returns-clause-found : goal.returns-clause-found
returns-clause-found c =
    c.or-2.ensures ∙ ap (λ o. option_or o c.counter_fault-counters.result) c.or.ensures
    ∙ repeated_own-is (names_in c.args.names.now) (names_in c.new-declared.result) (names_in c.note_declared.new.names)
    c.args.definition.now
    c.in_ok-own.own c.in_ok-declarations.declarations c.counter_fault-counters.result
    (ap (map (λ key. key.now)) c.new-declared.ensures.empty)
    (c.in_ok-own.ensures.found ∙ ap (λ name. first_of DuplicateName (repeated (names_in c.args.names.now) name ∷ []))
    c.name_of.ensures)
    c.in_ok-declarations.ensures.found c.in_ok-declarations.ensures.noted c.counter_fault-counters.ensures
