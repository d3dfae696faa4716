use Rattle.std.proofs.Common.{ap, ◌∙◌}
use Rattle.std.specs.Option.{option_or}
use Rattle.usuba_model.specs.Names.{declared_in}
use Rattle.usuba_phases.specs.State.Names.{names_in}
use Rattle.usuba_phases.proofs.Repeating.{of-three}
use Rattle.usuba_phases.proofs.repeated.note_declared.Goals as goal

pub returns-clause-found : goal.returns-clause-found
returns-clause-found c =
    c.or-2.ensures ∙ ap (λ o. option_or o c.in_ok-locals.locals) c.or.ensures
    ∙ (of-three (names_in c.args.names.now) (names_in c.note_all.new.names) (names_in c.note_all-2.new.names)
    (names_in c.note_all-3.new.names)
    (declared_in c.args.definition.now) c.declared_in-declared.result.inputs.now
    c.declared_in-declared.result.outputs.now c.declared_in-declared.result.locals.now
    c.in_ok-inputs.inputs c.in_ok-outputs.outputs c.in_ok-locals.locals c.declared_in-declared.ensures
    c.in_ok-inputs.ensures.found c.in_ok-inputs.ensures.noted c.in_ok-outputs.ensures.found
    c.in_ok-outputs.ensures.noted
    c.in_ok-locals.ensures.found c.in_ok-locals.ensures.noted).0

pub returns-clause-noted : goal.returns-clause-noted
returns-clause-noted c =
    (of-three (names_in c.args.names.now) (names_in c.note_all.new.names) (names_in c.note_all-2.new.names)
    (names_in c.note_all-3.new.names)
    (declared_in c.args.definition.now) c.declared_in-declared.result.inputs.now
    c.declared_in-declared.result.outputs.now c.declared_in-declared.result.locals.now
    c.in_ok-inputs.inputs c.in_ok-outputs.outputs c.in_ok-locals.locals c.declared_in-declared.ensures
    c.in_ok-inputs.ensures.found c.in_ok-inputs.ensures.noted c.in_ok-outputs.ensures.found
    c.in_ok-outputs.ensures.noted
    c.in_ok-locals.ensures.found c.in_ok-locals.ensures.noted).1
