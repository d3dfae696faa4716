use Rattle.std.proofs.Common.{ap, ◌∙◌}
use Rattle.std.specs.Option.{option_or}
use Rattle.usuba_model.specs.Names.{declared_in}
use Rattle.usuba_phases.proofs.Entering.{mixed_faults, mixed_faults-three}
use Rattle.usuba_phases.proofs.widths.check_definition.Goals as goal

pub returns : goal.returns
returns c =
    c.or-2.ensures ∙ ap (λ o. option_or o c.check_declarations-3.result) c.or.ensures
    ∙ ap (λ o. option_or (option_or o c.check_declarations-2.result) c.check_declarations-3.result)
    c.check_declarations.ensures
    ∙ ap
    (λ o. option_or (option_or ((mixed_faults c.args.width) c.declared_in-declared.result.inputs.now) o)
    c.check_declarations-3.result)
    c.check_declarations-2.ensures
    ∙ ap
    (option_or (option_or ((mixed_faults c.args.width) c.declared_in-declared.result.inputs.now)
    ((mixed_faults c.args.width) c.declared_in-declared.result.outputs.now)))
    c.check_declarations-3.ensures
    ∙ mixed_faults-three c.args.width (declared_in c.args.definition.now) c.declared_in-declared.result.inputs.now
    c.declared_in-declared.result.outputs.now c.declared_in-declared.result.locals.now c.declared_in-declared.ensures
