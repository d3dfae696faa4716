use Rattle.std.proofs.Common.{ap, ◌∙◌}
use Rattle.std.specs.Option.{option_or}
use Rattle.usuba_model.specs.Entries.{first_width}
use Rattle.usuba_model.specs.Names.{declared_in}
use Rattle.usuba_phases.proofs.Entering.{first_width-three}
use Rattle.usuba_phases.proofs.widths.first_width_in.Goals as goal

pub returns : goal.returns
returns c =
    c.or-2.ensures ∙ ap (λ o. option_or o c.first_width-3.result) c.or.ensures
    ∙ ap (λ o. option_or (option_or o c.first_width-2.result) c.first_width-3.result) c.first_width.ensures
    ∙ ap (λ o. option_or (option_or (first_width c.declared_in-declared.result.inputs.now) o) c.first_width-3.result)
    c.first_width-2.ensures
    ∙ ap
    (option_or (option_or (first_width c.declared_in-declared.result.inputs.now)
    (first_width c.declared_in-declared.result.outputs.now)))
    c.first_width-3.ensures
    ∙ first_width-three (declared_in c.args.definition.now) c.declared_in-declared.result.inputs.now
    c.declared_in-declared.result.outputs.now c.declared_in-declared.result.locals.now c.declared_in-declared.ensures
