use Rattle.std.proofs.Common.{sym, ap, ◌∙◌, arith}
use Rattle.std.specs.Option.{option_or}
use Rattle.usuba_phases.proofs.Entering.{width_declared, first_width-all}
use Rattle.usuba_phases.proofs.FirstSome.{first_some, loop-step, loop-end}
use Rattle.usuba_phases.proofs.widths.width_of.Goals as goal

pub loop-definition-preserved : goal.loop-definition-preserved
loop-definition-preserved c =
    loop-step width_declared c.as_slice-definition-items.result.now c.loop-definition.definition-index
    c.definition-item.result c.loop-definition.width c.first_width_in.result c.or-width.result _
    (omega arith) c.definition-item.is c.first_width_in.ensures c.or-width.ensures c.loop-definition.invariant

pub returns : goal.returns
returns c =
    loop-end width_declared c.as_slice-definition-items.result.now c.loop-definition.definition-index
    c.loop-definition.width _ (omega arith) c.loop-definition.invariant
    ∙ ap (λ defs. option_or c.args.asked (first_some width_declared defs)) c.as_slice-definition-items.ensures
    ∙ ap (option_or c.args.asked) (sym (first_width-all c.args.file.now.defs))
