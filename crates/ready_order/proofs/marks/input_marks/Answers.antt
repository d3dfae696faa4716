use Rattle.std.proofs.Common.{replicate, false, List, Bool, ap, ◌∙◌}
use Rattle.ready_order.specs.State.Marks.{marked}
use Rattle.ready_order.proofs.StepLemmas.{input_step}
use Rattle.ready_order.proofs.marks.input_marks.Goals as goal

pub loop-cell-preserved : goal.loop-cell-preserved
loop-cell-preserved c =
    c.set.ensures ∙ ap (λ (ms : List Bool). marked ms c.loop-cell.cell) c.loop-cell.invariant
    ∙ input_step (replicate c.args.cells false) c.loop-cell.cell
