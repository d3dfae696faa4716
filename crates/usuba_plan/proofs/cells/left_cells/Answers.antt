use Rattle.std.proofs.Common.{ℕ, ◌<◌, List, ◌++◌, length, take, sym, ap, ◌∙◌, arith}
use Rattle.usuba_code.specs.Code.{coded_at}
use Rattle.ready_order.specs.Numbered.{target_numbers}
use Rattle.usuba_plan.proofs.Targets.{targets_more}
use Rattle.usuba_plan.proofs.cells.left_cells.Goals as goal

pub loop-j-preserved : goal.loop-j-preserved
loop-j-preserved c =
    let targets = (coded_at c.args.table.now.done c.args.instance).targets in
    let test = c.loop-j-test.true in
    let count = c.targets-j-end.ensures in
    let less : c.loop-j.j < length targets = omega (arith, test, count) in
    c.in_ok-extend_from_slice.ensures.items
    ∙ ap (λ (ns : List ℕ). ns ++ c.cells.result.now) c.loop-j.invariant
    ∙ ap (λ (ns : List ℕ). target_numbers (take c.loop-j.j targets) ++ ns) c.cells.ensures
    ∙ sym (targets_more targets c.loop-j.j less)
