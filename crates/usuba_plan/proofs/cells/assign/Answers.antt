use Rattle.std.proofs.Common.{◌-◌, get_or, Some, refl, ◌∙◌, arith}
use Rattle.std.proofs.lemmas.List.{length-set}
use Rattle.usuba_plan.proofs.Assigning.{assign_begin, assign_more}
use Rattle.usuba_plan.proofs.cells.assign.Goals as goal

pub loop-i-init : goal.loop-i-init
loop-i-init g c = record {
  assigned = assign_begin c.args.cells.now c.args.handles.now c.args.environment.now.items c.min-count.result (omega (arith, c.min-count.ensures));
  as_many = refl;
}

pub loop-i-preserved : goal.loop-i-preserved
loop-i-preserved g c =
    let test = c.loop-i-test.true in
    let auto = c.loop-i.auto.i in
    let least = c.min-count.ensures in
    record {
      assigned = assign_more c.args.cells.now c.args.handles.now c.args.environment.now.items c.loop-i.environment.items c.loop-i.i c.index-handles-i.result
          (omega (arith, test)) (omega (arith, auto, least)) c.index-handles-i.is c.requires c.loop-i.invariant.as_many c.loop-i.invariant.assigned;
      as_many = length-set c.loop-i.environment.items (get_or c.args.cells.now (c.loop-i.i - 1) 0) (Some c.index-handles-i.result) ∙ c.loop-i.invariant.as_many;
    }
