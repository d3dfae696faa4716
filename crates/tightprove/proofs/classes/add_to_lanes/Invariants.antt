use Rattle.std.proofs.Common.{◌≡◌, length, take}
use Rattle.tightprove.specs.Classes.{HasInLanes}
use Rattle.tightprove.proofs.classes.add_to_lanes.Given as goal

abbrev pub invariant-loop-lead : goal.invariant-loop-lead
invariant-loop-lead l = record {
  width : length l.table.items ≡ length l.initial.table.items;
  lanes : HasInLanes (take l.lead-index l.leads) l.n l.initial.table.items l.table.items;
}
