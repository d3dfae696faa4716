use Rattle.std.proofs.Common.{◌≡◌, length, map, take}
use Rattle.span_model.specs.Closure.{co_operand}
use Rattle.span_select.specs.RowGroups.{group_sets}
use Rattle.linear_view.specs.View.{products_of}
use Rattle.attack_cert.specs.Levelled.{levelled_steps}
use Rattle.attack_cert.proofs.leak.co_operand_groups.Given as goal

abbrev pub invariant-loop-step : goal.invariant-loop-step
invariant-loop-step l = record {
  columns : l.groups.columns ≡ length l.view.columns;
  groups : group_sets l.groups ≡ map (co_operand (products_of l.view)) (levelled_steps (take l.step-index l.listed));
}
