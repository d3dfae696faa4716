use Rattle.std.proofs.Common.{◌≡◌, ◌≤◌, ◌*◌, length}
use Rattle.linear_view.specs.View.{products_of}
use Rattle.tightprove.specs.Classes.{AreClasses, AreByLead, AreStepsOf, ArePlaced}
use Rattle.tightprove.proofs.classes.classes_of.Given as goal

abbrev pub invariant-loop-k : goal.invariant-loop-k
invariant-loop-k l = record {
  few : length l.list.items ≤ 2 * l.k;
  classes : AreClasses l.columns l.list.items;
  by_lead : AreByLead l.list.items l.by_lead.items;
  width : length l.by_lead.items ≡ l.columns;
  placed : ArePlaced (products_of l.view) l.list.items l.placed.items;
  steps : AreStepsOf l.k (products_of l.view) l.list.items;
}
