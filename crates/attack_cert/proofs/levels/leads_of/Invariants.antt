use Rattle.std.proofs.Common.{◌≡◌, ◌*◌, length}
use Rattle.linear_view.specs.View.{products_of}
use Rattle.attack_cert.specs.Levelled.{AreLeads}
use Rattle.attack_cert.proofs.levels.leads_of.Given as goal

abbrev pub invariant-loop-product : goal.invariant-loop-product
invariant-loop-product l = record {
  count : length l.leads.items ≡ 2 * l.product;
  leads : AreLeads (products_of l.view) l.leads.items;
}
