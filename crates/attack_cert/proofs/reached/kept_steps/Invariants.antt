use Rattle.std.proofs.Common.{◌≡◌, ◌≤◌, length, reverse}
use Rattle.span_model.specs.Columns.{set_of}
use Rattle.linear_view.specs.View.{products_of}
use Rattle.attack_cert.proofs.Reaching.{Reaching}
use Rattle.attack_cert.proofs.reached.kept_steps.Given as goal

abbrev pub invariant-loop-place : goal.invariant-loop-place
invariant-loop-place l = record {
  within : l.place ≤ length l.listed;
  count : length l.needed.items ≡ length l.listed;
  reaching : Reaching (products_of l.view) (set_of l.leak) l.listed l.root l.place l.needed.items (reverse l.kept.items);
}

abbrev pub decreases-loop-place : goal.decreases-loop-place
decreases-loop-place l = l.place
