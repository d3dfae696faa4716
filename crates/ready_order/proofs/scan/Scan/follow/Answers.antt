use Rattle.std.proofs.Common.{◌+◌, length, get_or, drop, ap, ◌∙◌}
use Rattle.ready_order.specs.State.Scan.{Progress, progress, all_considered}
use Rattle.ready_order.proofs.ScanLemmas.{considered_as_many}
use Rattle.ready_order.proofs.StepLemmas.{hint_step}
use Rattle.ready_order.proofs.scan.Scan.follow.Goals as goal

pub loop-k-preserved : goal.loop-k-preserved
loop-k-preserved c = record {
  as_many = ap (λ (s : Progress). length s.taken) c.in_ok-consider.ensures
      ∙ considered_as_many c.args.table.now.done (get_or c.args.hint.now c.loop-k.k-index 0) (progress c.loop-k.self) ∙ c.loop-k.invariant.as_many;
  left = ap (all_considered c.args.table.now.done (drop (c.loop-k.k-index + 1) c.args.hint.now)) c.in_ok-consider.ensures
      ∙ hint_step c.args.table.now.done c.args.hint.now c.loop-k.k-index (progress c.loop-k.self) c.loop-k-test.true ∙ c.loop-k.invariant.left;
}
