use Rattle.std.proofs.Common.{◌<◌, ◌+◌, ◌-◌, length, ap, ◌∙◌, arith}
use Rattle.std.specs.List.{range_with_len}
use Rattle.ready_order.specs.State.Scan.{Progress, progress, all_considered}
use Rattle.ready_order.proofs.ScanLemmas.{considered_as_many}
use Rattle.ready_order.proofs.StepLemmas.{pass_step}
use Rattle.ready_order.proofs.scan.Scan.pass.Goals as goal

pub loop-k-preserved : goal.loop-k-preserved
loop-k-preserved c =
    let within : c.loop-k.k < length c.args.table.now.done = omega (arith, c.len-k-end.ensures) in
    record {
      as_many = ap (λ (s : Progress). length s.taken) c.in_ok-consider.ensures
          ∙ considered_as_many c.args.table.now.done c.loop-k.k (progress c.loop-k.self) ∙ c.loop-k.invariant.as_many;
      left = ap (all_considered c.args.table.now.done (range_with_len (c.loop-k.k + 1) (length c.args.table.now.done - (c.loop-k.k + 1))))
          c.in_ok-consider.ensures
          ∙ pass_step c.args.table.now.done c.loop-k.k (length c.args.table.now.done) (progress c.loop-k.self) within ∙ c.loop-k.invariant.left;
    }
