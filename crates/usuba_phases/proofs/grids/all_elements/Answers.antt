use Rattle.std.proofs.Common.{◌^◌, ◌-◌, arith}
use Rattle.usuba_phases.proofs.FirstSome.{drop-next}
use Rattle.usuba_phases.proofs.Counting.{all-step, all-end}
use Rattle.usuba_phases.proofs.grids.all_elements.Goals as goal

pub loop-declaration-preserved : goal.loop-declaration-preserved
loop-declaration-preserved c = record {
  fits = omega arith;
  so_far =
      all-step c.args.declarations.now c.loop-declaration.declaration-index (2 ^ 64 - 1) c.declaration-item.result
      c.loop-declaration.count c.elements.result
      c.saturating_add-count.result _
      (drop-next c.args.declarations.now c.loop-declaration.declaration-index c.declaration-item.result (omega arith)
      c.declaration-item.is)
      c.elements.ensures c.saturating_add-count.ensures c.loop-declaration.invariant.so_far;
}

pub returns : goal.returns
returns c =
    all-end c.args.declarations.now c.loop-declaration.declaration-index (2 ^ 64 - 1) c.loop-declaration.count _
    (omega arith)
    c.loop-declaration.invariant.fits c.loop-declaration.invariant.so_far
