use Rattle.std.proofs.Common.{◌*◌, ◌^◌, ◌-◌, min, ap, ◌∙◌, arith}
use Rattle.usuba_model.specs.Shapes.{product}
use Rattle.usuba_phases.proofs.Counting.{elements-step, elements-end, elements-starts}
use Rattle.usuba_phases.proofs.grids.elements.Goals as goal

pub loop-size-init : goal.loop-size-init
loop-size-init c = record {
  fits = omega arith;
  so_far =
      ap (λ l. min (c.unwrap_or-count.result * product l) (2 ^ 64 - 1)) c.as_slice-size-items.ensures
      ∙ ap (λ p. min p (2 ^ 64 - 1))
      (elements-starts c.args.declaration.now c.unwrap_or-count.result c.unwrap_or-count.ensures);
}

pub loop-size-preserved : goal.loop-size-preserved
loop-size-preserved c = record {
  fits = omega arith;
  so_far =
      elements-step c.as_slice-size-items.result.now c.loop-size.size-index (2 ^ 64 - 1) c.loop-size.count
      c.saturating_mul-count.result _ (omega arith)
      c.saturating_mul-count.ensures c.loop-size.invariant.so_far;
}

pub returns : goal.returns
returns c =
    elements-end c.as_slice-size-items.result.now c.loop-size.size-index (2 ^ 64 - 1) c.loop-size.count _ (omega arith)
    c.loop-size.invariant.fits c.loop-size.invariant.so_far
