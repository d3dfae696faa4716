use Rattle.std.proofs.Common.{◌+◌, ◌-◌, ◌*◌, ◌^◌, min, get_or, drop, sym, ap, ◌∙◌, arith}
use Rattle.std.proofs.lemmas.List.{at_drop_more, drop_all}
use Rattle.usuba_model.specs.Shapes.{product}
use Rattle.usuba_cells.proofs.Capped.{product-step, product-end}
use Rattle.usuba_cells.proofs.counting.product.Goals as goal

pub loop-size-preserved : goal.loop-size-preserved
loop-size-preserved c =
    let k = c.loop-size.size-index in (
      product-step c.loop-size.product (get_or c.args.sizes.now k 0) c.saturating_mul-product.result (product (drop (k + 1) c.args.sizes.now)) (2 ^ 64 - 1)
          (min (product c.args.sizes.now) (2 ^ 64 - 1)) c.saturating_mul-product.ensures
          (ap (λ n. min (c.loop-size.product * n) (2 ^ 64 - 1)) (sym (at_drop_more product c.args.sizes.now k 0 (omega arith))) ∙ c.loop-size.invariant.0),
      omega (arith, c.saturating_mul-product.ensures),
    )

pub returns : goal.returns
returns c =
    product-end c.args.sizes.now (drop c.loop-size.size-index c.args.sizes.now) c.loop-size.product (2 ^ 64 - 1)
    (drop_all c.loop-size.size-index c.args.sizes.now (omega arith)) c.loop-size.invariant.1 c.loop-size.invariant.0
