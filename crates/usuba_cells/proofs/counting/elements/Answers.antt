use Rattle.std.proofs.Common.{◌-◌, ◌^◌, ◌++◌, min, sym, ap, ◌∙◌}
use Rattle.usuba_model.specs.Shapes.{product, count_size}
use Rattle.usuba_cells.proofs.Capped.{counted}
use Rattle.usuba_cells.proofs.counting.elements.Goals as goal

pub returns-in-Some : goal.returns-in-Some
returns-in-Some c =
    counted c.args.shape.now.dims c.in-Some.count c.product-dims.result c.saturating_mul.result (2 ^ 64 - 1)
    (c.product-dims.ensures ∙ ap (λ l. min (product l) (2 ^ 64 - 1)) c.as_slice.ensures) c.saturating_mul.ensures
    ∙ ap (λ o. min (product (c.args.shape.now.dims ++ count_size o)) (2 ^ 64 - 1)) (sym c.in-Some.is)
