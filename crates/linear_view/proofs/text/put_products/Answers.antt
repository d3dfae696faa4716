use Rattle.linear_view.specs.RowsText.{product_text}
use Rattle.linear_view.proofs.TextLemmas.{Wrote-number, Wrote-number_stops}
use Rattle.linear_view.proofs.text.put_products.Goals as goal

pub returns-in_err-put_product : goal.returns-in_err-put_product
returns-in_err-put_product g c =
    Wrote-number_stops (product_text c.args.columns.now) c.args.products.now c.loop-k.k c.index-products-k.result c.loop-k-test.true c.index-products-k.is
    c.loop-k.invariant c.in_err-put_product.ensures c.from_residual.ensures.0

pub loop-k-preserved : goal.loop-k-preserved
loop-k-preserved g c =
    Wrote-number (product_text c.args.columns.now) c.args.products.now c.loop-k.k c.index-products-k.result tt c.loop-k-test.true c.index-products-k.is
    c.loop-k.invariant c.in_ok-put_product.ensures
