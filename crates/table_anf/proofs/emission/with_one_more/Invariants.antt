use Rattle.table_anf.proofs.Products.{IsMaking}
use Rattle.table_anf.proofs.emission.with_one_more.Given as goal

abbrev pub invariant-loop-product : goal.invariant-loop-product
invariant-loop-product l = IsMaking l.fn.builder l.products l.factor l.product-index l.builder l.made.items
