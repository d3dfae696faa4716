use Rattle.table_anf.proofs.Products.{IsOver}
use Rattle.table_anf.proofs.emission.products_of.Given as goal

abbrev pub invariant-loop-arg : goal.invariant-loop-arg
invariant-loop-arg l = IsOver l.fn.builder l.args l.arg-index l.builder l.products.items
