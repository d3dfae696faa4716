use Rattle.std.proofs.Common.{refl, get_or}
use Rattle.usuba0.specs.declared.circuit.Reg.{Reg}
use Rattle.table_anf.proofs.Products.{making_goes_on}
use Rattle.table_anf.proofs.emission.with_one_more.Goals as goal

pub loop-product-preserved : goal.loop-product-preserved
loop-product-preserved c =
    let nothing : Reg = record { 0 = 0 } in
    let i = c.loop-product.product-index in
    making_goes_on c.args.builder.now c.args.products.now c.args.factor i c.loop-product.builder c.and.new.self c.loop-product.made.items
    c.push-in-loop-product.new.self.items c.push-in-loop-product-2.new.self.items (get_or c.args.products.now i nothing) c.in_ok-and.field-0 nothing
    c.requires.held c.requires.factor c.loop-product-test.true refl c.loop-product.invariant c.in_ok-push-2.ensures.items c.and.ensures.grows
    c.in_ok-and.ensures.term c.in_ok-push-3.ensures.items
