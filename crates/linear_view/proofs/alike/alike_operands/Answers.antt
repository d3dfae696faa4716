use Rattle.std.proofs.Common.{◌≡◌, ◌+◌, ◌*◌, length, subst, ap, arith}
use Rattle.std.proofs.lemmas.List.{length_push}
use Rattle.linear_view.specs.Alike.{IsAlike}
use Rattle.linear_view.specs.declared.operand.Operand.{Operand}
use Rattle.linear_view.specs.declared.operand.Side.TheVariants.{Left, Right}
use Rattle.linear_view.proofs.AlikeLemmas.{alike_push}
use Rattle.linear_view.proofs.alike.alike_operands.Goals as goal

pub loop-product-preserved : goal.loop-product-preserved
loop-product-preserved c =
    let products = c.args.products.now in
    let left : Operand = record { product = c.loop-product.product; side = Left } in
    let right : Operand = record { product = c.loop-product.product; side = Right } in
    let old = c.loop-product.alike.items in
    let first = c.in_ok-first_alike.field-0 in
    let second = c.in_ok-first_alike-2.field-0 in
    let with_left = c.push.new.self.items in
    let new = c.push-in-loop-product.new.self.items in
    let half : length with_left ≡ 2 * c.loop-product.product + 1
    = omega (arith, ap length c.in_ok-push.ensures.items, length_push old first, c.loop-product.invariant.count) in
    let alike_right = subst (λ (o : Operand). IsAlike products o second) c.other.ensures c.in_ok-first_alike-2.ensures.alike in
    record {
      count = omega (arith, ap length c.in_ok-push-2.ensures.items, length_push with_left second, half);
      alike =
          alike_push products with_left new right second half c.in_ok-push-2.ensures.items
          (alike_push products old with_left left first (omega (arith, c.loop-product.invariant.count)) c.in_ok-push.ensures.items
          c.loop-product.invariant.alike c.in_ok-first_alike.ensures.alike)
          alike_right;
      firsts = c.in_ok-first_alike-2.ensures.firsts;
    }
