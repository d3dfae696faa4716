use Rattle.std.proofs.Common.{◌≤◌, ◌+◌, length, get_or, refl}
use Rattle.usuba0.specs.declared.circuit.Reg.{Reg}
use Rattle.usuba0.specs.declared.limit.TheConstants.{MAX_TERMS}
use Rattle.table_anf.proofs.Products.{over_room, over_goes_on, over_next_extends}
use Rattle.table_anf.proofs.emission.products_of.Goals as goal

pub with_one_more-requires-clause-room : goal.with_one_more-requires-clause-room
with_one_more-requires-clause-room c =
    let room : length c.loop-arg.builder.terms + length c.loop-arg.products.items ≤ MAX_TERMS =
    over_room c.args.builder.now c.args.args.now c.loop-arg.arg-index c.loop-arg.builder c.loop-arg.products.items MAX_TERMS c.loop-arg-test.true
    c.requires.room c.loop-arg.invariant in
    rw c.deref.ensures.value room

pub returns-in_err-products-clause-extends : goal.returns-in_err-products-clause-extends
returns-in_err-products-clause-extends c =
    over_next_extends c.args.builder.now c.args.args.now c.loop-arg.arg-index c.loop-arg.builder c.with_one_more.new.builder c.loop-arg.products.items
    c.loop-arg-test.true c.loop-arg.invariant (rw c.deref.ensures.value at c.with_one_more.ensures.extends)

pub loop-arg-preserved : goal.loop-arg-preserved
loop-arg-preserved c =
    let nothing : Reg = record { 0 = 0 } in
    let i = c.loop-arg.arg-index in
    over_goes_on c.args.builder.now c.args.args.now i c.loop-arg.builder c.with_one_more.new.builder c.loop-arg.products.items
    c.in_ok-products.products.items (get_or c.args.args.now i nothing) nothing c.requires.held c.loop-arg-test.true refl c.loop-arg.invariant
    (rw c.deref.ensures.value at c.in_ok-products.ensures.terms) (rw c.deref.ensures.value at c.with_one_more.ensures.extends)
