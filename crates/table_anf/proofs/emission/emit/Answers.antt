use Rattle.std.proofs.Common.{◌+◌, length, ap, ◌∙◌, sym}
use Rattle.usuba0.specs.declared.limit.TheConstants.{MAX_TERMS}
use Rattle.table_anf.proofs.Emitting.{constant_room, emitting_starts, emitting_count, emitting_goes_on}
use Rattle.table_anf.proofs.emission.emit.Goals as goal

pub constant-requires-clause-room : goal.constant-requires-clause-room
constant-requires-clause-room c =
    constant_room c.args.builder.now c.products_of.new.builder c.args.args.now c.args.anf.now.inputs c.args.anf.now.outputs MAX_TERMS
    (sym c.requires.count) c.requires.room c.products_of.ensures.extends

pub loop-output-init : goal.loop-output-init
loop-output-init c =
    emitting_starts c.args.builder.now c.products_of.new.builder c.constant.new.self c.args.args.now c.args.anf.now.inputs c.args.anf.now.outputs
    c.args.anf.now.entries c.in_ok-products.products.items c.in_ok-zero.zero c.new-outputs.result (sym c.requires.count) c.new-outputs.ensures
    c.in_ok-products.ensures.terms c.products_of.ensures.extends c.constant.ensures.grows c.in_ok-zero.ensures.term

pub output_of-requires-clause-count : goal.output_of-requires-clause-count
output_of-requires-clause-count c =
    ap (λ rs. length rs + 1) c.deref.ensures.value
    ∙ emitting_count c.args.builder.now c.args.args.now c.args.anf.now.inputs c.args.anf.now.outputs c.args.anf.now.entries
    c.in_ok-products.products.items c.in_ok-zero.zero c.loop-output.output c.loop-output.builder c.loop-output.outputs c.loop-output.invariant

pub loop-output-preserved : goal.loop-output-preserved
loop-output-preserved c =
    emitting_goes_on c.args.builder.now c.loop-output.builder c.output_of.new.builder c.args.args.now c.args.anf.now.inputs c.args.anf.now.outputs
    c.args.anf.now.entries c.in_ok-products.products.items c.in_ok-zero.zero c.loop-output.output c.loop-output.outputs c.push.new.self
    c.in_ok-output_of.field-0 (sym c.requires.count) c.loop-output.invariant (rw c.deref.ensures.value at c.in_ok-output_of.ensures.term)
    c.output_of.ensures.extends c.in_ok-push.ensures.ok
