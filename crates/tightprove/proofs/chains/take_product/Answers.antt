use Rattle.std.proofs.Common.{◌<◌, ◌∙◌, length, sym, arith}
use Rattle.std.proofs.lemmas.List.{get_or_default}
use Rattle.span_model.specs.Columns.{set_of}
use Rattle.gf2_span.specs.Basis.{row_sets}
use Rattle.tightprove.specs.Private.Gathered.{marks_of}
use Rattle.tightprove.proofs.Following.{product_taken}
use Rattle.tightprove.proofs.chains.take_product.Goals as goal

pub returns-clause-reached : goal.returns-clause-reached
returns-clause-reached c = λ products is reach.
    let lt : c.args.k < length c.args.gathered.now.places.items = omega (arith, c.if-k-set.false, c.requires.marks) in
    product_taken products c.args.gathered.now (marks_of c.args.set.now) c.args.bound c.args.k c.index-place.result.now (set_of c.args.leak.now)
    (row_sets c.args.span.now) (row_sets c.take_step.new.span) (row_sets c.take_step-2.new.span) is lt (sym c.is_left_out.ensures ∙ c.if-is_left_out.false)
    (c.index-place.ensures ∙ get_or_default c.args.gathered.now.places.items c.args.k c.index-place.result.now (record { left = 0; right = 0 }) lt)
    c.in_ok-take_step.ensures.taken c.in_ok-take_step-2.ensures.taken reach
