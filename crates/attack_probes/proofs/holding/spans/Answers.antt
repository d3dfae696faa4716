use Rattle.std.proofs.Common.{◌<◌, ◌≤◌, List, length, ◌∙◌, subst, arith}
use Rattle.std.proofs.lemmas.List.{take_all}
use Rattle.span_model.specs.Columns.{set_of}
use Rattle.span_model.specs.Span.{SameSpan}
use Rattle.gf2_span.specs.Basis.{row_sets}
use Rattle.linear_view.specs.View.{products_of}
use Rattle.linear_view.specs.declared.operand.Operand.{Operand}
use Rattle.linear_view.specs.declared.operand.Side.TheVariants.{Left}
use Rattle.attack_probes.specs.Operands.{rows_of}
use Rattle.attack_probes.proofs.Spanning.{same_in}
use Rattle.attack_probes.proofs.Reading.{spanned_more}
use Rattle.attack_probes.proofs.holding.spans.Goals as goal

pub loop-operand-preserved : goal.loop-operand-preserved
loop-operand-preserved c =
    let view = c.args.view.now in
    let operands = c.args.operands.now in
    let index = c.loop-operand.operand-index in
    let none : Operand = record { product = 0; side = Left } in
    let within : index < length operands = omega arith in
    record {
      columns = c.in_ok-insert_all.ensures.columns ∙ c.loop-operand.invariant.columns;
      spanned =
          spanned_more view operands index none (row_sets c.loop-operand.span) (row_sets c.insert_all.new.self) c.operand.result.now within
          c.operand.ensures.sets
          c.loop-operand.invariant.spanned c.in_ok-insert_all.ensures.span;
    }

pub returns : goal.returns
returns c =
    let past : length c.args.operands.now ≤ c.loop-operand.operand-index = omega arith in
    let same : SameSpan (row_sets c.loop-operand.span) (rows_of (products_of c.args.view.now) c.args.operands.now) =
    subst (λ (x : List Operand). SameSpan (row_sets c.loop-operand.span) (rows_of (products_of c.args.view.now) x))
    (take_all c.loop-operand.operand-index c.args.operands.now past) c.loop-operand.invariant.spanned in
    same_in (row_sets c.loop-operand.span) (rows_of (products_of c.args.view.now) c.args.operands.now) (set_of c.args.leak.now) c.contains.result same c.contains.ensures.answer
