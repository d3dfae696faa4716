use Rattle.std.proofs.Common.{◌≡◌, ◌<◌, ◌≤◌, ◌++◌, List, length, get_or, take, subst, ◌∙◌}
use Rattle.std.proofs.lemmas.List.{take_all, get_or_default}
use Rattle.span_model.specs.Columns.{sets_of}
use Rattle.span_model.specs.Span.{SameSpan}
use Rattle.span_model.specs.Closure.{co_operands}
use Rattle.gf2_span.specs.Basis.{row_sets}
use Rattle.linear_view.specs.View.{products_of}
use Rattle.linear_view.specs.declared.operand.Side.TheVariants.{Left}
use Rattle.attack_cert.specs.Levelled.{operand_steps}
use Rattle.linear_view.specs.declared.operand.Operand.{Operand}
use Rattle.attack_cert.proofs.Levelling.{grown_more}
use Rattle.attack_cert.proofs.levels.add_co_operands.Goals as goal

pub loop-operand-preserved : goal.loop-operand-preserved
loop-operand-preserved c =
    let none : Operand = record { product = 0; side = Left } in
    let t : Operand = get_or c.args.level.now c.loop-operand.operand-index none in
    let within : c.loop-operand.operand-index < length c.args.level.now = c.loop-operand-test.true in
    record {
      columns = c.in_ok-insert_all.ensures.columns ∙ c.loop-operand.invariant.columns;
      spanned = grown_more (products_of c.args.view.now) (row_sets c.args.span.now) (row_sets c.loop-operand.span) (row_sets c.insert_all.new.self)
          (sets_of c.co_operand.result.now) c.args.level.now c.loop-operand.operand-index t within
          (get_or_default c.args.level.now c.loop-operand.operand-index none t within)
          c.co_operand.ensures.sets c.loop-operand.invariant.spanned c.in_ok-insert_all.ensures.span;
    }

pub returns-clause-span : goal.returns-clause-span
returns-clause-span c =
    let past : length c.args.level.now ≤ c.loop-operand.operand-index = c.loop-operand-test.false in
    let all : take c.loop-operand.operand-index c.args.level.now ≡ c.args.level.now = take_all c.loop-operand.operand-index c.args.level.now past in
    let P : List Operand → Type 0 = λ (r : List Operand). SameSpan (row_sets c.loop-operand.span) (row_sets c.args.span.now ++ co_operands (products_of c.args.view.now) (operand_steps r)) in
    subst P all c.loop-operand.invariant.spanned
