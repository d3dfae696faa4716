use Rattle.std.proofs.Common.{◌≡◌, ◌∷◌, [], List, Bool, length, get_or, ap, sym, subst, ◌∙◌}
use Rattle.std.proofs.lemmas.Bool.{ltb-true}
use Rattle.std.proofs.lemmas.List.Elements.{All-get_or}
use Rattle.span_model.specs.Columns.{set_of}
use Rattle.span_model.proofs.Members.{in_head}
use Rattle.gf2_span.specs.Basis.{row_sets}
use Rattle.tightprove.specs.Classes.{IsPartner, IsLeakOf}
use Rattle.tightprove.specs.declared.chains.ClassStep.{ClassStep}
use Rattle.tightprove.specs.declared.class.Class.{Class}
use Rattle.tightprove.proofs.Calls.{of_true, grown_at_start}
use Rattle.tightprove.proofs.Closures.{partner_of, grown_leak}
use Rattle.tightprove.proofs.Following.{grown_taken, first_wide}
use Rattle.tightprove.proofs.chains.leak_by.Goals as goal

pub loop-step-init : goal.loop-step-init
loop-step-init c = record {
  columns = ap (λ span. span.columns) c.in_ok-span.ensures;
  grown = grown_at_start c.args.classes.now.list.items (set_of c.in-Some.leak.now ∷ []) c.in_ok-span.span (ap (λ span. span.rows) c.in_ok-span.ensures);
}

pub take_step-requires-clause-from : goal.take_step-requires-clause-from
take_step-requires-clause-from c =
    let classes : List Class = c.args.classes.now.list.items in
    let step : ClassStep = get_or c.args.steps.now c.loop-step.step-index (record { from = 0; to = 0 }) in
    partner_of classes step.from step.to
    (All-get_or (λ s. IsPartner c.args.classes.now.list.items s.from s.to) c.args.steps.now c.loop-step.step-index (record { from = 0; to = 0 }) c.loop-step-test.true c.requires.steps)

pub take_step-requires-clause-to : goal.take_step-requires-clause-to
take_step-requires-clause-to c =
    let step : ClassStep = get_or c.args.steps.now c.loop-step.step-index (record { from = 0; to = 0 }) in
    c.requires.classes.classes.partners step.from step.to
    (All-get_or (λ s. IsPartner c.args.classes.now.list.items s.from s.to) c.args.steps.now c.loop-step.step-index (record { from = 0; to = 0 }) c.loop-step-test.true c.requires.steps)

pub loop-step-preserved : goal.loop-step-preserved
loop-step-preserved c = record {
  columns = c.take_step.ensures.columns ∙ c.loop-step.invariant.columns;
  grown = grown_taken c.args.classes.now.list.items (set_of c.in-Some.leak.now) (row_sets c.loop-step.span) (row_sets c.take_step.new.span)
      (get_or c.args.steps.now c.loop-step.step-index (record { from = 0; to = 0 }))
      (All-get_or (λ s. IsPartner c.args.classes.now.list.items s.from s.to) c.args.steps.now c.loop-step.step-index (record { from = 0; to = 0 }) c.loop-step-test.true c.requires.steps)
      c.in_ok-take_step.ensures.taken c.loop-step.invariant.grown;
}

pub returns : goal.returns
returns c =
    let classes : List Class = c.args.classes.now.list.items in
    let leak : List Bool = c.in-Some.leak.now in
    let found = of_true c.in_ok-is_within.field-0 _ c.if-not-branch.false c.in_ok-is_within.ensures in
    subst (λ (row : List Bool). (length row ≡ c.args.classes.now.columns) × IsLeakOf c.args.classes.now.list.items (set_of row)) (sym c.in_ok-copy.ensures) (
      first_wide c.args.classes.now.columns classes c.args.i c.index.result.now c.as_slice.result.now leak c.requires.classes.classes c.requires.i
          c.index.ensures c.as_slice.ensures (ltb-true 0 (length c.as_slice.result.now) (sym c.in-Some.ensures.item.0)) c.in-Some.ensures.item.1,
      grown_leak classes (set_of c.in-Some.leak.now ∷ []) (row_sets c.loop-step.span) c.loop-step.invariant.grown (set_of c.in-Some.leak.now)
          (in_head (set_of c.in-Some.leak.now) []) found.0 found.1,
    )
