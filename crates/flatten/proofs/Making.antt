-- The core of a program's entry can be made by its plans.
use Rattle.std.proofs.Common.{◌≡◌, List, length, Option, sym, ap, ◌∙◌, arith}
use Rattle.std.specs.List.{range_with_len}
use Rattle.std.proofs.lemmas.List.{length-map}
use Rattle.std.proofs.lemmas.List.FromFn.{length-range_with_len}
use Rattle.usuba_trees.specs.declared.Def.{Def}
use Rattle.usuba0.specs.Term.{Input}
use Rattle.usuba_model.specs.Walk.{signature}
use Rattle.usuba_model.proofs.EntryOutcome.{entry_outcome}
use Rattle.usuba_code.proofs.Running.{code_gives_value}
use Rattle.usuba_types.specs.Judged.{Program, IsProgram, inputs_at}
use Rattle.usuba_types.proofs.Entry.{entry_stands}
use Rattle.usuba_plan.specs.Fit.{inputs_of}
use Rattle.usuba_plan.specs.Plans.{IsPlanned}
use Rattle.usuba_plan.specs.declared.plans.Plan.{Plan}
use Rattle.usuba_plan.proofs.FilePlans.{plan_gives_outcome}
use Rattle.usuba_plan.proofs.Fitting.{plans_fit}
use Rattle.plan_bounds.specs.RoomLaw.{PlansHaveRoom}
use Rattle.source_terms.specs.SourceTerms.{term_operators}
use Rattle.term_store.specs.PlanCore.{terms_of_inputs, CanMakeCore}

-- the core of the entry of its inputs can be made
pub can_make_core : PlansHaveRoom → (program : Program) → IsProgram program → (plans : List Plan)
    → IsPlanned program.file.defs plans program.entry
    → CanMakeCore program.width program.file.defs plans program.entry (inputs_at program.file.defs program.entry)
can_make_core have_room program known plans planned =
    let file = program.file in
    let width = program.width in
    let entry = program.entry in
    let n = inputs_at file.defs entry in
    let asked_width = known.asked_width in
    let asked_entry = known.asked_entry in
    let judged = known.judged in
    let (wide, d, is) = entry_stands program known in
    let inputs = terms_of_inputs n in
    let many : length inputs ≡ (signature d).inputs =
    length-map (range_with_len 0 n) Input ∙ length-range_with_len 0 n ∙ sym is.taken in
    let operators = term_operators width in
    let made = entry_outcome operators asked_width asked_entry file width entry judged wide.0 d is.stands inputs many in
    let gives = plan_gives_outcome code_gives_value operators asked_width asked_entry file width entry judged wide.0
    plans planned d is.stands inputs many in
    let long = made.2 in
    let room = have_room asked_width asked_entry file width entry judged plans planned in record {
      fits = plans_fit asked_width asked_entry file width entry judged wide.0 plans planned;
      count = sym is.taken ∙ sym (ap (λ (o : Option Def). inputs_of o) is.stands);
      room = omega (arith, is.taken, is.few_taken, room);
      outputs = made.0;
      makes = gives ∙ made.1;
      some = omega (arith, long, is.gives);
      few = omega (arith, long, is.few_given);
    }
