use Rattle.std.proofs.Common.{ℕ, List, sym, ap, ◌∙◌, subst, Some}
use Rattle.usuba_trees.specs.declared.Def.{Def}
use Rattle.usuba_trees.specs.declared.File.{File}
use Rattle.usuba_plan.specs.Plans.{IsPlanned}
use Rattle.usuba_plan.specs.declared.plans.Plan.{Plan}
use Rattle.plain_eval.proofs.Evaluating.{AreRead, AreInputs, wide, can_run_as_read, meaning_as_read}
use Rattle.plain_eval.proofs.source.eval.Goals as goal

pub new-words-requires-clause-some_width : goal.new-words-requires-clause-some_width
new-words-requires-clause-some_width c =
    let are : AreInputs c.args.judged.now c.args.inputs.now = record { count = c.requires.count; words = c.requires.words } in
    (wide c.args.judged.now c.width-width.ensures.program c.args.inputs.now are c.width-width.result c.width-width.ensures.bits).0

pub new-words-requires-clause-width_fits : goal.new-words-requires-clause-width_fits
new-words-requires-clause-width_fits c =
    let are : AreInputs c.args.judged.now c.args.inputs.now = record { count = c.requires.count; words = c.requires.words } in
    (wide c.args.judged.now c.width-width.ensures.program c.args.inputs.now are c.width-width.result c.width-width.ensures.bits).1

pub run-requires : goal.run-requires
run-requires c =
    let are : AreInputs c.args.judged.now c.args.inputs.now = record { count = c.requires.count; words = c.requires.words } in
    let read : AreRead c.args.judged.now c.new-words.result c.entry-entry.result c.as_slice.result.now = record {
      width_is = c.new-words.ensures ∙ c.width-width.ensures.bits;
      entry_is = c.entry-entry.ensures;
      defs_is = c.as_slice.ensures ∙ ap (λ (f : File). f.defs) c.file-file.ensures;
    } in
    let planned : IsPlanned c.as_slice.result.now c.as_slice-2.result.now c.entry-entry.result =
    subst (λ (ds : List Def). IsPlanned ds c.as_slice-2.result.now c.entry-entry.result) (sym c.as_slice.ensures)
    (subst (λ (ps : List Plan). IsPlanned c.file-file.result.now.defs ps c.entry-entry.result) (sym c.as_slice-2.ensures.value) c.in_ok-plans.ensures) in
    can_run_as_read c.args.judged.now c.width-width.ensures.program c.args.inputs.now are c.new-words.result c.entry-entry.result
    c.as_slice.result.now read c.as_slice-2.result.now planned

pub returns : goal.returns
returns c =
    let are : AreInputs c.args.judged.now c.args.inputs.now = record { count = c.requires.count; words = c.requires.words } in
    let read : AreRead c.args.judged.now c.new-words.result c.entry-entry.result c.as_slice.result.now = record {
      width_is = c.new-words.ensures ∙ c.width-width.ensures.bits;
      entry_is = c.entry-entry.ensures;
      defs_is = c.as_slice.ensures ∙ ap (λ (f : File). f.defs) c.file-file.ensures;
    } in
    let planned : IsPlanned c.as_slice.result.now c.as_slice-2.result.now c.entry-entry.result =
    subst (λ (ds : List Def). IsPlanned ds c.as_slice-2.result.now c.entry-entry.result) (sym c.as_slice.ensures)
    (subst (λ (ps : List Plan). IsPlanned c.file-file.result.now.defs ps c.entry-entry.result) (sym c.as_slice-2.ensures.value) c.in_ok-plans.ensures) in
    meaning_as_read c.args.judged.now c.width-width.ensures.program c.args.inputs.now are c.new-words.result c.entry-entry.result
    c.as_slice.result.now read c.as_slice-2.result.now planned c.run.new.elements c.plan_gives_meaning.ensures c.in_ok-made.made.items c.in_ok-made.ensures.made
    ∙ ap (λ (xs : List ℕ). Some xs) (sym c.from_vec.ensures)
