use Rattle.std.proofs.Common.{Err, sym, ap, ◌∙◌}
use Rattle.flatten.proofs.Reading.{are_read, wide, some_input, can_make, sources_core}
use Rattle.flatten.proofs.Sources.{core_is_made, limit_is_passed, limit_is_answered}
use Rattle.flatten.proofs.source.core_of.Goals as goal

pub core_of_plan-requires-clause-some_width : goal.core_of_plan-requires-clause-some_width
core_of_plan-requires-clause-some_width c =
    let read = are_read c.width-width.ensures.program c.width-width.ensures.bits c.entry-entry.ensures
    c.file-file.ensures c.as_slice.ensures c.input_count.ensures c.as_slice-2.ensures.value c.in_ok-plans.ensures in
    (wide read).0

pub core_of_plan-requires-clause-width_fits : goal.core_of_plan-requires-clause-width_fits
core_of_plan-requires-clause-width_fits c =
    let read = are_read c.width-width.ensures.program c.width-width.ensures.bits c.entry-entry.ensures
    c.file-file.ensures c.as_slice.ensures c.input_count.ensures c.as_slice-2.ensures.value c.in_ok-plans.ensures in
    (wide read).1

pub core_of_plan-requires-clause-some_input : goal.core_of_plan-requires-clause-some_input
core_of_plan-requires-clause-some_input c =
    let read = are_read c.width-width.ensures.program c.width-width.ensures.bits c.entry-entry.ensures
    c.file-file.ensures c.as_slice.ensures c.input_count.ensures c.as_slice-2.ensures.value c.in_ok-plans.ensures in
    some_input read

pub core_of_plan-requires-clause-made : goal.core_of_plan-requires-clause-made
core_of_plan-requires-clause-made c =
    let read = are_read c.width-width.ensures.program c.width-width.ensures.bits c.entry-entry.ensures
    c.file-file.ensures c.as_slice.ensures c.input_count.ensures c.as_slice-2.ensures.value c.in_ok-plans.ensures in
    can_make read c.plans_have_room.ensures

pub returns-in_err-core-clause-refused : goal.returns-in_err-core-clause-refused
returns-in_err-core-clause-refused c =
    let read = are_read c.width-width.ensures.program c.width-width.ensures.bits c.entry-entry.ensures
    c.file-file.ensures c.as_slice.ensures c.input_count.ensures c.as_slice-2.ensures.value c.in_ok-plans.ensures in
    let made = core_is_made _ _ _ _ _ (can_make read c.plans_have_room.ensures) in
    let is = sources_core read c.plan_core_is_the_sources.ensures in
    let error = c.in_err-core.field-0.0 in
    let told = c.in_err-core.ensures in
    limit_is_answered c.args.judged.now error c.from_residual-in_err-core.result c.from_residual-in_err-core.ensures.1
    (limit_is_passed c.args.judged.now _ is made error (λ e. told.too_large (ap Err e)) (λ e. told.too_many (ap Err e)))

pub returns-clause-core : goal.returns-clause-core
returns-clause-core c =
    let read = are_read c.width-width.ensures.program c.width-width.ensures.bits c.entry-entry.ensures
    c.file-file.ensures c.as_slice.ensures c.input_count.ensures c.as_slice-2.ensures.value c.in_ok-plans.ensures in
    sym (sources_core read c.plan_core_is_the_sources.ensures) ∙ c.in_ok-core.ensures.core
