use Rattle.std.proofs.Common.{◌≤◌, ◌<◌, ◌-◌, ◌^◌, ℕ, length, get_or, sym, arith, rules}
use Rattle.std.proofs.lemmas.List.{drop_more}
use Rattle.usuba_model.specs.Walk.{most_operations}
use Rattle.usuba_cells.specs.State.Brackets.{brackets, picked_of}
use Rattle.usuba_cells.proofs.BracketLemmas.{bracket-at, length-brackets}
use Rattle.usuba_cells.proofs.Elements.{inside-few, product-drop, reached-start, reached-small, reached-step, level-inside, level-few}
use Rattle.usuba_cells.proofs.picking.append_elements.Goals as goal

pub product_from-stride-requires : goal.product_from-stride-requires
product_from-stride-requires c =
    omega (arith, inside-few c.args.sizes.now (brackets c.args.counters.now c.args.picks.now) c.requires.inside, length-brackets c.args.counters.now c.args.picks.now)

pub overflow_cast-stride : goal.overflow_cast-stride
overflow_cast-stride c =
    omega (arith, c.product_from-stride.ensures, (product-drop (length c.args.picks.now) c.args.sizes.now c.requires.some).1, c.requires.few)

pub append_range-requires : goal.append_range-requires
append_range-requires c =
    omega (arith, c.product_from-stride.ensures, (product-drop (length c.args.picks.now) c.args.sizes.now c.requires.some).1, c.requires.few)

pub loop-level-init : goal.loop-level-init
loop-level-init c =
    reached-start c.args.first c.args.sizes.now (brackets c.args.counters.now c.args.picks.now) c.args.numbers.now.items (length c.args.picks.now)
    c.product_from-stride.result c.append_range.new.numbers.items (sym (length-brackets c.args.counters.now c.args.picks.now))
    (omega (arith, c.product_from-stride.ensures, (product-drop (length c.args.picks.now) c.args.sizes.now c.requires.some).1, c.requires.few))
    c.in_ok-append_range.ensures

pub bounds-sizes-level : goal.bounds-sizes-level
bounds-sizes-level c =
    omega (
      arith,
      inside-few c.args.sizes.now (brackets c.args.counters.now c.args.picks.now) c.requires.inside,
      c.loop-level.invariant.within,
    )

pub copy_for_bracket-requires-clause-small : goal.copy_for_bracket-requires-clause-small
copy_for_bracket-requires-clause-small c =
    reached-small c.args.first c.args.sizes.now (brackets c.args.counters.now c.args.picks.now) c.args.numbers.now.items c.loop-level.level c.loop-level.stride
    c.len-start.result c.loop-level.numbers.items (2 ^ 31) c.requires.some (omega (arith, c.requires.few)) c.requires.inside (search rules) c.loop-level.invariant

pub copy_for_bracket-requires-clause-inside : goal.copy_for_bracket-requires-clause-inside
copy_for_bracket-requires-clause-inside c =
    let level : ℕ = c.loop-level.level - 1 in
    let few : length (brackets c.args.counters.now c.args.picks.now) ≤ length c.args.sizes.now =
    inside-few c.args.sizes.now (brackets c.args.counters.now c.args.picks.now) c.requires.inside in
    let within : level < length c.args.picks.now = omega (arith, c.loop-level.invariant.within, length-brackets c.args.counters.now c.args.picks.now) in
    level-inside c.args.sizes.now (brackets c.args.counters.now c.args.picks.now) level (get_or c.args.sizes.now level 0) (picked_of c.picked.result) c.requires.inside
    (drop_more c.args.sizes.now level 0 (omega (arith, c.loop-level.invariant.within, few)))
    (bracket-at c.args.counters.now c.args.picks.now level c.index-picks-level.result (picked_of c.picked.result) within c.index-picks-level.is c.picked.ensures)

pub copy_for_bracket-requires-clause-stride : goal.copy_for_bracket-requires-clause-stride
copy_for_bracket-requires-clause-stride c =
    let level : ℕ = c.loop-level.level - 1 in
    let few : length (brackets c.args.counters.now c.args.picks.now) ≤ length c.args.sizes.now =
    inside-few c.args.sizes.now (brackets c.args.counters.now c.args.picks.now) c.requires.inside in
    (level-few c.args.sizes.now level (get_or c.args.sizes.now level 0) c.loop-level.stride c.loop-level.level most_operations c.requires.some
    (omega (arith, c.requires.few)) (omega arith) c.loop-level.invariant.stride_is
    (drop_more c.args.sizes.now level 0 (omega (arith, c.loop-level.invariant.within, few)))).0

pub copy_for_bracket-requires-clause-few : goal.copy_for_bracket-requires-clause-few
copy_for_bracket-requires-clause-few c =
    let level : ℕ = c.loop-level.level - 1 in
    let few : length (brackets c.args.counters.now c.args.picks.now) ≤ length c.args.sizes.now =
    inside-few c.args.sizes.now (brackets c.args.counters.now c.args.picks.now) c.requires.inside in
    (level-few c.args.sizes.now level (get_or c.args.sizes.now level 0) c.loop-level.stride c.loop-level.level most_operations c.requires.some
    (omega (arith, c.requires.few)) (omega arith) c.loop-level.invariant.stride_is
    (drop_more c.args.sizes.now level 0 (omega (arith, c.loop-level.invariant.within, few)))).1

pub loop-level-preserved : goal.loop-level-preserved
loop-level-preserved c =
    let level : ℕ = c.loop-level.level - 1 in
    let few : length (brackets c.args.counters.now c.args.picks.now) ≤ length c.args.sizes.now =
    inside-few c.args.sizes.now (brackets c.args.counters.now c.args.picks.now) c.requires.inside in
    let within : level < length c.args.picks.now = omega (arith, c.loop-level.invariant.within, length-brackets c.args.counters.now c.args.picks.now) in
    reached-step c.args.first c.args.sizes.now (brackets c.args.counters.now c.args.picks.now) c.args.numbers.now.items level c.loop-level.stride c.len-start.result
    c.loop-level.numbers.items (get_or c.args.sizes.now level 0) (picked_of c.picked.result) c.loop-level.level _ _
    (omega arith)
    (drop_more c.args.sizes.now level 0 (omega (arith, c.loop-level.invariant.within, few)))
    (bracket-at c.args.counters.now c.args.picks.now level c.index-picks-level.result (picked_of c.picked.result) within c.index-picks-level.is c.picked.ensures)
    (search rules) c.in_ok-stride.ensures.numbers c.in_ok-stride.ensures.stride c.loop-level.invariant
