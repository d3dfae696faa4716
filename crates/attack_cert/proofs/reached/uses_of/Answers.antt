use Rattle.std.proofs.Common.{◌++◌, ℕ, List, map, take, subst, sym}
use Rattle.span_model.specs.Columns.{Columns, set_of, sets_of}
use Rattle.span_model.specs.Span.{InSpan}
use Rattle.span_model.specs.Closure.{co_operand, operand}
use Rattle.span_select.specs.Selection.{rows_of}
use Rattle.span_select.specs.RowGroups.{group_sets}
use Rattle.linear_view.specs.View.{products_of}
use Rattle.linear_view.specs.Sides.{step_of}
use Rattle.attack_cert.specs.Levelled.{levelled_steps}
use Rattle.attack_cert.specs.Kept.{levelled_at}
use Rattle.attack_cert.proofs.Selecting.{some_found, found_is, least_as, groups_upto, rows_upto}
use Rattle.attack_cert.proofs.reached.uses_of.Goals as goal

pub unwrap-uses-requires : goal.unwrap-uses-requires
unwrap-uses-requires c =
    let products = products_of c.args.view.now in
    let steps = levelled_steps c.args.listed.now in
    let lower = (levelled_at c.args.listed.now c.args.place).lower in
    some_found _ _ _ c.in_ok-least.ensures
    (subst (λ (own : List (Columns ℕ)). InSpan (own ++ rows_of (take lower (group_sets c.args.groups.now))) (set_of c.args.leak.now)) (sym c.operand-own.ensures.sets)
    (subst (λ (rows : List (Columns ℕ)). InSpan (operand products (step_of (levelled_at c.args.listed.now c.args.place).operand) ++ rows) (set_of c.args.leak.now))
    (sym (rows_upto products (group_sets c.args.groups.now) steps lower c.requires.groups))
    (c.requires.supported.spanned c.args.place c.requires.place)))

pub returns : goal.returns
returns c =
    let products = products_of c.args.view.now in
    let steps = levelled_steps c.args.listed.now in
    let lower = (levelled_at c.args.listed.now c.args.place).lower in
    least_as (sets_of c.operand-own.result.now) (operand products (step_of (levelled_at c.args.listed.now c.args.place).operand))
    (take lower (group_sets c.args.groups.now)) (map (co_operand products) (take lower steps)) (set_of c.args.leak.now)
    c.unwrap-uses.result.items c.from_vec.result c.operand-own.ensures.sets
    (groups_upto products (group_sets c.args.groups.now) steps lower c.requires.groups)
    (sym c.from_vec.ensures)
    (found_is _ c.unwrap-uses.result _ _ c.unwrap-uses.ensures c.in_ok-least.ensures)
