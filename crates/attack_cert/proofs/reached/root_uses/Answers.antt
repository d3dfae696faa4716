use Rattle.std.proofs.Common.{◌≤◌, ℕ, List, length, subst, sym, ap, ◌∙◌, arith}
use Rattle.std.proofs.lemmas.List.{length-map, take_all}
use Rattle.span_model.specs.Columns.{Columns, set_of}
use Rattle.span_model.specs.Span.{InSpan}
use Rattle.span_model.specs.Closure.{co_operands}
use Rattle.span_select.specs.RowGroups.{group_sets}
use Rattle.linear_view.specs.View.{products_of}
use Rattle.linear_view.specs.Sides.{step_of}
use Rattle.attack_cert.specs.Levelled.{levelled_steps}
use Rattle.attack_cert.specs.declared.levels.Levelled.{Levelled}
use Rattle.attack_cert.proofs.Selecting.{some_found, rows_upto}
use Rattle.attack_cert.proofs.reached.root_uses.Goals as goal

pub unwrap-uses-requires : goal.unwrap-uses-requires
unwrap-uses-requires c =
    let products = products_of c.args.view.now in
    let steps = levelled_steps c.args.listed.now in
    let n = length c.args.listed.now in
    let past : length steps ≤ n = let e = length-map c.args.listed.now (λ (s : Levelled). step_of s.operand) in omega arith in
    some_found _ _ _ c.in_ok-least.ensures
    (subst (λ (rows : List (Columns ℕ)). InSpan rows (set_of c.args.leak.now))
    (sym (rows_upto products (group_sets c.args.groups.now) steps n c.requires.groups ∙ ap (co_operands products) (take_all n steps past)))
    c.requires.supported.whole)
