use Rattle.std.proofs.Common.{ℕ, ◌<◌, Option, Some, IfSome, length, set, subst, sym, ◌∙◌, arith}
use Rattle.span_model.specs.Columns.{sets_of}
use Rattle.linear_view.specs.Sides.{place_of}
use Rattle.linear_view.specs.View.{products_of}
use Rattle.tightprove.specs.Classes.{IsPlaced, ArePlaced}
use Rattle.tightprove.proofs.Placing.{one_placed, placed_by, placed_as, placed_alike, placed_kept}
use Rattle.tightprove.proofs.classes.place_operand.Goals as goal

pub returns-in-Some-clause-number : goal.returns-in-Some-clause-number
returns-in-Some-clause-number c =
    let products = products_of c.args.view.now in
    let list = c.args.list.now.items in
    placed_alike products list c.alike-like.result c.args.operand c.in-Some.i c.alike-like.ensures.sets
    (subst (λ (o : Option ℕ). IfSome o (IsPlaced products list c.alike-like.result)) (sym c.placed_at.ensures ∙ c.in-Some.is)
    (subst (ArePlaced products list) (sym c.deref.ensures.value) c.requires.placed c.alike-like.result))

pub returns-then-at-len-clause-number : goal.returns-then-at-len-clause-number
returns-then-at-len-clause-number c =
    placed_as (products_of c.args.view.now) c.place.new.list.items c.alike-like.result c.args.operand c.in_ok-i.i
    (sets_of c.shared_operand.result.now) c.shared_operand.ensures.sets c.alike-like.ensures.sets c.in_ok-i.ensures.number

pub returns-then-at-len-clause-placed : goal.returns-then-at-len-clause-placed
returns-then-at-len-clause-placed c =
    let products = products_of c.args.view.now in
    let list = c.place.new.list.items in
    let placed = c.args.placed.now.items in
    let within : place_of c.alike-like.result < length placed =
    omega (arith, c.place-at.ensures, c.len.ensures, c.if-at-len.true, c.args.placed.now.ok.0) in
    subst (λ (n : ℕ). ArePlaced products list (set placed n (Some c.in_ok-i.i))) (sym c.place-at.ensures)
    (one_placed products list placed c.alike-like.result c.in_ok-i.i
    (placed_kept products c.args.list.now.items list placed c.in_ok-i.ensures.kept c.requires.placed) within
    (placed_by products list c.alike-like.result c.in_ok-i.i (sets_of c.shared_operand.result.now) c.shared_operand.ensures.sets
    c.in_ok-i.ensures.number))

pub returns-else-at-len-clause-number : goal.returns-else-at-len-clause-number
returns-else-at-len-clause-number c =
    placed_as (products_of c.args.view.now) c.place.new.list.items c.alike-like.result c.args.operand c.in_ok-i.i
    (sets_of c.shared_operand.result.now) c.shared_operand.ensures.sets c.alike-like.ensures.sets c.in_ok-i.ensures.number

pub returns-else-at-len-clause-placed : goal.returns-else-at-len-clause-placed
returns-else-at-len-clause-placed c =
    placed_kept (products_of c.args.view.now) c.args.list.now.items c.place.new.list.items c.args.placed.now.items
    c.in_ok-i.ensures.kept c.requires.placed
