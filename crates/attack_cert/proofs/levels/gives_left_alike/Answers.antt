use Rattle.std.proofs.Common.{ℕ, ◌<◌, Bool, Option, Some, IfSome, length, set, subst, sym, ◌∙◌, arith}
use Rattle.span_model.specs.Columns.{set_of}
use Rattle.gf2_span.specs.Basis.{row_sets}
use Rattle.linear_view.specs.Sides.{place_of}
use Rattle.linear_view.specs.View.{products_of}
use Rattle.attack_cert.specs.Levelled.{IsTold, AreTold}
use Rattle.attack_cert.proofs.Leads.{one_told, told_alike}
use Rattle.attack_cert.proofs.levels.gives_left_alike.Goals as goal

pub returns-in-Some-clause-answer : goal.returns-in-Some-clause-answer
returns-in-Some-clause-answer c =
    let products = products_of c.args.view.now in
    let left = set_of c.args.left.now in
    let known = row_sets c.args.span.now in
    told_alike products left known c.alike-like.result c.args.operand c.in-Some.gives c.alike-like.ensures.sets
    (subst (λ (o : Option Bool). IfSome o (IsTold products left known c.alike-like.result)) (sym c.noted.ensures ∙ c.in-Some.is)
    (subst (AreTold products left known) (sym c.deref.ensures.value) c.requires.told c.alike-like.result))

pub returns-then-place-len-clause-told : goal.returns-then-place-len-clause-told
returns-then-place-len-clause-told c =
    let products = products_of c.args.view.now in
    let left = set_of c.args.left.now in
    let known = row_sets c.args.span.now in
    let told = c.args.told.now.items in
    let within : place_of c.alike-like.result < length told =
    omega (arith, c.place-place.ensures, c.len.ensures, c.if-place-len.true, c.args.told.now.ok.0) in
    subst (λ (n : ℕ). AreTold products left known (set told n (Some c.in_ok-gives.gives))) (sym c.place-place.ensures)
    (one_told products left known told c.alike-like.result c.in_ok-gives.gives c.requires.told within c.in_ok-gives.ensures.answer)

pub returns-then-place-len-clause-answer : goal.returns-then-place-len-clause-answer
returns-then-place-len-clause-answer c =
    told_alike (products_of c.args.view.now) (set_of c.args.left.now) (row_sets c.args.span.now) c.alike-like.result c.args.operand
    c.in_ok-gives.gives c.alike-like.ensures.sets c.in_ok-gives.ensures.answer
