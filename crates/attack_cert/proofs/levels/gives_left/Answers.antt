use Rattle.std.proofs.Common.{ℕ, ◌++◌, Bool, List, Option, IfSome, IfOk, subst, sym}
use Rattle.std.specs.Bool.{MatchBool, OnTrue}
use Rattle.span_model.specs.Columns.{Columns, set_of}
use Rattle.span_model.specs.Span.{InSpan}
use Rattle.span_model.specs.Closure.{operand}
use Rattle.gf2_span.specs.Basis.{row_sets}
use Rattle.linear_view.specs.Sides.{step_of}
use Rattle.linear_view.specs.View.{products_of}
use Rattle.attack_cert.specs.Levelled.{IsOnlyLead}
use Rattle.attack_cert.proofs.levels.gives_left.Goals as goal

pub returns-then-is_apart-clause-answer : goal.returns-then-is_apart-clause-answer
returns-then-is_apart-clause-answer c =
    let rows = operand (products_of c.args.view.now) (step_of c.args.operand) in
    let left = set_of c.args.left.now in
    let noted : IfSome c.noted.result (IsOnlyLead rows) =
    subst (λ (o : Option ℕ). IfSome o (IsOnlyLead rows)) (sym c.noted.ensures) (c.requires.leads c.args.operand) in
    subst (λ (b : Bool). OnTrue b (¬ InSpan (rows ++ row_sets c.args.span.now) left)) c.if-is_apart.true
    (c.is_apart.ensures rows left noted c.requires.lead c.requires.outside)

pub returns-clause-answer : goal.returns-clause-answer
returns-clause-answer c =
    let known = row_sets c.args.span.now in
    let left = set_of c.args.left.now in
    subst
    (λ (r : List (Columns ℕ)). IfOk c.spans_left.result
    (λ (gives : Bool). MatchBool gives (InSpan (r ++ known) left) (¬ InSpan (r ++ known) left)))
    c.operand.ensures.sets c.spans_left.ensures.answer
