use Rattle.std.proofs.Common.{[], ◌∷◌, ◌++◌, ◌≡◌, ap, ◌∙◌}
use Rattle.span_model.specs.Columns.{set_of, sets_of}
use Rattle.gf2_span.specs.Basis.{Basis}
use Rattle.gf2_span.proofs.Leads.{left_in, left_out, outside, span_grown, span_kept, sets_push}
use Rattle.gf2_span.proofs.Reducing.{echelon_own}
use Rattle.gf2_span.proofs.span.Span.insert.Goals as goal

pub returns-in_ok-keep-in-Some-clause-answer : goal.returns-in_ok-keep-in-Some-clause-answer
returns-in_ok-keep-in-Some-clause-answer c =
    rw (← c.self.view_is) (left_out (sets_of c.self.inside.rows.items) (set_of c.args.row) (set_of c.reduce_lead.new.row) c.reduce_lead.ensures.same
    (outside (sets_of c.self.inside.rows.items) (set_of c.reduce_lead.new.row) c.in-Some.c (echelon_own c.self.inside.columns c.self.inside.rows.items c.self.inside.leads.items c.self.invariant)
    c.in-Some.ensures.rest.0 c.in-Some.ensures.rest.1))

pub returns-in_ok-keep-in-Some-clause-span : goal.returns-in_ok-keep-in-Some-clause-span
returns-in_ok-keep-in-Some-clause-span c =
    let rows : c.self.inside.rows.items ≡ c.args.self.now.rows = ap (λ (b : Basis). b.rows) c.self.view_is in
    let ok : c.keep.new.self.rows ≡ c.self.inside.rows.items ++ c.reduce_lead.new.row ∷ [] = rw rows c.in_ok-keep-in-Some.ensures.ok in
    let e : sets_of c.keep.new.self.rows ≡ sets_of c.self.inside.rows.items ++ set_of c.reduce_lead.new.row ∷ [] =
    ap sets_of ok ∙ sets_push c.self.inside.rows.items c.reduce_lead.new.row in
    rw (← c.self.view_is, e) (span_grown (sets_of c.self.inside.rows.items) (set_of c.args.row) (set_of c.reduce_lead.new.row) c.reduce_lead.ensures.same)

pub returns-in_ok-keep-in-Some-clause-rows : goal.returns-in_ok-keep-in-Some-clause-rows
returns-in_ok-keep-in-Some-clause-rows c =
    let rows : c.self.inside.rows.items ≡ c.args.self.now.rows = ap (λ (b : Basis). b.rows) c.self.view_is in
    λ _. (
      c.reduce_lead.new.row,
      c.in_ok-keep-in-Some.ensures.ok,
      rw (← c.self.view_is) c.reduce_lead.ensures.same,
      λ none. c.reduce_lead.ensures.kept (rw rows none),
    )

pub returns-in-None-clause-answer : goal.returns-in-None-clause-answer
returns-in-None-clause-answer c =
    rw (← c.self.view_is) (left_in (sets_of c.self.inside.rows.items) (set_of c.args.row) (set_of c.reduce_lead.new.row) c.reduce_lead.ensures.same c.in-None.ensures.rest)

pub returns-in-None-clause-span : goal.returns-in-None-clause-span
returns-in-None-clause-span c =
    rw (← c.self.view_is) (span_kept (sets_of c.self.inside.rows.items) (set_of c.args.row)
    (left_in (sets_of c.self.inside.rows.items) (set_of c.args.row) (set_of c.reduce_lead.new.row) c.reduce_lead.ensures.same c.in-None.ensures.rest))
