use Rattle.std.proofs.Common.{◌≡◌, ◌<◌, ℕ, length, sym, ◌∙◌, subst, inl, inr, arith}
use Rattle.std.proofs.lemmas.Bool.{cases_eq}
use Rattle.std.proofs.lemmas.List.{get_or_default}
use Rattle.gf2_span.specs.declared.span.Lead.{Lead}
use Rattle.gf2_span.specs.Basis.{row_sets}
use Rattle.gf2_span.specs.Rows.{LeadsNoMember}
use Rattle.gf2_span.specs.Echelon.{lead_at}
use Rattle.gf2_span.proofs.span.any_leads.Goals as goal

pub loop-k-preserved : goal.loop-k-preserved
loop-k-preserved c =
    let inside : c.loop-k.k < length c.args.leads.now.items = omega (arith, c.len-k-end.ensures, c.args.leads.now.ok) in
    let at : c.index.result.now ≡ lead_at c.args.leads.now.items c.loop-k.k =
    c.index.ensures ∙ get_or_default c.args.leads.now.items c.loop-k.k c.index.result.now (record { column = 0; row = 0 }) inside in
    λ j h. elim (cases_eq j c.loop-k.k) [
      | inl here ↦
          let P : Lead → Type 0 = λ l. LeadsNoMember (row_sets c.args.span.now) l.column in
          let Q : ℕ → Type 0 = λ i. LeadsNoMember (row_sets c.args.span.now) (lead_at c.args.leads.now.items i).column in
          subst Q (sym here) (subst P at c.if-has_lead.ensures)
      | inr other ↦ c.loop-k.invariant j (omega arith)
    ]

pub returns : goal.returns
returns c = λ j h. c.loop-k.invariant j (omega (arith, c.len-k-end.ensures, c.args.leads.now.ok))
