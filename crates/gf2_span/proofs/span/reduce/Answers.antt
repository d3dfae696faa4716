use Rattle.std.proofs.Common.{◌≡◌, ◌<◌, ℕ, length, ap, sym, ◌∙◌, subst, arith}
use Rattle.std.proofs.lemmas.List.{get_or_default}
use Rattle.gf2_span.specs.declared.span.Lead.{Lead}
use Rattle.gf2_span.specs.Echelon.{lead_at}
use Rattle.gf2_span.proofs.Reducing.{IsRead, IsReducing, read_row, added_in, reducing_more, reducing_ends}
use Rattle.gf2_span.proofs.span.reduce.Goals as goal

pub loop-k-preserved : goal.loop-k-preserved
loop-k-preserved c =
    let inside : c.in-Some.k < length c.args.leads.now.items = omega (arith, c.in-Some.ensures.0, c.loop-k.invariant.reducing.split.within) in
    let at : c.index-lead.result.now ≡ lead_at c.args.leads.now.items c.in-Some.k =
    c.index-lead.ensures ∙ get_or_default c.args.leads.now.items c.in-Some.k c.index-lead.result.now (record { column = 0; row = 0 }) inside in
    let read : (length c.index.result.now ≡ length c.args.row.now) × IsRead c.args.rows.now.items c.args.leads.now.items c.in-Some.k c.index.result.now =
    read_row (length c.args.row.now) c.args.rows.now.items c.args.leads.now.items c.in-Some.k c.index-lead.result.now.row c.index.result.now c.requires inside
    (ap (λ (l : Lead). l.row) at) c.index.ensures in
    let P : ℕ → Type 0 = λ e. IsReducing c.args.leads.now.items c.add.new.self c.in-Some.k e in
    record {
      long = c.add.ensures.columns ∙ c.loop-k.invariant.long;
      same = added_in c.args.rows.now.items c.args.row.now c.loop-k.row c.add.new.self c.index.result.now c.loop-k.invariant.same read.1.member c.add.ensures.sum;
      reducing = subst P (ap (λ (l : Lead). l.column) (sym at))
          (reducing_more c.args.rows.now.items c.args.leads.now.items c.loop-k.row c.add.new.self c.index.result.now c.loop-k.most c.loop-k.end c.in-Some.k
          c.requires.ascending c.loop-k.invariant.reducing c.in-Some.ensures.0 c.in-Some.ensures.1 c.in-Some.ensures.2 read.1 c.add.ensures.columns c.add.ensures.sum);
    }

pub returns-clause-clear : goal.returns-clause-clear
returns-clause-clear c =
    reducing_ends (length c.args.row.now) c.args.rows.now.items c.args.leads.now.items c.loop-k.row c.loop-k.most c.loop-k.end c.requires c.loop-k.invariant.reducing c.in_default.ensures
