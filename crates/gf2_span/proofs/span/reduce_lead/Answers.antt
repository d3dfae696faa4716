use Rattle.std.proofs.Common.{◌≡◌, ◌<◌, length, ap, sym, ◌∙◌, arith}
use Rattle.std.proofs.lemmas.List.{get_or_default}
use Rattle.gf2_span.specs.declared.span.Lead.{Lead}
use Rattle.gf2_span.specs.Echelon.{lead_at}
use Rattle.gf2_span.proofs.Reducing.{IsRead, IsPlace, read_row, added_in, lowering_more, lowering_last, leads_none, free_place, led_not_free}
use Rattle.gf2_span.proofs.Leads.{no_lead_as, no_lead_free}
use Rattle.span_model.specs.Columns.{set_of, sets_of}
use Rattle.gf2_span.proofs.span.reduce_lead.Goals as goal

pub loop-c-preserved : goal.loop-c-preserved
loop-c-preserved c =
    let inside : c.in-Ok.k < length c.args.leads.now.items = omega (arith, c.in-Ok.ensures.0, c.loop-c.invariant.lowering.within) in
    let at : c.index.result.now ≡ lead_at c.args.leads.now.items c.in-Ok.k =
    c.index.ensures ∙ get_or_default c.args.leads.now.items c.in-Ok.k c.index.result.now (record { column = 0; row = 0 }) inside in
    let read : (length c.index-in-Ok.result.now ≡ length c.args.row.now) × IsRead c.args.rows.now.items c.args.leads.now.items c.in-Ok.k c.index-in-Ok.result.now =
    read_row (length c.args.row.now) c.args.rows.now.items c.args.leads.now.items c.in-Ok.k c.index.result.now.row c.index-in-Ok.result.now c.requires inside
    (ap (λ (l : Lead). l.row) at) c.index-in-Ok.ensures in
    record {
      long = c.add.ensures.columns ∙ c.loop-c.invariant.long;
      same = added_in c.args.rows.now.items c.args.row.now c.loop-c.row c.add.new.self c.index-in-Ok.result.now c.loop-c.invariant.same read.1.member c.add.ensures.sum;
      kept = λ none. absurd (led_not_free (length c.args.row.now) c.args.rows.now.items c.args.leads.now.items c.in-Some.c c.in-Ok.k c.requires
          (no_lead_free (sets_of c.args.rows.now.items) (set_of c.loop-c.row) c.in-Some.c
          (no_lead_as (sets_of c.args.rows.now.items) (set_of c.args.row.now) (set_of c.loop-c.row) (ap set_of (sym (c.loop-c.invariant.kept none))) none)
          (lowering_last c.args.leads.now.items c.loop-c.row c.loop-c.most c.loop-c.end c.in-Some.c c.loop-c.invariant.lowering c.in-Some.ensures))
          inside c.in-Ok.ensures.1);
      lowering = lowering_more c.args.rows.now.items c.args.leads.now.items c.loop-c.row c.add.new.self c.index-in-Ok.result.now c.loop-c.most c.loop-c.end c.in-Some.c c.in-Ok.k
          c.requires.ascending c.loop-c.invariant.lowering c.in-Some.ensures c.in-Ok.ensures.0 c.in-Ok.ensures.1 read.1 c.add.ensures.columns c.add.ensures.sum;
    }

pub returns-in-Err-clause-rest : goal.returns-in-Err-clause-rest
returns-in-Err-clause-rest c =
    let place : IsPlace c.args.leads.now.items c.in-Err.field-0 c.in-Some.c =
    record { within = omega (arith, c.in-Err.ensures.0, c.loop-c.invariant.lowering.within); before = c.in-Err.ensures.1; past = c.in-Err.ensures.2 } in (
      lowering_last c.args.leads.now.items c.loop-c.row c.loop-c.most c.loop-c.end c.in-Some.c c.loop-c.invariant.lowering c.in-Some.ensures,
      leads_none (length c.args.row.now) c.args.rows.now.items c.args.leads.now.items c.in-Some.c c.requires (free_place c.args.leads.now.items c.in-Err.field-0 c.in-Some.c place),
    )
