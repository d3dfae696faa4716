use Rattle.std.proofs.Common.{◌≡◌, ◌<◌, ◌^◌, length, ap, sym, ◌∙◌, arith}
use Rattle.gf2_span.specs.Basis.{Basis}
use Rattle.span_model.specs.Columns.{sets_of}
use Rattle.gf2_span.specs.Echelon.{LeadsNone}
use Rattle.gf2_span.proofs.Reducing.{IsPlace, echelon_grows, echelon_own, row_fits, led_not_free}
use Rattle.gf2_span.proofs.span.Span.keep.Goals as goal
use Rattle.gf2_span.proofs.span.Span.keep.Goals.{in-Ok, in-Err}

pub overflow_cast-number : goal.overflow_cast-number
overflow_cast-number c =
    let few : length c.self.inside.rows.items < 2 ^ 32 = row_fits c.self.inside.columns c.self.inside.rows.items c.self.inside.leads.items c.self.invariant in
    record { fits = omega (arith, c.len-number.ensures, c.self.inside.rows.ok) }

pub cut_past-requires : goal.cut_past-requires
cut_past-requires c = c.requires.led.none_after

pub invariant_of-self-in-Ok-insert : goal.invariant_of-self-in-Ok-insert
invariant_of-self-in-Ok-insert c =
    let rows : c.self.inside.rows.items ≡ c.args.self.now.rows = ap (λ (b : Basis). b.rows) c.self.view_is in
    let free : LeadsNone (sets_of c.self.inside.rows.items) c.args.lead = rw rows c.requires.free in
    let wide : length c.args.row ≡ c.self.inside.columns = c.requires.wide ∙ sym (ap (λ (b : Basis). b.columns) c.self.view_is) in
    let place : IsPlace c.self.inside.leads.items c.match-find.at c.args.lead = elim c.match-find.branch [
      | in-Ok w ↦ absurd (led_not_free c.self.inside.columns c.self.inside.rows.items c.self.inside.leads.items c.args.lead w.in-Ok.k c.self.invariant free
          (omega (arith, w.in-Ok.ensures.0, c.len.ensures, c.self.inside.leads.ok)) w.in-Ok.ensures.1)
      | in-Err w ↦ rw w.at-is (record {
        within = omega (arith, w.in-Err.ensures.0, c.len.ensures, c.self.inside.leads.ok);
        before = w.in-Err.ensures.1;
        past = w.in-Err.ensures.2;
      })
    ] in
    let number : c.len-number.result ≡ length c.self.inside.rows.items = omega (arith, c.len-number.ensures, c.self.inside.rows.ok) in
    rw (c.in_ok-push.ensures.items, c.in-Ok-insert.ensures.items, number, c.cut_past.ensures)
    (echelon_grows c.self.inside.columns c.self.inside.rows.items c.self.inside.leads.items c.args.row c.args.lead c.match-find.at c.self.invariant wide c.requires.led place)

pub returns-in-Ok-insert-clause-own : goal.returns-in-Ok-insert-clause-own
returns-in-Ok-insert-clause-own c =
    echelon_own c.self.inside.columns c.push.new.self.items c.insert.new.self.items (invariant_of-self-in-Ok-insert c)
