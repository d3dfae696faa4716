use Rattle.std.proofs.Common.{◌≡◌, ◌<◌, ◌++◌, ℕ, List, length, get_or, sym, ap, ◌∙◌, subst, arith}
use Rattle.span_model.specs.Columns.{sets_of}
use Rattle.span_model.specs.Span.{Spans}
use Rattle.gf2_span.specs.Basis.{Basis, row_sets}
use Rattle.tightprove.specs.Classes.{class_at, class_rows}
use Rattle.tightprove.proofs.Gathering.{all_wide}
use Rattle.tightprove.proofs.Taking.{wide_at, rows_at, partners_at, partner_lt, all_more, all_end, growth_taken, flag_set}
use Rattle.tightprove.proofs.growth.Growth.take.Goals as goal

pub index-requires-in-loop-j : goal.index-requires-in-loop-j
index-requires-in-loop-j c =
    let e : c.as_slice-j-items.result.now ≡ (class_at c.args.classes.now.list.items c.args.i).partners =
    partners_at c.args.classes.now.list.items c.args.i c.index.result.now c.as_slice-j-items.result.now c.requires.i c.index.ensures c.as_slice-j-items.ensures in
    let lt : get_or c.as_slice-j-items.result.now c.loop-j.j-index 0 < length c.args.classes.now.list.items =
    partner_lt c.args.classes.now.columns c.args.classes.now.list.items c.args.i c.loop-j.j-index c.as_slice-j-items.result.now c.requires.classes.classes e c.loop-j-test.true in
    omega (arith, lt)

pub insert_all-requires : goal.insert_all-requires
insert_all-requires c =
    let e : c.as_slice-j-items.result.now ≡ (class_at c.args.classes.now.list.items c.args.i).partners =
    partners_at c.args.classes.now.list.items c.args.i c.index.result.now c.as_slice-j-items.result.now c.requires.i c.index.ensures c.as_slice-j-items.ensures in
    let lt : get_or c.as_slice-j-items.result.now c.loop-j.j-index 0 < length c.args.classes.now.list.items =
    partner_lt c.args.classes.now.columns c.args.classes.now.list.items c.args.i c.loop-j.j-index c.as_slice-j-items.result.now c.requires.classes.classes e c.loop-j-test.true in
    all_wide _ c.as_slice-rows.result.now (λ k h. wide_at c.args.classes.now.columns c.args.classes.now.list.items (get_or c.as_slice-j-items.result.now c.loop-j.j-index 0) c.index-in-loop-j.result.now c.as_slice-rows.result.now
    c.requires.classes.classes lt c.index-in-loop-j.ensures c.as_slice-rows.ensures k h
    ∙ sym (c.loop-j.invariant.columns ∙ c.requires.growth.columns ∙ c.requires.columns))

pub settle-requires-clause-columns : goal.settle-requires-clause-columns
settle-requires-clause-columns c = ap (λ (b : Basis). b.columns) c.loop-j.invariant.rest ∙ c.requires.growth.rest_columns ∙ c.requires.columns

pub settle-requires-clause-span_columns : goal.settle-requires-clause-span_columns
settle-requires-clause-span_columns c = c.loop-j.invariant.columns ∙ c.requires.growth.columns ∙ c.requires.columns

pub loop-j-preserved : goal.loop-j-preserved
loop-j-preserved c =
    let js : List ℕ = c.as_slice-j-items.result.now in
    let e : c.as_slice-j-items.result.now ≡ (class_at c.args.classes.now.list.items c.args.i).partners =
    partners_at c.args.classes.now.list.items c.args.i c.index.result.now c.as_slice-j-items.result.now c.requires.i c.index.ensures c.as_slice-j-items.ensures in
    let lt : get_or c.as_slice-j-items.result.now c.loop-j.j-index 0 < length c.args.classes.now.list.items =
    partner_lt c.args.classes.now.columns c.args.classes.now.list.items c.args.i c.loop-j.j-index c.as_slice-j-items.result.now c.requires.classes.classes e c.loop-j-test.true in
    let rows : sets_of c.as_slice-rows.result.now ≡ class_rows c.args.classes.now.list.items (get_or js c.loop-j.j-index 0) =
    rows_at c.args.classes.now.list.items (get_or js c.loop-j.j-index 0) c.index-in-loop-j.result.now c.as_slice-rows.result.now lt c.index-in-loop-j.ensures c.as_slice-rows.ensures in
    record {
      columns = c.in_ok-insert_all.ensures.columns ∙ c.loop-j.invariant.columns;
      rest = c.loop-j.invariant.rest;
      taken = c.loop-j.invariant.taken;
      span = all_more c.args.classes.now.list.items (row_sets c.args.self.now.span) (row_sets c.loop-j.self.span) (row_sets c.insert_all.new.self) js c.loop-j.j-index (sets_of c.as_slice-rows.result.now)
          c.loop-j-test.true c.loop-j.invariant.span rows c.in_ok-insert_all.ensures.span;
    }

pub returns-clause-growth : goal.returns-clause-growth
returns-clause-growth c =
    let js : List ℕ = c.as_slice-j-items.result.now in
    let e : c.as_slice-j-items.result.now ≡ (class_at c.args.classes.now.list.items c.args.i).partners =
    partners_at c.args.classes.now.list.items c.args.i c.index.result.now c.as_slice-j-items.result.now c.requires.i c.index.ensures c.as_slice-j-items.ensures in
    let P : Basis → Type 0 = λ b. Spans (row_sets c.settle.new.rest ++ row_sets c.loop-j.self.span) (row_sets b) in
    growth_taken c.args.classes.now.list.items c.args.candidates.now c.args.self.now _ c.args.i c.requires.growth c.loop-j.invariant.columns
    (c.in_ok-settle.ensures.columns ∙ sym (c.requires.growth.rest_columns ∙ c.requires.columns))
    (flag_set c.args.self.now.taken c.loop-j.self.taken c.flip.new.self c.args.i c.loop-j.invariant.taken c.requires.free c.flip.ensures)
    (all_end c.args.classes.now.list.items (row_sets c.args.self.now.span) (row_sets c.loop-j.self.span) js (class_at c.args.classes.now.list.items c.args.i).partners c.loop-j.j-index c.loop-j-test.false e c.loop-j.invariant.span)
    c.in_ok-settle.ensures.apart (subst P c.loop-j.invariant.rest c.in_ok-settle.ensures.members)

pub returns-clause-span : goal.returns-clause-span
returns-clause-span c =
    let e : c.as_slice-j-items.result.now ≡ (class_at c.args.classes.now.list.items c.args.i).partners =
    partners_at c.args.classes.now.list.items c.args.i c.index.result.now c.as_slice-j-items.result.now c.requires.i c.index.ensures c.as_slice-j-items.ensures in
    all_end c.args.classes.now.list.items (row_sets c.args.self.now.span) (row_sets c.loop-j.self.span) c.as_slice-j-items.result.now (class_at c.args.classes.now.list.items c.args.i).partners c.loop-j.j-index c.loop-j-test.false e c.loop-j.invariant.span

pub returns-clause-taken : goal.returns-clause-taken
returns-clause-taken c = flag_set c.args.self.now.taken c.loop-j.self.taken c.flip.new.self c.args.i c.loop-j.invariant.taken c.requires.free c.flip.ensures

pub flip-requires : goal.flip-requires
flip-requires c = omega (arith, c.requires.i, c.requires.growth.flags, ap length c.loop-j.invariant.taken)
