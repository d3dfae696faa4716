use Rattle.std.proofs.Common.{ℕ, ◌≡◌, ◌≤◌, ◌<◌, ◌*◌, ◌++◌, [], List, Bool, All, length, get_or, take, sym, ap, subst, ◌∙◌, arith}
use Rattle.span_model.specs.Columns.{set_of, sets_of}
use Rattle.span_model.specs.Span.{InSpan, SameSpan}
use Rattle.gf2_span.specs.Basis.{row_sets}
use Rattle.span_select.specs.declared.groups.Group.{Group}
use Rattle.span_select.specs.Selection.{rows_of, AreLeastNumbers}
use Rattle.span_select.specs.RowGroups.{RowGroups, group_sets}
use Rattle.span_select.specs.Words.{StandsFor}
use Rattle.span_select.proofs.Growing.{grown_in_front, count_fits, rows_fit, item_of_map, sets_at}
use Rattle.span_select.proofs.Reaching.{stage_begins, stage_less, stage_next_at, stage_none, stage_ends}
use Rattle.span_select.proofs.groups.Groups.least.Goals as goal
use Rattle.span_select.proofs.groups.Groups.least.Goals.{in_default-get-via-in-Some-get+else-owner-below, in_default-get-via-in_default-get}

pub loop-c-init : goal.loop-c-init
loop-c-init c =
    let leak_wide : length c.args.leak.now ≡ c.self.inside.columns = c.requires.leak ∙ sym (ap (λ (g : RowGroups). g.columns) c.self.view_is) in
    let P : ℕ → Type 0 = λ n. StandsFor n (row_sets c.self.inside.basis) (set_of c.in_ok-rest.rest) (set_of c.args.leak.now) in
    record {
      columns = c.in_ok-span.ensures.columns;
      wide = c.in_ok-rest.ensures.columns ∙ ap (λ n. 2 * n) leak_wide;
      stage = rw c.new-numbers.ensures.items
          (stage_begins _ _ _ _ _ (c.self.invariant.kept c.if-not-self.false) (sets_of c.args.own.now) c.args.groups (set_of c.args.leak.now)
          (count_fits _ _ c.args.groups (ap (λ (g : RowGroups). g.groups) c.self.view_is) c.requires.within)
          (set_of c.in_ok-rest.rest) (row_sets c.in_ok-span.span) c.in_ok-span.ensures.lifted (subst P leak_wide c.in_ok-rest.ensures.stands) c.in_ok-rest.ensures.reduced);
    }

pub insert_all-requires : goal.insert_all-requires
insert_all-requires c =
    let count : c.args.groups ≤ length c.self.inside.groups.items = rows_fit (λ (g : Group). g.rows.items) c.self.inside.groups.items c.args.self.now.groups c.args.groups (ap (λ (g : RowGroups). g.groups) c.self.view_is) c.requires.within in
    let inside : c.in-Some-get.owner.now < length c.self.inside.groups.items = omega (arith, count, c.if-owner-below.true, c.loop-c.invariant.stage.fits) in
    let is : c.index.result.now ≡ get_or c.self.inside.groups.items c.in-Some-get.owner.now c.index.result.now = c.index.ensures in
    let P : List (List Bool) → Type 0 = λ (x : List (List Bool)). All (λ (word : List Bool). length word ≡ 2 * c.self.inside.columns) x in
    let wide : All (λ (word : List Bool). length word ≡ 2 * c.self.inside.columns) c.index.result.now.words.items =
    subst P (item_of_map (λ (g : Group). g.words.items) c.self.inside.groups.items c.in-Some-get.owner.now c.index.result.now [] inside is) (c.self.invariant.words_wide c.in-Some-get.owner.now) in
    let Q : List (List Bool) → Type 0 = λ (x : List (List Bool)). All (λ
    (word : List Bool). length word ≡ c.loop-c.span.columns) x in
    subst Q (sym c.as_slice.ensures.value) (λ k d h. wide k d h ∙ sym c.loop-c.invariant.columns)

pub loop-c-preserved : goal.loop-c-preserved
loop-c-preserved c =
    let kept = c.self.invariant.kept c.if-not-self.false in
    let fits = count_fits _ _ c.args.groups (ap (λ (g : RowGroups). g.groups) c.self.view_is) c.requires.within in
    let count : c.args.groups ≤ length c.self.inside.groups.items = rows_fit (λ (g : Group). g.rows.items) c.self.inside.groups.items c.args.self.now.groups c.args.groups (ap (λ (g : RowGroups). g.groups) c.self.view_is) c.requires.within in
    let inside : c.in-Some-get.owner.now < length c.self.inside.groups.items = omega (arith, count, c.if-owner-below.true, c.loop-c.invariant.stage.fits) in
    let is : c.index.result.now ≡ get_or c.self.inside.groups.items c.in-Some-get.owner.now c.index.result.now = c.index.ensures in
    let column_in : c.in-Some.c < length c.self.inside.owners.items = rw (← c.deref.ensures.value) c.in-Some-get.ensures.lookup.3.0 in
    let owner : c.in-Some-get.owner.now ≡ get_or c.self.inside.owners.items c.in-Some.c 0 = rw (← c.deref.ensures.value) (c.in-Some-get.ensures.lookup.3.1 0) in
    let below : get_or c.self.inside.owners.items c.in-Some.c 0 < c.loop-c.below = rw (← owner) c.if-owner-below.true in
    let R : List (List Bool) → Type 0 = λ (x : List (List Bool)). SameSpan (row_sets c.insert_all.new.self)
    (row_sets c.loop-c.span ++ sets_of x) in
    record {
      columns = c.in_ok-insert_all-in-Some-get.ensures.columns ∙ c.loop-c.invariant.columns;
      wide = c.in-Some.ensures.columns ∙ c.loop-c.invariant.wide;
      stage = rw c.in_ok-push-in-Some-get.ensures.items
          (stage_next_at _ _ _ _ _ kept (sets_of c.args.own.now) c.args.groups (set_of c.args.leak.now) fits
          c.loop-c.below c.loop-c.numbers.items (row_sets c.loop-c.span) (set_of c.reduce_last.new.row)
          (stage_less _ _ _ _ _ kept (sets_of c.args.own.now) c.args.groups (set_of c.args.leak.now) fits
          c.loop-c.below c.loop-c.numbers.items (row_sets c.loop-c.span) (set_of c.loop-c.rest) c.loop-c.invariant.stage (set_of c.reduce_last.new.row) c.in-Some.ensures.same)
          c.in-Some.c c.in-Some.ensures.last.0 c.in-Some.ensures.last.1 column_in below
          c.in-Some-get.owner.now (sets_of c.index.result.now.words.items) (row_sets c.insert_all.new.self) owner
          (sets_at (λ (g : Group). g.words.items) c.self.inside.groups.items c.in-Some-get.owner.now c.index.result.now inside is)
          (grown_in_front (row_sets c.insert_all.new.self) (row_sets c.loop-c.span)
          (sets_of c.index.result.now.words.items)
          (subst R c.as_slice.ensures.value c.in_ok-insert_all-in-Some-get.ensures.span)));
    }

pub returns-in_default-get : goal.returns-in_default-get
returns-in_default-get c =
    let kept = c.self.invariant.kept c.if-not-self.false in
    let fits = count_fits _ _ c.args.groups (ap (λ (g : RowGroups). g.groups) c.self.view_is) c.requires.within in
    let P : RowGroups → Type 0 = λ (g : RowGroups). InSpan (sets_of c.args.own.now ++ rows_of (take c.args.groups (group_sets g))) (set_of c.args.leak.now) → ⊥ in
    subst P c.self.view_is
    (stage_none _ _ _ _ _ kept (sets_of c.args.own.now) c.args.groups (set_of c.args.leak.now) fits
    c.loop-c.below c.loop-c.numbers.items (row_sets c.loop-c.span) (set_of c.reduce_last.new.row)
    (stage_less _ _ _ _ _ kept (sets_of c.args.own.now) c.args.groups (set_of c.args.leak.now) fits
    c.loop-c.below c.loop-c.numbers.items (row_sets c.loop-c.span) (set_of c.loop-c.rest) c.loop-c.invariant.stage (set_of c.reduce_last.new.row) c.in-Some.ensures.same)
    c.in-Some.c c.in-Some.ensures.last.0 c.in-Some.ensures.last.1
    (λ m. elim c.in_default-get.branch [
      | in_default-get-via-in-Some-get+else-owner-below w ↦
          let owner : w.in-Some-get.owner.now ≡ get_or c.self.inside.owners.items c.in-Some.c 0 = rw (← c.deref.ensures.value) (w.in-Some-get.ensures.lookup.3.1 0) in
          absurd (omega (arith, m.1, owner, w.if-owner-below.false))
      | in_default-get-via-in_default-get w ↦
          let past : length c.self.inside.owners.items ≤ c.in-Some.c = rw (← c.deref.ensures.value) w.in_default-get.ensures.lookup.3 in
          absurd (omega (arith, m.0, past))
    ]))

pub returns : goal.returns
returns c =
    let kept = c.self.invariant.kept c.if-not-self.false in
    let fits = count_fits _ _ c.args.groups (ap (λ (g : RowGroups). g.groups) c.self.view_is) c.requires.within in
    let P : RowGroups → Type 0 = λ (g : RowGroups). AreLeastNumbers (sets_of c.args.own.now) (take c.args.groups (group_sets g)) (set_of c.args.leak.now) c.reverse.new.self.items in
    subst P c.self.view_is
    (rw c.reverse.ensures.items
    (stage_ends _ _ _ _ _ kept (sets_of c.args.own.now) c.args.groups (set_of c.args.leak.now) fits
    c.loop-c.below c.loop-c.numbers.items (row_sets c.loop-c.span) (set_of c.reduce_last.new.row)
    (stage_less _ _ _ _ _ kept (sets_of c.args.own.now) c.args.groups (set_of c.args.leak.now) fits
    c.loop-c.below c.loop-c.numbers.items (row_sets c.loop-c.span) (set_of c.loop-c.rest) c.loop-c.invariant.stage (set_of c.reduce_last.new.row) c.in_default.ensures.same)
    c.in_default.ensures.last))
