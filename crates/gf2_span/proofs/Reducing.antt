-- Rows with the list of their leads, and the reduction of a row by them.
use Rattle.std.proofs.Common.{◌≡◌, ◌⊎◌, ℕ, ◌+◌, ◌-◌, ◌<◌, ◌≤◌, ◌^◌, zero, suc, Bool, true, false, not, List, [], ◌∷◌, ◌++◌, length, get_or, insert, refl, sym, ap, ◌∙◌, subst, inl, inr, arith, Option, Some, None, MatchOption, Bor}
use Rattle.std.specs.Option.{option_copied}
use Rattle.std.specs.List.{slice_get}
use Rattle.std.specs.Bool.{beq}
use Rattle.std.proofs.lemmas.Bool.{cases_lt, cases_eq, cases_order, false≢true}
use Rattle.std.proofs.lemmas.List.{length-map, get_or_default, get_or-map, get_or_past, length-append, get_or_append_left, get_or-append_right}
use Rattle.std.proofs.lemmas.List.Edits.{length-insert, get_or-insert_below, get_or-insert_at, get_or-insert_above}
use Rattle.span_model.specs.Columns.{Columns, empty, ◌△◌, set_of, sets_of}
use Rattle.span_model.specs.Span.{InSpan}
use Rattle.span_model.proofs.Sets.{△_assoc}
use Rattle.span_model.proofs.Members.{in_as, in_sum}
use Rattle.gf2_span.specs.declared.span.Lead.{Lead}
use Rattle.gf2_span.specs.Rows.{IsLast, HaveOwnLeads, HoldsNoLead, LeadsNoMember}
use Rattle.gf2_span.specs.Words.{IsLastBelow}
use Rattle.gf2_span.specs.Echelon.{lead_at, AreAscending, IsSplitAt, IsEchelon, LeadsNone}
use Rattle.gf2_span.proofs.Leads.{last_unique, last_as, row_in, no_last_empty}

-- ---- the list of the leads

-- the columns climb at least as fast as the places
climbs : (leads : List Lead) → AreAscending leads → (k : ℕ) → k < length leads → k ≤ (lead_at leads k).column
climbs leads ascending zero h = omega arith
climbs leads ascending (suc k) h =
    let before : k ≤ (lead_at leads k).column = climbs leads ascending k (omega arith) in
    let less : (lead_at leads k).column < (lead_at leads (suc k)).column = ascending k (suc k) (omega arith) h in
    omega arith

pub no_later : (leads : List Lead) → AreAscending leads → (j k : ℕ) → j ≤ k → k < length leads → (lead_at leads j).column ≤ (lead_at leads k).column
no_later leads ascending j k le h = elim (cases_eq j k) [
  | inl same ↦ (let P : ℕ → Type 0 = λ i. (lead_at leads j).column ≤ (lead_at leads i).column in subst P same (omega arith))
  | inr other ↦ (let less : (lead_at leads j).column < (lead_at leads k).column = ascending j k (omega arith) h in omega arith)
]

-- all leads up to one before a column are before it
pub before_all : (leads : List Lead) (c middle : ℕ) (lead : Lead) → AreAscending leads → middle < length leads → lead ≡ get_or leads middle lead → lead.column < c
    → (k : ℕ) → k < middle + 1 → (lead_at leads k).column < c
before_all leads c middle lead ascending h is less k under =
    let at : lead.column ≡ (lead_at leads middle).column = ap (λ (l : Lead). l.column) (is ∙ get_or_default leads middle lead (record { column = 0; row = 0 }) h) in
    let earlier : (lead_at leads k).column ≤ (lead_at leads middle).column = no_later leads ascending k middle (omega arith) h in
    omega arith

-- the leads before a place are those below its column
pub split_at : (leads : List Lead) → AreAscending leads → (n : ℕ) → n < length leads → IsSplitAt leads n (lead_at leads n).column
split_at leads ascending n h = record {
  within = omega arith;
  below = λ k less. ascending k n less h;
  past = λ k more inside. no_later leads ascending n k more inside;
}

-- ---- rows and their leads

set_at : (rows : List (List Bool)) (k : ℕ) → k < length rows → set_of (get_or rows k []) ≡ get_or (sets_of rows) k empty
set_at rows k h = sym (get_or-map set_of rows k [] empty h)

-- a column of a row is below the row's length
pub set_within : (row : List Bool) (c : ℕ) → set_of row c ≡ true → c < length row
set_within row c e = elim (cases_lt c (length row)) [ inl lt ↦ lt | inr ge ↦ absurd (false≢true (sym (get_or_past row c false ge) ∙ e)) ]

pub lead_within : (columns : ℕ) (rows : List (List Bool)) (leads : List Lead) → IsEchelon columns rows leads → (k : ℕ) → k < length leads → (lead_at leads k).column < columns
lead_within columns rows leads echelon k h =
    let inside : (lead_at leads k).column < length (get_or rows (lead_at leads k).row []) = set_within (get_or rows (lead_at leads k).row []) (lead_at leads k).column (echelon.led k h).there in
    omega (arith, echelon.wide (lead_at leads k).row (echelon.within k h))

-- there are at most as many rows as columns
pub rank_bound : (columns : ℕ) (rows : List (List Bool)) (leads : List Lead) → IsEchelon columns rows leads → length rows ≤ columns
rank_bound columns rows leads echelon = elim (cases_lt 0 (length leads)) [
  | inl some ↦
      let top : length leads - 1 ≤ (lead_at leads (length leads - 1)).column = climbs leads echelon.ascending (length leads - 1) (omega arith) in
      let inside : (lead_at leads (length leads - 1)).column < columns = lead_within columns rows leads echelon (length leads - 1) (omega arith) in
      omega (arith, echelon.many)
  | inr none ↦ omega (arith, echelon.many)
]

-- the lead of a row with a greatest column
listed_lead : (columns : ℕ) (rows : List (List Bool)) (leads : List Lead) → IsEchelon columns rows leads → (i c : ℕ) → i < length (sets_of rows)
    → IsLast (get_or (sets_of rows) i empty) c → (k : ℕ) × (k < length leads) × ((lead_at leads k).column ≡ c) × ((lead_at leads k).row ≡ i)
listed_lead columns rows leads echelon i c h last =
    let inside : i < length rows = omega (arith, length-map rows set_of) in
    let place = echelon.listed i inside in
    let P : ℕ → Type 0 = λ r. IsLast (set_of (get_or rows r [])) (lead_at leads place.0).column in
    let led : IsLast (set_of (get_or rows i [])) (lead_at leads place.0).column = subst P place.2 (echelon.led place.0 place.1) in
    let here : IsLast (set_of (get_or rows i [])) c = last_as (get_or (sets_of rows) i empty) (set_of (get_or rows i [])) c (sym (set_at rows i inside)) last in
    (place.0, place.1, last_unique (set_of (get_or rows i [])) (lead_at leads place.0).column c led here, place.2)

pub echelon_own : (columns : ℕ) (rows : List (List Bool)) (leads : List Lead) → IsEchelon columns rows leads → HaveOwnLeads (sets_of rows)
echelon_own columns rows leads echelon = record { some = some; apart = apart }
  where
    some : (i : ℕ) → i < length (sets_of rows) → (c : ℕ) × IsLast (get_or (sets_of rows) i empty) c
    some i h =
        let inside : i < length rows = omega (arith, length-map rows set_of) in
        let place = echelon.listed i inside in
        let P : ℕ → Type 0 = λ r. IsLast (set_of (get_or rows r [])) (lead_at leads place.0).column in
        let led : IsLast (set_of (get_or rows i [])) (lead_at leads place.0).column = subst P place.2 (echelon.led place.0 place.1) in
        ((lead_at leads place.0).column, last_as (set_of (get_or rows i [])) (get_or (sets_of rows) i empty) (lead_at leads place.0).column (set_at rows i inside) led)

    apart : (i j c : ℕ) → i < length (sets_of rows) → j < length (sets_of rows) → IsLast (get_or (sets_of rows) i empty) c → IsLast (get_or (sets_of rows) j empty) c → i ≡ j
    apart i j c h g at_i at_j =
        let x = listed_lead columns rows leads echelon i c h at_i in
        let y = listed_lead columns rows leads echelon j c g at_j in
        let column : (lead_at leads x.0).column ≡ (lead_at leads y.0).column = x.2 ∙ sym y.2 in
        elim (cases_order x.0 y.0) [
          | inl same ↦ sym x.3 ∙ ap (λ k. (lead_at leads k).row) same ∙ y.3
          | inr other ↦ elim other [
            | inl less ↦ (let before : (lead_at leads x.0).column < (lead_at leads y.0).column = echelon.ascending x.0 y.0 less y.1 in absurd (omega arith))
            | inr more ↦ (let after : (lead_at leads y.0).column < (lead_at leads x.0).column = echelon.ascending y.0 x.0 more x.1 in absurd (omega arith))
          ]
        ]

-- a column of no lead is the greatest one of no row
pub leads_none : (columns : ℕ) (rows : List (List Bool)) (leads : List Lead) (c : ℕ) → IsEchelon columns rows leads
    → ((k : ℕ) → k < length leads → (lead_at leads k).column ≡ c → ⊥) → LeadsNone (sets_of rows) c
leads_none columns rows leads c echelon none i h last = let x = listed_lead columns rows leads echelon i c h last in none x.0 x.1 x.2

-- a lead's column is the greatest one of a member
pub led_member : (columns : ℕ) (rows : List (List Bool)) (leads : List Lead) (k c : ℕ) → IsEchelon columns rows leads → k < length leads → (lead_at leads k).column ≡ c
    → (v : Columns ℕ) × InSpan (sets_of rows) v × IsLast v c
led_member columns rows leads k c echelon h e =
    let P : ℕ → Type 0 = λ i. IsLast (set_of (get_or rows (lead_at leads k).row [])) i in
    (set_of (get_or rows (lead_at leads k).row []), row_in rows (lead_at leads k).row (echelon.within k h), subst P e (echelon.led k h))

-- where no lead's column is the greatest one of a member of the others, both have the empty set alone in common
pub apart_empty : (columns : ℕ) (rows : List (List Bool)) (leads : List Lead) (others : List (Columns ℕ)) → IsEchelon columns rows leads
    → ((k : ℕ) → k < length leads → LeadsNoMember others (lead_at leads k).column) → (v : Columns ℕ) → InSpan (sets_of rows) v → InSpan others v → v ≡ empty
apart_empty columns rows leads others echelon free v m n = no_last_empty (sets_of rows) v (echelon_own columns rows leads echelon) m (λ i c h at last.
    let x = listed_lead columns rows leads echelon i c h at in
    let P : ℕ → Type 0 = λ d. LeadsNoMember others d in
    subst P x.2 (free x.0 x.1) v n last)

-- a set without the columns of the leads has none of the greatest columns of the rows
pub holds_none : (columns : ℕ) (rows : List (List Bool)) (leads : List Lead) (v : Columns ℕ) → IsEchelon columns rows leads
    → ((k : ℕ) → k < length leads → v (lead_at leads k).column ≡ false) → HoldsNoLead (sets_of rows) v
holds_none columns rows leads v echelon clear i c h last = let x = listed_lead columns rows leads echelon i c h last in ap v (sym x.2) ∙ clear x.0 x.1

-- ---- one more row

-- a place among the leads with a new one is that of the new one, or of one that was there
Place : List Lead → Lead → ℕ → ℕ → Type 0
Place leads new n k =
    ((k ≡ n) × (lead_at (insert leads n new) k ≡ new))
    ⊎ ((m : ℕ) × (m < length leads) × (lead_at (insert leads n new) k ≡ lead_at leads m) × (((m < n) × (k ≡ m)) ⊎ ((n ≤ m) × (k ≡ m + 1))))

place : (leads : List Lead) (new : Lead) (n k : ℕ) → n ≤ length leads → k < length leads + 1 → Place leads new n k
unfolding Place
place leads new n k within h = elim (cases_order k n) [
  | inl same ↦ inl (same, ap (λ i. lead_at (insert leads n new) i) same ∙ get_or-insert_at leads n new (record { column = 0; row = 0 }) within)
  | inr other ↦ elim other [
    | inl less ↦ inr (k, omega arith, get_or-insert_below leads n new (record { column = 0; row = 0 }) k less within, inl (less, refl))
    | inr more ↦
        let e : k - 1 + 1 ≡ k = omega arith in
        inr (k - 1, omega arith, ap (λ i. lead_at (insert leads n new) i) (sym e) ∙ get_or-insert_above leads n new (record { column = 0; row = 0 }) (k - 1) (omega arith) within, inr (omega arith, sym e))
  ]
]

-- what is asked of the place of a new lead
pub record IsPlace (leads : List Lead) (n c : ℕ) : Type 0 where
  pub within : n ≤ length leads
  pub before : (k : ℕ) → k < n → (lead_at leads k).column < c
  pub past : (k : ℕ) → n ≤ k → k < length leads → c < (lead_at leads k).column

still_ascending : (leads : List Lead) (new : Lead) (n : ℕ) → AreAscending leads → IsPlace leads n new.column → AreAscending (insert leads n new)
unfolding Place
still_ascending leads new n ascending is j k less h =
    let inside : k < length leads + 1 = omega (arith, length-insert leads n new is.within) in
    let P : Lead → Lead → Type 0 = λ x y. x.column < y.column in
    elim (place leads new n j is.within (omega arith)) [
      | inl here ↦ elim (place leads new n k is.within inside) [
        | inl there ↦ absurd (omega (arith, here.0, there.0))
        | inr there ↦
            let after : n ≤ there.0 = elim there.3 [ inl low ↦ absurd (omega (arith, here.0, low.0, low.1)) | inr high ↦ high.0 ] in
            rw (here.1, there.2) (is.past there.0 after there.1)
      ]
      | inr here ↦ elim (place leads new n k is.within inside) [
        | inl there ↦
            let before : here.0 < n = elim here.3 [ inl low ↦ low.0 | inr high ↦ absurd (omega (arith, there.0, high.0, high.1)) ] in
            rw (here.2, there.1) (is.before here.0 before)
        | inr there ↦
            let order : here.0 < there.0 = elim here.3 [
              | inl low ↦ elim there.3 [ inl low_2 ↦ omega (arith, low.1, low_2.1) | inr high_2 ↦ omega (arith, low.0, high_2.0) ]
              | inr high ↦ elim there.3 [ inl low_2 ↦ absurd (omega (arith, high.0, high.1, low_2.0, low_2.1)) | inr high_2 ↦ omega (arith, high.1, high_2.1) ]
            ] in
            rw (here.2, there.2) (ascending here.0 there.0 order there.1)
      ]
    ]

pub echelon_grows : (columns : ℕ) (rows : List (List Bool)) (leads : List Lead) (row : List Bool) (c n : ℕ) → IsEchelon columns rows leads → length row ≡ columns → IsLast (set_of row) c
    → IsPlace leads n c → IsEchelon columns (rows ++ row ∷ []) (insert leads n (record { column = c; row = length rows }))
unfolding Place
echelon_grows columns rows leads row c n echelon long last is = record {
  small = echelon.small;
  wide = λ k h. elim (cases_lt k (length rows)) [
    | inl old ↦ ap length (get_or_append_left rows (row ∷ []) [] k old) ∙ echelon.wide k old
    | inr now ↦ ap length (new_row k (omega (arith, length-append rows (row ∷ [])))) ∙ long
  ];
  many = length-insert leads n new is.within ∙ ap (λ m. m + 1) echelon.many ∙ sym (length-append rows (row ∷ []));
  ascending = still_ascending leads new n echelon.ascending is;
  within = λ k h. elim (place leads new n k is.within (counted k h)) [
    | inl here ↦ rw (here.1, length-append rows (row ∷ [])) (omega arith)
    | inr here ↦ (let old : (lead_at leads here.0).row < length rows = echelon.within here.0 here.1 in rw (here.2, length-append rows (row ∷ [])) (omega arith))
  ];
  led = λ k h. elim (place leads new n k is.within (counted k h)) [
    | inl here ↦ rw here.1 (last_as (set_of row) (set_of (get_or (rows ++ row ∷ []) (length rows) [])) c (ap set_of (sym (new_row (length rows) refl))) last)
    | inr here ↦ rw here.2 (last_as (set_of (get_or rows (lead_at leads here.0).row [])) (set_of (get_or (rows ++ row ∷ []) (lead_at leads here.0).row [])) (lead_at leads here.0).column
        (ap set_of (sym (get_or_append_left rows (row ∷ []) [] (lead_at leads here.0).row (echelon.within here.0 here.1)))) (echelon.led here.0 here.1))
  ];
  listed = λ i h. elim (cases_lt i (length rows)) [
    | inl old ↦
        let x = echelon.listed i old in
        elim (cases_lt x.0 n) [
          | inl low ↦ (x.0, omega (arith, length-insert leads n new is.within, x.1), ap (λ (l : Lead). l.row) (get_or-insert_below leads n new (record { column = 0; row = 0 }) x.0 low is.within) ∙ x.2)
          | inr high ↦ (x.0 + 1, omega (arith, length-insert leads n new is.within, x.1), ap (λ (l : Lead). l.row) (get_or-insert_above leads n new (record { column = 0; row = 0 }) x.0 high is.within) ∙ x.2)
        ]
    | inr now ↦ (
      n,
      omega (arith, length-insert leads n new is.within, is.within),
      ap (λ (l : Lead). l.row) (get_or-insert_at leads n new (record { column = 0; row = 0 }) is.within) ∙ omega (arith, length-append rows (row ∷ [])),
    )
  ];
}
  where
    new : Lead
    new = record { column = c; row = length rows }

    counted : (k : ℕ) → k < length (insert leads n new) → k < length leads + 1
    counted k h = omega (arith, length-insert leads n new is.within)

    new_row : (k : ℕ) → k ≡ length rows → get_or (rows ++ row ∷ []) k [] ≡ row
    new_row k e =
        let z : k - length rows ≡ 0 = omega arith in
        get_or-append_right rows (row ∷ []) (length rows) k [] refl (omega arith) ∙ ap (λ j. get_or (row ∷ []) j []) z

-- a column of a lead is the greatest one of a row
pub led_not_free : (columns : ℕ) (rows : List (List Bool)) (leads : List Lead) (c k : ℕ) → IsEchelon columns rows leads → LeadsNone (sets_of rows) c → k < length leads → (lead_at leads k).column ≡ c → ⊥
led_not_free columns rows leads c k echelon free h at =
    let inside : (lead_at leads k).row < length rows = echelon.within k h in
    let P : ℕ → Type 0 = λ i. IsLast (set_of (get_or rows (lead_at leads k).row [])) i in
    free (lead_at leads k).row (omega (arith, length-map rows set_of))
    (last_as (set_of (get_or rows (lead_at leads k).row [])) (get_or (sets_of rows) (lead_at leads k).row empty) c (set_at rows (lead_at leads k).row inside) (subst P at (echelon.led k h)))

pub nonzero_first : (columns : ℕ) (rows : List (List Bool)) (leads : List Lead) (o : Option (Bor (List Bool))) → IsEchelon columns rows leads → option_copied o ≡ slice_get rows 0
    → MatchOption o (rows ≡ []) (λ row. (length row.now ≡ columns) × InSpan (sets_of rows) (set_of row.now) × ((c : ℕ) × (set_of row.now c ≡ true)))
nonzero_first columns [] leads None echelon e = refl
nonzero_first columns [] leads (Some x) echelon e = cc
nonzero_first columns (row ∷ rows) leads None echelon e = cc
nonzero_first columns (row ∷ rows) leads (Some x) echelon e =
    let h : 0 < length (row ∷ rows) = omega arith in
    let wide : length row ≡ columns = echelon.wide 0 h in
    let place_of = echelon.listed 0 h in
    let R : ℕ → Type 0 = λ r. IsLast (set_of (get_or (row ∷ rows) r [])) (lead_at leads place_of.0).column in
    let led : IsLast (set_of row) (lead_at leads place_of.0).column = subst R place_of.2 (echelon.led place_of.0 place_of.1) in
    let is : row ≡ x.now = cc in
    let P : List Bool → Type 0 = λ r. (length r ≡ columns) × InSpan (sets_of (row ∷ rows)) (set_of r) × ((c : ℕ) × (set_of r c ≡ true)) in
    subst P is (wide, row_in (row ∷ rows) 0 h, ((lead_at leads place_of.0).column, led.there))

-- one more row fits the numbering
pub row_fits : (columns : ℕ) (rows : List (List Bool)) (leads : List Lead) → IsEchelon columns rows leads → length rows < 2 ^ 32
row_fits columns rows leads echelon = omega (arith, rank_bound columns rows leads echelon, echelon.small)

-- ---- one step of a search for a lead

-- what the search answers where the column has no lead
pub free_place : (leads : List Lead) (n c : ℕ) → IsPlace leads n c → (k : ℕ) → k < length leads → (lead_at leads k).column ≡ c → ⊥
free_place leads n c is k h e = elim (cases_lt k n) [
  | inl low ↦ (let less : (lead_at leads k).column < c = is.before k low in absurd (omega arith))
  | inr high ↦ (let more : c < (lead_at leads k).column = is.past k high h in absurd (omega arith))
]

-- what is known while the search for a lead of the row goes down: the first leads, which are below the place `high`, are still to be looked at
pub record IsSeeking (leads : List Lead) (row : List Bool) (most left high : ℕ) : Type 0 where
  pub fewer : left ≤ most
  pub fits : high ≤ length row
  pub split : IsSplitAt leads left high
  pub none : (k : ℕ) → left ≤ k → k < most → set_of row (lead_at leads k).column ≡ false

-- ---- the reduction

-- the row that was read is the one that the lead at a place leads
pub record IsRead (rows : List (List Bool)) (leads : List Lead) (k : ℕ) (row : List Bool) : Type 0 where
  pub is : row ≡ get_or rows (lead_at leads k).row []
  pub last : IsLast (set_of row) (lead_at leads k).column
  pub member : InSpan (sets_of rows) (set_of row)

pub read_row : (columns : ℕ) (rows : List (List Bool)) (leads : List Lead) (k r : ℕ) (row : List Bool) → IsEchelon columns rows leads → k < length leads → r ≡ (lead_at leads k).row
    → row ≡ get_or rows r row → (length row ≡ columns) × IsRead rows leads k row
read_row columns rows leads k r row echelon h at is =
    let inside : r < length rows = omega (arith, echelon.within k h) in
    let e : row ≡ get_or rows (lead_at leads k).row [] = is ∙ get_or_default rows r row [] inside ∙ ap (λ i. get_or rows i []) at in (
      ap length e ∙ echelon.wide (lead_at leads k).row (echelon.within k h),
      record {
        is = e;
        last = last_as (set_of (get_or rows (lead_at leads k).row [])) (set_of row) (lead_at leads k).column (ap set_of (sym e)) (echelon.led k h);
        member = in_as (sets_of rows) (ap set_of (sym e)) (row_in rows (lead_at leads k).row (echelon.within k h));
      },
    )

pub read_place : (columns : ℕ) (rows : List (List Bool)) (leads : List Lead) (k r : ℕ) → IsEchelon columns rows leads → k < length leads → r ≡ (lead_at leads k).row → r < length rows
read_place columns rows leads k r echelon h at = omega (arith, echelon.within k h)

-- what is known while a row is reduced by the leads from the last one down
pub record IsReducing (leads : List Lead) (now : List Bool) (most end : ℕ) : Type 0 where
  pub fits : end ≤ length now
  pub split : IsSplitAt leads most end
  pub clear : (k : ℕ) → most ≤ k → k < length leads → set_of now (lead_at leads k).column ≡ false

-- the row of the last lead that is in the row was added
pub reducing_more : (rows : List (List Bool)) (leads : List Lead) (now new led : List Bool) (most end k : ℕ) → AreAscending leads → IsReducing leads now most end → k < most
    → set_of now (lead_at leads k).column ≡ true → ((j : ℕ) → k < j → j < most → set_of now (lead_at leads j).column ≡ false) → IsRead rows leads k led
    → length new ≡ length now → set_of new ≡ set_of now △ set_of led → IsReducing leads new k (lead_at leads k).column
reducing_more rows leads now new led most end k ascending reducing less there none read long sum =
    let inside : k < length leads = omega (arith, reducing.split.within) in
    record {
      fits = omega (arith, set_within now (lead_at leads k).column there);
      split = split_at leads ascending k inside;
      clear = λ j low high. ap (λ (x : Columns ℕ). x (lead_at leads j).column) sum ∙ elim (cases_eq k j) [
        | inl same ↦
            let P : ℕ → Type 0 = λ i. (set_of now △ set_of led) (lead_at leads i).column ≡ false in
            subst P same (ap (λ x. not (beq x (set_of led (lead_at leads k).column))) there ∙ ap (λ x. not (beq true x)) read.last.there)
        | inr other ↦
            let after : (lead_at leads k).column < (lead_at leads j).column = ascending k j (omega arith) high in
            let was : set_of now (lead_at leads j).column ≡ false = elim (cases_lt j most) [ inl under ↦ none j (omega arith) under | inr over ↦ reducing.clear j over high ] in
            ap (λ x. not (beq x (set_of led (lead_at leads j).column))) was ∙ ap (λ x. not (beq false x)) (read.last.none_after (lead_at leads j).column after)
      ];
    }

pub reducing_ends : (columns : ℕ) (rows : List (List Bool)) (leads : List Lead) (now : List Bool) (most end : ℕ) → IsEchelon columns rows leads → IsReducing leads now most end
    → ((k : ℕ) → k < most → set_of now (lead_at leads k).column ≡ false) → HoldsNoLead (sets_of rows) (set_of now)
reducing_ends columns rows leads now most end echelon reducing none =
    holds_none columns rows leads (set_of now) echelon (λ k h. elim (cases_lt k most) [ inl under ↦ none k under | inr over ↦ reducing.clear k over h ])

-- what was added to the row is a member
pub added_in : (rows : List (List Bool)) (was now new led : List Bool) → InSpan (sets_of rows) (set_of was △ set_of now) → InSpan (sets_of rows) (set_of led)
    → set_of new ≡ set_of now △ set_of led → InSpan (sets_of rows) (set_of was △ set_of new)
added_in rows was now new led same member sum =
    in_as (sets_of rows) (△_assoc (set_of was) (set_of now) (set_of led) ∙ ap (λ (x : Columns ℕ). set_of was △ x) (sym sum))
    (in_sum (sets_of rows) (set_of was △ set_of now) (set_of led) same member)

-- ---- the reduction of the greatest columns alone

-- what is known meanwhile: nothing is left from the end on
pub record IsLowering (leads : List Lead) (now : List Bool) (most end : ℕ) : Type 0 where
  pub fits : end ≤ length now
  pub within : most ≤ length leads
  pub past : (k : ℕ) → most ≤ k → k < length leads → end ≤ (lead_at leads k).column
  pub clear : (c : ℕ) → end ≤ c → set_of now c ≡ false

pub lowering_last : (leads : List Lead) (now : List Bool) (most end c : ℕ) → IsLowering leads now most end → IsLastBelow (set_of now) end c → IsLast (set_of now) c
lowering_last leads now most end c lowering last = record {
  there = last.there;
  none_after = λ d after. elim (cases_lt d end) [ inl under ↦ last.none_after d after under | inr over ↦ lowering.clear d over ];
}

pub lowering_more : (rows : List (List Bool)) (leads : List Lead) (now new led : List Bool) (most end c k : ℕ) → AreAscending leads → IsLowering leads now most end → IsLastBelow (set_of now) end c → k < most
    → (lead_at leads k).column ≡ c → IsRead rows leads k led → length new ≡ length now → set_of new ≡ set_of now △ set_of led → IsLowering leads new k c
lowering_more rows leads now new led most end c k ascending lowering last less at read long sum =
    let P : ℕ → Type 0 = λ i. IsLast (set_of led) i in
    let led_last : IsLast (set_of led) c = subst P at read.last in
    let now_last : IsLast (set_of now) c = lowering_last leads now most end c lowering last in
    record {
      fits = omega (arith, lowering.fits, last.below);
      within = omega (arith, lowering.within);
      past = λ j low high. (let later : (lead_at leads k).column ≤ (lead_at leads j).column = no_later leads ascending k j low high in omega arith);
      clear = λ d h. ap (λ (x : Columns ℕ). x d) sum ∙ elim (cases_eq c d) [
        | inl same ↦
            let Q : ℕ → Type 0 = λ i. (set_of now △ set_of led) i ≡ false in
            subst Q same (ap (λ x. not (beq x (set_of led c))) last.there ∙ ap (λ x. not (beq true x)) led_last.there)
        | inr other ↦ ap (λ x. not (beq x (set_of led d))) (now_last.none_after d (omega arith)) ∙ ap (λ x. not (beq false x)) (led_last.none_after d (omega arith))
      ];
    }

-- a row of the span is as wide as the span
pub item_wide : (columns : ℕ) (rows : List (List Bool)) (leads : List Lead) (i : ℕ) (row : List Bool) → IsEchelon columns rows leads → i < length rows → row ≡ get_or rows i row → length row ≡ columns
item_wide columns rows leads i row echelon h is = ap length (is ∙ get_or_default rows i row [] h) ∙ echelon.wide i h
