-- Greatest columns, and what rows with different ones span.
use Rattle.std.proofs.Common.{◌≡◌, ◌⊎◌, ◌↔◌, ℕ, ◌+◌, ◌<◌, ◌≤◌, zero, suc, Bool, true, false, not, List, [], ◌∷◌, ◌++◌, length, get_or, refl, sym, ap, ◌∙◌, subst, inl, inr, arith, suc-le-suc, Option, Some, None, MatchOption, MatchBool, take, is_some, Result, Ok, Err}
use Rattle.std.specs.Result.{OnErr}
use native.Mathlib.Nat.{le_of_suc-le-suc}
use Rattle.std.specs.Bool.{beq}
use Rattle.std.proofs.lemmas.Bool.{cases_lt, cases_order, false≢true, true≢false}
use Rattle.std.proofs.lemmas.List.{append_assoc, take_all, take_more, length-map, get_or_default, get_or-map, map-append}
use Rattle.span_model.specs.Columns.{Columns, empty, ◌△◌, set_of, sets_of}
use Rattle.span_model.specs.Span.{difference, InSpan, Spans, SameSpan, IsIndependent, IsSum}
use Rattle.span_model.proofs.Sets.{△_comm, △-empty, △_cancel, △_cancel_right}
use Rattle.span_model.proofs.Members.{in_as, in_sum, in_head, in_later, in_behind, in_front, all_in, spans_none, spans_cons, spans_later, spans_both, spans_all, together}
use Rattle.gf2_span.specs.Rows.{IsLast, HaveOwnLeads, HoldsNoLead, LeadsNoMember, LeadsAreKept}
use Rattle.gf2_span.specs.Echelon.{LeadsNone}

-- ---- the greatest column of a set

pub last_unique : (v : Columns ℕ) (c d : ℕ) → IsLast v c → IsLast v d → c ≡ d
last_unique v c d at_c at_d = elim (cases_order c d) [
  | inl same ↦ same
  | inr other ↦ elim other [
    | inl less ↦ absurd (false≢true (sym (at_c.none_after d less) ∙ at_d.there))
    | inr more ↦ absurd (false≢true (sym (at_d.none_after c more) ∙ at_c.there))
  ]
]

pub last_not_empty : (v : Columns ℕ) (c : ℕ) → IsLast v c → v ≡ empty → ⊥
last_not_empty v c last e = false≢true (sym (ap (λ (x : Columns ℕ). x c) e) ∙ last.there)

pub last_as : (v w : Columns ℕ) (c : ℕ) → v ≡ w → IsLast v c → IsLast w c
last_as v w c e last = let P : Columns ℕ → Type 0 = λ x. IsLast x c in subst P e last

-- of two sets with different greatest columns, the greater one is that of the sum
last_sum : (a b : Columns ℕ) (c d : ℕ) → IsLast a c → IsLast b d → d < c → IsLast (a △ b) c
last_sum a b c d at_c at_d less = record {
  there = ap (λ x. not (beq x (b c))) at_c.there ∙ ap (λ x. not (beq true x)) (at_d.none_after c less);
  none_after = λ k h. ap (λ x. not (beq x (b k))) (at_c.none_after k h) ∙ ap (λ x. not (beq false x)) (at_d.none_after k (omega arith));
}

-- ---- rows whose greatest columns differ

own_tail : (row : Columns ℕ) (rows : List (Columns ℕ)) → HaveOwnLeads (row ∷ rows) → HaveOwnLeads rows
own_tail row rows own = record {
  some = λ k h. own.some (suc k) (suc-le-suc h);
  apart = λ j k c h i at_j at_k. (let e : suc j ≡ suc k = own.apart (suc j) (suc k) c (suc-le-suc h) (suc-le-suc i) at_j at_k in omega arith);
}

pub own_none : HaveOwnLeads []
own_none = record { some = λ k h. absurd (omega arith); apart = λ j k c h i at_j at_k. absurd (omega arith) }

-- a selection picks no row, or its difference has the greatest column of one of the rows as its own
Chosen : List (Columns ℕ) → List Bool → Type 0
Chosen rows picks =
    ((difference picks rows ≡ empty) × ((k : ℕ) → k < length rows → get_or picks k false ≡ false))
    ⊎ ((k : ℕ) × (c : ℕ) × (k < length rows) × IsLast (get_or rows k empty) c × IsLast (difference picks rows) c)

unpicked : (row : Columns ℕ) (rows : List (Columns ℕ)) (picks : List Bool) → Chosen rows picks → Chosen (row ∷ rows) (false ∷ picks)
unfolding Chosen
unpicked row rows picks (inl none) = inl (none.0, nowhere)
  where
    nowhere : (k : ℕ) → k < suc (length rows) → get_or (false ∷ picks) k false ≡ false
    nowhere zero h = refl
    nowhere (suc k) h = none.1 k (le_of_suc-le-suc h)
unpicked row rows picks (inr (k, c, within, at_row, at_sum)) = inr (suc k, c, suc-le-suc within, at_row, at_sum)

picked : (row : Columns ℕ) (rows : List (Columns ℕ)) (picks : List Bool) → HaveOwnLeads (row ∷ rows) → Chosen rows picks → Chosen (row ∷ rows) (true ∷ picks)
unfolding Chosen
picked row rows picks own (inl none) =
    let lead = own.some 0 (omega arith) in
    inr (0, lead.0, omega arith, lead.1, last_as row (row △ difference picks rows) lead.0 (sym (ap (λ x. row △ x) none.0 ∙ △-empty row)) lead.1)
picked row rows picks own (inr (k, c, within, at_row, at_sum)) =
    let lead = own.some 0 (omega arith) in
    elim (cases_order lead.0 c) [
      | inl same ↦
          let P : ℕ → Type 0 = λ i. IsLast row i in
          let e : 0 ≡ suc k = own.apart 0 (suc k) c (omega arith) (suc-le-suc within) (subst P same lead.1) at_row in
          absurd (omega arith)
      | inr other ↦ elim other [
        | inl less ↦ inr (
          suc k,
          c,
          suc-le-suc within,
          at_row,
          last_as (difference picks rows △ row) (row △ difference picks rows) c (△_comm (difference picks rows) row) (last_sum (difference picks rows) row c lead.0 at_sum lead.1 less),
        )
        | inr more ↦ inr (0, lead.0, omega arith, lead.1, last_sum row (difference picks rows) lead.0 c lead.1 at_sum more)
      ]
    ]

chosen : (rows : List (Columns ℕ)) → HaveOwnLeads rows → (picks : List Bool) → Chosen rows picks
unfolding Chosen
chosen [] own [] = inl (refl, λ k h. refl)
chosen [] own (pick ∷ picks) = inl (refl, λ k h. absurd (omega arith))
chosen (row ∷ rows) own [] = inl (refl, λ k h. refl)
chosen (row ∷ rows) own (false ∷ picks) = unpicked row rows picks (chosen rows (own_tail row rows own) picks)
chosen (row ∷ rows) own (true ∷ picks) = picked row rows picks own (chosen rows (own_tail row rows own) picks)

pub leads_kept : LeadsAreKept
unfolding Chosen
leads_kept rows own v (picks, e) some = elim (chosen rows own picks) [
  | inl none ↦ absurd (some (sym e ∙ none.0))
  | inr found ↦ (found.0, found.1, found.2, found.3, last_as (difference picks rows) v found.1 e found.4)
]

pub own_independent : (rows : List (Columns ℕ)) → HaveOwnLeads rows → IsIndependent rows
unfolding Chosen
own_independent rows own picks e = elim (chosen rows own picks) [
  | inl none ↦ none.1
  | inr found ↦ absurd (last_not_empty (difference picks rows) found.1 found.4 e)
]

-- a set whose greatest column is that of no row is not in the span
pub outside : (rows : List (Columns ℕ)) (v : Columns ℕ) (c : ℕ) → HaveOwnLeads rows → IsLast v c → LeadsNone rows c → ¬ InSpan rows v
unfolding Chosen
outside rows v c own last free (picks, e) = elim (chosen rows own picks) [
  | inl none ↦ absurd (last_not_empty v c last (sym e ∙ none.0))
  | inr found ↦
      let P : ℕ → Type 0 = λ i. IsLast (get_or rows found.0 empty) i in
      let same : found.1 ≡ c = last_unique v found.1 c (last_as (difference picks rows) v found.1 e found.4) last in
      absurd (free found.0 found.2 (subst P same found.3))
]

-- a member without any of the greatest columns of the rows is empty
pub no_lead_empty : (rows : List (Columns ℕ)) (v : Columns ℕ) → HaveOwnLeads rows → InSpan rows v → HoldsNoLead rows v → v ≡ empty
unfolding Chosen
no_lead_empty rows v own (picks, e) clear = elim (chosen rows own picks) [
  | inl none ↦ sym e ∙ none.0
  | inr found ↦ absurd (false≢true (sym (clear found.0 found.1 found.2 found.3) ∙ (last_as (difference picks rows) v found.1 e found.4).there))
]

-- a member that has the greatest column of none of the rows as its own is empty
pub no_last_empty : (rows : List (Columns ℕ)) (v : Columns ℕ) → HaveOwnLeads rows → InSpan rows v
    → ((k c : ℕ) → k < length rows → IsLast (get_or rows k empty) c → ¬ IsLast v c) → v ≡ empty
unfolding Chosen
no_last_empty rows v own (picks, e) none = elim (chosen rows own picks) [
  | inl unpicks ↦ sym e ∙ unpicks.0
  | inr found ↦ absurd (none found.0 found.1 found.2 found.3 (last_as (difference picks rows) v found.1 e found.4))
]

pub no_lead_sum : (rows : List (Columns ℕ)) (v w : Columns ℕ) → HoldsNoLead rows v → HoldsNoLead rows w → HoldsNoLead rows (v △ w)
no_lead_sum rows v w of_v of_w k c h at = ap (λ x. not (beq x (w c))) (of_v k c h at) ∙ ap (λ x. not (beq false x)) (of_w k c h at)

pub no_lead_as : (rows : List (Columns ℕ)) (v w : Columns ℕ) → v ≡ w → HoldsNoLead rows v → HoldsNoLead rows w
no_lead_as rows v w e clear k c h at = ap (λ (x : Columns ℕ). x c) (sym e) ∙ clear k c h at

-- the greatest column of a set without any of the rows' greatest columns is that of no row
pub no_lead_free : (rows : List (Columns ℕ)) (v : Columns ℕ) (c : ℕ) → HoldsNoLead rows v → IsLast v c → LeadsNone rows c
no_lead_free rows v c clear last k h at = false≢true (sym (clear k c h at) ∙ last.there)

-- ---- members and what is left of them

-- each row is in the span
pub row_in : (rows : List (List Bool)) (k : ℕ) → k < length rows → InSpan (sets_of rows) (set_of (get_or rows k []))
row_in rows k h =
    in_as (sets_of rows) (get_or-map set_of rows k [] empty h) (all_in (sets_of rows) k empty (omega (arith, length-map rows set_of)))

-- a set is in the span with what is left of it
pub left_in : (rows : List (Columns ℕ)) (v w : Columns ℕ) → InSpan rows (v △ w) → w ≡ empty → InSpan rows v
left_in rows v w h e = in_as rows (ap (λ (x : Columns ℕ). v △ x) e ∙ △-empty v) h

pub left_out : (rows : List (Columns ℕ)) (v w : Columns ℕ) → InSpan rows (v △ w) → ¬ InSpan rows w → ¬ InSpan rows v
left_out rows v w h out m = out (in_as rows (△_cancel v w) (in_sum rows v (v △ w) m h))

-- what is left of a set when no greatest column of the rows is left in it is empty exactly for members
pub left_zero : (rows : List (Columns ℕ)) (v w : Columns ℕ) → HaveOwnLeads rows → InSpan rows (v △ w) → HoldsNoLead rows w → (w ≡ empty) ↔ InSpan rows v
left_zero rows v w own same clear =
    (left_in rows v w same, λ m. no_lead_empty rows w own (in_as rows (△_cancel v w) (in_sum rows v (v △ w) m same)) clear)

pub answered : (rows : List (Columns ℕ)) (row new : Columns ℕ) (o : Option ℕ) (none : Bool) → HaveOwnLeads rows
    → InSpan rows (row △ new) → MatchOption o (new ≡ empty) (λ c. IsLast new c × LeadsNone rows c)
    → is_some o ≡ not none → MatchBool none (InSpan rows row) (¬ InSpan rows row)
answered rows row new None true own same rest e = left_in rows row new same rest
answered rows row new None false own same rest e = absurd (false≢true e)
answered rows row new (Some c) true own same rest e = absurd (true≢false e)
answered rows row new (Some c) false own same rest e = left_out rows row new same (outside rows new c own rest.0 rest.1)

-- a greatest column that leads no row is that of no member
pub no_member_led : (rows : List (Columns ℕ)) (new : Columns ℕ) (o : Option ℕ) → HaveOwnLeads rows → MatchOption o (new ≡ empty) (λ c. IsLast new c × LeadsNone rows c)
    → MatchOption o (new ≡ empty) (λ c. IsLast new c × LeadsNoMember rows c)
no_member_led rows new None own rest = rest
no_member_led rows new (Some c) own rest = (rest.0, λ v member last. outside rows v c own last rest.1 member)

-- ---- a span with one more row

pub sets_push : (rows : List (List Bool)) (row : List Bool) → sets_of (rows ++ row ∷ []) ≡ sets_of rows ++ set_of row ∷ []
sets_push rows row = map-append set_of rows (row ∷ [])

-- the reduced row spans with the rows what the row spans with them
pub span_grown : (rows : List (Columns ℕ)) (v w : Columns ℕ) → InSpan rows (v △ w) → SameSpan (rows ++ w ∷ []) (v ∷ rows)
span_grown rows v w h =
    let old : Spans (v ∷ rows) rows = spans_later v rows in
    let w_in : InSpan (v ∷ rows) w = in_as (v ∷ rows) (△_cancel v w) (in_sum (v ∷ rows) v (v △ w) (in_head v rows) (old (v △ w) h)) in
    let forth : Spans (v ∷ rows) (rows ++ w ∷ []) = spans_both (v ∷ rows) rows (w ∷ []) old (spans_cons (v ∷ rows) w [] w_in (spans_none (v ∷ rows))) in
    let kept : Spans (rows ++ w ∷ []) rows = in_behind rows (w ∷ []) in
    let w_there : InSpan (rows ++ w ∷ []) w = in_front rows (w ∷ []) w (in_head w []) in
    let v_in : InSpan (rows ++ w ∷ []) v =
    in_as (rows ++ w ∷ []) (△_cancel_right v w) (in_sum (rows ++ w ∷ []) (v △ w) w (kept (v △ w) h) w_there) in
    let back : Spans (rows ++ w ∷ []) (v ∷ rows) = spans_cons (rows ++ w ∷ []) v rows v_in kept in
    λ u. (forth u, back u)

pub span_kept : (rows : List (Columns ℕ)) (v : Columns ℕ) → InSpan rows v → SameSpan rows (v ∷ rows)
span_kept rows v h = let back : Spans rows (v ∷ rows) = spans_cons rows v rows h (λ u m. m) in λ u. (in_later v rows u, back u)

-- rows that are all in a span are spanned
pub all_within : (rows : List (Columns ℕ)) (others : List (List Bool)) → ((k : ℕ) → k < length others → InSpan rows (set_of (get_or others k []))) → Spans rows (sets_of others)
all_within rows others inside = spans_all rows (sets_of others) (λ k d h.
    let within : k < length others = omega (arith, length-map others set_of) in
    in_as rows (sym (get_or-map set_of others k [] d within)) (inside k within))

-- ---- sums

-- what holds whatever came holds where an error came
pub on_err : {T E : Type 0} (result : Result T E) (P : Type 0) → P → OnErr result P
on_err (Ok value) P p = tt
on_err (Err error) P p = p

-- one more row was inserted
pub sum_more : (sum new rows : List (Columns ℕ)) (others : List (List Bool)) (i : ℕ) (row : List Bool) → i < length others → row ≡ get_or others i row
    → SameSpan sum (rows ++ sets_of (take i others)) → SameSpan new (set_of row ∷ sum) → SameSpan new (rows ++ sets_of (take (i + 1) others))
sum_more sum new rows others i row h is before grown =
    let next : sets_of (take (i + 1) others) ≡ sets_of (take i others) ++ set_of row ∷ [] =
    ap sets_of (take_more others i row h ∙ ap (λ (r : List Bool). take i others ++ r ∷ []) (sym is)) ∙ sets_push (take i others) row in
    let regroup : rows ++ sets_of (take (i + 1) others) ≡ (rows ++ sets_of (take i others)) ++ set_of row ∷ [] =
    ap (λ (r : List (Columns ℕ)). rows ++ r) next ∙ sym (append_assoc rows (sets_of (take i others)) (set_of row ∷ [])) in
    λ v. rw regroup (
      (λ m. spans_both ((rows ++ sets_of (take i others)) ++ set_of row ∷ []) (set_of row ∷ []) sum
          (λ u n. in_front (rows ++ sets_of (take i others)) (set_of row ∷ []) u n)
          (λ u n. in_behind (rows ++ sets_of (take i others)) (set_of row ∷ []) u ((before u).0 n)) v ((grown v).0 m)),
      (λ m. (grown v).1 (spans_both (set_of row ∷ sum) (rows ++ sets_of (take i others)) (set_of row ∷ [])
          (λ u n. in_later (set_of row) sum u ((before u).1 n))
          (spans_cons (set_of row ∷ sum) (set_of row) [] (in_head (set_of row) sum) (spans_none (set_of row ∷ sum))) v m)),
    )

-- all rows were inserted
pub sum_whole : (sum rows : List (Columns ℕ)) (others : List (List Bool)) (i : ℕ) → length others ≤ i
    → SameSpan sum (rows ++ sets_of (take i others))
    → SameSpan sum (rows ++ sets_of others)
sum_whole sum rows others i past same =
    let P : List (List Bool) → Type 0 = λ (o : List (List Bool)). SameSpan sum (rows ++ sets_of o) in subst P
    (take_all i others past) same

-- what spans two lists of rows together spans the symmetric differences of a member of each
pub sum_ends : (sum rows others : List (Columns ℕ)) → SameSpan sum (rows ++ others) → IsSum sum rows others
sum_ends sum rows others same =
    λ v. (λ m. (together rows others v).0 ((same v).0 m), λ m. (same v).1 ((together rows others v).1 m))

-- one more row within
pub within_more : (rows : List (Columns ℕ)) (others : List (List Bool)) (i : ℕ) (row : List Bool) → i < length others → row ≡ get_or others i row
    → ((k : ℕ) → k < i → InSpan rows (set_of (get_or others k []))) → InSpan rows (set_of row) → (k : ℕ) → k < i + 1 → InSpan rows (set_of (get_or others k []))
within_more rows others i row h is below here k less = elim (cases_lt k i) [
  | inl old ↦ below k old
  | inr now ↦
      let e : i ≡ k = omega arith in
      let P : ℕ → Type 0 = λ j. InSpan rows (set_of (get_or others j [])) in
      subst P e (in_as rows (ap set_of (is ∙ get_or_default others i row [] h)) here)
]
