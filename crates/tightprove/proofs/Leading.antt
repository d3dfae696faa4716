-- Rows whose greatest columns tell what they have in common with a span.
use Rattle.std.proofs.Common.{◌≡◌, ◌⊎◌, inl, inr, ℕ, ◌+◌, ◌<◌, ◌≤◌, zero, suc, Bool, true, false, not, List, [], ◌∷◌, ◌++◌, length, get_or, refl, sym, ap, ◌∙◌, subst, arith, suc-le-suc, MatchBool}
use Rattle.std.specs.Bool.{beq, OnFalse}
use Rattle.std.specs.List.{Contains}
use Rattle.std.proofs.lemmas.Bool.{cases_lt}
use Rattle.std.proofs.lemmas.List.{get_or_default, get_or-map, get_or_past, length-map}
use mathlib.Core.Path.{fun_ext}
use Rattle.span_model.specs.Columns.{Columns, empty, ◌△◌, set_of, sets_of}
use Rattle.span_model.specs.Span.{InSpan, Spans}
use Rattle.span_model.proofs.Sets.{△_cancel_right, △-empty, empty-△}
use Rattle.span_model.proofs.Members.{in_as, in_none, in_cases, in_parts, in_sum, empty_in, all_in}
use Rattle.gf2_span.specs.Rows.{IsLast, HaveOwnLeads, LeadsNoMember, LeadsAreKept}
use Rattle.gf2_span.specs.Basis.{Basis, row_sets}
use Rattle.tightprove.specs.Classes.{class_rows, AreClasses, AreByLead, AreListed, AreNear, MeetOnly, LeadsApart}
use Rattle.tightprove.specs.Growth.{MeetsWithin, LeadsWithin}
use Rattle.tightprove.specs.declared.class.Class.{Class}
use Rattle.tightprove.proofs.Gathering.{last_same, last_some}

-- a set with no column from this one on
abbrev EndsBefore : Columns ℕ → ℕ → Type 0
EndsBefore v n = (c : ℕ) → n ≤ c → v c ≡ false

-- two sets that have a column both, and none after it, differ by a set that ends before it
both_end : (v w : Columns ℕ) (n : ℕ) → IsLast v n → IsLast w n → EndsBefore (v △ w) n
both_end v w n at_v at_w c past = elim (cases_lt n c) [
  | inl after ↦ ap (λ x. not (beq x (w c))) (at_v.none_after c after) ∙ ap (λ x. not (beq false x)) (at_w.none_after c after)
  | inr other ↦
      let e : n ≡ c = omega arith in
      let P : ℕ → Type 0 = λ k. (v △ w) k ≡ false in
      subst P e (ap (λ x. not (beq x (w n))) at_v.there ∙ ap (λ x. not (beq true x)) at_w.there)
]

-- the members of the span of rows that have greatest columns all end before some column
all_end_before : (rows : List (Columns ℕ)) → ((k : ℕ) → k < length rows → (c : ℕ) × IsLast (get_or rows k empty) c)
    → (n : ℕ) × ((v : Columns ℕ) → InSpan rows v → EndsBefore v n)
all_end_before [] some = (0, λ v m c past. ap (λ (w : Columns ℕ). w c) (in_none v m))
all_end_before (row ∷ rows) some =
    let lead = some 0 (omega arith) in
    let rest = all_end_before rows (λ k h. some (suc k) (suc-le-suc h)) in (
      lead.0 + 1 + rest.0,
      λ v m c past. elim (in_cases row rows v m) [
        | inl x ↦ rest.1 v x c (omega arith)
        | inr x ↦ sym (ap (λ (w : Columns ℕ). w c) x.2) ∙ ap (λ b. not (beq b (x.0 c))) (lead.1.none_after c (omega arith)) ∙ ap (λ b. not (beq false b)) (rest.1 x.0 x.1 c (omega arith))
      ],
    )

-- a common member of the rows and the joint span has the greatest column of a row, which is then in the span; so is what is left
common_next : (rows joint span : List (Columns ℕ)) → LeadsAreKept → HaveOwnLeads rows → Spans joint span
    → ((k : ℕ) → k < length rows → LeadsWithin span joint (get_or rows k empty)) → (n : ℕ)
    → ((w : Columns ℕ) → EndsBefore w n → InSpan rows w → InSpan joint w → InSpan span w)
    → (v : Columns ℕ) → EndsBefore v (n + 1) → InSpan rows v → InSpan joint v → (b : Bool) → v n ≡ b → InSpan span v
common_next rows joint span law own held each n less v ends m j false off = less v (λ c past. elim (cases_lt n c) [
  | inl after ↦ ends c (omega arith)
  | inr other ↦ (let e : n ≡ c = omega arith in let P : ℕ → Type 0 = λ k. v k ≡ false in subst P e off)
]) m j
common_next rows joint span law own held each n less v ends m j true on =
    let last : IsLast v n = record { there = on; none_after = λ c after. ends c (omega arith) } in
    let p = law rows own v m (last_some v n last) in
    let row : Columns ℕ = get_or rows p.0 empty in
    let P : ℕ → Type 0 = λ k. IsLast row k in
    let led : IsLast row n = subst P (last_same v p.1 n p.4 last) p.3 in
    elim (each p.0 p.2) [
      | inl inside ↦
          let left : InSpan span (v △ row) = less (v △ row) (both_end v row n last led) (in_sum rows v row m (all_in rows p.0 empty p.2)) (in_sum joint v row j (held row inside)) in
          in_as span (△_cancel_right v row) (in_sum span (v △ row) row left inside)
      | inr free ↦ absurd (free p.1 p.3 v j p.4)
    ]

common_within : (rows joint span : List (Columns ℕ)) → LeadsAreKept → HaveOwnLeads rows → Spans joint span
    → ((k : ℕ) → k < length rows → LeadsWithin span joint (get_or rows k empty))
    → (n : ℕ) (v : Columns ℕ) → EndsBefore v n → InSpan rows v → InSpan joint v → InSpan span v
common_within rows joint span law own held each zero v ends m j = in_as span (fun_ext (λ c. sym (ends c (omega arith)))) (empty_in span)
common_within rows joint span law own held each (suc n) v ends m j =
    common_next rows joint span law own held each n (common_within rows joint span law own held each n) v (λ c past. ends c (omega arith)) m j (v n) refl

-- rows, each in the span or with a greatest column that leads no member of the joint span, hold with the span no more of it than the span
leads_within : (rows joint span : List (Columns ℕ)) → LeadsAreKept → HaveOwnLeads rows → Spans joint span
    → ((k : ℕ) → k < length rows → LeadsWithin span joint (get_or rows k empty)) → MeetsWithin joint rows span
leads_within rows joint span law own held each v m h =
    let p = in_parts rows span v h in
    let shared : InSpan joint p.0 = in_as joint (ap (λ (u : Columns ℕ). u △ p.1) (sym p.4) ∙ △_cancel_right p.0 p.1) (in_sum joint v p.1 m (held p.1 p.3)) in
    let bound = all_end_before rows own.some in
    in_as span p.4 (in_sum span p.0 p.1 (common_within rows joint span law own held each bound.0 p.0 (bound.1 p.0 p.2) p.2 shared) p.3)

-- the members of the span of rows of bits all end before some column
bits_end_before : (rows : List (List Bool)) → (n : ℕ) × ((v : Columns ℕ) → InSpan (sets_of rows) v → EndsBefore v n)
bits_end_before [] = (0, λ v m c past. ap (λ (w : Columns ℕ). w c) (in_none v m))
bits_end_before (row ∷ rows) =
    let rest = bits_end_before rows in (
      length row + rest.0,
      λ v m c past. elim (in_cases (set_of row) (sets_of rows) v m) [
        | inl x ↦ rest.1 v x c (omega arith)
        | inr x ↦ sym (ap (λ (w : Columns ℕ). w c) x.2) ∙ ap (λ b. not (beq b (x.0 c))) (get_or_past row c false (omega arith)) ∙ ap (λ b. not (beq false b)) (rest.1 x.0 x.1 c (omega arith))
      ],
    )

-- a set that ends before some column is empty or has a greatest column
ended_next : (v : Columns ℕ) (n : ℕ) → EndsBefore v (n + 1) → (EndsBefore v n → (v ≡ empty) ⊎ ((c : ℕ) × IsLast v c)) → (b : Bool) → v n ≡ b
    → (v ≡ empty) ⊎ ((c : ℕ) × IsLast v c)
ended_next v n ends less true on = inr (n, record { there = on; none_after = λ c after. ends c (omega arith) })
ended_next v n ends less false off = less (λ c past. elim (cases_lt n c) [
  | inl after ↦ ends c (omega arith)
  | inr other ↦ (let e : n ≡ c = omega arith in let P : ℕ → Type 0 = λ k. v k ≡ false in subst P e off)
])

ended_last : (v : Columns ℕ) (n : ℕ) → EndsBefore v n → (v ≡ empty) ⊎ ((c : ℕ) × IsLast v c)
ended_last v zero ends = inl (fun_ext (λ c. ends c (omega arith)))
ended_last v (suc n) ends = ended_next v n (λ c past. ends c (omega arith)) (ended_last v n) (v n) refl

-- of two sets with different greatest columns, the greater one is that of the sum
first_leads : (a b : Columns ℕ) (c d : ℕ) → IsLast a c → IsLast b d → d < c → IsLast (a △ b) c
first_leads a b c d at_c at_d less = record {
  there = ap (λ x. not (beq x (b c))) at_c.there ∙ ap (λ x. not (beq true x)) (at_d.none_after c less);
  none_after = λ k h. ap (λ x. not (beq x (b k))) (at_c.none_after k h) ∙ ap (λ x. not (beq false x)) (at_d.none_after k (omega arith));
}

second_leads : (a b : Columns ℕ) (c d : ℕ) → IsLast a c → IsLast b d → c < d → IsLast (a △ b) d
second_leads a b c d at_c at_d less = record {
  there = ap (λ x. not (beq x (b d))) (at_c.none_after d less) ∙ ap (λ x. not (beq false x)) at_d.there;
  none_after = λ k h. ap (λ x. not (beq x (b k))) (at_c.none_after k (omega arith)) ∙ ap (λ x. not (beq false x)) (at_d.none_after k h);
}

-- a member of both spans together is in the span, or has a greatest column: that of a member of the rest, or a greater one of a member of the span
IsLed : (rest span : List (Columns ℕ)) → Columns ℕ → Type 0
IsLed rest span v =
    InSpan span v ⊎ ((x : Columns ℕ) × (c : ℕ) × (d : ℕ) × InSpan rest x × IsLast x c × IsLast v d × (c ≤ d) × ((c ≡ d) ⊎ ((y : Columns ℕ) × InSpan span y × IsLast y d)))

led_both : (rest span : List (List Bool)) → LeadsApart (sets_of rest) (sets_of span) → (v : Columns ℕ) → InSpan (sets_of rest ++ sets_of span) v
    → IsLed (sets_of rest) (sets_of span) v
unfolding IsLed
led_both rest span apart v m =
    let p = in_parts (sets_of rest) (sets_of span) v m in
    let at_x = bits_end_before rest in
    let at_y = bits_end_before span in
    let L : Columns ℕ → ℕ → Type 0 = λ u k. IsLast u k in
    elim (ended_last p.0 at_x.0 (at_x.1 p.0 p.2)) [
      | inl none ↦ inl (in_as (sets_of span) (sym (empty-△ p.1) ∙ ap (λ (u : Columns ℕ). u △ p.1) (sym none) ∙ p.4) p.3)
      | inr x ↦ elim (ended_last p.1 at_y.0 (at_y.1 p.1 p.3)) [
        | inl none ↦
            let is : p.0 ≡ v = sym (△-empty p.0) ∙ ap (λ (u : Columns ℕ). p.0 △ u) (sym none) ∙ p.4 in
            let P : Columns ℕ → Type 0 = λ u. IsLast u x.0 in
            inr (p.0, x.0, x.0, p.2, x.1, subst P is x.1, omega arith, inl refl)
        | inr y ↦ elim (cases_lt y.0 x.0) [
          | inl less ↦
              let P : Columns ℕ → Type 0 = λ u. IsLast u x.0 in
              inr (p.0, x.0, x.0, p.2, x.1, subst P p.4 (first_leads p.0 p.1 x.0 y.0 x.1 y.1 less), omega arith, inl refl)
          | inr ge ↦ elim (cases_lt x.0 y.0) [
            | inl less ↦
                let P : Columns ℕ → Type 0 = λ u. IsLast u y.0 in
                inr (p.0, x.0, y.0, p.2, x.1, subst P p.4 (second_leads p.0 p.1 x.0 y.0 x.1 y.1 less), omega arith, inr (p.1, p.3, y.1))
            | inr same ↦
                let e : y.0 ≡ x.0 = omega arith in
                let P : ℕ → Type 0 = λ k. IsLast p.1 k in
                absurd (apart p.0 x.0 p.2 x.1 p.1 p.3 (subst P e y.1))
          ]
        ]
      ]
    ]

-- a column that leads a member of neither leads none of both together
pub leads_neither : (rest span : List (List Bool)) (c : ℕ) → LeadsApart (sets_of rest) (sets_of span) → LeadsNoMember (sets_of rest) c → LeadsNoMember (sets_of span) c
    → LeadsNoMember (sets_of rest ++ sets_of span) c
unfolding IsLed
leads_neither rest span c apart of_rest of_span v m last = elim (led_both rest span apart v m) [
  | inl inside ↦ of_span v inside last
  | inr (x, a, d, member, at_x, at_v, above, which) ↦
      let e : d ≡ c = last_same v d c at_v last in
      elim which [
        | inl same ↦ (let P : ℕ → Type 0 = λ k. IsLast x k in of_rest x member (subst P (same ∙ e) at_x))
        | inr (y, inside, at_y) ↦ (let P : ℕ → Type 0 = λ k. IsLast y k in of_span y inside (subst P e at_y))
      ]
]

-- ---- classes that are near a span

-- a class that no list of a greatest column of the rest or the span names, from the least one of the rest on, has only members of the span in
-- common with both together
pub near_ends : (columns : ℕ) (classes : List Class) (table : List (List ℕ)) (rest span : Basis) (low : ℕ) (flags : List Bool) (near : List ℕ) → LeadsAreKept
    → AreClasses columns classes → AreByLead classes table → HaveOwnLeads (row_sets rest) → HaveOwnLeads (row_sets span) → LeadsApart (row_sets rest) (row_sets span)
    → ((k c : ℕ) → k < length rest.rows → IsLast (set_of (get_or rest.rows k [])) c → low ≤ c)
    → ((k c i : ℕ) → k < length rest.rows → IsLast (set_of (get_or rest.rows k [])) c → low ≤ c → Contains (get_or table c []) i → get_or flags i false ≡ true)
    → ((k c i : ℕ) → k < length span.rows → IsLast (set_of (get_or span.rows k [])) c → low ≤ c → Contains (get_or table c []) i → get_or flags i false ≡ true)
    → AreListed (length classes) flags near → AreNear classes (row_sets rest ++ row_sets span) (row_sets span) near
unfolding IsLed
near_ends columns classes table rest span low flags near law are by_lead rest_own own apart least rest_lanes lanes listed = record {
  few = omega (arith, listed.once);
  numbers = listed.numbers;
  others = λ i. at i (get_or flags i false) refl;
}
  where
    row_led : (rows : List (List Bool)) → HaveOwnLeads (sets_of rows) → (v : Columns ℕ) (c : ℕ) → InSpan (sets_of rows) v → IsLast v c
        → (k : ℕ) × (k < length rows) × IsLast (set_of (get_or rows k [])) c
    row_led rows of_rows v c m last =
        let q = law (sets_of rows) of_rows v m (last_some v c last) in
        let inside : q.0 < length rows = omega (arith, q.2, length-map rows set_of) in
        let L : Columns ℕ → Type 0 = λ u. IsLast u q.1 in
        let P : ℕ → Type 0 = λ k. IsLast (set_of (get_or rows q.0 [])) k in
        (q.0, inside, subst P (last_same v q.1 c q.4 last) (subst L (get_or-map set_of rows q.0 [] empty inside) q.3))

    named : (i c : ℕ) → get_or flags i false ≡ false → (v : Columns ℕ) → InSpan (class_rows classes i) v → IsLast v c → Contains (get_or table c []) i
    named i c off v a last =
        let p = law (class_rows classes i) (are.leads i) v a (last_some v c last) in
        let P : ℕ → Type 0 = λ k. Contains (get_or table k []) i in
        subst P (last_same v p.1 c p.4 last) (by_lead.listed i p.0 p.1 p.2 p.3)

    within : (i : ℕ) → get_or flags i false ≡ false → (v : Columns ℕ) → InSpan (class_rows classes i) v → InSpan (row_sets rest ++ row_sets span) v → InSpan (row_sets span) v
    within i off v a m = elim (led_both rest.rows span.rows apart v m) [
      | inl inside ↦ inside
      | inr (x, c, d, member, at_x, at_v, above, which) ↦
          let r = row_led rest.rows rest_own x c member at_x in
          let high : low ≤ c = least r.0 c r.1 r.2 in
          elim which [
            | inl same ↦
                let P : ℕ → Type 0 = λ k. IsLast v k in
                let on : get_or flags i false ≡ true = rest_lanes r.0 c i r.1 r.2 high (named i c off v a (subst P (sym same) at_v)) in
                absurd (cc (on, off))
            | inr (y, inside, at_y) ↦
                let s = row_led span.rows own y d inside at_y in
                let on : get_or flags i false ≡ true = lanes s.0 d i s.1 s.2 (omega arith) (named i d off v a at_v) in
                absurd (cc (on, off))
          ]
    ]

    at : (i : ℕ) (b : Bool) → get_or flags i false ≡ b → Contains near i ⊎ MeetOnly (class_rows classes i) (row_sets rest ++ row_sets span) (row_sets span)
    at i true on = inl (listed.listed i on)
    at i false off = inr (within i off)

-- ---- rows that lead outside

-- an empty row is in the span
pub led_empty : (span joint : List (Columns ℕ)) (row : Columns ℕ) → row ≡ empty → LeadsWithin span joint row
led_empty span joint row e = inl (in_as span (sym e) (empty_in span))

-- a row with a greatest column that leads no member of the joint span
pub led_free : (span joint : List (Columns ℕ)) (row : Columns ℕ) (c : ℕ) → IsLast row c → LeadsNoMember joint c → LeadsWithin span joint row
led_free span joint row c last free = inr (λ d at. let P : ℕ → Type 0 = λ k. LeadsNoMember joint k in subst P (last_same row c d last at) free)

-- whether the row is outside the span
pub led_answer : (span joint : List (Columns ℕ)) (row : Columns ℕ) (inside : Bool) → MatchBool inside (InSpan span row) (¬ InSpan span row)
    → OnFalse (not inside) (LeadsWithin span joint row)
led_answer span joint row true m = inl m
led_answer span joint row false m = tt

-- one more row
pub led_more : (span joint : List (Columns ℕ)) (rows : List (List Bool)) (i : ℕ) (row : List Bool) → i < length rows → row ≡ get_or rows i row
    → ((k : ℕ) → k < i → LeadsWithin span joint (set_of (get_or rows k []))) → LeadsWithin span joint (set_of row)
    → (k : ℕ) → k < i + 1 → LeadsWithin span joint (set_of (get_or rows k []))
led_more span joint rows i row h is below here k less = elim (cases_lt k i) [
  | inl old ↦ below k old
  | inr now ↦
      let e : i ≡ k = omega arith in
      let P : ℕ → Type 0 = λ j. LeadsWithin span joint (set_of (get_or rows j [])) in
      let Q : List Bool → Type 0 = λ r. LeadsWithin span joint (set_of r) in
      subst P e (subst Q (is ∙ get_or_default rows i row [] h) here)
]

-- all rows
pub led_end : (joint span : List (Columns ℕ)) (rows : List (List Bool)) (n : ℕ) → LeadsAreKept → HaveOwnLeads (sets_of rows)
    → Spans joint span → length rows ≤ n
    → ((k : ℕ) → k < n → LeadsWithin span joint (set_of (get_or rows k []))) → MeetsWithin joint (sets_of rows) span
led_end joint span rows n law own held past each =
    leads_within (sets_of rows) joint span law own held (λ k h.
    let within : k < length rows = omega (arith, h, length-map rows set_of) in
    let P : Columns ℕ → Type 0 = λ v. LeadsWithin span joint v in
    subst P (sym (get_or-map set_of rows k [] empty within)) (each k (omega arith)))
