-- Spans of which no column leads members of both.
use Rattle.std.proofs.Common.{◌≡◌, inl, inr, ℕ, ◌+◌, ◌<◌, Bool, List, [], ◌++◌, length, get_or, Option, Some, sym, ap, subst, arith}
use Rattle.std.specs.Prelude.{IfSome}
use Rattle.std.proofs.lemmas.Bool.{cases_lt}
use Rattle.std.specs.List.{slice_get}
use Rattle.std.proofs.lemmas.List.{get_or-map, length-map}
use Rattle.std.proofs.lemmas.Option.{get_or_from_slice_get}
use Rattle.span_model.specs.Columns.{Columns, empty, set_of, sets_of}
use Rattle.span_model.specs.Span.{InSpan, Spans}
use Rattle.span_model.proofs.Members.{in_as, in_front, in_behind, spans_both}
use Rattle.gf2_span.specs.Rows.{IsLast, HaveOwnLeads, HoldsNoLead, LeadsNoMember, LeadsAreKept}
use Rattle.gf2_span.proofs.Leads.{no_lead_free, outside}
use Rattle.tightprove.specs.Classes.{LeadsApart}
use Rattle.tightprove.proofs.Gathering.{last_same, last_some}

-- one more row whose greatest column leads no member
pub apart_more : (rows : List (List Bool)) (others : List (Columns ℕ)) (n : ℕ) (lead : Option ℕ) → n < length rows
    → ((j c : ℕ) → j < n → IsLast (set_of (get_or rows j [])) c → LeadsNoMember others c)
    → ((c : ℕ) → n < length rows → IsLast (set_of (get_or rows n [])) c → lead ≡ Some c)
    → IfSome lead (λ c. LeadsNoMember others c)
    → (j c : ℕ) → j < n + 1 → IsLast (set_of (get_or rows j [])) c → LeadsNoMember others c
apart_more rows others n lead within before value free j c h last = elim (cases_lt j n) [
  | inl old ↦ before j c old last
  | inr here ↦
      let e : j ≡ n = omega arith in
      let P : ℕ → Type 0 = λ k. IsLast (set_of (get_or rows k [])) c in
      let Q : Option ℕ → Type 0 = λ o. IfSome o (λ x. LeadsNoMember others x) in
      subst Q (value c within (subst P e last)) free
]

-- all rows
pub apart_ends : (rows : List (List Bool)) (others : List (Columns ℕ)) → LeadsAreKept → HaveOwnLeads (sets_of rows)
    → ((j c : ℕ) → j < length rows → IsLast (set_of (get_or rows j [])) c → LeadsNoMember others c) → LeadsApart (sets_of rows) others
apart_ends rows others law own each v c m last =
    let q = law (sets_of rows) own v m (last_some v c last) in
    let inside : q.0 < length rows = omega (arith, q.2, length-map rows set_of) in
    let L : Columns ℕ → Type 0 = λ u. IsLast u q.1 in
    let P : ℕ → Type 0 = λ k. LeadsNoMember others k in
    subst P (last_same v q.1 c q.4 last) (each q.0 q.1 inside (subst L (get_or-map set_of rows q.0 [] empty inside) q.3))

-- members without the greatest columns of rows have no greatest column of a member
pub clear_apart : (rest span : List (Columns ℕ)) → HaveOwnLeads span → ((v : Columns ℕ) → InSpan rest v → HoldsNoLead span v) → LeadsApart rest span
clear_apart rest span own clear v c m last w member at = outside span w c own at (no_lead_free span v c (clear v m) last) member

-- one more row that is a member of both together
pub members_more : (a : List (List Bool)) (rest next span : List (Columns ℕ)) (n : ℕ) (row : List Bool) → slice_get a n ≡ Some row
    → ((j : ℕ) → j < n → InSpan (rest ++ span) (set_of (get_or a j []))) → Spans next rest → InSpan (next ++ span) (set_of row)
    → (j : ℕ) → j < n + 1 → InSpan (next ++ span) (set_of (get_or a j []))
members_more a rest next span n row at before more here j h = elim (cases_lt j n) [
  | inl old ↦ spans_both (next ++ span) rest span (λ u m. in_behind next span u (more u m)) (in_front next span) (set_of (get_or a j [])) (before j old)
  | inr now ↦
      let e : n ≡ j = omega arith in
      let P : ℕ → Type 0 = λ k. InSpan (next ++ span) (set_of (get_or a k [])) in
      subst P e (in_as (next ++ span) (ap set_of (sym (get_or_from_slice_get a n row [] at))) here)
]
