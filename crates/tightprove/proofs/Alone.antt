-- Classes of a single row.
use Rattle.std.proofs.Common.{◌≡◌, ◌≢◌, MatchBool, ℕ, zero, suc, ◌<◌, Bool, true, false, List, [], ◌∷◌, length, get_or, refl, sym, ap, ◌∙◌, subst, arith, Some}
use Rattle.std.specs.Bool.{OnTrue}
use Rattle.std.specs.List.{Contains, slice_get}
use Rattle.std.proofs.lemmas.Option.{get_or_from_slice_get, slice_get_within}
use Rattle.span_model.specs.Columns.{Columns, empty, set_of, sets_of}
use Rattle.span_model.specs.Span.{SameSpan}
use Rattle.gf2_span.specs.Rows.{IsLast, HaveOwnLeads}
use Rattle.tightprove.specs.Classes.{class_at, class_rows}
use Rattle.tightprove.specs.declared.class.Class.{Class}
use Rattle.tightprove.proofs.Gathering.{last_same}

-- ---- a single row that equals another

pub single : (rows : List (List Bool)) (only : List Bool) → length rows ≡ 1 → only ≡ get_or rows 0 only → rows ≡ only ∷ []
single [] only one at = absurd (omega (arith, one))
single (row ∷ []) only one at = ap (λ (r : List Bool). r ∷ []) (sym at)
single (row ∷ other ∷ rows) only one at = absurd (omega (arith, one))

pub single_if : (rows : List (List Bool)) (only row : List Bool) (same : Bool) → length rows ≡ 1 → only ≡ get_or rows 0 only
    → MatchBool same (only ≡ row) (only ≢ row) → OnTrue same (rows ≡ row ∷ [])
single_if rows only row false one at answer = tt
single_if rows only row true one at answer = single rows only one at ∙ ap (λ (r : List Bool). r ∷ []) answer

-- a class with this row alone
pub found_single : (classes : List Class) (i : ℕ) (one : Class) (rows : List (List Bool)) (row : List Bool) → Some one ≡ slice_get classes i
    → rows ≡ one.rows → rows ≡ row ∷ [] → (i < length classes) × SameSpan (class_rows classes i) (set_of row ∷ [])
found_single classes i one rows row at is same =
    let e : class_at classes i ≡ one = get_or_from_slice_get classes i one (record { rows = []; partners = [] }) (sym at) in
    let r : class_rows classes i ≡ set_of row ∷ [] = ap (λ (c : Class). sets_of c.rows) e ∙ ap sets_of (sym is ∙ same) in
    (slice_get_within classes i one (sym at), subst (λ (l : List (Columns ℕ)). SameSpan l (set_of row ∷ [])) (sym r) (λ v. ((λ m. m), (λ m. m))))

-- ---- the class of a row that is added

pub single_wide : (row : List Bool) (k : ℕ) → k < length (row ∷ []) → length (get_or (row ∷ []) k []) ≡ length row
single_wide row zero h = refl
single_wide row (suc k) h = absurd (omega (arith, h))

pub single_leads : (row : List Bool) (lead : ℕ) → IsLast (set_of row) lead → HaveOwnLeads (sets_of (row ∷ []))
single_leads row lead last = record {
  some = λ k h. (let e : 0 ≡ k = omega (arith, h) in subst (λ (n : ℕ). (c : ℕ) × IsLast (get_or (sets_of (row ∷ [])) n empty) c) e (lead, last));
  apart = λ j k c hj hk lj lk. omega (arith, hj, hk);
}

pub single_listed : (row : List Bool) (lead : ℕ) → IsLast (set_of row) lead
    → (k c : ℕ) → k < length (row ∷ []) → IsLast (set_of (get_or (row ∷ []) k [])) c → Contains (lead ∷ []) c
single_listed row lead last zero c h at = (0, omega arith, last_same (set_of row) lead c last at)
single_listed row lead last (suc k) c h at = absurd (omega (arith, h))
