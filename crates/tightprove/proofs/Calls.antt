-- What the answers of calls say together.
use Rattle.std.proofs.Common.{◌≡◌, inl, inr, ℕ, ◌<◌, ◌≤◌, Bool, true, false, not, List, [], ◌∷◌, ◌++◌, length, get_or, refl, sym, ap, ◌∙◌, subst, arith, MatchBool, MatchOption, Option, Some, None}
use Rattle.std.specs.Prelude.{replicate}
use Rattle.std.specs.Bool.{OnTrue, OnFalse}
use Rattle.std.specs.Option.{is_some}
use Rattle.std.proofs.lemmas.List.{get_or_past, length-replicate, get_or-replicate}
use Rattle.std.proofs.lemmas.Bool.{cases_lt}
use Rattle.span_model.specs.Columns.{Columns, empty, set_of, sets_of}
use Rattle.span_model.specs.Span.{InSpan, Spans, SameSpan, IsMeet}
use Rattle.span_model.proofs.Members.{in_none, in_behind}
use Rattle.gf2_span.specs.Basis.{Basis, row_sets}
use Rattle.tightprove.specs.Classes.{MeetEmpty, LeadsApart}
use Rattle.tightprove.specs.Growth.{MeetsWithin, HasRowOutside, IsGrowth, IsGrown}
use Rattle.tightprove.specs.declared.class.Class.{Class}
use Rattle.tightprove.specs.declared.growth.Growth.{Growth}
use Rattle.gf2_span.proofs.Leads.{row_in, all_within}
use Rattle.tightprove.proofs.Closures.{grown_none}
use Rattle.tightprove.proofs.Gathering.{last_some}

-- ---- rows in a span, one by one

pub same_both : (span other : List (Columns ℕ)) (rows : List (List Bool)) (n : ℕ) (r : Bool) (Other : Type 0) → length rows ≤ n
    → ((k : ℕ) → k < n → InSpan span (set_of (get_or rows k []))) → SameSpan other (sets_of rows) → MatchBool r (Spans other span) Other
    → OnTrue r (SameSpan (sets_of rows) span)
same_both span other rows n true Other past inside same within =
    λ v. ((λ m. all_within span rows (λ k h. inside k (omega arith)) v m), (λ m. (same v).0 (within v m)))
same_both span other rows n false Other past inside same within = tt

-- ---- a growing span at its start

pub growth_starts : (classes : List Class) (candidates : Basis) (growth : Growth) (columns n : ℕ) → candidates.columns ≡ columns
    → growth.span ≡ record { columns = columns; rows = [] } → growth.rest ≡ candidates → growth.taken ≡ replicate n false → n ≡ length classes
    → IsGrowth classes candidates growth
growth_starts classes candidates growth columns n wide span rest taken count =
    let P : Basis → Type 0 = λ b. Spans (row_sets b ++ row_sets growth.span) (row_sets candidates) in
    let Q : Basis → Type 0 = λ b. LeadsApart (row_sets growth.rest) (row_sets b) in
    record {
      columns = ap (λ (b : Basis). b.columns) span ∙ sym wide;
      rest_columns = ap (λ (b : Basis). b.columns) rest;
      flags = ap length taken ∙ length-replicate n false ∙ count;
      candidates_in = subst P (sym rest) (in_behind (row_sets candidates) (row_sets growth.span));
      apart = subst Q (sym span) (λ v c m last w none at. last_some w c at (in_none w none));
      taken = λ i j on partner. absurd (let off : get_or growth.taken i false ≡ false = ap (λ (x : List Bool). get_or x i false) taken ∙ none n i in cc (off, on));
    }
  where
    none : (n i : ℕ) → get_or (replicate n false) i false ≡ false
    none n i = elim (cases_lt i n) [
      | inl lt ↦ get_or-replicate n i false false lt
      | inr past ↦ get_or_past (replicate n false) i false (omega (arith, length-replicate n false))
    ]

pub grown_at_start : (classes : List Class) (candidates : List (Columns ℕ)) (span : Basis) → span.rows ≡ [] → IsGrown classes candidates (row_sets span)
grown_at_start classes candidates span none =
    let P : List (List Bool) → Type 0 = λ r. IsGrown classes candidates (sets_of r) in
    subst P (sym none) (grown_none classes candidates)

-- ---- what meets, and what holds

pub holds_answer : (candidates : Basis) (meet rows span : List (Columns ℕ)) (r : Bool) → IsMeet meet (row_sets candidates) (rows ++ span)
    → MatchBool r (Spans meet (row_sets candidates)) (HasRowOutside candidates.rows meet)
    → MatchBool r (Spans (rows ++ span) (row_sets candidates)) (HasRowOutside candidates.rows (rows ++ span))
holds_answer candidates meet rows span true is h = λ v m. ((is v).0 (h v m)).1
holds_answer candidates meet rows span false is h =
    (h.0, h.1, λ m. h.2 ((is (set_of (get_or candidates.rows h.0 []))).1 (row_in candidates.rows h.0 h.1, m)))

pub meets_answer : (candidates meet rows span : List (Columns ℕ)) (r : Bool) (Outside : Type 0) → IsMeet meet candidates (rows ++ span)
    → MatchBool r (Spans span meet) Outside → OnFalse (not r) (MeetsWithin candidates rows span)
meets_answer candidates meet rows span true Outside is h = λ v c m. h v ((is v).1 (c, m))
meets_answer candidates meet rows span false Outside is h = tt

pub no_common : (a b : List (Columns ℕ)) (meet : Basis) → IsMeet (row_sets meet) a b → meet.rows ≡ [] → MeetEmpty a b
no_common a b meet is none v m n =
    let P : List (List Bool) → Type 0 = λ r. InSpan (sets_of r) v in
    in_none v (subst P none ((is v).1 (m, n)))

pub some_column : (v : Columns ℕ) (c : ℕ) → v c ≡ true → v ≡ empty → ⊥
some_column v c there e = let f : v c ≡ false = ap (λ (w : Columns ℕ). w c) e in cc (f, there)

pub none_then : {X : Type 0} (found : Option X) (b : Bool) (P : Type 0) (Q : X → Type 0) → b ≡ is_some found → b ≡ false → MatchOption found P Q → P
none_then None b P Q e f h = h
none_then (Some x) b P Q e f h = cc (e, f)

pub empty_list : {X : Type 0} (xs : List X) → length xs ≡ 0 → xs ≡ []
empty_list [] e = refl
empty_list (x ∷ xs) e = absurd (omega arith)

-- ---- answers that say something where they are true

pub on_true : (b : Bool) (P : Type 0) → (b ≡ true → P) → OnTrue b P
on_true true P f = f refl
on_true false P f = tt

pub of_true : (b : Bool) (P : Type 0) → b ≡ true → OnTrue b P → P
of_true true P e p = p
of_true false P e p = cc e

-- a list of one element
pub one_element : {X : Type 0} (xs : List X) (x : X) → length xs ≡ 1 → x ≡ get_or xs 0 x → xs ≡ x ∷ []
one_element [] x e is = absurd (omega arith)
one_element (y ∷ []) x e is = ap (λ z. z ∷ []) (sym is)
one_element (y ∷ z ∷ xs) x e is = absurd (omega arith)

pub is_none_then : {X : Type 0} (found : Option X) (b : Bool) → is_some found ≡ not b → b ≡ true → found ≡ None
is_none_then None b e f = refl
is_none_then (Some x) true e f = cc e
is_none_then (Some x) false e f = cc f

pub of_none : {X : Type 0} (found : Option X) (P : Type 0) (Q : X → Type 0) → found ≡ None → MatchOption found P Q → P
of_none None P Q e h = h
of_none (Some x) P Q e h = cc e
