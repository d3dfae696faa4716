-- Passes over the classes near a growing span.
use Rattle.std.proofs.Common.{◌≡◌, ◌⊎◌, inl, inr, ℕ, ◌+◌, ◌-◌, ◌<◌, ◌≤◌, Bool, true, false, not, List, [], ◌∷◌, ◌++◌, length, get_or, set, cond, refl, sym, ap, ◌∙◌, subst, arith, MatchBool}
use Rattle.std.specs.List.{count_by, sum_by}
use Rattle.std.proofs.lemmas.List.{length-append, get_or_default, get_or_append_left, get_or-append_right, length-map}
use Rattle.std.proofs.lemmas.List.Sums.{sum_by-set}
use Rattle.std.proofs.lemmas.Bool.{cases_lt}
use Rattle.span_model.specs.Columns.{Columns, set_of}
use Rattle.span_model.specs.Span.{InSpan, Spans, IsIndependent, IsMeet}
use Rattle.span_model.proofs.Members.{in_front}
use Rattle.gf2_span.specs.Basis.{Basis, row_sets}
use Rattle.tightprove.specs.Classes.{class_rows, IsPartner, AreNear, MeetEmpty}
use Rattle.tightprove.specs.Growth.{IsHull, HasRowOutside, IsSaturated, IsGrowth, MeetsNoMore, HoldsNoMore, left_over, span_at, IsInPieces, ArePieces}
use Rattle.tightprove.specs.declared.class.Class.{Class}
use Rattle.tightprove.specs.declared.growth.Growth.{Growth}
use Rattle.tightprove.proofs.Closures.{apart_within, apart_outside, fewer_rows}
use Rattle.gf2_span.proofs.Leads.{row_in}

-- ---- what is left over

left_less : (flags : List Bool) (i : ℕ) → i < length flags → get_or flags i false ≡ false → count_by not (set flags i true) < count_by not flags
left_less flags i lt off =
    let f : Bool → ℕ = λ b. cond (not b) 1 0 in
    let moved : sum_by f (set flags i true) + f (get_or flags i false) ≡ sum_by f flags + f true = sum_by-set f flags i true false lt in
    let one : f (get_or flags i false) ≡ 1 = ap f off in
    let less : sum_by f (set flags i true) < sum_by f flags = omega arith in less

pub take_less : (before now : Growth) (i : ℕ) → i < length before.taken → get_or before.taken i false ≡ false
    → now.taken ≡ set before.taken i true → left_over now < left_over before
take_less before now i lt off is = rw is (left_less before.taken i lt off)

-- ---- a pass for the hull

-- a pass has taken a class, or nothing has changed and the first n listed classes are tested
abbrev pub HullPassed : List Class → Basis → (near : List ℕ) (n : ℕ) (before : Growth) (grew : Bool) (now : Growth) → Type 0
HullPassed classes candidates near n before grew now =
    MatchBool grew (left_over now < left_over before) ((now ≡ before) × ((m : ℕ) → m < n → MeetsNoMore classes candidates now (get_or near m 0)))

pub hull_starts : (classes : List Class) (candidates : Basis) (near : List ℕ) (growth : Growth) → HullPassed classes candidates near 0 growth false growth
hull_starts classes candidates near growth = (refl, λ m h. absurd (omega arith))

pub hull_takes : (classes : List Class) (candidates : Basis) (near : List ℕ) (n : ℕ) (before now next : Growth) (grew : Bool)
    → HullPassed classes candidates near n before grew now → left_over next < left_over now → HullPassed classes candidates near (n + 1) before true next
hull_takes classes candidates near n before now next true passed less = omega (arith, passed)
hull_takes classes candidates near n before now next false passed less = let e : left_over now ≡ left_over before = ap left_over passed.0 in omega (arith, e)

pub hull_skips : (classes : List Class) (candidates : Basis) (near : List ℕ) (n : ℕ) (before now : Growth) (grew : Bool)
    → HullPassed classes candidates near n before grew now → MeetsNoMore classes candidates now (get_or near n 0) → HullPassed classes candidates near (n + 1) before grew now
hull_skips classes candidates near n before now true passed tested = passed
hull_skips classes candidates near n before now false passed tested = (
  passed.0,
  λ m h. elim (cases_lt m n) [
    | inl old ↦ passed.1 m old
    | inr here ↦ (let e : n ≡ m = omega arith in let P : ℕ → Type 0 = λ k. MeetsNoMore classes candidates now (get_or near k 0) in subst P e tested)
  ],
)

hull_whole : (classes : List Class) (candidates : Basis) (near : List ℕ) (growth : Growth) → IsGrowth classes candidates growth
    → AreNear classes (row_sets growth.rest ++ row_sets growth.span) (row_sets growth.span) near → ((m : ℕ) → m < length near → MeetsNoMore classes candidates growth (get_or near m 0))
    → IsHull classes (row_sets candidates) (row_sets growth.span)
hull_whole classes candidates near growth is are tested i j partner = elim (are.others i) [
  | inl listed ↦
      let P : ℕ → Type 0 = λ k. MeetsNoMore classes candidates growth k in
      elim (subst P (get_or_default near listed.0 0 i listed.1 ∙ listed.2) (tested listed.0 listed.1)) [
        | inl on ↦ inl (is.taken i j on partner)
        | inr within ↦ inr within
      ]
  | inr apart ↦ inr (apart_within (row_sets candidates) (class_rows classes i) (row_sets growth.span) (row_sets growth.rest ++ row_sets growth.span) is.candidates_in (in_front (row_sets growth.rest) (row_sets growth.span)) apart)
]

pub hull_ends : (classes : List Class) (candidates : Basis) (near : List ℕ) (n : ℕ) (before now : Growth) (grew : Bool)
    → HullPassed classes candidates near n before grew now → length near ≤ n → IsGrowth classes candidates now → AreNear classes (row_sets before.rest ++ row_sets before.span) (row_sets before.span) near
    → MatchBool grew (left_over now < left_over before) (IsHull classes (row_sets candidates) (row_sets now.span))
hull_ends classes candidates near n before now true passed past is are = passed
hull_ends classes candidates near n before now false passed past is are =
    let P : Growth → Type 0 = λ g. AreNear classes (row_sets g.rest ++ row_sets g.span) (row_sets g.span) near in
    hull_whole classes candidates near now is (subst P (sym passed.0) are) (λ m h. passed.1 m (omega arith))

-- ---- a pass that grows the span

abbrev pub GrowPassed : List Class → Basis → (near : List ℕ) (n : ℕ) (before : Growth) (grew : Bool) (now : Growth) → Type 0
GrowPassed classes candidates near n before grew now =
    MatchBool grew (left_over now < left_over before) ((now ≡ before) × ((m : ℕ) → m < n → HoldsNoMore classes candidates now (get_or near m 0)))

pub grow_starts : (classes : List Class) (candidates : Basis) (near : List ℕ) (growth : Growth) → GrowPassed classes candidates near 0 growth false growth
grow_starts classes candidates near growth = (refl, λ m h. absurd (omega arith))

pub grow_takes : (classes : List Class) (candidates : Basis) (near : List ℕ) (n : ℕ) (before now next : Growth) (grew : Bool)
    → GrowPassed classes candidates near n before grew now → left_over next < left_over now → GrowPassed classes candidates near (n + 1) before true next
grow_takes classes candidates near n before now next true passed less = omega (arith, passed)
grow_takes classes candidates near n before now next false passed less = let e : left_over now ≡ left_over before = ap left_over passed.0 in omega (arith, e)

pub grow_skips : (classes : List Class) (candidates : Basis) (near : List ℕ) (n : ℕ) (before now : Growth) (grew : Bool)
    → GrowPassed classes candidates near n before grew now → HoldsNoMore classes candidates now (get_or near n 0) → GrowPassed classes candidates near (n + 1) before grew now
grow_skips classes candidates near n before now true passed tested = passed
grow_skips classes candidates near n before now false passed tested = (
  passed.0,
  λ m h. elim (cases_lt m n) [
    | inl old ↦ passed.1 m old
    | inr here ↦ (let e : n ≡ m = omega arith in let P : ℕ → Type 0 = λ k. HoldsNoMore classes candidates now (get_or near k 0) in subst P e tested)
  ],
)

grow_whole : (classes : List Class) (candidates : Basis) (near : List ℕ) (growth : Growth) → IsGrowth classes candidates growth
    → AreNear classes (row_sets growth.rest ++ row_sets growth.span) (row_sets growth.span) near → ((m : ℕ) → m < length near → HoldsNoMore classes candidates growth (get_or near m 0))
    → HasRowOutside candidates.rows (row_sets growth.span) → IsSaturated classes candidates (row_sets growth.span)
grow_whole classes candidates near growth is are tested out i j partner = elim (are.others i) [
  | inl listed ↦
      let P : ℕ → Type 0 = λ k. HoldsNoMore classes candidates growth k in
      elim (subst P (get_or_default near listed.0 0 i listed.1 ∙ listed.2) (tested listed.0 listed.1)) [
        | inl on ↦ inl (is.taken i j on partner)
        | inr outside ↦ inr outside
      ]
  | inr apart ↦ inr (apart_outside candidates (class_rows classes i) (row_sets growth.span) (row_sets growth.rest ++ row_sets growth.span) is.candidates_in (in_front (row_sets growth.rest) (row_sets growth.span)) apart out)
]

pub grow_ends : (classes : List Class) (candidates : Basis) (near : List ℕ) (n : ℕ) (before now : Growth) (grew : Bool)
    → GrowPassed classes candidates near n before grew now → length near ≤ n → IsGrowth classes candidates now → AreNear classes (row_sets before.rest ++ row_sets before.span) (row_sets before.span) near
    → HasRowOutside candidates.rows (row_sets before.span)
    → MatchBool grew (left_over now < left_over before) (IsSaturated classes candidates (row_sets now.span))
grow_ends classes candidates near n before now true passed past is are out = passed
grow_ends classes candidates near n before now false passed past is are out =
    let P : Growth → Type 0 = λ g. AreNear classes (row_sets g.rest ++ row_sets g.span) (row_sets g.span) near in
    let Q : Growth → Type 0 = λ g. HasRowOutside candidates.rows (row_sets g.span) in
    grow_whole classes candidates near now is (subst P (sym passed.0) are) (λ m h. passed.1 m (omega arith)) (subst Q (sym passed.0) out)

-- one more class of a pass
pub hull_one : (classes : List Class) (candidates : Basis) (near : List ℕ) (n : ℕ) (before now next : Growth) (grew took : Bool)
    → HullPassed classes candidates near n before grew now → MatchBool took (left_over next < left_over now) ((next ≡ now) × MeetsNoMore classes candidates next (get_or near n 0))
    → HullPassed classes candidates near (n + 1) before (cond took true grew) next
hull_one classes candidates near n before now next grew true passed one = hull_takes classes candidates near n before now next grew passed one
hull_one classes candidates near n before now next grew false passed one =
    let P : Growth → Type 0 = λ g. HullPassed classes candidates near n before grew g in
    hull_skips classes candidates near n before next grew (subst P (sym one.0) passed) one.1

pub grow_one : (classes : List Class) (candidates : Basis) (near : List ℕ) (n : ℕ) (before now next : Growth) (grew took : Bool)
    → GrowPassed classes candidates near n before grew now → MatchBool took (left_over next < left_over now) ((next ≡ now) × HoldsNoMore classes candidates next (get_or near n 0))
    → GrowPassed classes candidates near (n + 1) before (cond took true grew) next
grow_one classes candidates near n before now next grew true passed one = grow_takes classes candidates near n before now next grew passed one
grow_one classes candidates near n before now next grew false passed one =
    let P : Growth → Type 0 = λ g. GrowPassed classes candidates near n before grew g in
    grow_skips classes candidates near n before next grew (subst P (sym one.0) passed) one.1

-- ---- the pieces

-- the pieces of the first n listed classes
pub record PiecesSoFar (classes : List Class) (candidates : Basis) (span : List (Columns ℕ)) (near : List ℕ) (n : ℕ) (pieces : List Basis) : Type 0 where
  pub few : length pieces ≤ n
  pub columns : (k : ℕ) → k < length pieces → (span_at pieces k).columns ≡ candidates.columns
  pub proper : (k : ℕ) → k < length pieces → length (span_at pieces k).rows < length candidates.rows
  pub parts : (m j : ℕ) → m < n → IsPartner classes (get_or near m 0) j
      → Spans span (class_rows classes j) ⊎ IsInPieces candidates span pieces (class_rows classes (get_or near m 0))

pub pieces_start : (classes : List Class) (candidates : Basis) (span : List (Columns ℕ)) (near : List ℕ) (pieces : List Basis) → pieces ≡ []
    → PiecesSoFar classes candidates span near 0 pieces
pieces_start classes candidates span near pieces none = record {
  few = (let e : length pieces ≡ 0 = ap length none in omega arith);
  columns = λ k h. absurd (let e : length pieces ≡ 0 = ap length none in omega arith);
  proper = λ k h. absurd (let e : length pieces ≡ 0 = ap length none in omega arith);
  parts = λ m j h. absurd (omega arith);
}

-- one more piece, proper, of what the rows hold with the span
pub pieces_more : (classes : List Class) (candidates : Basis) (span : List (Columns ℕ)) (near : List ℕ) (n : ℕ) (pieces : List Basis) (piece : Basis)
    → PiecesSoFar classes candidates span near n pieces → piece.columns ≡ candidates.columns → length piece.rows < length candidates.rows
    → IsMeet (row_sets piece) (row_sets candidates) (class_rows classes (get_or near n 0) ++ span)
    → PiecesSoFar classes candidates span near (n + 1) (pieces ++ piece ∷ [])
pieces_more classes candidates span near n pieces piece so_far columns proper meet =
    let none : Basis = record { columns = 0; rows = [] } in
    let at_old : (k : ℕ) → k < length pieces → span_at (pieces ++ piece ∷ []) k ≡ span_at pieces k = λ k h. get_or_append_left pieces (piece ∷ []) none k h in
    let at_new : span_at (pieces ++ piece ∷ []) (length pieces) ≡ piece =
    (let zero_off : length pieces - length pieces ≡ 0 = omega arith in
    get_or-append_right pieces (piece ∷ []) (length pieces) (length pieces) none refl (omega arith) ∙ ap (λ k. get_or (piece ∷ []) k none) zero_off) in
    let longer : length (pieces ++ piece ∷ []) ≡ length pieces + 1 = length-append pieces (piece ∷ []) in
    record {
      few = omega (arith, longer, so_far.few);
      columns = λ k h. elim (cases_lt k (length pieces)) [
        | inl old ↦ ap (λ (b : Basis). b.columns) (at_old k old) ∙ so_far.columns k old
        | inr here ↦ (let e : length pieces ≡ k = omega arith in ap (λ (b : Basis). b.columns) (ap (λ i. span_at (pieces ++ piece ∷ []) i) (sym e) ∙ at_new) ∙ columns)
      ];
      proper = λ k h. elim (cases_lt k (length pieces)) [
        | inl old ↦ (let e : length (span_at (pieces ++ piece ∷ []) k).rows ≡ length (span_at pieces k).rows = ap (λ (b : Basis). length b.rows) (at_old k old) in omega (arith, so_far.proper k old))
        | inr here ↦ (let e : length pieces ≡ k = omega arith in
            let f : length (span_at (pieces ++ piece ∷ []) k).rows ≡ length piece.rows = ap (λ (b : Basis). length b.rows) (ap (λ i. span_at (pieces ++ piece ∷ []) i) (sym e) ∙ at_new) in omega arith)
      ];
      parts = λ m j h partner. elim (cases_lt m n) [
        | inl old ↦ elim (so_far.parts m j old partner) [
          | inl x ↦ inl x
          | inr within ↦ inr (λ v c r. elim (within v c r) [
            | inl e ↦ inl e
            | inr p ↦ (let P : Basis → Type 0 = λ b. InSpan (row_sets b) v in inr (p.0, omega (arith, p.1, longer), subst P (sym (at_old p.0 p.1)) p.2))
          ])
        ]
        | inr here ↦
            let e : n ≡ m = omega arith in
            let Q : ℕ → Type 0 = λ i. IsMeet (row_sets piece) (row_sets candidates) (class_rows classes (get_or near i 0) ++ span) in
            let meets : IsMeet (row_sets piece) (row_sets candidates) (class_rows classes (get_or near m 0) ++ span) = subst Q e meet in
            let P : Basis → Type 0 = λ b. (v : Columns ℕ) → InSpan (row_sets candidates) v → InSpan (class_rows classes (get_or near m 0) ++ span) v → InSpan (row_sets b) v in
            inr (λ v c r. inr (length pieces, omega (arith, longer), subst P (sym at_new) (λ u a b. (meets u).1 (a, b)) v c r))
      ];
    }

-- a piece that is not proper is all the candidates, so the span holds the co-operands
pub pieces_same : (classes : List Class) (candidates : Basis) (span : List (Columns ℕ)) (near : List ℕ) (n : ℕ) (pieces : List Basis) (piece : Basis)
    → PiecesSoFar classes candidates span near n pieces
    → MeetEmpty (row_sets candidates) span → Spans span (row_sets candidates) ⊎ IsSaturated classes candidates span
    → IsIndependent (row_sets piece) → length candidates.rows ≤ length piece.rows
    → IsMeet (row_sets piece) (row_sets candidates) (class_rows classes (get_or near n 0) ++ span)
    → PiecesSoFar classes candidates span near (n + 1) pieces
pieces_same classes candidates span near n pieces piece so_far apart ended free whole meet = record {
  few = omega (arith, so_far.few);
  columns = so_far.columns;
  proper = so_far.proper;
  parts = λ m j h partner. elim (cases_lt m n) [
    | inl old ↦ so_far.parts m j old partner
    | inr here ↦
        let e : n ≡ m = omega arith in
        let P : ℕ → Type 0 = λ i. IsPartner classes i j → Spans span (class_rows classes j) ⊎ IsInPieces candidates span pieces (class_rows classes i) in
        let at : IsPartner classes (get_or near n 0) j → Spans span (class_rows classes j) ⊎ IsInPieces candidates span pieces (class_rows classes (get_or near n 0)) =
        λ p. (elim ended [
          | inl within ↦ inr (λ v c r. inl (apart v c (within v c)))
          | inr saturated ↦ elim (saturated (get_or near n 0) j p) [
            | inl x ↦ inl x
            | inr out ↦ absurd (
                let less : length (row_sets piece) < length (row_sets candidates) =
                fewer_rows (row_sets piece) (row_sets candidates) (set_of (get_or candidates.rows out.0 [])) free (λ v c. ((meet v).0 c).0) (row_in candidates.rows out.0 out.1) (λ c. out.2 ((meet (set_of (get_or candidates.rows out.0 []))).0 c).1) in
                omega (arith, less, length-map piece.rows set_of, length-map candidates.rows set_of)
                )
          ]
        ]) in
        subst P (ap (λ i. get_or near i 0) e) at partner
  ];
}

pub pieces_end : (classes : List Class) (candidates : Basis) (span joint : List (Columns ℕ)) (near : List ℕ) (n : ℕ) (pieces : List Basis)
    → PiecesSoFar classes candidates span near n pieces → n ≡ length near → AreNear classes joint span near → Spans joint (row_sets candidates) → Spans joint span
    → MeetEmpty (row_sets candidates) span → ArePieces classes candidates span pieces
pieces_end classes candidates span joint near n pieces so_far past are of_candidates of_span apart = record {
  few = omega (arith, so_far.few, are.few, past);
  columns = so_far.columns;
  proper = so_far.proper;
  parts = λ i j partner. elim (are.others i) [
    | inl listed ↦
        let e : get_or near listed.0 0 ≡ i = get_or_default near listed.0 0 i listed.1 ∙ listed.2 in
        let P : ℕ → Type 0 = λ k. IsPartner classes k j → Spans span (class_rows classes j) ⊎ IsInPieces candidates span pieces (class_rows classes k) in
        subst P e (so_far.parts listed.0 j (omega (arith, listed.1, past))) partner
    | inr none ↦ inr (λ v c r. inl (apart v c (apart_within (row_sets candidates) (class_rows classes i) span joint of_candidates of_span none v c r)))
  ];
}
