-- Which of the first products go, settled one by one.
use Rattle.std.proofs.Common.{◌≡◌, ◌≢◌, ◌⊎◌, inl, inr, ℕ, ◌+◌, ◌<◌, ◌≤◌, ◌==◌, ◌&&◌, ◌||◌, Bool, true, false, not, cond, List, [], ◌∷◌, ◌++◌, length, get_or, set, replicate, refl, sym, ap, ◌∙◌, subst, arith, MatchBool, Some, map}
use Rattle.std.specs.Prelude.{nat_le}
use Rattle.std.proofs.lemmas.Bool.{cases_lt, cases_eq, leb-true, leb-false, le-leb, or_cases, true≢false, eq-eqb, ne_eqb}
use Rattle.std.proofs.lemmas.List.{append-nil, get_or_past, get_or-set_same, get_or-set_other, length-replicate, get_or-replicate}
use Rattle.span_model.specs.Columns.{Columns, empty}
use Rattle.span_model.specs.Span.{InSpan, Spans, SameSpan}
use Rattle.span_model.specs.Attack.{Product, product_at, IsLeak, HasAttack}
use Rattle.span_model.specs.AttackLaws.{LeaksAreClosed}
use Rattle.span_model.specs.RefreshLaws.{AttackCarriesOver}
use Rattle.span_model.specs.Renaming.{named_in, renumbered, IsCovered}
use Rattle.span_model.specs.Closure.{Step, Side, on_left, on_right, side_of, other_side, operand, co_operand, co_operands, IsChain}
use Rattle.span_model.specs.Refresh.{left_out, without}
use Rattle.span_model.proofs.Members.{in_none}
use Rattle.tightprove.specs.declared.gathered.Gathered.{Gathered}
use Rattle.tightprove.specs.LeavingOut.{IsLeastLeftOut}
use Rattle.tightprove.specs.Private.Gathered.{marks_of, beyond, place_at, rows_in, IsGatheredOf, HasSameRows, HasNoLeak}
use Rattle.tightprove.specs.Private.Bounds.{class_count, AreBounds, IsCleanTo, AreStuck, IsLeastOf, IsSettled}
use Rattle.tightprove.proofs.Leaving.{out_at, length-left_out, gathered_same}

-- each product of the set `less` that there is, is in the set
abbrev pub IsAmong : (count : ℕ) → (less more : ℕ → Bool) → Type 0
IsAmong count less more = (k : ℕ) → k < count → less k ≡ true → more k ≡ true

-- ---- what leaks with more products left out leaks with fewer

same_span : (rows others : List (Columns ℕ)) → rows ≡ others → (v : Columns ℕ) → InSpan (map (named_in (λ c. Some c)) rows) v → InSpan others v
same_span rows others e v m = subst (λ (r : List (Columns ℕ)). InSpan r v) (itself rows ∙ e) m
  where
    itself : (rows : List (Columns ℕ)) → map (named_in (λ c. Some c)) rows ≡ rows
    itself [] = refl
    itself (row ∷ rows) = ap (λ (l : List (Columns ℕ)). row ∷ l) (itself rows)

covers : (products : List (Product ℕ)) (less more : ℕ → Bool) → IsAmong (length products) less more
    → IsCovered (λ c. Some c) (λ k. k) (left_out more products) (left_out less products)
covers products less more among =
    let count_more = length-left_out more products in
    let count_less = length-left_out less products in
    record {
      there = λ k h. omega arith;
      left = λ k h. side (λ p. p.left) refl k (omega arith);
      right = λ k h. side (λ p. p.right) refl k (omega arith);
    }
  where
    side : (pick : Product ℕ → List (Columns ℕ)) → pick (record { left = []; right = [] }) ≡ [] → (k : ℕ) → k < length products
        → Spans (pick (product_at (left_out less products) k)) (map (named_in (λ c. Some c)) (pick (product_at (left_out more products) k)))
    side pick none k h v m =
        by (more k) (less k) (among k h)
        (subst (λ (p : Product ℕ). InSpan (map (named_in (λ c. Some c)) (pick p)) v) (out_at more products k) m)
        (λ x. subst (λ (p : Product ℕ). InSpan (pick p) v) (sym (out_at less products k)) x)
      where
        by : (b d : Bool) → (d ≡ true → b ≡ true)
            → InSpan (map (named_in (λ c. Some c)) (pick (cond b (record { left = []; right = [] }) (product_at products k)))) v
            → (InSpan (pick (cond d (record { left = []; right = [] }) (product_at products k))) v → InSpan (pick (product_at (left_out less products) k)) v)
            → InSpan (pick (product_at (left_out less products) k)) v
        by true d f m back =
            let gone : v ≡ empty = in_none v (subst (λ (l : List (Columns ℕ)). InSpan (map (named_in (λ c. Some c)) l) v) none m) in
            subst (λ (w : Columns ℕ). InSpan (pick (product_at (left_out less products) k)) w) (sym gone) ([], refl)
        by false true f m back = absurd (true≢false (sym (f refl)))
        by false false f m back = back (same_span (pick (product_at products k)) (pick (product_at products k)) refl v m)

-- a leak without more products is one without fewer
pub leak_stays_with_more : AttackCarriesOver ℕ ℕ → (products : List (Product ℕ)) (less more : ℕ → Bool) → IsAmong (length products) less more
    → (v : Columns ℕ) → IsLeak (left_out more products) v → IsLeak (left_out less products) v
leak_stays_with_more law products less more among v leak = (
  leak.0,
  map (renumbered (λ k. k)) leak.1,
  law (λ c. Some c) (λ k. k) (left_out more products) (left_out less products) (covers products less more among) leak.0 v leak.1 leak.2 leak.2.nonempty,
)

pub attack_stays : AttackCarriesOver ℕ ℕ → (products : List (Product ℕ)) (less more : ℕ → Bool) → IsAmong (length products) less more
    → HasAttack (left_out more products) → HasAttack (left_out less products)
attack_stays law products less more among has = (has.0, leak_stays_with_more law products less more among has.0 has.1)

pub no_leak_stays : AttackCarriesOver ℕ ℕ → (products : List (Product ℕ)) (less more : ℕ → Bool) (rows : List (Columns ℕ)) → IsAmong (length products) less more
    → HasNoLeak products less rows → HasNoLeak products more rows
no_leak_stays law products less more rows among clean v m leak = clean v m (leak_stays_with_more law products less more among v leak)

-- ---- leaks are in classes

-- without all products there is no leak
pub none_leaks : LeaksAreClosed ℕ → (products : List (Product ℕ)) (out : ℕ → Bool) → ((k : ℕ) → out k ≡ true) → (v : Columns ℕ) → ¬ IsLeak (left_out out products) v
none_leaks law products out all v leak =
    let closed = (law (left_out out products) v).0 leak in
    closed.0 (in_none v (subst (λ (r : List (Columns ℕ)). InSpan r v) (nothing closed.1.0) closed.1.2))
  where
    one : (step : Step) → co_operand (left_out out products) step ≡ []
    one step = at (other_side step.side)
      where
        bare : product_at (left_out out products) step.product ≡ record { left = []; right = [] }
        bare = out_at out products step.product ∙ ap (λ (b : Bool). cond b (record { left = []; right = [] }) (product_at products step.product)) (all step.product)

        at : (side : Side) → side_of (product_at (left_out out products) step.product) side ≡ []
        at on_left = ap (λ (p : Product ℕ). p.left) bare
        at on_right = ap (λ (p : Product ℕ). p.right) bare

    nothing : (steps : List Step) → co_operands (left_out out products) steps ≡ []
    nothing [] = refl
    nothing (step ∷ steps) = ap (λ (l : List (Columns ℕ)). l ++ co_operands (left_out out products) steps) (one step) ∙ nothing steps

-- the first step of a chain
first_step : (products : List (Product ℕ)) (v : Columns ℕ) (steps : List Step) → IsChain products v steps
    → (steps ≡ []) ⊎ ((step : Step) × (step.product < length products) × InSpan (operand products step ++ []) v)
first_step products v [] chain = inl refl
first_step products v (step ∷ []) chain = inr (step, chain.0, chain.1)
first_step products v (step ∷ next ∷ steps) chain = elim (first_step products v (next ∷ steps) chain.2) [
  | inl none ↦ absurd (apart none)
  | inr found ↦ inr found
]
  where
    apart : (next ∷ steps) ≡ [] → ⊥
    apart e = cc

-- a member of an operand is one of its class
in_class : (products : List (Product ℕ)) (gathered : Gathered) (out : ℕ → Bool) → IsGatheredOf products gathered → (v : Columns ℕ) → v ≢ empty
    → (k : ℕ) → k < length products → (side : Side) → InSpan (side_of (product_at (left_out out products) k) side) v
    → (i : ℕ) × (i < class_count gathered) × InSpan (rows_in gathered i) v
in_class products gathered out is v some k h on_left m =
    let place = place_at gathered.places.items k in
    let at = is.placed k h in
    (place.left, at.left_number, by (out k) (subst (λ (p : Product ℕ). InSpan p.left v) (out_at out products k) m) at.left)
  where
    by : (b : Bool) → InSpan (cond b (record { left = []; right = [] }) (product_at products k)).left v
        → SameSpan (rows_in gathered (place_at gathered.places.items k).left) (product_at products k).left → InSpan (rows_in gathered (place_at gathered.places.items k).left) v
    by true m same = absurd (some (in_none v m))
    by false m same = (same v).1 m
in_class products gathered out is v some k h on_right m =
    let place = place_at gathered.places.items k in
    let at = is.placed k h in
    (place.right, at.right_number, by (out k) (subst (λ (p : Product ℕ). InSpan p.right v) (out_at out products k) m) at.right)
  where
    by : (b : Bool) → InSpan (cond b (record { left = []; right = [] }) (product_at products k)).right v
        → SameSpan (rows_in gathered (place_at gathered.places.items k).right) (product_at products k).right → InSpan (rows_in gathered (place_at gathered.places.items k).right) v
    by true m same = absurd (some (in_none v m))
    by false m same = (same v).1 m

-- where no class has a leak there is no attack
pub classes_secure : LeaksAreClosed ℕ → (products : List (Product ℕ)) (gathered : Gathered) (out : ℕ → Bool) → IsGatheredOf products gathered
    → ((i : ℕ) → i < class_count gathered → HasNoLeak products out (rows_in gathered i)) → ¬ HasAttack (left_out out products)
classes_secure law products gathered out is clean has =
    let v = has.0 in
    let closed = (law (left_out out products) v).0 has.1 in
    elim (first_step (left_out out products) v closed.1.0 closed.1.1) [
      | inl none ↦ closed.0 (in_none v (subst (λ (steps : List Step). InSpan (co_operands (left_out out products) steps) v) none closed.1.2))
      | inr found ↦
          let count = length-left_out out products in
          let m : InSpan (side_of (product_at (left_out out products) found.0.product) found.0.side) v = rw append-nil at found.2 in
          let below = found.1 in
          let at = in_class products gathered out is v closed.0 found.0.product (omega arith) found.0.side m in
          clean at.0 at.1 v at.2 has.1
    ]

-- ---- sets of products

in_set : (S : ℕ → Bool) (b j : ℕ) → S j ≡ true → beyond S b j ≡ true
in_set S b j e = ap (λ (x : Bool). x || nat_le b j) e

from_number : (S : ℕ → Bool) (b j : ℕ) → b ≤ j → beyond S b j ≡ true
from_number S b j h = ap (λ (x : Bool). S j || x) (le-leb b j h) ∙ or_true (S j)
  where
    or_true : (x : Bool) → (x || true) ≡ true
    or_true true = refl
    or_true false = refl

either : (S : ℕ → Bool) (b j : ℕ) → beyond S b j ≡ true → (S j ≡ true) ⊎ (b ≤ j)
either S b j e = elim (or_cases (S j) (nat_le b j) e) [
  | inl x ↦ inl x
  | inr y ↦ inr (leb-true b j y)
]

-- more products are left out by a smaller bound
pub among_lower : (n : ℕ) (S : ℕ → Bool) (b d : ℕ) → b ≤ d → IsAmong n (beyond S d) (beyond S b)
among_lower n S b d le j h e = elim (either S d j e) [
  | inl x ↦ in_set S b j x
  | inr y ↦ from_number S b j (omega arith)
]

without_parts : (k : ℕ) (S : ℕ → Bool) (j : ℕ) → without k S j ≡ true → (S j ≡ true) × (j ≢ k)
without_parts k S j e =
    let both = parts (S j) (not (j == k)) e in
    (both.0, λ same. true≢false (sym both.1 ∙ ap not (eq-eqb j k same)))
  where
    parts : (x y : Bool) → (x && y) ≡ true → (x ≡ true) × (y ≡ true)
    parts true true e = (refl, refl)
    parts true false e = absurd (true≢false (sym e))
    parts false y e = absurd (true≢false (sym e))

without_other : (k : ℕ) (S : ℕ → Bool) (j : ℕ) → S j ≡ true → j ≢ k → without k S j ≡ true
without_other k S j e other = ap (λ (x : Bool). x && not (j == k)) e ∙ ap not (ne_eqb j k other)

-- ---- bounds of gathered classes with other partners

pub clean_same : (products : List (Product ℕ)) (S : ℕ → Bool) (old new : Gathered) (b : ℕ) → HasSameRows old new
    → IsCleanTo products S old b → IsCleanTo products S new b
clean_same products S old new b same clean i h =
    let many = same.count in
    subst (λ (r : List (Columns ℕ)). HasNoLeak products (beyond S b) r) (sym (same.rows i)) (clean i (omega arith))

pub clean_back : (products : List (Product ℕ)) (S : ℕ → Bool) (old new : Gathered) (b : ℕ) → HasSameRows old new
    → IsCleanTo products S new b → IsCleanTo products S old b
clean_back products S old new b same clean i h =
    let many = same.count in
    subst (λ (r : List (Columns ℕ)). HasNoLeak products (beyond S b) r) (same.rows i) (clean i (omega arith))

pub bounds_same : (products : List (Product ℕ)) (S : ℕ → Bool) (old new : Gathered) (bounds : List ℕ) → HasSameRows old new
    → AreBounds products S old bounds → AreBounds products S new bounds
bounds_same products S old new bounds same are i h =
    let many = same.count in
    subst (λ (r : List (Columns ℕ)). HasNoLeak products (beyond S (get_or bounds i 0)) r) (sym (same.rows i)) (are i (omega arith))

pub bounds_back : (products : List (Product ℕ)) (S : ℕ → Bool) (old new : Gathered) (bounds : List ℕ) → HasSameRows old new
    → AreBounds products S new bounds → AreBounds products S old bounds
bounds_back products S old new bounds same are i h =
    let many = same.count in
    subst (λ (r : List (Columns ℕ)). HasNoLeak products (beyond S (get_or bounds i 0)) r) (same.rows i) (are i (omega arith))

pub stuck_same : (products : List (Product ℕ)) (S : ℕ → Bool) (old new : Gathered) (m b : ℕ) (bounds : List ℕ) → HasSameRows old new
    → AreStuck products S old m b bounds → AreStuck products S new m b bounds
stuck_same products S old new m b bounds same are i h le = let many = same.count in are i (omega arith) le

pub stuck_back : (products : List (Product ℕ)) (S : ℕ → Bool) (old new : Gathered) (m b : ℕ) (bounds : List ℕ) → HasSameRows old new
    → AreStuck products S new m b bounds → AreStuck products S old m b bounds
stuck_back products S old new m b bounds same are i h le = let many = same.count in are i (omega arith) le

-- what holds of the new bound and of the others as they were
pub at_set : (bounds : List ℕ) (i b : ℕ) → i < length bounds → (Q : ℕ → ℕ → Type 0) → Q i b → ((k : ℕ) → k ≢ i → Q k (get_or bounds k 0))
    → (k : ℕ) → Q k (get_or (set bounds i b) k 0)
at_set bounds i b h Q here others k = elim (cases_eq k i) [
  | inl same ↦
      subst (λ (x : ℕ). Q x (get_or (set bounds i b) x 0)) (sym same) (subst (Q i) (sym (get_or-set_same bounds i b 0 h)) here)
  | inr other ↦ subst (Q k) (sym (get_or-set_other bounds i k b 0 other)) (others k other)
]

-- ---- one product more

-- where all bounds are above m, no class has a leak up to the next
pub clean_above : AttackCarriesOver ℕ ℕ → (products : List (Product ℕ)) (S : ℕ → Bool) (gathered : Gathered) (m : ℕ) (bounds : List ℕ)
    → AreBounds products S gathered bounds → ((i : ℕ) → i < class_count gathered → m < get_or bounds i 0) → IsCleanTo products S gathered (m + 1)
clean_above law products S gathered m bounds are above i h =
    let high = above i h in
    no_leak_stays law products (beyond S (get_or bounds i 0)) (beyond S (m + 1)) (rows_in gathered i)
    (among_lower (length products) S (m + 1) (get_or bounds i 0) (omega arith)) (are i h)

-- nothing is settled yet
pub settled_start : LeaksAreClosed ℕ → (products : List (Product ℕ)) (gathered : Gathered) (n c : ℕ) (marks : List Bool) (bounds : List ℕ)
    → marks ≡ replicate n false → bounds ≡ replicate c 0 → IsSettled products gathered 0 (marks_of marks) bounds
settled_start law products gathered n c marks bounds e f =
    let all : (b : ℕ) → b ≡ 0 → (j : ℕ) → beyond (marks_of marks) b j ≡ true = λ b zero j. from_number (marks_of marks) b j (omega arith) in
    record {
      clean = λ i h v m. none_leaks law products (beyond (marks_of marks) 0) (all 0 refl) v;
      within_bounds = λ i h v m. none_leaks law products (beyond (marks_of marks) (get_or bounds i 0)) (all (get_or bounds i 0) (zeros i)) v;
      needed = λ k h. absurd (omega arith);
      later = λ k h. ap (λ (l : List Bool). marks_of l k) e ∙ falses k;
    }
  where
    zeros : (i : ℕ) → get_or bounds i 0 ≡ 0
    zeros i = ap (λ (l : List ℕ). get_or l i 0) f ∙ elim (cases_lt i c) [
      | inl lt ↦ get_or-replicate c i 0 0 lt
      | inr past ↦ get_or_past (replicate c 0) i 0 (omega (arith, length-replicate {A = ℕ} c 0))
    ]

    falses : (k : ℕ) → marks_of (replicate n false) k ≡ false
    falses k = elim (cases_lt k n) [
      | inl lt ↦ get_or-replicate n k false false lt
      | inr past ↦ get_or_past (replicate n false) k false (omega (arith, length-replicate {A = Bool} n false))
    ]

-- it is settled whether one product more goes
pub settled_more : AttackCarriesOver ℕ ℕ → (products : List (Product ℕ)) (gathered : Gathered) (m : ℕ) (marks : List Bool) (old bounds : List ℕ) (goes : Bool)
    → IsSettled products gathered m (marks_of marks) old → m < length marks → AreBounds products (marks_of marks) gathered bounds
    → MatchBool goes (HasAttack (left_out (beyond (marks_of marks) (m + 1)) products)) (IsCleanTo products (marks_of marks) gathered (m + 1))
    → IsSettled products gathered (m + 1) (marks_of (set marks m goes)) bounds
settled_more law products gathered m marks old bounds goes settled within are answer =
    by goes answer (get_or-set_same marks m goes false within) (λ j other. get_or-set_other marks m j goes false other)
  where
    count : ℕ
    count = length products

    by : (goes : Bool)
        → MatchBool goes (HasAttack (left_out (beyond (marks_of marks) (m + 1)) products)) (IsCleanTo products (marks_of marks) gathered (m + 1))
        → marks_of (set marks m goes) m ≡ goes → ((j : ℕ) → j ≢ m → marks_of (set marks m goes) j ≡ marks_of marks j)
        → IsSettled products gathered (m + 1) (marks_of (set marks m goes)) bounds
    by true attack own other =
        let S = marks_of marks in
        let T = marks_of (set marks m true) in
        let grows : (j : ℕ) → S j ≡ true → T j ≡ true = λ j e.
        elim (cases_eq j m) [
          | inl same ↦ ap T same ∙ own
          | inr apart ↦ other j apart ∙ e
        ] in
        let goes_first : (k : ℕ) → k ≡ m → HasAttack (left_out (beyond (without k T) (k + 1)) products) = λ k last.
        subst (λ (x : ℕ). HasAttack (left_out (beyond (without x T) (x + 1)) products)) (sym last)
        (attack_stays law products (beyond (without m T) (m + 1)) (beyond S (m + 1))
        (λ j h e. elim (either (without m T) (m + 1) j e) [
          | inl x ↦ let p = without_parts m T j x in in_set S (m + 1) j (sym (other j p.1) ∙ p.0)
          | inr y ↦ from_number S (m + 1) j y
        ]) attack) in
        record {
          clean = λ i h. no_leak_stays law products (beyond S m) (beyond T (m + 1)) (rows_in gathered i)
              (λ j below e. elim (either S m j e) [
                | inl x ↦ in_set T (m + 1) j (grows j x)
                | inr y ↦ elim (cases_eq j m) [
                  | inl same ↦ in_set T (m + 1) j (ap T same ∙ own)
                  | inr apart ↦ from_number T (m + 1) j (let differ : j ≢ m = apart in omega arith)
                ]
              ]) (settled.clean i h);
          within_bounds = λ i h. no_leak_stays law products (beyond S (get_or bounds i 0)) (beyond T (get_or bounds i 0)) (rows_in gathered i)
              (λ j below e. elim (either S (get_or bounds i 0) j e) [
                | inl x ↦ in_set T (get_or bounds i 0) j (grows j x)
                | inr y ↦ from_number T (get_or bounds i 0) j y
              ]) (are i h);
          needed = λ k below there. elim (cases_lt k m) [
            | inl before ↦
                let apart : k ≢ m = λ e. absurd (omega arith) in
                attack_stays law products (beyond (without k T) (k + 1)) (beyond (without k S) (k + 1))
                (λ j h e. elim (either (without k T) (k + 1) j e) [
                  | inl x ↦ (let p = without_parts k T j x in
                      elim (cases_eq j m) [
                        | inl same ↦ from_number (without k S) (k + 1) j (omega arith)
                        | inr differ ↦ in_set (without k S) (k + 1) j (without_other k S j (sym (other j differ) ∙ p.0) p.1)
                      ])
                  | inr y ↦ from_number (without k S) (k + 1) j y
                ]) (settled.needed k before (sym (other k apart) ∙ there))
            | inr last ↦ goes_first k (omega arith)
          ];
          later = λ k h.
              let apart : k ≢ m = λ e. absurd (omega arith) in
              other k apart ∙ settled.later k (omega arith);
        }
    by false clean own other =
        let S = marks_of marks in
        let T = marks_of (set marks m false) in
        let same : (j : ℕ) → T j ≡ S j = λ j.
        elim (cases_eq j m) [
          | inl e ↦ ap T e ∙ own ∙ sym (ap S e ∙ settled.later m (omega arith))
          | inr apart ↦ other j apart
        ] in
        let grows : (b : ℕ) → IsAmong (length products) (beyond S b) (beyond T b) = λ b j h e.
        elim (either S b j e) [ inl x ↦ in_set T b j (same j ∙ x) | inr y ↦ from_number T b j y ] in
        record {
          clean = λ i h. no_leak_stays law products (beyond S (m + 1)) (beyond T (m + 1)) (rows_in gathered i) (grows (m + 1)) (clean i h);
          within_bounds = λ i h. no_leak_stays law products (beyond S (get_or bounds i 0)) (beyond T (get_or bounds i 0)) (rows_in gathered i) (grows (get_or bounds i 0)) (are i h);
          needed = λ k below there. elim (cases_lt k m) [
            | inl before ↦
                attack_stays law products (beyond (without k T) (k + 1)) (beyond (without k S) (k + 1))
                (λ j h e. elim (either (without k T) (k + 1) j e) [
                  | inl x ↦ (let p = without_parts k T j x in in_set (without k S) (k + 1) j (without_other k S j (sym (same j) ∙ p.0) p.1))
                  | inr y ↦ from_number (without k S) (k + 1) j y
                ]) (settled.needed k before (sym (same k) ∙ there))
            | inr last ↦
                let here : k ≡ m = omega arith in
                absurd (true≢false (sym there ∙ ap T here ∙ own))
          ];
          later = λ k h. same k ∙ settled.later k (omega arith);
        }

-- all is settled
pub settled_all : LeaksAreClosed ℕ → AttackCarriesOver ℕ ℕ → (products : List (Product ℕ)) (gathered : Gathered) (m : ℕ) (S : ℕ → Bool) (bounds : List ℕ)
    → IsGatheredOf products gathered → IsSettled products gathered m S bounds → length products ≡ m → IsLeastLeftOut products S
settled_all closed law products gathered m S bounds is settled count =
    record {
      secure = classes_secure closed products gathered S is (λ i h.
          no_leak_stays law products (beyond S m) S (rows_in gathered i)
          (λ j below e. elim (either S m j e) [ inl x ↦ x | inr y ↦ absurd (omega arith) ]) (settled.clean i h));
      needed = λ k below there.
          attack_stays law products (without k S) (beyond (without k S) (k + 1)) (λ j h e. in_set (without k S) (k + 1) j e)
          (settled.needed k (omega arith) there);
    }

-- whether one product more goes, by the least of the bounds that were raised
pub goes_answer : AttackCarriesOver ℕ ℕ → (products : List (Product ℕ)) (S : ℕ → Bool) (gathered : Gathered) (m most least : ℕ) (bounds : List ℕ) (b : Bool)
    → nat_le least m ≡ b → IsLeastOf bounds most least → m < most
    → length bounds ≡ class_count gathered → AreStuck products S gathered m (m + 1) bounds → AreBounds products S gathered bounds
    → MatchBool b (HasAttack (left_out (beyond S (m + 1)) products)) (IsCleanTo products S gathered (m + 1))
goes_answer law products S gathered m most least bounds true e is high count stuck are =
    let low = leb-true least m e in
    let at = is.there (omega arith) in
    stuck at.0 (omega (arith, at.1)) (omega (arith, at.2))
goes_answer law products S gathered m most least bounds false e is high count stuck are =
    let above = leb-false least m e in
    clean_above law products S gathered m bounds are (λ i h. omega (arith, is.lower i (omega arith)))

-- the same classes
pub rows_itself : (gathered : Gathered) → HasSameRows gathered gathered
rows_itself gathered = record { count = refl; rows = λ i. refl; columns = refl; places = refl; bare = refl; images = refl }

-- one product more, by what a call says of the classes as they stand
pub goes_step : AttackCarriesOver ℕ ℕ → (products : List (Product ℕ)) (first now : Gathered) (m : ℕ) (marks seen : List Bool) (bounds given raised : List ℕ) (goes : Bool)
    → HasSameRows first now → IsGatheredOf products first → seen ≡ marks → given ≡ bounds → IsSettled products first m (marks_of marks) bounds → m < length marks
    → (IsGatheredOf products now → IsCleanTo products (marks_of seen) now m → AreBounds products (marks_of seen) now given → AreBounds products (marks_of seen) now raised)
    → (IsGatheredOf products now → IsCleanTo products (marks_of seen) now m → AreBounds products (marks_of seen) now given
    → MatchBool goes (HasAttack (left_out (beyond (marks_of seen) (m + 1)) products)) (IsCleanTo products (marks_of seen) now (m + 1)))
    → IsSettled products first (m + 1) (marks_of (set marks m goes)) raised
goes_step law products first now m marks seen bounds given raised goes rows is e f settled within raises answers =
    let there = gathered_same products first now rows is in
    let clean : IsCleanTo products (marks_of seen) now m =
    subst (λ (l : List Bool). IsCleanTo products (marks_of l) now m) (sym e) (clean_same products (marks_of marks) first now m rows settled.clean) in
    let old : AreBounds products (marks_of seen) now given =
    subst (λ (l : List Bool). AreBounds products (marks_of l) now given) (sym e)
    (subst (λ (l : List ℕ). AreBounds products (marks_of marks) now l) (sym f) (bounds_same products (marks_of marks) first now bounds rows settled.within_bounds)) in
    settled_more law products first m marks bounds raised goes settled within
    (subst (λ (l : List Bool). AreBounds products (marks_of l) first raised) e (bounds_back products (marks_of seen) first now raised rows (raises there clean old)))
    (back goes (subst (λ (l : List Bool). MatchBool goes (HasAttack (left_out (beyond (marks_of l) (m + 1)) products)) (IsCleanTo products (marks_of l) now (m + 1))) e (answers there clean old)))
  where
    back : (b : Bool) → MatchBool b (HasAttack (left_out (beyond (marks_of marks) (m + 1)) products)) (IsCleanTo products (marks_of marks) now (m + 1))
        → MatchBool b (HasAttack (left_out (beyond (marks_of marks) (m + 1)) products)) (IsCleanTo products (marks_of marks) first (m + 1))
    back true attack = attack
    back false clean = clean_back products (marks_of marks) first now (m + 1) rows clean
