-- Bounds that are raised, and the least of them.
use Rattle.std.proofs.Common.{◌≡◌, ◌≢◌, inl, inr, ℕ, ◌+◌, ◌<◌, ◌≤◌, Bool, true, false, List, [], ◌∷◌, ◌++◌, length, get_or, set, take, min, refl, sym, ◌∙◌, subst, arith}
use Rattle.std.proofs.lemmas.Bool.{cases_lt}
use Rattle.std.proofs.lemmas.List.{get_or-set_other, get_or_push, get_or_append_left, length_push, take_more}
use Rattle.span_model.specs.Columns.{Columns}
use Rattle.span_model.specs.Attack.{Product, HasAttack}
use Rattle.span_model.specs.AttackLaws.{LeaksAreClosed}
use Rattle.span_model.specs.Refresh.{left_out}
use Rattle.tightprove.specs.Classes.{AreClassesOf}
use Rattle.tightprove.specs.declared.gathered.Gathered.{Gathered}
use Rattle.tightprove.specs.Private.Gathered.{beyond, rows_in, HasSameRows, HasNoLeak}
use Rattle.tightprove.specs.Private.Bounds.{class_count, AreBounds, IsCleanTo, IsLeastOf, IsCleanBound, IsRestBound}
use Rattle.tightprove.proofs.Leaving.{below_answer}
use Rattle.tightprove.proofs.Settling.{at_set}

-- a class with a bound that was tried
pub clean_bounds : LeaksAreClosed ℕ → (products : List (Product ℕ)) (S : ℕ → Bool) (old new : Gathered) (i m all b : ℕ) (bounds : List ℕ) → HasSameRows old new
    → AreClassesOf (left_out (beyond S all) products) new.classes.list.items → i < length bounds → IsCleanBound new i (get_or bounds i 0) m all b
    → AreBounds products S old bounds → AreBounds products S old (set bounds i b)
clean_bounds law products S old new i m all b bounds same are h is bound k below =
    at_set bounds i b h (λ x y. x < class_count old → HasNoLeak products (beyond S y) (rows_in old x))
    (λ inside. elim is [
      | inl stays ↦ subst (λ (y : ℕ). HasNoLeak products (beyond S y) (rows_in old i)) (sym stays.0) (bound i inside)
      | inr clean ↦ subst (λ (y : ℕ). HasNoLeak products (beyond S y) (rows_in old i)) (sym clean.0)
          (below_answer law products old new (beyond S all) i false are same clean.1)
    ])
    (λ x other inside. bound x inside) k below

pub clean_stuck : LeaksAreClosed ℕ → (products : List (Product ℕ)) (S : ℕ → Bool) (old new : Gathered) (i m all b : ℕ) (bounds : List ℕ) → HasSameRows old new
    → AreClassesOf (left_out (beyond S all) products) new.classes.list.items → i < length bounds → IsCleanBound new i (get_or bounds i 0) m all b → m < all
    → ((k : ℕ) → k < i → get_or bounds k 0 ≤ m → HasAttack (left_out (beyond S all) products))
    → (k : ℕ) → k < i + 1 → get_or (set bounds i b) k 0 ≤ m → HasAttack (left_out (beyond S all) products)
clean_stuck law products S old new i m all b bounds same are h is high before k below =
    at_set bounds i b h (λ x y. x < i + 1 → y ≤ m → HasAttack (left_out (beyond S all) products))
    (λ inside low. elim is [
      | inl stays ↦
          let e = stays.0 in
          let found = stays.1 (omega arith) in
          below_answer law products old new (beyond S all) i true are same found
      | inr clean ↦ let e = clean.0 in absurd (omega arith)
    ])
    (λ x other inside low. let apart : x ≢ i = other in before x (omega arith) low) k below

-- a class whose bound was sought
pub rest_bounds : (products : List (Product ℕ)) (S : ℕ → Bool) (old : Gathered) (rows : List (Columns ℕ)) (i m b : ℕ) (bounds : List ℕ) → rows ≡ rows_in old i
    → i < length bounds → IsRestBound products S rows (get_or bounds i 0) m b → IsCleanTo products S old m
    → AreBounds products S old bounds → AreBounds products S old (set bounds i b)
rest_bounds products S old rows i m b bounds e h is clean bound k below =
    at_set bounds i b h (λ x y. x < class_count old → HasNoLeak products (beyond S y) (rows_in old x))
    (λ inside. elim is [
      | inl stays ↦ subst (λ (y : ℕ). HasNoLeak products (beyond S y) (rows_in old i)) (sym stays.0) (bound i inside)
      | inr found ↦ elim found [
        | inl above ↦ subst (λ (r : List (Columns ℕ)). HasNoLeak products (beyond S b) r) e above.1
        | inr stuck ↦ subst (λ (y : ℕ). HasNoLeak products (beyond S y) (rows_in old i)) (sym stuck.0) (clean i inside)
      ]
    ])
    (λ x other inside. bound x inside) k below

pub rest_stuck : (products : List (Product ℕ)) (S : ℕ → Bool) (rows : List (Columns ℕ)) (i m b : ℕ) (bounds : List ℕ) → i < length bounds
    → IsRestBound products S rows (get_or bounds i 0) m b
    → ((k : ℕ) → k < i → get_or bounds k 0 ≤ m → HasAttack (left_out (beyond S (m + 1)) products))
    → (k : ℕ) → k < i + 1 → get_or (set bounds i b) k 0 ≤ m → HasAttack (left_out (beyond S (m + 1)) products)
rest_stuck products S rows i m b bounds h is before k below =
    at_set bounds i b h (λ x y. x < i + 1 → y ≤ m → HasAttack (left_out (beyond S (m + 1)) products))
    (λ inside low. elim is [
      | inl stays ↦ let high = stays.1 in absurd (omega arith)
      | inr found ↦ elim found [
        | inl above ↦ let high = above.0 in absurd (omega arith)
        | inr stuck ↦ stuck.1
      ]
    ])
    (λ x other inside low. let apart : x ≢ i = other in before x (omega arith) low) k below

-- the bounds behind the one that changed are as they were
pub behind : (bounds old : List ℕ) (i b : ℕ) → ((k : ℕ) → i ≤ k → get_or bounds k 0 ≡ get_or old k 0)
    → (k : ℕ) → i + 1 ≤ k → get_or (set bounds i b) k 0 ≡ get_or old k 0
behind bounds old i b before k h =
    let apart : k ≡ i → ⊥ = λ e. absurd (omega arith) in
    get_or-set_other bounds i k b 0 apart ∙ before k (omega arith)

-- ---- the least of bounds

pub least_none : (most : ℕ) → IsLeastOf [] most most
least_none most = record {
  lower = λ i h. absurd (omega (arith, h));
  within = omega arith;
  there = λ h. absurd (omega (arith, h));
}

-- one bound more is taken into the least one
pub least_more : (bounds : List ℕ) (most k old new : ℕ) → k < length bounds → IsLeastOf (take k bounds) most old → new ≡ min old (get_or bounds k 0)
    → IsLeastOf (take (k + 1) bounds) most new
least_more bounds most k old new h is e =
    subst (λ (l : List ℕ). IsLeastOf l most new) (sym (take_more bounds k 0 h)) (pushed (take k bounds) (get_or bounds k 0) is e)
  where
    pushed : (front : List ℕ) (last : ℕ) → IsLeastOf front most old → new ≡ min old last → IsLeastOf (front ++ last ∷ []) most new
    pushed front last is e =
        let at_last : get_or (front ++ last ∷ []) (length front) 0 ≡ last = get_or_push front last 0 (length front) refl in
        let count : length (front ++ last ∷ []) ≡ length front + 1 = length_push front last in
        record {
          lower = λ i h. elim (cases_lt i (length front)) [
            | inl inside ↦ omega (arith, e, is.lower i inside, get_or_append_left front (last ∷ []) 0 i inside)
            | inr past ↦
                let here : length front ≡ i = omega (arith, h, past, count) in
                subst (λ (n : ℕ). new ≤ get_or (front ++ last ∷ []) n 0) here (omega (arith, e, at_last))
          ];
          within = omega (arith, e, is.within);
          there = λ h. elim (cases_lt last old) [
            | inl less ↦ (length front, omega (arith, count), omega (arith, e, at_last, less))
            | inr other ↦
                let at = is.there (omega (arith, e, h, other)) in
                (at.0, omega (arith, at.1, count), omega (arith, e, other, at.2, get_or_append_left front (last ∷ []) 0 at.0 at.1))
          ];
        }

pub least_same : (numbers others : List ℕ) (most limit least : ℕ) → numbers ≡ others → most ≡ limit → IsLeastOf numbers most least
    → IsLeastOf others limit least
least_same numbers others most limit least e f is =
    subst (λ (n : ℕ). IsLeastOf others n least) f (subst (λ (l : List ℕ). IsLeastOf l most least) e is)
