-- Marked places.
use Rattle.std.proofs.Common.{◌≡◌, ◌<◌, ◌≤◌, ◌+◌, ◌⊎◌, inl, inr, ℕ, true, false, Bool, List, length, get_or, set, sym, ◌∙◌, subst, arith, All, true≢false}
use Rattle.std.specs.List.{Contains}
use Rattle.std.proofs.lemmas.Bool.{cases_lt}
use Rattle.std.proofs.lemmas.List.{get_or-set_same, get_or-set_other, get_or_past, get_or_default}
use Rattle.attack_cert.proofs.Picks.{same_or_not}

abbrev pub IsMarked : List Bool → ℕ → Type 0
IsMarked needed place = get_or needed place false ≡ true

pub marked_within : (needed : List Bool) (place : ℕ) → IsMarked needed place → place < length needed
marked_within needed place h = elim (cases_lt place (length needed)) [
  | inl lt ↦ lt
  | inr ge ↦ absurd (true≢false (sym h ∙ get_or_past needed place false ge))
]

pub mark_still : (needed : List Bool) (at place : ℕ) → IsMarked needed place → IsMarked (set needed at true) place
mark_still needed at place h = elim (same_or_not place at) [
  | inl e ↦ subst (λ (p : ℕ). IsMarked (set needed p true) place) e (get_or-set_same needed place true false (marked_within needed place h))
  | inr ne ↦ get_or-set_other needed at place true false ne ∙ h
]

pub mark_here : (needed : List Bool) (at : ℕ) → at < length needed → IsMarked (set needed at true) at
mark_here needed at h = get_or-set_same needed at true false h

pub mark_was : (needed : List Bool) (at place : ℕ) → IsMarked (set needed at true) place → IsMarked needed place ⊎ (at ≡ place)
mark_was needed at place h = elim (same_or_not place at) [
  | inl e ↦ inr (sym e)
  | inr ne ↦ inl (sym (get_or-set_other needed at place true false ne) ∙ h)
]

-- one more place is marked
pub marked_more : (needed : List Bool) (places : List ℕ) (i : ℕ) → get_or places i 0 < length needed
    → ((k : ℕ) → k < i → IsMarked needed (get_or places k 0)) → (k : ℕ) → k < i + 1 → IsMarked (set needed (get_or places i 0) true) (get_or places k 0)
marked_more needed places i h before k lt = elim (cases_lt k i) [
  | inl less ↦ mark_still needed (get_or places i 0) (get_or places k 0) (before k less)
  | inr more ↦ (
      let e : i ≡ k = omega arith in
      subst (λ (n : ℕ). IsMarked (set needed (get_or places i 0) true) (get_or places n 0)) e (mark_here needed (get_or places i 0) h)
      )
]

pub others_more : (old needed : List Bool) (places : List ℕ) (i : ℕ)
    → ((place : ℕ) → IsMarked needed place → IsMarked old place ⊎ ((k : ℕ) × (k < i) × (get_or places k 0 ≡ place)))
    → (place : ℕ) → IsMarked (set needed (get_or places i 0) true) place → IsMarked old place ⊎ ((k : ℕ) × (k < i + 1) × (get_or places k 0 ≡ place))
others_more old needed places i before place h = elim (mark_was needed (get_or places i 0) place h) [
  | inl was ↦ elim (before place was) [ inl o ↦ inl o | inr x ↦ inr (x.0, omega (arith, x.1), x.2) ]
  | inr here ↦ inr (i, omega arith, here)
]

-- in the form of the contract
pub all_marked : (needed : List Bool) (places : List ℕ) (i : ℕ) → length places ≤ i
    → ((k : ℕ) → k < i → IsMarked needed (get_or places k 0)) → All (IsMarked needed) places
all_marked needed places i past marked k d h =
    subst (λ (p : ℕ). IsMarked needed p) (get_or_default places k 0 d h) (marked k (omega arith))

pub from_places : (old needed : List Bool) (places : List ℕ) (i : ℕ) → i ≤ length places
    → ((place : ℕ) → IsMarked needed place → IsMarked old place ⊎ ((k : ℕ) × (k < i) × (get_or places k 0 ≡ place)))
    → (place : ℕ) → IsMarked needed place → IsMarked old place ⊎ Contains places place
from_places old needed places i within others place h = elim (others place h) [
  | inl o ↦ inl o
  | inr x ↦ (
      let lt : x.0 < length places = let l = x.1 in omega arith in
      inr (x.0, lt, get_or_default places x.0 place 0 lt ∙ x.2)
      )
]
