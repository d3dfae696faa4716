-- Each core has least slots, and so a masked form.
use Rattle.std.proofs.Common.{◌≡◌, ◌≢◌, ℕ, zero, suc, ◌+◌, ◌<◌, ◌≤◌, true, List, [], ◌∷◌, ◌++◌, ◌⊎◌}
use Rattle.std.proofs.Common.{length, get_or, refl, sym, ◌∙◌, subst, inl, inr, arith}
use Rattle.std.specs.Prelude.{nat_eq, ◌&&◌, IsTrue}
use Rattle.std.proofs.lemmas.Bool.{and_parts, and_from, eqb-true, eq-eqb, cases_lt, cases_Bool, both_ways}
use Rattle.std.proofs.lemmas.List.{get_or_at, length-append}
use Rattle.usuba0.specs.Circuit.{Circuit}
use Rattle.c_form.specs.Slots.{is_live, IsHeld, IsLeastFree, live_count, SlotsExist}
use Rattle.c_form.specs.MaskedForm.{MaskedFormsExist}
use Rattle.c_form.proofs.Reading.{is_live-parts}
use Rattle.c_form.proofs.Counting.{held-le-live_count}
use Rattle.c_form.proofs.Forms.{file_of, IsMaskedForm-from}

-- an element before the end of a list is there in a longer one
pub get_or-front : (xs ys : List ℕ) (i : ℕ) → i < length xs → get_or (xs ++ ys) i 0 ≡ get_or xs i 0
get_or-front [] ys i within = absurd (omega arith)
get_or-front (x ∷ xs) ys zero within = refl
get_or-front (x ∷ xs) ys (suc i) within = get_or-front xs ys i (omega arith)

-- the least free slot of an equation stays so when later equations get theirs
pub IsLeastFree-longer : (core : Circuit) (slots more : List ℕ) (k slot : ℕ) → k ≤ length slots
    → IsLeastFree core slots k slot → IsLeastFree core (slots ++ more) k slot
IsLeastFree-longer core slots more k slot within is = record {
  free = λ j live same.
      let made = (is_live-parts core k j live).0 in
      is.free j live (sym (get_or-front slots more j (omega arith)) ∙ same);
  least = λ less below.
      let held = is.least less below in
      let made = (is_live-parts core k held.0 held.1.0).0 in
      (held.0, (held.1.0, get_or-front slots more held.0 (omega arith) ∙ held.1.1));
}

-- one of the first n equations is live at an equation and has a slot, or none
holder : (core : Circuit) (slots : List ℕ) (k slot n : ℕ)
    → IsHeld core slots k slot ⊎ ((j : ℕ) → j < n → IsTrue (is_live core k j) → get_or slots j 0 ≢ slot)
holder core slots k slot zero = inr (λ j below live same. absurd (omega arith))
holder core slots k slot (suc n) =
    elim (holder core slots k slot n) as (λ v. IsHeld core slots k slot
    ⊎ ((j : ℕ) → j < suc n → IsTrue (is_live core k j) → get_or slots j 0 ≢ slot)) [
      | inl held ↦ inl held
      | inr none ↦
          elim (cases_Bool (is_live core k n && nat_eq (get_or slots n 0) slot)) as (λ v. IsHeld core slots k slot
          ⊎ ((j : ℕ) → j < suc n → IsTrue (is_live core k j) → get_or slots j 0 ≢ slot)) [
            | inl holds ↦
                (let parts = and_parts (is_live core k n) (nat_eq (get_or slots n 0) slot) holds in
                inl (n, (parts.0, eqb-true (get_or slots n 0) slot parts.1)))
            | inr fails ↦ inr (λ j below live same.
                elim (cases_lt j n) as (λ v. ⊥) [
                  | inl before ↦ none j before live same
                  | inr at ↦
                      (let last : j ≡ n = omega arith in
                      let live_last : is_live core k n ≡ true = subst (λ (i : ℕ). is_live core k i ≡ true) last live in
                      let same_last : get_or slots n 0 ≡ slot = subst (λ (i : ℕ). get_or slots i 0 ≡ slot) last same in
                      both_ways (is_live core k n && nat_eq (get_or slots n 0) slot) fails
                      (and_from (is_live core k n) (nat_eq (get_or slots n 0) slot) live_last (eq-eqb
                      (get_or slots n 0) slot same_last)))
                ])
          ]
    ]

-- a slot is held at an equation, or free
held_or_free : (core : Circuit) (slots : List ℕ) (k slot : ℕ)
    → IsHeld core slots k slot ⊎ ((j : ℕ) → IsTrue (is_live core k j) → get_or slots j 0 ≢ slot)
held_or_free core slots k slot =
    elim (holder core slots k slot k) as (λ v. IsHeld core slots k slot
    ⊎ ((j : ℕ) → IsTrue (is_live core k j) → get_or slots j 0 ≢ slot)) [
      | inl held ↦ inl held
      | inr none ↦ inr (λ j live. none j (is_live-parts core k j live).0 live)
    ]

-- one of the slots from a number on, below which all are held, is the least free one, or all these are held too
first_free : (core : Circuit) (slots : List ℕ) (k n : ℕ)
    → ((slot : ℕ) × IsLeastFree core slots k slot) ⊎ ((less : ℕ) → less < n → IsHeld core slots k less)
first_free core slots k zero = inr (λ less below. absurd (omega arith))
first_free core slots k (suc n) =
    elim (first_free core slots k n) as (λ v. ((slot : ℕ) × IsLeastFree core slots k slot)
    ⊎ ((less : ℕ) → less < suc n → IsHeld core slots k less)) [
      | inl found ↦ inl found
      | inr all ↦
          elim (held_or_free core slots k n) as (λ v. ((slot : ℕ) × IsLeastFree core slots k slot)
          ⊎ ((less : ℕ) → less < suc n → IsHeld core slots k less)) [
            | inl held ↦ inr (λ less below.
                elim (cases_lt less n) as (λ v. IsHeld core slots k less) [
                  | inl before ↦ all less before
                  | inr at ↦ (let same : n ≡ less = omega arith in subst (λ (s : ℕ). IsHeld core slots k s) same held)
                ])
            | inr free ↦ inl (n, record { free = free; least = all })
          ]
    ]

-- there is a least free slot at each equation
pub least_free : (core : Circuit) (slots : List ℕ) (k : ℕ) → (slot : ℕ) × IsLeastFree core slots k slot
least_free core slots k =
    let n = live_count core k + 1 in
    elim (first_free core slots k n) as (λ v. (slot : ℕ) × IsLeastFree core slots k slot) [
      | inl found ↦ found
      | inr all ↦ absurd (too_many all)
    ]
  where
    too_many : ((less : ℕ) → less < live_count core k + 1 → IsHeld core slots k less) → ⊥
    too_many all =
        let bound = held-le-live_count core slots k (live_count core k + 1) all in
        omega arith

-- least slots of the first n equations
first_slots : (core : Circuit) (n : ℕ)
    → (slots : List ℕ) × (length slots ≡ n) × ((k : ℕ) → k < n → IsLeastFree core slots k (get_or slots k 0))
first_slots core zero = ([], refl, λ k below. absurd (omega arith))
first_slots core (suc n) =
    let before = first_slots core n in
    let slots = before.0 in
    let long : length slots ≡ n = before.1 in
    let next = least_free core slots n in
    let at_end : get_or (slots ++ next.0 ∷ []) n 0 ≡ next.0 = get_or_at slots next.0 [] 0 n long in (
      slots ++ next.0 ∷ [],
      (length-append slots (next.0 ∷ []) ∙ (let sum : length slots + 1 ≡ suc n = omega arith in sum)),
      λ k below.
          elim (cases_lt k n) as (λ v. IsLeastFree core (slots ++ next.0 ∷ []) k (get_or (slots ++ next.0 ∷ []) k 0)) [
            | inl earlier ↦
                subst (λ (s : ℕ). IsLeastFree core (slots ++ next.0 ∷ []) k s)
                (sym (get_or-front slots (next.0 ∷ []) k (omega arith)))
                (IsLeastFree-longer core slots (next.0 ∷ []) k (get_or slots k 0) (omega arith) (before.2 k earlier))
            | inr at ↦
                (let same : n ≡ k = omega arith in
                subst (λ (i : ℕ). IsLeastFree core (slots ++ next.0 ∷ []) i (get_or (slots ++ next.0 ∷ []) i 0)) same
                (subst (λ (s : ℕ). IsLeastFree core (slots ++ next.0 ∷ []) n s) (sym at_end)
                (IsLeastFree-longer core slots (next.0 ∷ []) n next.0 (omega arith) next.1)))
          ],
    )

-- each core has least slots
pub slots-exist : SlotsExist
slots-exist core =
    let made = first_slots core (length core.equations) in
    (made.0, record { count = made.1; least = made.2 })

-- and so a masked form
pub masked_forms-exist : MaskedFormsExist
masked_forms-exist core is B =
    let made = slots-exist core in
    (file_of core B made.0, IsMaskedForm-from core B made.0 (file_of core B made.0) is made.1 refl)
