-- How bytes are cut at the first that equals a given one.
use Rattle.std.proofs.Common.{◌≡◌, ℕ, ◌+◌, ◌-◌, ◌<◌, ◌≤◌, Bool, eqb, ltb, List, [], ◌∷◌, length, take, drop, None, Some, refl, ap, sym, ◌∙◌, inl, inr, arith}
use Rattle.std.specs.List.{slice_split, onto_first, position, position_or_len}
use Rattle.std.proofs.lemmas.Bool.{cases_Bool, ltb-true, ltb-false}
use Rattle.std.proofs.lemmas.List.{take_all, length-drop}
use Rattle.std.proofs.lemmas.List.Splits.{slice_split-cons_no, slice_split_first}

-- where no element passes the list is one part
none_passes : (p : ℕ → Bool) (xs : List ℕ) → length xs ≤ position_or_len p xs → slice_split p xs ≡ xs ∷ []
none_passes p [] h = refl
none_passes p (x ∷ xs) h =
    elim (cases_Bool (p x)) [
      | inl passes ↦ (let e : position_or_len p (x ∷ xs) ≡ 0 = rw passes refl in absurd (omega arith))
      | inr fails ↦
          (let e : position_or_len p (x ∷ xs) ≡ 1 + position_or_len p xs = rw fails refl in
          slice_split-cons_no p x xs fails ∙ ap (onto_first x) (none_passes p xs (omega arith)))
    ]

-- the place of the first element that passes
place_at : (p : ℕ → Bool) (xs : List ℕ) (i : ℕ) → position p xs ≡ Some i → (i < length xs) × (position_or_len p xs ≡ i)
place_at p xs i h =
    elim (cases_Bool (ltb (position_or_len p xs) (length xs))) [
      | inl within ↦
          (let e : Some (position_or_len p xs) ≡ Some i = sym (rw within refl) ∙ h in
          let same : position_or_len p xs ≡ i = cc in
          let lt : position_or_len p xs < length xs = ltb-true _ _ within in
          (omega arith, same))
      | inr past ↦ (let e : None ≡ Some i = sym (rw past refl) ∙ h in cc)
    ]

none_split : (p : ℕ → Bool) (xs : List ℕ) → position p xs ≡ None → slice_split p xs ≡ xs ∷ []
none_split p xs h =
    elim (cases_Bool (ltb (position_or_len p xs) (length xs))) [
      | inl within ↦ (let e : Some (position_or_len p xs) ≡ None = sym (rw within refl) ∙ h in cc)
      | inr past ↦ none_passes p xs (ltb-false _ _ past)
    ]

-- no byte equals `at`
pub split_at_none : (at : ℕ) (xs : List ℕ) → position (λ byte. eqb byte at) xs ≡ None → slice_split (λ byte. eqb byte at) xs ≡ xs ∷ []
split_at_none at xs h = none_split (λ byte. eqb byte at) xs h

-- the first byte that equals `at` stands at place i
pub split_at_some : (at : ℕ) (xs : List ℕ) (i : ℕ) → position (λ byte. eqb byte at) xs ≡ Some i
    → slice_split (λ byte. eqb byte at) xs ≡ take i xs ∷ slice_split (λ byte. eqb byte at) (take (length xs - (i + 1)) (drop (i + 1) xs))
split_at_some at xs i h =
    let p : ℕ → Bool = λ byte. eqb byte at in
    let w : (i < length xs) × (position_or_len p xs ≡ i) = place_at p xs i h in
    let lt : position_or_len p xs < length xs = omega arith in
    let all : take (length xs - (i + 1)) (drop (i + 1) xs) ≡ drop (i + 1) xs = take_all _ _ (simp length-drop (omega arith)) in
    slice_split_first p xs 0 lt
    ∙ ap (λ (n : ℕ). take n xs ∷ slice_split p (drop (n + 1) xs)) w.1
    ∙ ap (λ (rest : List ℕ). take i xs ∷ slice_split p rest) (sym all)

pub place_within : (at : ℕ) (xs : List ℕ) (i : ℕ) → position (λ byte. eqb byte at) xs ≡ Some i → i < length xs
place_within at xs i h = (place_at (λ byte. eqb byte at) xs i h).0
