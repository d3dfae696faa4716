-- Those of some steps of which a fact holds.
use Rattle.std.proofs.Common.{◌≡◌, ◌<◌, ◌+◌, ◌*◌, ◌⊎◌, inl, inr, ℕ, zero, suc, List, [], ◌∷◌, ◌++◌, length, refl, sym, ap, subst, arith, suc-le-suc}
use native.Mathlib.Nat.{le_of_suc-le-suc}
use Rattle.std.specs.List.{Contains}
use Rattle.std.proofs.lemmas.List.{length-append}
use Rattle.std.proofs.lemmas.List.Elements.{Contains-append_left, Contains-append_right, Contains-append_cases}
use Rattle.span_model.specs.Closure.{Step, Side, on_left, on_right}
use Rattle.attack_cert.specs.Levels.{steps_of, AreThose, none, taken, left_out}

pub head_in : {X : Type 0} (x : X) (xs : List X) → Contains (x ∷ xs) x
head_in x xs = (0, omega arith, refl)

pub in_tail : {X : Type 0} (x y : X) (xs : List X) → Contains xs x → Contains (y ∷ xs) x
in_tail x y xs (k, lt, e) = (suc k, suc-le-suc lt, e)

pub in_cases : {X : Type 0} (x y : X) (xs : List X) → Contains (y ∷ xs) x → (y ≡ x) ⊎ Contains xs x
in_cases x y xs (zero, lt, e) = inl e
in_cases x y xs (suc k, lt, e) = inr (k, le_of_suc-le-suc lt, e)

pub not_in_none : {X : Type 0} (x : X) → ¬ Contains [] x
not_in_none x (k, lt, e) = absurd (omega arith)

module _ (P : Step → Type 0) where
  -- there is one such list
  pub those_unique : {all a b : List Step} → AreThose P all a → AreThose P all b → a ≡ b
  those_unique none none = refl
  those_unique (taken {step = x} p d) (taken q e) = ap (λ (xs : List Step). x ∷ xs) (those_unique d e)
  those_unique (taken p d) (left_out q e) = absurd (q p)
  those_unique (left_out p d) (taken q e) = absurd (p q)
  those_unique (left_out p d) (left_out q e) = those_unique d e

  pub those_hold : {all those : List Step} → AreThose P all those → (step : Step) → Contains those step → P step
  those_hold none step h = absurd (not_in_none step h)
  those_hold (taken {step = x} {those = xs} p d) step h = elim (in_cases step x xs h) [ inl e ↦ subst P e p | inr m ↦ those_hold d step m ]
  those_hold (left_out p d) step h = those_hold d step h

  pub those_within : {all those : List Step} → AreThose P all those → (step : Step) → Contains those step → Contains all step
  those_within none step h = h
  those_within (taken {step = x} {steps = all} {those = xs} p d) step h =
      elim (in_cases step x xs h) [ inl e ↦ (0, omega arith, e) | inr m ↦ in_tail step x all (those_within d step m) ]
  those_within (left_out {step = x} {steps = all} p d) step h = in_tail step x all (those_within d step h)

  pub in_those : {all those : List Step} → AreThose P all those → (step : Step) → Contains all step → P step → Contains those step
  in_those none step h p = absurd (not_in_none step h)
  in_those (taken {step = x} {steps = all} {those = xs} q d) step h p =
      elim (in_cases step x all h) [ inl e ↦ (0, omega arith, e) | inr m ↦ in_tail step x xs (in_those d step m p) ]
  in_those (left_out {step = x} {steps = all} q d) step h p =
      elim (in_cases step x all h) [ inl e ↦ absurd (q (subst P (sym e) p)) | inr m ↦ in_those d step m p ]

  -- one step more
  pub taken_last : {all those : List Step} (step : Step) → P step → AreThose P all those → AreThose P (all ++ step ∷ []) (those ++ step ∷ [])
  taken_last step p none = taken p none
  taken_last step p (taken q d) = taken q (taken_last step p d)
  taken_last step p (left_out q d) = left_out q (taken_last step p d)

  pub left_out_last : {all those : List Step} (step : Step) → ¬ P step → AreThose P all those → AreThose P (all ++ step ∷ []) those
  left_out_last step p none = left_out p none
  left_out_last step p (taken q d) = taken q (left_out_last step p d)
  left_out_last step p (left_out q d) = left_out q (left_out_last step p d)

-- a fact in place of another that holds of the same steps
pub those_same : (P Q : Step → Type 0) → ((step : Step) → P step → Q step) → ((step : Step) → Q step → P step)
    → {all those : List Step} → AreThose P all those → AreThose Q all those
those_same P Q f g none = none
those_same P Q f g (taken p d) = taken (f _ p) (those_same P Q f g d)
those_same P Q f g (left_out p d) = left_out (λ q. p (g _ q)) (those_same P Q f g d)

-- all of them
pub all_those : (P : Step → Type 0) → ((step : Step) → P step) → (all : List Step) → AreThose P all all
all_those P f [] = none
all_those P f (step ∷ all) = taken (f step) (all_those P f all)

-- those of those
pub those_of_those : (P Q R : Step → Type 0) → ((step : Step) → P step → Q step → R step) → ((step : Step) → R step → P step) → ((step : Step) → R step → Q step)
    → {all some few : List Step} → AreThose P all some → AreThose Q some few → AreThose R all few
those_of_those P Q R both first second none none = none
those_of_those P Q R both first second (taken p d) (taken q e) = taken (both _ p q) (those_of_those P Q R both first second d e)
those_of_those P Q R both first second (taken p d) (left_out q e) = left_out (λ r. q (second _ r)) (those_of_those P Q R both first second d e)
those_of_those P Q R both first second (left_out p d) e = left_out (λ r. p (first _ r)) (those_of_those P Q R both first second d e)

-- the steps that are not in a list, and of these those that are and those that are not in the next level
pub rest_of_those : (Q : Step → Type 0) (before level : List Step) → ((step : Step) → Contains level step → Q step)
    → {all pending part rest : List Step} → AreThose (λ step. ¬ Contains before step) all pending → AreThose Q pending part
    → ((step : Step) → Contains part step → Contains level step) → AreThose (λ step. ¬ Q step) pending rest
    → AreThose (λ step. ¬ Contains (before ++ level) step) all rest
rest_of_those Q before level holds none none within none = none
rest_of_those Q before level holds (taken {step = x} p d) (taken {those = part} q e) within (taken r f) = absurd (r q)
rest_of_those Q before level holds (taken {step = x} p d) (taken {those = part} q e) within (left_out r f) =
    left_out (λ out. out (Contains-append_right before level x (within x (head_in x part))))
    (rest_of_those Q before level holds d e (λ step m. within step (in_tail step x part m)) f)
rest_of_those Q before level holds (taken {step = x} p d) (left_out q e) within (taken r f) =
    taken (λ m. elim (Contains-append_cases before level x m) [ inl a ↦ p a | inr b ↦ q (holds x b) ])
    (rest_of_those Q before level holds d e within f)
rest_of_those Q before level holds (taken {step = x} p d) (left_out q e) within (left_out r f) = absurd (r q)
rest_of_those Q before level holds (left_out {step = x} p d) e within f =
    left_out (λ out. p (λ m. out (Contains-append_left before level x m)))
    (rest_of_those Q before level holds d e within f)

-- those of which a fact holds and those of which it does not are all
pub split_length : (Q : Step → Type 0) {all part rest : List Step} → AreThose Q all part → AreThose (λ step. ¬ Q step) all rest
    → length part + length rest ≡ length all
split_length Q none none = refl
split_length Q (taken q d) (taken r e) = absurd (r q)
split_length Q (taken q d) (left_out r e) = let h = split_length Q d e in omega (arith, h)
split_length Q (left_out q d) (taken r e) = let h = split_length Q d e in omega (arith, h)
split_length Q (left_out q d) (left_out r e) = absurd (r q)

-- the steps of products are of these products
pub steps_below : (n : ℕ) (step : Step) → Contains (steps_of n) step → step.product < n
steps_below zero step h = absurd (not_in_none step h)
steps_below (suc k) step h =
    let l : Step = record { product = k; side = on_left } in
    let r : Step = record { product = k; side = on_right } in
    elim (Contains-append_cases (steps_of k) (l ∷ r ∷ []) step h) [
      | inl m ↦ (let lt = steps_below k step m in omega (arith, lt))
      | inr m ↦ elim (in_cases step l (r ∷ []) m) [
        | inl e ↦ (let same : k ≡ step.product = ap (λ (s : Step). s.product) e in omega (arith, same))
        | inr q ↦ elim (in_cases step r [] q) [
          | inl e ↦ (let same : k ≡ step.product = ap (λ (s : Step). s.product) e in omega (arith, same))
          | inr z ↦ absurd (not_in_none step z)
        ]
      ]
    ]

-- and each step of one of them is there
pub in_steps : (n k : ℕ) (side : Side) → k < n → Contains (steps_of n) (record { product = k; side = side })
in_steps zero k side lt = absurd (omega arith)
in_steps (suc n) k side lt = elim (last_or_less k n lt) [
  | inl e ↦ Contains-append_right (steps_of n) (record { product = n; side = on_left } ∷ record { product = n; side = on_right } ∷ []) (record { product = k; side = side }) (this k n e side)
  | inr less ↦ Contains-append_left (steps_of n) (record { product = n; side = on_left } ∷ record { product = n; side = on_right } ∷ []) (record { product = k; side = side }) (in_steps n k side less)
] where
  last_or_less : (k n : ℕ) → k < suc n → (k ≡ n) ⊎ (k < n)
  last_or_less k n lt = grind arith

  this : (k n : ℕ) → k ≡ n → (side : Side) → Contains {X = Step} (record { product = n; side = on_left } ∷ record { product = n; side = on_right } ∷ []) (record { product = k; side = side })
  this k n e on_left = (0, omega arith, ap (λ (p : ℕ). let s : Step = record { product = p; side = on_left } in s) (sym e))
  this k n e on_right = (1, omega arith, ap (λ (p : ℕ). let s : Step = record { product = p; side = on_right } in s) (sym e))

pub length-steps_of : (n : ℕ) → length (steps_of n) ≡ 2 * n
length-steps_of zero = refl
length-steps_of (suc k) = let h = length-steps_of k in omega (arith, length-append (steps_of k) (record { product = k; side = on_left } ∷ record { product = k; side = on_right } ∷ []))
