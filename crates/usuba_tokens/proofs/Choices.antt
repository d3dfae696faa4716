-- Facts about a choice by a test.
use Rattle.std.proofs.Common.{◌≡◌, Bool, true, false, ◌&&◌, cond, refl}

-- what holds of either side holds of the choice
pub when : {X : Type 0} (P : X → Type 0) (test : Bool) (x y : X) → (test ≡ true → P x) → (test ≡ false → P y) → P (cond test x y)
when P test x y = elim test as (λ t. (t ≡ true → P x) → (t ≡ false → P y) → P (cond t x y)) [ true ↦ λ yes no. yes refl | false ↦ λ yes no. no refl ]

pub either : {X : Type 0} (P : X → Type 0) (test : Bool) (x y : X) → P x → P y → P (cond test x y)
either P test x y first second = when P test x y (λ _. first) (λ _. second)

pub both : (a b : Bool) → (a && b) ≡ true → (a ≡ true) × (b ≡ true)
both true b h = (refl, h)
both false b h = (h, absurd (cc))

pub not_both : (a b : Bool) → (a ≡ true → b ≡ true → ⊥) → (a && b) ≡ false
not_both true true apart = absurd (apart refl refl)
not_both true false apart = refl
not_both false b apart = refl
