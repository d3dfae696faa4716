-- The exclusive-or over all contained indexes, taken twice, is what was given.
use Rattle.std.proofs.Common.{◌≡◌, ℕ, ◌+◌, ◌-◌, ◌^◌, ◌<◌, zero, suc, bit_xor, ap₂, ◌∙◌, subst, inl, inr, pow-suc, arith}
use lib.Bits.{xor_zero_l}
use Rattle.std.proofs.lemmas.Bool.{cases_lt}
use Rattle.table_anf.specs.Coefficients.{xor_contained}
use Rattle.table_anf.proofs.Xors.{xor_twice}
use Rattle.table_anf.proofs.Containment.{xor_contained-same, xor_contained-xor, xor_contained-low, xor_contained-high}

-- over no bits there is one index
pub xor_contained-none : (f : ℕ → ℕ) → xor_contained 0 f 0 ≡ f 0
xor_contained-none f = xor_zero_l (f 0)

pub xor_contained-twice : (n : ℕ) (f : ℕ → ℕ) (u : ℕ) → u < 2 ^ n → xor_contained n (xor_contained n f) u ≡ f u
xor_contained-twice zero f u h =
    let e : 0 ≡ u = omega arith in
    let P : ℕ → Type 0 = λ x. xor_contained 0 (xor_contained 0 f) x ≡ f x in
    subst P e (xor_contained-none (xor_contained 0 f) ∙ xor_contained-none f)
xor_contained-twice (suc n) f u h = elim (cases_lt u (2 ^ n)) [
  | inl lt ↦
      xor_contained-low n (xor_contained (suc n) f) u lt
      ∙ xor_contained-same n (xor_contained (suc n) f) (xor_contained n f) u (λ x hx. xor_contained-low n f x hx)
      ∙ xor_contained-twice n f u lt
  | inr ge ↦
      let v = u - 2 ^ n in
      let p = pow-suc 2 n in
      let hv : v < 2 ^ n = omega arith in
      let e : 2 ^ n + v ≡ u = omega arith in
      let high : ℕ → ℕ = λ x. f (2 ^ n + x) in
      let g : ℕ → ℕ = xor_contained (suc n) f in
      let P : ℕ → Type 0 = λ x. xor_contained (suc n) g x ≡ f x in
      let low_half : xor_contained n g v ≡ f v =
      xor_contained-same n g (xor_contained n f) v (λ x hx. xor_contained-low n f x hx) ∙ xor_contained-twice n f v hv in
      let high_half : xor_contained n (λ x. g (2 ^ n + x)) v ≡ bit_xor (f v) (high v) =
      xor_contained-same n (λ x. g (2 ^ n + x)) (λ x. bit_xor (xor_contained n f x) (xor_contained n high x)) v
      (λ x hx. xor_contained-high n f x hx)
      ∙ xor_contained-xor n (xor_contained n f) (xor_contained n high) v
      ∙ ap₂ bit_xor (xor_contained-twice n f v hv) (xor_contained-twice n high v hv) in
      subst P e (xor_contained-high n g v hv ∙ ap₂ bit_xor low_half high_half ∙ xor_twice (f v) (high v))
]
