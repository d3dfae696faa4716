-- Which indexes a monomial contains, by the most significant bit of both.
use Rattle.std.proofs.Common.{◌≡◌, ℕ, ◌+◌, ◌*◌, ◌^◌, ◌<◌, suc, Bool, true, false, eqb, bit_and, bit_xor, refl, sym, ap, ap₂, ◌∙◌, inl, inr, pow-suc, arith, eq-eqb, ne_eqb}
use Rattle.std.specs.Prelude.{if◌then◌else◌}
use lib.Bits.{xor_zero_r}
use Rattle.std.proofs.lemmas.Bool.{cases_eq}
use Rattle.std.proofs.lemmas.Nat.{and_block, and_le_r}
use Rattle.table_anf.specs.Coefficients.{contains, contained, xor_below, xor_contained}
use Rattle.table_anf.proofs.Xors.{xor_below-same, xor_below-none, xor_below-xor, xor_below-add}

eqb_add : (p a b : ℕ) → eqb (p + a) (p + b) ≡ eqb a b
eqb_add p a b = elim (cases_eq a b) [
  | inl e ↦ eq-eqb (p + a) (p + b) (ap (λ x. p + x) e) ∙ sym (eq-eqb a b e)
  | inr ne ↦ ne_eqb (p + a) (p + b) (λ e. ne (omega arith)) ∙ sym (ne_eqb a b ne)
]

-- an index below 2^k is contained in 2^k + v where it is in v
pub contains-low : (k v x : ℕ) → v < 2 ^ k → x < 2 ^ k → contains (2 ^ k + v) x ≡ contains v x
contains-low k v x hv hx =
    let ex : 0 * 2 ^ k + x ≡ x = omega arith in
    let ev : 1 * 2 ^ k + v ≡ 2 ^ k + v = omega arith in
    let block : bit_and (0 * 2 ^ k + x) (1 * 2 ^ k + v) ≡ bit_and 0 1 * 2 ^ k + bit_and x v = and_block k 0 1 x v hx hv in
    let first : bit_and 0 1 * 2 ^ k + bit_and x v ≡ bit_and x v = omega arith in
    ap (λ y. eqb y x) (sym (ap₂ bit_and ex ev) ∙ block ∙ first)

-- 2^k + x is contained in 2^k + v where x is in v
pub contains-both : (k v x : ℕ) → v < 2 ^ k → x < 2 ^ k → contains (2 ^ k + v) (2 ^ k + x) ≡ contains v x
contains-both k v x hv hx =
    let ex : 1 * 2 ^ k + x ≡ 2 ^ k + x = omega arith in
    let ev : 1 * 2 ^ k + v ≡ 2 ^ k + v = omega arith in
    let block : bit_and (1 * 2 ^ k + x) (1 * 2 ^ k + v) ≡ bit_and 1 1 * 2 ^ k + bit_and x v = and_block k 1 1 x v hx hv in
    let first : bit_and 1 1 * 2 ^ k + bit_and x v ≡ 2 ^ k + bit_and x v = omega arith in
    ap (λ y. eqb y (2 ^ k + x)) (sym (ap₂ bit_and ex ev) ∙ block ∙ first) ∙ eqb_add (2 ^ k) (bit_and x v) x

-- 2^k + x is not contained in a number below 2^k
pub contains-high : (k v x : ℕ) → v < 2 ^ k → contains v (2 ^ k + x) ≡ false
contains-high k v x hv = let le = and_le_r (2 ^ k + x) v in ne_eqb (bit_and (2 ^ k + x) v) (2 ^ k + x) (λ e. omega arith)

-- ---- over all indexes of n bits

contained_by : (f : ℕ → ℕ) (x : ℕ) (a b : Bool) → a ≡ b → (if a then f x else 0) ≡ (if b then f x else 0)
contained_by f x a b e = ap (λ c. if c then f x else 0) e

halves : (n : ℕ) → 2 ^ suc n ≡ 2 ^ n + 2 ^ n
halves n = let p = pow-suc 2 n in omega arith

-- the same is given for all indexes of n bits
pub xor_contained-same : (n : ℕ) (f g : ℕ → ℕ) (u : ℕ) → ((x : ℕ) → x < 2 ^ n → f x ≡ g x) → xor_contained n f u ≡ xor_contained n g u
xor_contained-same n f g u same =
    xor_below-same (contained f u) (contained g u) (2 ^ n) (λ x h. ap (λ y. if contains u x then y else 0) (same x h))

xor_where : (b : Bool) (x y : ℕ) → (if b then bit_xor x y else 0) ≡ bit_xor (if b then x else 0) (if b then y else 0)
xor_where true x y = refl
xor_where false x y = refl

-- the exclusive-or of what two give
pub xor_contained-xor : (n : ℕ) (f g : ℕ → ℕ) (u : ℕ)
    → xor_contained n (λ x. bit_xor (f x) (g x)) u ≡ bit_xor (xor_contained n f u) (xor_contained n g u)
xor_contained-xor n f g u =
    xor_below-same (contained (λ x. bit_xor (f x) (g x)) u) (λ x. bit_xor (contained f u x) (contained g u x)) (2 ^ n)
    (λ x h. xor_where (contains u x) (f x) (g x))
    ∙ xor_below-xor (contained f u) (contained g u) (2 ^ n)

-- a monomial without the most significant bit: the indexes without it
pub xor_contained-low : (n : ℕ) (f : ℕ → ℕ) (u : ℕ) → u < 2 ^ n → xor_contained (suc n) f u ≡ xor_contained n f u
xor_contained-low n f u h =
    ap (xor_below (contained f u)) (halves n)
    ∙ xor_below-add (contained f u) (2 ^ n) (2 ^ n)
    ∙ ap (bit_xor (xor_contained n f u))
    (xor_below-none (λ x. contained f u (2 ^ n + x)) (2 ^ n)
    (λ x hx. contained_by f (2 ^ n + x) (contains u (2 ^ n + x)) false (contains-high n u x h)))
    ∙ xor_zero_r (xor_contained n f u)

-- a monomial with the most significant bit: the indexes without it, and those with it
pub xor_contained-high : (n : ℕ) (f : ℕ → ℕ) (v : ℕ) → v < 2 ^ n
    → xor_contained (suc n) f (2 ^ n + v) ≡ bit_xor (xor_contained n f v) (xor_contained n (λ x. f (2 ^ n + x)) v)
xor_contained-high n f v h =
    ap (xor_below (contained f (2 ^ n + v))) (halves n)
    ∙ xor_below-add (contained f (2 ^ n + v)) (2 ^ n) (2 ^ n)
    ∙ ap₂ bit_xor
    (xor_below-same (contained f (2 ^ n + v)) (contained f v) (2 ^ n)
    (λ x hx. contained_by f x (contains (2 ^ n + v) x) (contains v x) (contains-low n v x h hx)))
    (xor_below-same (λ x. contained f (2 ^ n + v) (2 ^ n + x)) (contained (λ x. f (2 ^ n + x)) v) (2 ^ n)
    (λ x hx. contained_by f (2 ^ n + x) (contains (2 ^ n + v) (2 ^ n + x)) (contains v x) (contains-both n v x h hx)))
