-- The numbers of the pairs i < j among d shares.
use Rattle.std.proofs.Common.{◌≡◌, ℕ, zero, suc, ◌+◌, ◌-◌, ◌*◌, ◌/◌, ◌^◌, ◌<◌, ◌≤◌, lit<, refl, sym, ap, ◌∙◌, arith, suc-mul, zero-mul, mul-le-mul_left, div-le_self}
use Rattle.std.proofs.Math.Nat.{add-mul-div_left}
use Rattle.std.proofs.lemmas.Nat.{mul-le}
use Rattle.share_gadgets.specs.Gadgets.{pairs, pair}
use Rattle.share_gadgets.specs.Private.PairLoop.{row_start}

-- the sum of the numbers up to i, in the words of `pair`
abbrev pub triangle : ℕ → ℕ
triangle i = i * (i + 1) / 2

twice : (i : ℕ) → suc i * (suc i + 1) ≡ i * (i + 1) + 2 * suc i
twice i = omega arith

pub triangle_step : (i : ℕ) → triangle (suc i) ≡ triangle i + suc i
triangle_step i = ap (λ (n : ℕ). n / 2) (twice i) ∙ add-mul-div_left (i * (i + 1)) (suc i) (omega arith)

-- all pairs of one more share
pairs_suc : (n : ℕ) → pairs (suc n) ≡ triangle n
pairs_suc n =
    let e : suc n - 1 ≡ n = omega arith in
    let f : suc n * n ≡ n * (n + 1) = omega arith in
    ap (λ (m : ℕ). suc n * m / 2) e ∙ ap (λ (m : ℕ). m / 2) f

pub pairs_step : (d : ℕ) → pairs (suc d) ≡ pairs d + d
pairs_step zero = refl
pairs_step (suc n) = pairs_suc (suc n) ∙ triangle_step n ∙ ap (λ (m : ℕ). m + suc n) (sym (pairs_suc n))

-- a triangle is within its rows
triangle_le : (d i : ℕ) → i < d → triangle i ≤ i * d
triangle_le d i h =
    let a : triangle i ≤ i * (i + 1) = div-le_self (i * (i + 1)) 2 in
    let b : i * (i + 1) ≤ i * d = mul-le-mul_left i (omega arith) in
    omega arith

next_row : (p t d i : ℕ) → t ≤ p → i < d → p + d - (t + suc i) ≡ (p - t) + (d - suc i)
next_row p t d i h k = omega arith

-- where row i + 1 starts
pub row_step : (d i : ℕ) → i < d → row_start d (suc i) ≡ row_start d i + (d - suc i)
row_step d i h =
    (λ j. suc-mul i d j - triangle_step i j) ∙ next_row (i * d) (triangle i) d i (triangle_le d i h) h

join : (a b c p q n : ℕ) → a ≡ b + c → q ≡ p + c → b + q ≡ n → a + p ≡ n
join a b c p q n h k l = omega arith

-- what is left from row i on are the pairs of the shares from i on
pub row_rest : (d i : ℕ) → i ≤ d → row_start d i + pairs (d - i) ≡ pairs d
row_rest d zero h =
    let e : d - 0 ≡ d = omega arith in
    let f : row_start d 0 ≡ 0 = ap (λ (n : ℕ). n - triangle 0) (zero-mul d) in
    (λ j. f j + pairs (e j)) ∙ omega arith
row_rest d (suc i) h =
    let e : d - i ≡ suc (d - suc i) = omega arith in
    let p : pairs (d - i) ≡ pairs (d - suc i) + (d - suc i) = ap (λ (n : ℕ). pairs n) e ∙ pairs_step (d - suc i) in
    let r = row_rest d i (omega arith) in
    let s = row_step d i (omega arith) in
    join (row_start d (suc i)) (row_start d i) (d - suc i) (pairs (d - suc i)) (pairs (d - i)) (pairs d) s p r

within : (s r p q n : ℕ) → s + p ≡ n → p ≡ q + r → (k : ℕ) → k < r → s + k < n
within s r p q n h e k l = omega arith

-- each pair has a number below their count
pub pair_below : (d i j : ℕ) → i < j → j < d → pair d i j < pairs d
pair_below d i j h k =
    let e : d - i ≡ suc (d - suc i) = omega arith in
    let p : pairs (d - i) ≡ pairs (d - suc i) + (d - suc i) = ap (λ (n : ℕ). pairs n) e ∙ pairs_step (d - suc i) in
    within (row_start d i) (d - suc i) (pairs (d - i)) (pairs (d - suc i)) (pairs d) (row_rest d i (omega arith)) p (j - i - 1) (omega arith)

-- counts and starts are small
pub pairs_fit : (d : ℕ) → d ≤ 65535 → pairs d < 2 ^ 64
pairs_fit d h =
    let a : pairs d ≤ d * (d - 1) = div-le_self (d * (d - 1)) 2 in
    let b : d * (d - 1) ≤ 65535 * 65535 = mul-le d (d - 1) 65535 65535 h (omega arith) in
    let c : 65535 * 65535 < 2 ^ 64 = lit< tt in
    omega arith

start_below : (s r q n : ℕ) → s ≡ r → r + q ≡ n → n < 2 ^ 64 → s < 2 ^ 64
start_below s r q n e f h = omega arith

pub start_fits : (d i start : ℕ) → i ≤ d → d ≤ 65535 → start ≡ row_start d i → start < 2 ^ 64
start_fits d i start h l e = start_below start (row_start d i) (pairs (d - i)) (pairs d) e (row_rest d i h) (pairs_fit d l)

below : (a b n : ℕ) → a ≡ b → b < n → a < n
below a b n e h = omega arith

-- the place of a pair's word
pub place_below : (d i j start : ℕ) → i < j → j < d → start ≡ row_start d i → start + (j - i - 1) < pairs d
place_below d i j start h l e =
    let p : start + (j - i - 1) ≡ pair d i j = ap (λ (n : ℕ). n + (j - i - 1)) e in
    let q = pair_below d i j h l in
    below (start + (j - i - 1)) (pair d i j) (pairs d) p q
