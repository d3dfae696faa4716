-- The laws of words of a size, over all numbers.
use Rattle.std.proofs.Common.{◌≡◌, ℕ, ◌+◌, ◌*◌, ◌/◌, ◌%◌, ◌^◌, ◌<◌, min, ◌⊎◌, inl, inr, bit_and, bit_xor, refl, sym, ap, ◌∙◌, arith, mod-eq_of_lt}
use Rattle.std.proofs.lemmas.Nat as nat
use Rattle.std.proofs.lemmas.Nat.{xor_mod, xor_shr, xor_block, pow_pos}
use Rattle.std.proofs.lemmas.Nat.Bits.{bit_at_xor, bit_at_and, bit_at-lt, same_from_bits}
use Rattle.std.specs.Int.{bit_at}
use lib.Bits as bits

pub xor_assoc : (a b c : ℕ) → bit_xor (bit_xor a b) c ≡ bit_xor a (bit_xor b c)
xor_assoc a b c = bits.xor_assoc a b c

pub xor_comm : (a b : ℕ) → bit_xor a b ≡ bit_xor b a
xor_comm a b = nat.xor_comm a b

pub xor_zero_r : (a : ℕ) → bit_xor a 0 ≡ a
xor_zero_r a = bits.xor_zero_r a

pub xor_zero_l : (a : ℕ) → bit_xor 0 a ≡ a
xor_zero_l a = xor_comm 0 a ∙ xor_zero_r a

pub xor_self : (a : ℕ) → bit_xor a a ≡ 0
xor_self a = bits.xor_self a

and_xor_bit : (x y z : ℕ) → x < 2 → y < 2 → z < 2 → min x ((y + z) % 2) ≡ (min x y + min x z) % 2
and_xor_bit x y z h k l = omega arith

-- `&` goes through `^`
pub and_xor : (x y z : ℕ) → bit_and x (bit_xor y z) ≡ bit_xor (bit_and x y) (bit_and x z)
and_xor x y z =
    same_from_bits (bit_and x (bit_xor y z)) (bit_xor (bit_and x y) (bit_and x z))
    (λ i. bit_at_and x (bit_xor y z) i
    ∙ ap (λ (n : ℕ). min (bit_at x i) n) (bit_at_xor y z i)
    ∙ and_xor_bit (bit_at x i) (bit_at y i) (bit_at z i) (bit_at-lt x i) (bit_at-lt y i) (bit_at-lt z i)
    ∙ (λ j. (sym (bit_at_and x y i) j + sym (bit_at_and x z i) j) % 2)
    ∙ sym (bit_at_xor (bit_and x y) (bit_and x z) i))

pub xor_and : (x y z : ℕ) → bit_and (bit_xor x y) z ≡ bit_xor (bit_and x z) (bit_and y z)
xor_and x y z =
    nat.and_comm (bit_xor x y) z ∙ and_xor z x y ∙ (λ j. bit_xor (nat.and_comm z x j) (nat.and_comm z y j))

-- a shift to the left goes through `^`
pub times_xor : (x y k : ℕ) → bit_xor x y * 2 ^ k ≡ bit_xor (x * 2 ^ k) (y * 2 ^ k)
times_xor x y k =
    let a : bit_xor (x * 2 ^ k + 0) (y * 2 ^ k + 0) ≡ bit_xor x y * 2 ^ k + bit_xor 0 0 = xor_block k x y 0 0 (pow_pos k) (pow_pos k) in
    let p : x * 2 ^ k ≡ x * 2 ^ k + 0 = omega arith in
    let q : y * 2 ^ k ≡ y * 2 ^ k + 0 = omega arith in
    let r : bit_xor x y * 2 ^ k ≡ bit_xor x y * 2 ^ k + 0 = omega arith in
    r ∙ sym a ∙ sym (λ j. bit_xor (p j) (q j))

pub shl_xor : (w x y k : ℕ) → (bit_xor x y * 2 ^ k) % 2 ^ w ≡ bit_xor ((x * 2 ^ k) % 2 ^ w) ((y * 2 ^ k) % 2 ^ w)
shl_xor w x y k = ap (λ (n : ℕ). n % 2 ^ w) (times_xor x y k) ∙ xor_mod (x * 2 ^ k) (y * 2 ^ k) w

pub shr_xor : (x y k : ℕ) → bit_xor x y / 2 ^ k ≡ bit_xor (x / 2 ^ k) (y / 2 ^ k)
shr_xor x y k = xor_shr x y k

pub same : (x : ℕ) → x ≡ x
same x = refl

pub mod_below : (w x : ℕ) → x < 2 ^ w → x % 2 ^ w ≡ x
mod_below w x h = mod-eq_of_lt h

-- one of the four sizes
abbrev pub IsSize : ℕ → Type 0
IsSize n = (n ≡ 8) ⊎ (n ≡ 16) ⊎ (n ≡ 32) ⊎ (n ≡ 64)

pub size_8 : IsSize 8
size_8 = inl refl

pub size_16 : IsSize 16
size_16 = inr (inl refl)

pub size_32 : IsSize 32
size_32 = inr (inr (inl refl))

pub size_64 : IsSize 64
size_64 = inr (inr (inr refl))
