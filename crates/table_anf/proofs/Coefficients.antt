-- Coefficients as bits of whole words.
use Rattle.std.proofs.Common.{◌≡◌, ℕ, ◌-◌, ◌^◌, ◌<◌, Bool, true, false, List, get_or, refl, sym, ap, ◌∙◌, subst, ◌/◌, bit_and, eqb, eqb-true, eq-eqb, length}
use Rattle.std.specs.Prelude.{if◌then◌else◌}
use Rattle.std.specs.Int.{bit_at}
use Rattle.std.proofs.lemmas.List.{get_or_read}
use Rattle.std.proofs.lemmas.Nat.Bits.{bit_at-zero, bit_at-lt, shr_and_one}
use Rattle.table_anf.specs.Coefficients.{contains, contained, xor_contained, coefficient}
use Rattle.table_anf.specs.State.Transform.{transformed}
use Rattle.table_anf.proofs.Xors.{bit_of_xor_below, xor_below-same}
use Rattle.table_anf.proofs.Containment.{xor_contained-same}
use Rattle.table_anf.proofs.Moebius.{xor_contained-twice}
use Rattle.table_anf.proofs.Passes.{word_of_transform}

bit_where : (b : Bool) (x p : ℕ) → bit_at (if b then x else 0) p ≡ (if b then bit_at x p else 0)
bit_where true x p = refl
bit_where false x p = bit_at-zero p

-- a bit of the exclusive-or over the contained indexes
pub bit_of_xor_contained : (n : ℕ) (f : ℕ → ℕ) (u p : ℕ) → bit_at (xor_contained n f u) p ≡ xor_contained n (λ x. bit_at (f x) p) u
bit_of_xor_contained n f u p =
    bit_of_xor_below (contained f u) (2 ^ n) p
    ∙ xor_below-same (λ x. bit_at (contained f u x) p) (contained (λ x. bit_at (f x) p) u) (2 ^ n) (λ x h. bit_where (contains u x) (f x) p)

-- a coefficient is a bit of the exclusive-or of the entries
pub coefficient-bit : (n m : ℕ) (entries : List ℕ) (j u : ℕ)
    → coefficient n m entries j u ≡ bit_at (xor_contained n (λ x. get_or entries x 0) u) (m - 1 - j)
coefficient-bit n m entries j u = sym (bit_of_xor_contained n (λ x. get_or entries x 0) u (m - 1 - j))

-- a coefficient is 0 or 1
pub coefficient-lt : (n m : ℕ) (entries : List ℕ) (j u : ℕ) → coefficient n m entries j u < 2
coefficient-lt n m entries j u =
    let e = coefficient-bit n m entries j u in
    let P : ℕ → Type 0 = λ c. c < 2 in
    let l = bit_at-lt (xor_contained n (λ x. get_or entries x 0) u) (m - 1 - j) in
    subst P (sym e) l

-- the coefficients of the table whose transform some words are: bits of these words
pub coefficient-transformed : (n m : ℕ) (words : List ℕ) (j u : ℕ) → u < 2 ^ n
    → coefficient n m (transformed n words) j u ≡ bit_at (get_or words u 0) (m - 1 - j)
coefficient-transformed n m words j u h =
    let entries = transformed n words in
    coefficient-bit n m entries j u
    ∙ ap (λ w. bit_at w (m - 1 - j))
    (xor_contained-same n (λ x. get_or entries x 0) (xor_contained n (λ x. get_or words x 0)) u (λ x hx. word_of_transform n words x hx)
    ∙ xor_contained-twice n (λ x. get_or words x 0) u h)

-- the test of a bit of a word is the test of the coefficient
pub coefficient_tested : (n m : ℕ) (words : List ℕ) (j u word : ℕ) → u < 2 ^ n → length words ≡ 2 ^ n → word ≡ get_or words u word
    → (eqb (bit_and (word / 2 ^ (m - 1 - j)) 1) 1 ≡ true → coefficient n m (transformed n words) j u ≡ 1)
    × (coefficient n m (transformed n words) j u ≡ 1 → eqb (bit_and (word / 2 ^ (m - 1 - j)) 1) 1 ≡ true)
coefficient_tested n m words j u word h all read =
    let within : u < length words = subst (λ k. u < k) (sym all) h in
    let there : word ≡ get_or words u 0 = get_or_read words u word within read 0 in
    let same : bit_and (word / 2 ^ (m - 1 - j)) 1 ≡ coefficient n m (transformed n words) j u =
    shr_and_one word (m - 1 - j) ∙ ap (λ w. bit_at w (m - 1 - j)) there ∙ sym (coefficient-transformed n m words j u h) in (
      λ e. sym same ∙ eqb-true (bit_and (word / 2 ^ (m - 1 - j)) 1) 1 e,
      λ e. eq-eqb (bit_and (word / 2 ^ (m - 1 - j)) 1) 1 (same ∙ e),
    )
