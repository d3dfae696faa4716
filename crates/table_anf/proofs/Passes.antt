-- The passes over a table in place make the exclusive-ors over contained indexes.
use Rattle.std.proofs.Common.{◌≡◌, ℕ, ◌+◌, ◌-◌, ◌*◌, ◌/◌, ◌%◌, ◌^◌, ◌<◌, ◌≤◌, zero, suc, eqb, bit_and, bit_xor, refl, sym, ap, ap₂, ◌∙◌, subst, inl, inr, pow-suc, arith, List, length, get_or, set, pow_pos, below_more, add-one}
use Rattle.std.specs.Prelude.{if◌then◌else◌}
use Rattle.std.specs.Int.{bit_at}
use lib.Bits.{xor_comm}
use Rattle.std.proofs.lemmas.Bool.{cases_lt}
use Rattle.std.proofs.lemmas.List.{get_or-set_same, get_or-set_other}
use Rattle.std.proofs.lemmas.List.FromFn.{fill_by_all, get_or-map-range_with_len}
use Rattle.std.proofs.lemmas.Nat.{mod_below, one_shl, shr_split}
use Rattle.std.proofs.lemmas.Nat.Bits.{bit_at-lt, bit_at_above, bit_at_cat_high, bit_at_lowest, shr_and_one}
use Rattle.table_anf.specs.Coefficients.{xor_contained}
use Rattle.table_anf.specs.State.Transform.{with_pass, after_passes, transformed}
use Rattle.table_anf.proofs.Containment.{xor_contained-same, xor_contained-low, xor_contained-high}
use Rattle.table_anf.proofs.Moebius.{xor_contained-none, xor_contained-twice}

-- the index has no bit k: the pass leaves its word
pub with_pass-off : (k : ℕ) (f : ℕ → ℕ) (x : ℕ) → bit_at x k ≡ 0 → with_pass k f x ≡ f x
with_pass-off k f x e = ap (λ b. if eqb b 1 then bit_xor (f x) (f (x - 2 ^ k)) else f x) e

-- the index has bit k: the pass adds the word at the index without it
pub with_pass-on : (k : ℕ) (f : ℕ → ℕ) (x : ℕ) → bit_at x k ≡ 1 → with_pass k f x ≡ bit_xor (f x) (f (x - 2 ^ k))
with_pass-on k f x e = ap (λ b. if eqb b 1 then bit_xor (f x) (f (x - 2 ^ k)) else f x) e

top_bit : (k q x : ℕ) → x < 2 ^ k → bit_at (q * 2 ^ k + x) k ≡ q % 2
top_bit k q x h =
    let none : k - k ≡ 0 = omega arith in
    bit_at_cat_high q k x k h (omega arith) ∙ ap (bit_at q) none ∙ bit_at_lowest q

-- the passes over the bits below n stay among the indexes that agree in the others
pub after_passes-block : (n : ℕ) (f : ℕ → ℕ) (q x : ℕ) → x < 2 ^ n
    → after_passes n f (q * 2 ^ n + x) ≡ xor_contained n (λ y. f (q * 2 ^ n + y)) x
after_passes-block zero f q x h =
    let e : 0 ≡ x = omega arith in
    let P : ℕ → Type 0 = λ y. f (q * 2 ^ 0 + y) ≡ xor_contained 0 (λ z. f (q * 2 ^ 0 + z)) y in
    subst P e (sym (xor_contained-none (λ z. f (q * 2 ^ 0 + z))))
after_passes-block (suc n) f q x h =
    let p = pow-suc 2 n in
    let pq : q * 2 ^ suc n ≡ q * (2 ^ n * 2) = ap (λ k. q * k) p in
    let F : ℕ → ℕ = λ y. f (q * 2 ^ suc n + y) in
    let low : ℕ → ℕ = λ y. f (q * 2 * 2 ^ n + y) in
    let low_same : (y : ℕ) → low y ≡ F y = λ y. ap f (omega arith) in
    elim (cases_lt x (2 ^ n)) [
      | inl lt ↦
          let i : q * 2 ^ suc n + x ≡ q * 2 * 2 ^ n + x = omega arith in
          let even : q * 2 % 2 ≡ 0 = omega arith in
          ap (after_passes (suc n) f) i
          ∙ with_pass-off n (after_passes n f) (q * 2 * 2 ^ n + x) (top_bit n (q * 2) x lt ∙ even)
          ∙ after_passes-block n f (q * 2) x lt
          ∙ xor_contained-same n low F x (λ y hy. low_same y)
          ∙ sym (xor_contained-low n F x lt)
      | inr ge ↦
          let v = x - 2 ^ n in
          let hv : v < 2 ^ n = omega arith in
          let ex : x ≡ 2 ^ n + v = omega arith in
          let i : q * 2 ^ suc n + x ≡ (q * 2 + 1) * 2 ^ n + v = omega arith in
          let below : (q * 2 + 1) * 2 ^ n + v - 2 ^ n ≡ q * 2 * 2 ^ n + v = omega arith in
          let odd : (q * 2 + 1) % 2 ≡ 1 = omega arith in
          let high : ℕ → ℕ = λ y. f ((q * 2 + 1) * 2 ^ n + y) in
          let high_same : (y : ℕ) → high y ≡ F (2 ^ n + y) = λ y. ap f (omega arith) in
          let first : after_passes n f ((q * 2 + 1) * 2 ^ n + v) ≡ xor_contained n (λ y. F (2 ^ n + y)) v =
          after_passes-block n f (q * 2 + 1) v hv ∙ xor_contained-same n high (λ y. F (2 ^ n + y)) v (λ y hy. high_same y) in
          let second : after_passes n f ((q * 2 + 1) * 2 ^ n + v - 2 ^ n) ≡ xor_contained n F v =
          ap (after_passes n f) below ∙ after_passes-block n f (q * 2) v hv ∙ xor_contained-same n low F v (λ y hy. low_same y) in
          ap (after_passes (suc n) f) i
          ∙ with_pass-on n (after_passes n f) ((q * 2 + 1) * 2 ^ n + v) (top_bit n (q * 2 + 1) v hv ∙ odd)
          ∙ ap₂ bit_xor first second
          ∙ xor_comm (xor_contained n (λ y. F (2 ^ n + y)) v) (xor_contained n F v)
          ∙ sym (ap (xor_contained (suc n) F) ex ∙ xor_contained-high n F v hv)
    ]

-- all passes
pub after_passes-all : (n : ℕ) (f : ℕ → ℕ) (x : ℕ) → x < 2 ^ n → after_passes n f x ≡ xor_contained n f x
after_passes-all n f x h =
    let e : 0 * 2 ^ n + x ≡ x = omega arith in
    let same : (y : ℕ) → f (0 * 2 ^ n + y) ≡ f y = λ y. ap f (omega arith) in
    sym (ap (after_passes n f) e) ∙ after_passes-block n f 0 x h ∙ xor_contained-same n (λ y. f (0 * 2 ^ n + y)) f x (λ y hy. same y)

-- a word of the transform
pub word_of_transform : (n : ℕ) (words : List ℕ) (x : ℕ) → x < 2 ^ n → get_or (transformed n words) x 0 ≡ xor_contained n (λ k. get_or words k 0) x
word_of_transform n words x h = get_or-map-range_with_len (xor_contained n (λ k. get_or words k 0)) 0 (2 ^ n) x x 0 h (omega arith)

-- the words after all passes are those whose transform the entries are
pub transform_of_passes : (n : ℕ) (words entries : List ℕ) → length entries ≡ 2 ^ n
    → ((x : ℕ) → x < 2 ^ n → get_or words x 0 ≡ after_passes n (λ k. get_or entries k 0) x)
    → transformed n words ≡ entries
transform_of_passes n words entries all passed =
    let given : ℕ → ℕ = λ k. get_or entries k 0 in
    sym (fill_by_all (xor_contained n (λ k. get_or words k 0)) entries (2 ^ n) 0 all (λ x h.
    sym (xor_contained-same n (λ k. get_or words k 0) (xor_contained n given) x (λ y hy. passed y hy ∙ after_passes-all n given y hy)
    ∙ xor_contained-twice n given x h)))

-- ---- one pass, word by word

-- an index with bit k is at least 2^k, and without the bit it is 2^k less
pub bit_taken : (k x : ℕ) → bit_at x k ≡ 1 → (2 ^ k ≤ x) × (bit_at (x - 2 ^ k) k ≡ 0)
bit_taken k x e =
    let p = pow_pos k in
    let q = x / 2 ^ k in
    let r = x % 2 ^ k in
    let hr : r < 2 ^ k = mod_below x (2 ^ k) p in
    let split : q * 2 ^ k + r ≡ x = shr_split x k in
    let odd : q % 2 ≡ 1 = e in
    let le : 2 ^ k ≤ x = elim (cases_lt x (2 ^ k)) [
      | inl lt ↦ let z = bit_at_above x k k lt (omega arith) in absurd (omega arith)
      | inr ge ↦ ge
    ] in
    let some : 1 ≤ q = omega arith in
    let less : x - 2 ^ k ≡ (q - 1) * 2 ^ k + r = less_one q (2 ^ k) r x some split in
    let even : (q - 1) % 2 ≡ 0 = omega arith in
    (le, ap (λ y. bit_at y k) less ∙ top_bit k (q - 1) r hr ∙ even)
  where
    less_one : (a b c y : ℕ) → 1 ≤ a → a * b + c ≡ y → y - b ≡ (a - 1) * b + c
    less_one zero b c y h s = absurd (omega arith)
    less_one (suc a) b c y h s = let one : suc a - 1 ≡ a = omega arith in rw one (omega arith)

-- what a pass over bit k keeps, at an index: the words before it are done, the others are as they were given
pub record IsPassing (k : ℕ) (f : ℕ → ℕ) (index : ℕ) (words : List ℕ) : Type 0 where
  pub done : (x : ℕ) → x < index → get_or words x 0 ≡ with_pass k f x
  pub rest : (x : ℕ) → index ≤ x → get_or words x 0 ≡ f x

-- an index without the bit
pub passes_by : (k : ℕ) (f : ℕ → ℕ) (i : ℕ) (words : List ℕ) → bit_at i k ≡ 0 → IsPassing k f i words → IsPassing k f (i + 1) words
passes_by k f i words off so_far = record {
  done = below_more (λ x. get_or words x 0 ≡ with_pass k f x) i so_far.done (so_far.rest i (omega arith) ∙ sym (with_pass-off k f i off));
  rest = λ x h. so_far.rest x (omega arith);
}

-- an index with the bit
pub passes_on : (k : ℕ) (f : ℕ → ℕ) (i : ℕ) (words after : List ℕ) (v : ℕ) → i < length words → bit_at i k ≡ 1
    → v ≡ bit_xor (get_or words i 0) (get_or words (i - 2 ^ k) 0) → after ≡ set words i v
    → IsPassing k f i words → IsPassing k f (i + 1) after
passes_on k f i words after v h on ev e so_far =
    let taken = bit_taken k i on in
    let p = pow_pos k in
    let lower : get_or words (i - 2 ^ k) 0 ≡ f (i - 2 ^ k) =
    so_far.done (i - 2 ^ k) (omega (arith, taken.0)) ∙ with_pass-off k f (i - 2 ^ k) taken.1 in
    let word : v ≡ with_pass k f i = ev ∙ ap₂ bit_xor (so_far.rest i (omega arith)) lower ∙ sym (with_pass-on k f i on) in
    let P : List ℕ → Type 0 = λ ws. IsPassing k f (i + 1) ws in
    subst P (sym e) (record {
      done = below_more (λ x. get_or (set words i v) x 0 ≡ with_pass k f x) i
          (λ x hx. get_or-set_other words i x v 0 (λ same. omega arith) ∙ so_far.done x hx)
          (get_or-set_same words i v 0 h ∙ word);
      rest = λ x hx. get_or-set_other words i x v 0 (λ same. omega arith) ∙ so_far.rest x (omega arith);
    })

-- ---- the passes one after another

-- one pass more
pub after_passes-more : (n k : ℕ) (f : ℕ → ℕ) (words after : List ℕ)
    → ((x : ℕ) → x < 2 ^ n → get_or words x 0 ≡ after_passes k f x)
    → ((x : ℕ) → x < 2 ^ n → get_or after x 0 ≡ with_pass k (λ y. get_or words y 0) x)
    → (x : ℕ) → x < 2 ^ n → get_or after x 0 ≡ after_passes (k + 1) f x
after_passes-more n k f words after passed pass x h =
    pass x h
    ∙ ap₂ (λ y z. if eqb (bit_at x k) 1 then bit_xor y z else y) (passed x h) (passed (x - 2 ^ k) (omega arith))
    ∙ ap (λ i. after_passes i f x) (sym (add-one k))

-- ---- the tests of the code

-- the index has the bit, so the step can be taken from it
pub step_le : (k x : ℕ) → k < 8 → bit_and (x / 2 ^ k) 1 ≡ 1 → 1 * 2 ^ k % 2 ^ 64 ≤ x
step_le k x h e =
    let on : bit_at x k ≡ 1 = sym (shr_and_one x k) ∙ e in
    let step : 1 * 2 ^ k % 2 ^ 64 ≡ 2 ^ k = one_shl k 64 (omega arith) in
    omega (arith, (bit_taken k x on).0)

pub passes_by_test : (k : ℕ) (f : ℕ → ℕ) (i : ℕ) (words : List ℕ) → (bit_and (i / 2 ^ k) 1 ≡ 1 → ⊥) → IsPassing k f i words
    → IsPassing k f (i + 1) words
passes_by_test k f i words off so_far =
    let lt = bit_at-lt i k in
    let ne : bit_at i k ≡ 1 → ⊥ = λ e. off (shr_and_one i k ∙ e) in
    passes_by k f i words (omega (arith, ne)) so_far

pub passes_on_test : (k : ℕ) (f : ℕ → ℕ) (i : ℕ) (words : List ℕ) → k < 8 → i < length words → bit_and (i / 2 ^ k) 1 ≡ 1
    → IsPassing k f i words
    → IsPassing k f (i + 1) (set words i (bit_xor (get_or words i 0) (get_or words (i - 1 * 2 ^ k % 2 ^ 64) 0)))
passes_on_test k f i words few h e so_far =
    let on : bit_at i k ≡ 1 = sym (shr_and_one i k) ∙ e in
    let step : 1 * 2 ^ k % 2 ^ 64 ≡ 2 ^ k = one_shl k 64 (omega arith) in
    passes_on k f i words (set words i (bit_xor (get_or words i 0) (get_or words (i - 1 * 2 ^ k % 2 ^ 64) 0)))
    (bit_xor (get_or words i 0) (get_or words (i - 1 * 2 ^ k % 2 ^ 64) 0)) h on
    (ap (λ s. bit_xor (get_or words i 0) (get_or words (i - s) 0)) step) refl so_far
