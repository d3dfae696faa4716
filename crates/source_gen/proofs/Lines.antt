-- The lines of a generated source, one after another.
use Rattle.std.proofs.Common.{◌≡◌, ℕ, zero, suc, ◌+◌, ◌-◌, ◌*◌, ◌<◌, List, ◌∷◌, ◌++◌, flat_map, refl, sym, ap, ◌∙◌, arith, append-nil}
use Rattle.std.specs.List.{range_with_len}
use Rattle.std.proofs.lemmas.Grind.{flat_map-append}
use Rattle.source_gen.specs.Source.{picked, line_text, generated_line}
use Rattle.source_gen.specs.declared.operands.Operands.{Operands}
use Rattle.word_draws.specs.Draws.{start, next, after_draws}

-- the numbers up to some, and then the others
range_split : (a m n : ℕ) → range_with_len a (m + n) ≡ range_with_len a m ++ range_with_len (a + m) n
range_split a zero n =
    let same : 0 + n ≡ n = omega arith in
    let first : a ≡ a + 0 = omega arith in
    ap (range_with_len a) same ∙ ap (λ k. range_with_len k n) first
range_split a (suc m) n =
    let same : suc m + n ≡ suc (m + n) = omega arith in
    let moved : a + 1 + m ≡ a + suc m = omega arith in
    ap (range_with_len a) same ∙ ap (λ ks. a ∷ ks) (range_split (a + 1) m n)
    ∙ ap (λ k. a ∷ (range_with_len (a + 1) m ++ range_with_len k n)) moved

module _ (f : ℕ → List ℕ) where
  -- the texts up to k, that of k, and those after it
  pub texts_around : (k n : ℕ) → k < n
      → flat_map f (range_with_len 0 k) ++ (f k ++ flat_map f (range_with_len (k + 1) (n - (k + 1)))) ≡ flat_map f
      (range_with_len 0 n)
  texts_around k n within =
      let rest : suc (n - (k + 1)) ≡ n - k = omega arith in
      let whole : k + (n - k) ≡ n = omega arith in
      let first : 0 + k ≡ k = omega arith in
      ap (λ m. flat_map f (range_with_len 0 k) ++ flat_map f (range_with_len k m)) rest
      ∙ ap (λ m. flat_map f (range_with_len 0 k) ++ flat_map f (range_with_len m (n - k))) (sym first)
      ∙ sym (flat_map-append f (range_with_len 0 k) (range_with_len (0 + k) (n - k)))
      ∙ ap (flat_map f) (sym (range_split 0 k (n - k))) ∙ ap (λ m. flat_map f (range_with_len 0 m)) whole

  -- the texts up to k, and that of k
  pub texts_more : (k : ℕ) → flat_map f (range_with_len 0 k) ++ f k ≡ flat_map f (range_with_len 0 (k + 1))
  texts_more k =
      let first : 0 + k ≡ k = omega arith in
      ap (λ (t : List ℕ). flat_map f (range_with_len 0 k) ++ t) (sym (append-nil (f k)))
      ∙ ap (λ m. flat_map f (range_with_len 0 k) ++ flat_map f (range_with_len m 1)) (sym first)
      ∙ sym (flat_map-append f (range_with_len 0 k) (range_with_len (0 + k) 1))
      ∙ ap (flat_map f) (sym (range_split 0 k 1))

-- one draw more
after_one : (state n : ℕ) → after_draws state (suc n) ≡ next (after_draws state n)
unfolding after_draws
after_one state zero = refl
after_one state (suc n) = after_one (next state) n

-- no draw keeps the state
pub after_none : (state : ℕ) → after_draws state 0 ≡ state
unfolding after_draws
after_none state = refl

-- the three draws of a line
pub after_line : (state k : ℕ) → next (next (next (after_draws state (3 * k)))) ≡ after_draws state (3 * (k + 1))
after_line state k =
    let count : suc (suc (suc (3 * k))) ≡ 3 * (k + 1) = omega arith in
    ap (λ s. next (next s)) (sym (after_one state (3 * k))) ∙ ap next (sym (after_one state (suc (3 * k))))
    ∙ sym (after_one state (suc (suc (3 * k)))) ∙ ap (after_draws state) count

-- a line of operands that were picked after the lines before it
pub line_drawn : (seed k state : ℕ) (operands : Operands) → operands ≡ picked k state
    → state ≡ after_draws (start seed) (3 * k)
    → line_text k operands ≡ generated_line seed k
line_drawn seed k state operands drawn before = ap (line_text k) (drawn ∙ ap (picked k) before)
