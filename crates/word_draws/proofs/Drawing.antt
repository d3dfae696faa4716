-- One draw, and one word, before the others.
use Rattle.std.proofs.Common.{◌≡◌, ℕ, zero, suc, ◌+◌, ◌-◌, ◌*◌, ◌%◌, ◌^◌, ◌<◌, ◌≤◌, List, [], ◌∷◌, ◌++◌, refl, sym, ap, ◌∙◌, subst, arith, append_assoc, append-nil, pow-suc}
use Rattle.std.specs.Prelude.{All}
use Rattle.std.proofs.Math.Nat.{pow-le-pow_right}
use Rattle.std.proofs.lemmas.List.Elements.{All-nil, All-cons}
use Rattle.std.proofs.lemmas.Nat.{pow_pos}
use Rattle.word_draws.specs.Draws.{next, after_draws, drawn_bytes, drawn_word, after_word, drawn_words, after_words}

-- the number of some bytes: the next one, and then the others
pub drawn_bytes-next : (state n : ℕ) → 0 < n → drawn_bytes state n ≡ next state % 256 + 256 * drawn_bytes (next state) (n - 1)
unfolding drawn_bytes
drawn_bytes-next state zero some = absurd (omega arith)
drawn_bytes-next state (suc n) some = let e : suc n - 1 ≡ n = omega arith in rw e refl

-- no byte makes 0
pub drawn_bytes-none : (state n : ℕ) → n ≡ 0 → drawn_bytes state n ≡ 0
unfolding drawn_bytes
drawn_bytes-none state zero none = refl
drawn_bytes-none state (suc n) none = absurd (omega arith)

-- the state after some draws: after the next one, and then the others
pub after_draws-next : (state n : ℕ) → 0 < n → after_draws state n ≡ after_draws (next state) (n - 1)
unfolding after_draws
after_draws-next state zero some = absurd (omega arith)
after_draws-next state (suc n) some = let e : suc n - 1 ≡ n = omega arith in rw e refl

-- no draw keeps the state
pub after_draws-none : (state n : ℕ) → n ≡ 0 → after_draws state n ≡ state
unfolding after_draws
after_draws-none state zero none = refl
after_draws-none state (suc n) none = absurd (omega arith)

-- a byte below the others stays within one byte more
pub one_byte_more : (low rest n : ℕ) → 0 < n → low < 256 → rest < 256 ^ (n - 1) → low + 256 * rest < 256 ^ n
one_byte_more low rest zero some fits within = absurd (omega arith)
one_byte_more low rest (suc n) some fits within =
    let e : suc n - 1 ≡ n = omega arith in
    let below : rest < 256 ^ n = subst (λ k. rest < 256 ^ k) e within in
    omega (arith, fits, below, pow-suc 256 n)

-- seven bytes at most, and one more below them, are a word
pub fits_word : (rest n : ℕ) → 0 < n → n ≤ 8 → rest < 256 ^ (n - 1) → 256 * rest + 255 < 2 ^ 64
fits_word rest n some few within =
    let short : n - 1 ≤ 7 = omega arith in
    let seven : 256 ^ (n - 1) ≤ 256 ^ 7 = pow-le-pow_right {n = 256} (omega arith) short in
    omega (arith, within, seven)

-- some words: one, and then the others
pub drawn_words-next : (B state k n : ℕ) → k < n
    → drawn_words B state (n - k) ≡ drawn_word B state ∷ drawn_words B (after_word B state) (n - (k + 1))
unfolding drawn_words
drawn_words-next B state k n some = at (n - k) (n - (k + 1)) (omega arith)
  where
    at : (m l : ℕ) → m ≡ suc l → drawn_words B state m ≡ drawn_word B state ∷ drawn_words B (after_word B state) l
    at m l e = ap (drawn_words B state) e

pub after_words-next : (B state k n : ℕ) → k < n → after_words B state (n - k) ≡ after_words B (after_word B state) (n - (k + 1))
unfolding after_words
after_words-next B state k n some = at (n - k) (n - (k + 1)) (omega arith)
  where
    at : (m l : ℕ) → m ≡ suc l → after_words B state m ≡ after_words B (after_word B state) l
    at m l e = ap (after_words B state) e

-- no word is left at the end
pub drawn_words-none : (B state k n : ℕ) → n ≤ k → drawn_words B state (n - k) ≡ []
unfolding drawn_words
drawn_words-none B state k n none = let e : n - k ≡ 0 = omega arith in ap (drawn_words B state) e

pub after_words-none : (B state k n : ℕ) → n ≤ k → after_words B state (n - k) ≡ state
unfolding after_words
after_words-none B state k n none = let e : n - k ≡ 0 = omega arith in ap (after_words B state) e

-- words of B bits are below 2^B
pub words_below : (B state n : ℕ) → All (λ word. word < 2 ^ B) (drawn_words B state n)
unfolding drawn_words
words_below B state zero = All-nil (λ word. word < 2 ^ B)
words_below B state (suc n) =
    let some = pow_pos B in
    let first : drawn_word B state < 2 ^ B = omega (arith, some) in
    All-cons (λ word. word < 2 ^ B) (drawn_word B state) (drawn_words B (after_word B state) n) first (words_below B (after_word B state) n)

-- in a loop that draws words: the words so far with those that are left are all
pub words_step : (B state after k n word : ℕ) (words more all : List ℕ) → k < n → after ≡ after_word B state → word ≡ drawn_word B state
    → words ++ drawn_words B state (n - k) ≡ all → more ≡ words ++ word ∷ [] → more ++ drawn_words B after (n - (k + 1)) ≡ all
words_step B state after k n word words more all some moved drawn so_far pushed =
    let rest = drawn_words B (after_word B state) (n - (k + 1)) in
    ap (λ s. more ++ drawn_words B s (n - (k + 1))) moved ∙ ap (λ ws. ws ++ rest) (pushed ∙ ap (λ w. words ++ w ∷ []) drawn)
    ∙ append_assoc words (drawn_word B state ∷ []) rest ∙ ap (λ ws. words ++ ws) (sym (drawn_words-next B state k n some)) ∙ so_far

pub state_step : (B state after k n all : ℕ) → k < n → after ≡ after_word B state → after_words B state (n - k) ≡ all
    → after_words B after (n - (k + 1)) ≡ all
state_step B state after k n all some moved so_far =
    ap (λ s. after_words B s (n - (k + 1))) moved ∙ sym (after_words-next B state k n some) ∙ so_far

-- at its end the words are all
pub words_end : (B state k n : ℕ) (words all : List ℕ) → n ≤ k → words ++ drawn_words B state (n - k) ≡ all → words ≡ all
words_end B state k n words all none so_far =
    sym (append-nil words) ∙ ap (λ ws. words ++ ws) (sym (drawn_words-none B state k n none)) ∙ so_far

pub state_end : (B state k n all : ℕ) → n ≤ k → after_words B state (n - k) ≡ all → state ≡ all
state_end B state k n all none so_far = sym (after_words-none B state k n none) ∙ so_far

-- and they are below 2^B
pub drawn_below : (B start n : ℕ) (words : List ℕ) → words ≡ drawn_words B start n → All (λ word. word < 2 ^ B) words
drawn_below B start n words drawn = subst (λ (ws : List ℕ). All (λ word. word < 2 ^ B) ws) (sym drawn) (words_below B start n)
