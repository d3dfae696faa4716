-- Words from one bit of each of some entries, and the entries that words pick.
use Rattle.std.proofs.Common.{◌≡◌, ℕ, ◌+◌, ◌-◌, ◌*◌, ◌%◌, ◌^◌, ◌<◌, ◌≤◌, zero, suc, List, [], ◌∷◌, ◌++◌, length, map, get_or, refl, sym, ap, ap₂, ◌∙◌, subst, arith, mod-eq_of_lt, pow_mono, pow_pos}
use Rattle.std.specs.Int.{bit_at}
use Rattle.std.specs.List.{range_with_len}
use Rattle.std.proofs.lemmas.List.FromFn.{length-map-range_with_len, get_or-map-range_with_len, map-range_with_len_more}
use Rattle.std.proofs.lemmas.Nat.Bits.{bit_at-lt}
use native.Mathlib.Nat.{pow-suc}
use Rattle.usuba_code.specs.CodeLaw.{Each}
use Rattle.usuba_model.specs.Meaning.{word_of_bits, entry_at, looked_up_word}

word_of_bits-same : (n : ℕ) (f g : ℕ → ℕ) → ((p : ℕ) → p < n → f p ≡ g p) → word_of_bits n f ≡ word_of_bits n g
word_of_bits-same zero f g same = refl
word_of_bits-same (suc n) f g same =
    ap₂ (λ x b. x + b * 2 ^ n) (word_of_bits-same n f g (λ p h. same p (omega arith))) (same n (omega arith))

at_most_one : (b x : ℕ) → b < 2 → b * x ≤ x
at_most_one zero x h = omega arith
at_most_one (suc zero) x h = omega arith
at_most_one (suc (suc b)) x h = absurd (omega arith)

-- a word of n bits is below 2^n
pub word_of_bits-lt : (n : ℕ) (f : ℕ → ℕ) → ((p : ℕ) → f p < 2) → word_of_bits n f < 2 ^ n
word_of_bits-lt zero f small = omega arith
word_of_bits-lt (suc n) f small =
    let rest = word_of_bits-lt n f small in
    let here = at_most_one (f n) (2 ^ n) (small n) in
    omega (arith, rest, here, pow-suc 2 n)

-- the word of so many entries so far: one bit of each
pub record Gathered (entries : List ℕ) (place n word : ℕ) : Type 0 where
  pub same : word ≡ word_of_bits n (λ position. bit_at (get_or entries position 0) place)
  pub below : word < 2 ^ n

gathered_more : (entries : List ℕ) (place n word bit : ℕ) → bit ≡ bit_at (get_or entries n 0) place → Gathered entries place n word
    → Gathered entries place (n + 1) (word + bit * 2 ^ n)
gathered_more entries place n word bit is gathered =
    let one : n + 1 ≡ suc n = omega arith in
    let f : ℕ → ℕ = λ position. bit_at (get_or entries position 0) place in
    let same : word + bit * 2 ^ n ≡ word_of_bits (n + 1) f =
    ap₂ (λ x b. x + b * 2 ^ n) gathered.same is ∙ ap (λ (k : ℕ). word_of_bits k f) (sym one) in
    record {
      same = same;
      below = subst (λ (x : ℕ). x < 2 ^ (n + 1)) (sym same) (word_of_bits-lt (n + 1) f (λ p. bit_at-lt (get_or entries p 0) place));
    }

-- a bit of one of 64 places or fewer, in its place, is below 2^64
pub placed : (bit n : ℕ) → bit < 2 → n < 64 → (bit * 2 ^ n) % 2 ^ 64 ≡ bit * 2 ^ n
placed bit n small less =
    let within : suc n ≤ 64 = omega arith in
    let le : 2 ^ suc n ≤ 2 ^ 64 = pow_mono within in
    let here = at_most_one bit (2 ^ n) small in
    let some : 0 < 2 ^ n = pow_pos n in
    mod-eq_of_lt (omega (arith, le, here, pow-suc 2 n, some))

-- one entry more
pub gathered_next : (entries : List ℕ) (place n word bit : ℕ) → bit ≡ bit_at (get_or entries n 0) place → n < 64
    → Gathered entries place n word → Gathered entries place (n + 1) (word + (bit * 2 ^ n) % 2 ^ 64)
gathered_next entries place n word bit is less gathered =
    let small : bit < 2 = subst (λ (b : ℕ). b < 2) (sym is) (bit_at-lt (get_or entries n 0) place) in
    subst (λ (x : ℕ). Gathered entries place (n + 1) (word + x)) (sym (placed bit n small less))
    (gathered_more entries place n word bit is gathered)

-- one more is pushed
pub pushed : (f : ℕ → ℕ) (n : ℕ) (items after : List ℕ) (x : ℕ) → items ≡ map f (range_with_len 0 n) → after ≡ items ++ x ∷ [] → x ≡ f n
    → after ≡ map f (range_with_len 0 (n + 1))
pushed f n items after x is more here =
    more ∙ ap (λ (l : List ℕ). l ++ x ∷ []) is ∙ ap (λ (y : ℕ). map f (range_with_len 0 n) ++ y ∷ []) here
    ∙ sym (map-range_with_len_more f 0 n n (omega arith))

-- an entry is picked at each bit position
pub many_picked : (B : ℕ) (entries words picked : List ℕ) → picked ≡ map (entry_at entries words) (range_with_len 0 B) → length picked ≡ B
many_picked B entries words picked is = ap length is ∙ length-map-range_with_len (entry_at entries words) 0 B

-- the word of one bit of each picked entry is the output element that is looked up
pub picked_word : (B m : ℕ) (entries words picked : List ℕ) (j : ℕ) → picked ≡ map (entry_at entries words) (range_with_len 0 B)
    → word_of_bits (length picked) (λ position. bit_at (get_or picked position 0) (m - 1 - j)) ≡ looked_up_word B m entries words j
picked_word B m entries words picked j is =
    let many : length picked ≡ B = many_picked B entries words picked is in
    let f : ℕ → ℕ = λ position. bit_at (get_or picked position 0) (m - 1 - j) in
    let g : ℕ → ℕ = λ position. bit_at (entry_at entries words position) (m - 1 - j) in
    ap (λ (n : ℕ). word_of_bits n f) many
    ∙ word_of_bits-same B f g (λ p h.
    ap (λ (x : ℕ). bit_at x (m - 1 - j))
    (ap (λ (l : List ℕ). get_or l p 0) is ∙ get_or-map-range_with_len (entry_at entries words) 0 B p p 0 h (omega arith)))

-- each output element of a look-up is a word of B bits
pub looked_up_words : (B m : ℕ) (entries words numbers : List ℕ) → Each (λ word. word < 2 ^ B) (map (looked_up_word B m entries words) numbers)
looked_up_words B m entries words [] = tt
looked_up_words B m entries words (j ∷ numbers) = (
  word_of_bits-lt B (λ p. bit_at (entry_at entries words p) (m - 1 - j)) (λ p. bit_at-lt (entry_at entries words p) (m - 1 - j)),
  looked_up_words B m entries words numbers,
)
