-- The index that words pick at a bit position, word by word.
use Rattle.std.proofs.Common.{◌≡◌, ℕ, ◌+◌, ◌*◌, ◌^◌, ◌<◌, ◌≤◌, suc, List, length, map, get_or, drop, refl, sym, ap, ◌∙◌, subst, arith, drop-cons, pow_mono}
use Rattle.std.specs.Int.{bit_at}
use Rattle.std.proofs.lemmas.List.{drop_all}
use Rattle.std.proofs.lemmas.Nat.Bits.{bit_at-lt}
use native.Mathlib.Nat.{pow-suc}
use Rattle.usuba_model.specs.Meaning.{number_of_bits}

-- the bits of words at a position
abbrev pub bits_of : ℕ → List ℕ → List ℕ
bits_of position words = map (λ word. bit_at word position) words

-- the index of the first i words: the bits of the others make the whole index after it
pub record Indexed (words : List ℕ) (position i index : ℕ) : Type 0 where
  pub same : number_of_bits index (bits_of position (drop i words)) ≡ number_of_bits 0 (bits_of position words)
  pub below : index < 2 ^ i

pub indexed_start : (words : List ℕ) (position : ℕ) → Indexed words position 0 0
indexed_start words position = record { same = refl; below = omega arith }

-- one word more
pub indexed_next : (words : List ℕ) (position i index bit : ℕ) → i < length words → bit ≡ bit_at (get_or words i 0) position
    → Indexed words position i index → Indexed words position (i + 1) (index * 2 + bit)
indexed_next words position i index bit h is indexed =
    let one : i + 1 ≡ suc i = omega arith in
    let small = bit_at-lt (get_or words i 0) position in
    let rest = bits_of position (drop (suc i) words) in
    let split : number_of_bits index (bits_of position (drop i words)) ≡ number_of_bits (index * 2 + bit_at (get_or words i 0) position) rest =
    ap (λ (ws : List ℕ). number_of_bits index (bits_of position ws)) (drop-cons words i 0 h) in
    record {
      same = ap (λ (k : ℕ). number_of_bits (index * 2 + bit) (bits_of position (drop k words))) one
          ∙ ap (λ (b : ℕ). number_of_bits (index * 2 + b) rest) is ∙ sym split ∙ indexed.same;
      below = subst (λ (k : ℕ). index * 2 + bit < 2 ^ k) (sym one) (omega (arith, pow-suc 2 i, indexed.below, is, small));
    }

-- all words
pub indexed_end : (words : List ℕ) (position i index : ℕ) → i ≡ length words → Indexed words position i index
    → index ≡ number_of_bits 0 (bits_of position words)
indexed_end words position i index e indexed =
    sym (ap (λ (ws : List ℕ). number_of_bits index (bits_of position ws)) (drop_all i words (omega (arith, e)))) ∙ indexed.same

-- an index of fewer than 8 words so far is small
pub small_index : (i index : ℕ) → i < 8 → index < 2 ^ i → index < 128
small_index i index h below = let less : i ≤ 7 = omega arith in let le : 2 ^ i ≤ 2 ^ 7 = pow_mono less in omega (arith, le, below)
