-- What the head of a text is lies within the text, and a word is ASCII.
use Rattle.std.proofs.Common.{◌≡◌, ℕ, ◌<◌, ◌≤◌, true, ◌&&◌, ◌||◌, eqb, List, [], ◌∷◌, length, get_or, take, Option, Some, None, arith, eqb-true, length-take-le}
use Rattle.std.specs.Char.{is_ascii_digit}
use Rattle.std.specs.Str.{IsAscii}
use Rattle.std.specs.Prelude.{nat_lt}
use Rattle.std.proofs.lemmas.Bool.Decides.{nat_tests}
use Rattle.std.proofs.lemmas.List.{get_or-take}
use Rattle.std.proofs.lemmas.List.Sums.{prefix_len-le-length, prefix_len_passes}
use Rattle.std.proofs.lemmas.Str.Ascii.{IsAscii-from_reads}
use Rattle.usuba_tokens.specs.Bytes.{is_blank, begins_word}
use Rattle.usuba_tokens.specs.Numbers.{decimal_len, value_in, below_2_64}
use Rattle.usuba_tokens.proofs.Choices.{when, either, both}
use Rattle.usuba_tokens.proofs.HeadLemmas.{reads_within, prefix_some}
use Rattle.c_tokens.specs.Heads.{continues_word, word_len, valued, number, one_byte_sign, longest_sign, head_of}
use Rattle.c_tokens.specs.declared.head.Form.{Form}
use Rattle.c_tokens.specs.declared.head.Form.TheVariants as form
use Rattle.c_tokens.specs.declared.head.Head.{Head}
use Rattle.c_tokens.specs.declared.head.Head.TheVariants as head

-- the head takes one byte or more, and none past the end; a word is ASCII
abbrev pub Takes : Head → List ℕ → Type 0
Takes head.End text = Unit {0}
Takes head.Broken text = Unit {0}
Takes head.Blank text = 1 ≤ length text
Takes (head.Found form.Word n) text = (1 ≤ n) × (n ≤ length text) × IsAscii (take n text)
Takes (head.Found (form.Number value) n) text = (1 ≤ n) × (n ≤ length text)
Takes (head.Found (form.Sign s) n) text = (1 ≤ n) × (n ≤ length text)

continues_ascii : (b : ℕ) → continues_word b ≡ true → b < 128
continues_ascii b word = grind (arith, nat_tests)

begins_continues : (b : ℕ) → begins_word b ≡ true → continues_word b ≡ true
begins_continues b word = grind (arith, nat_tests)

word_ascii : (text : List ℕ) → IsAscii (take (word_len text) text)
word_ascii text =
    let within : word_len text ≤ length text = prefix_len-le-length continues_word text in
    IsAscii-from_reads (take (word_len text) text) (word_len text) (omega (arith, length-take-le (word_len text) text within))
    (λ k below. rw (get_or-take (word_len text) text k 0 below)
    (continues_ascii (get_or text k 0) (prefix_len_passes continues_word text k 0 below)))

valued_takes : (value : Option ℕ) (n : ℕ) (text : List ℕ) → 1 ≤ n → n ≤ length text → Takes (valued value n) text
valued_takes None n text some within = tt
valued_takes (Some value) n text some within = (some, within)

number_takes : (b : ℕ) (text : List ℕ) → is_ascii_digit b ≡ true → Takes (number (b ∷ text)) (b ∷ text)
number_takes b text digit =
    let n = decimal_len (b ∷ text) in
    either (λ h. Takes h (b ∷ text)) (begins_word (get_or (b ∷ text) n 0) || eqb b 48 && nat_lt 1 n) _ _ tt
    (valued_takes (below_2_64 (value_in 10 (take n (b ∷ text)))) n (b ∷ text)
    (prefix_some is_ascii_digit b text digit) (prefix_len-le-length is_ascii_digit (b ∷ text)))

one_byte_takes : (b : ℕ) (text : List ℕ) → 1 ≤ length text → Takes (one_byte_sign b) text
one_byte_takes b text some =
    let takes : Head → Type 0 = λ h. Takes h text in
    let one : (1 ≤ 1) × (1 ≤ length text) = (omega arith, some) in
    either takes (eqb b 40) _ _ one (either takes (eqb b 41) _ _ one (either takes (eqb b 91) _ _ one
    (either takes (eqb b 93) _ _ one (either takes (eqb b 123) _ _ one (either takes (eqb b 125) _ _ one
    (either takes (eqb b 44) _ _ one (either takes (eqb b 59) _ _ one (either takes (eqb b 61) _ _ one
    (either takes (eqb b 60) _ _ one (either takes (eqb b 43) _ _ one (either takes (eqb b 45) _ _ one
    (either takes (eqb b 94) _ _ one (either takes (eqb b 38) _ _ one (either takes (eqb b 124) _ _ one (tt)))))))))))))))

longest_takes : (b : ℕ) (text : List ℕ) → Takes (longest_sign b (get_or text 0 0)) (b ∷ text)
longest_takes b text =
    let c = get_or text 0 0 in
    let takes : Head → Type 0 = λ h. Takes h (b ∷ text) in
    let two : (k : ℕ) → 0 < k → (eqb b k && eqb c k) ≡ true → (1 ≤ 2) × (2 ≤ length (b ∷ text)) =
    λ k some is. (let second : c ≡ k = eqb-true c k (both (eqb b k) (eqb c k) is).1 in
    (omega arith, omega (arith, reads_within text 0 (omega arith)))) in
    when takes (eqb b 43 && eqb c 43) _ _ (two 43 (omega arith))
    (λ _. when takes (eqb b 60 && eqb c 60) _ _ (two 60 (omega arith))
    (λ _. when takes (eqb b 62 && eqb c 62) _ _ (two 62 (omega arith))
    (λ _. one_byte_takes b (b ∷ text) (omega arith))))

-- what the head of a text is lies within the text
pub head_takes : (text : List ℕ) → Takes (head_of text) text
head_takes [] = tt
head_takes (b ∷ text) =
    let takes : Head → Type 0 = λ h. Takes h (b ∷ text) in
    when takes (is_blank b) _ _ (λ _. omega arith)
    (λ _. when takes (begins_word b) _ _
    (λ word. (prefix_some continues_word b text (begins_continues b word), prefix_len-le-length continues_word (b ∷ text), word_ascii (b ∷ text)))
    (λ _. when takes (is_ascii_digit b) _ _ (number_takes b text)
    (λ _. longest_takes b text)))

-- a token lies within the text
pub token_within : (f : Form) (n : ℕ) (text : List ℕ) → Takes (head.Found f n) text → (1 ≤ n) × (n ≤ length text)
token_within form.Word n text held = (held.0, held.1)
token_within (form.Number value) n text held = held
token_within (form.Sign s) n text held = held

-- a word is ASCII
pub word_is_ascii : (f : Form) (n : ℕ) (text : List ℕ) → Takes (head.Found f n) text → f ≡ form.Word → IsAscii (take n text)
word_is_ascii form.Word n text held is = held.2
word_is_ascii (form.Number value) n text held is = absurd (cc)
word_is_ascii (form.Sign s) n text held is = absurd (cc)
