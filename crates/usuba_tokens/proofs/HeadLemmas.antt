-- What the head of a text is lies within the text, and a word is ASCII.
use Rattle.std.proofs.Common.{◌≡◌, ℕ, zero, suc, ◌+◌, ◌-◌, ◌<◌, ◌≤◌, Bool, true, ◌&&◌, cond, eqb, List, [], ◌∷◌, length, get_or, take, drop, Option, Some, None, refl, ap, ◌∙◌, arith, eq-eqb, eqb-true, add-zero, length-drop, length-take-le}
use Rattle.std.specs.Char.{is_ascii_digit, is_ascii_hexdigit}
use Rattle.std.specs.List.{prefix_len}
use Rattle.std.specs.Option.{option_map, IfSome}
use Rattle.std.specs.Str.{IsAscii}
use Rattle.std.proofs.lemmas.Bool.Decides.{nat_tests}
use Rattle.std.proofs.lemmas.List.{at_drop_more, get_or-drop, get_or-take}
use Rattle.std.proofs.lemmas.List.Sums.{prefix_len-le-length, prefix_len_passes}
use Rattle.std.proofs.lemmas.Str.Ascii.{IsAscii-from_reads}
use Rattle.usuba_tokens.specs.Bytes.{is_blank, is_in_line, begins_word, continues_word}
use Rattle.usuba_tokens.specs.Numbers.{is_hexadecimal, number_len, decimal_len, hexadecimal_len}
use Rattle.usuba_tokens.specs.Heads.{closing, commented, word_len, line_len, number, one_byte_sign, longest_sign, head_of}
use Rattle.usuba_tokens.specs.declared.head.Form.{Form}
use Rattle.usuba_tokens.specs.declared.head.Form.TheVariants as form
use Rattle.usuba_tokens.specs.declared.head.Head.{Head}
use Rattle.usuba_tokens.specs.declared.head.Head.TheVariants as head
use Rattle.usuba_tokens.proofs.Choices.{when, either, both, not_both}

-- whether the close stands at the next place
closing-drop : (last : ℕ) (text : List ℕ) (at : ℕ) → at < length text → closing last (drop at text) ≡ cond (eqb (get_or text at 0) 42 && eqb (get_or text (at + 1) 0) last) (Some 2) (option_map (λ n. n + 1) (closing last (drop (at + 1) text)))
closing-drop last text at within =
    at_drop_more (closing last) text at 0 within ∙ ap (λ b. cond (eqb (get_or text at 0) 42 && eqb b last) (Some 2) (option_map (λ n. n + 1) (closing last (drop (at + 1) text)))) (get_or-drop (at + 1) text 0 0 ∙ ap (λ i. get_or text i 0) (add-zero (at + 1)))

-- the close stands here
pub closing-here : (last : ℕ) (text : List ℕ) (at : ℕ) → at < length text → get_or text at 0 ≡ 42 → get_or text (at + 1) 0 ≡ last → closing last (drop at text) ≡ Some 2
closing-here last text at within star close =
    let is_star = eq-eqb _ _ star in
    let is_last = eq-eqb _ _ close in
    closing-drop last text at within ∙ (rw (is_star, is_last) refl)

-- the close does not stand here
pub closing-on : (last : ℕ) (text : List ℕ) (at : ℕ) → at < length text → (get_or text at 0 ≡ 42 → get_or text (at + 1) 0 ≡ last → ⊥) → closing last (drop at text) ≡ option_map (λ n. n + 1) (closing last (drop (at + 1) text))
closing-on last text at within apart =
    let other = not_both (eqb (get_or text at 0) 42) (eqb (get_or text (at + 1) 0) last) (λ star close. apart (eqb-true _ _ star) (eqb-true _ _ close)) in
    closing-drop last text at within ∙ (rw other refl)

-- a text reads as 0 past its end
pub reads_within : (text : List ℕ) (i : ℕ) → 0 < get_or text i 0 → i < length text
reads_within [] i some = absurd (omega arith)
reads_within (x ∷ xs) zero some = omega arith
reads_within (x ∷ xs) (suc i) some = omega (arith, reads_within xs i some)

-- the head takes one byte or more, and none past the end; a word is ASCII
abbrev pub Takes : Head → List ℕ → Type 0
Takes head.End text = Unit {0}
Takes head.Broken text = Unit {0}
Takes (head.Gap n) text = (1 ≤ n) × (n ≤ length text)
Takes (head.Found form.Word n) text = (1 ≤ n) × (n ≤ length text) × IsAscii (take n text)
Takes (head.Found form.Number n) text = (1 ≤ n) × (n ≤ length text)
Takes (head.Found (form.Sign s) n) text = (1 ≤ n) × (n ≤ length text)

one_more : (found : Option ℕ) (k : ℕ) → IfSome found (λ n. n ≤ k) → IfSome (option_map (λ n. n + 1) found) (λ n. n ≤ suc k)
one_more None k held = tt
one_more (Some n) k held = omega (arith, held)

-- the close stands within the text
closing_within : (last : ℕ) (text : List ℕ) → 0 < last → IfSome (closing last text) (λ n. n ≤ length text)
closing_within last [] some = tt
closing_within last (b ∷ text) some =
    when (λ found. IfSome found (λ n. n ≤ length (b ∷ text))) (eqb b 42 && eqb (get_or text 0 0) last) _ _
    (λ here. let close : get_or text 0 0 ≡ last = eqb-true (get_or text 0 0) last (both (eqb b 42) (eqb (get_or text 0 0) last) here).1 in let within : 0 < length text = reads_within text 0 (omega arith) in omega arith)
    (λ _. one_more (closing last text) (length text) (closing_within last text some))

commented_takes : (found : Option ℕ) (text : List ℕ) → IfSome found (λ n. 2 + n ≤ length text) → Takes (commented found) text
commented_takes None text held = tt
commented_takes (Some n) text held = (omega arith, held)

pub prefix_some : (p : ℕ → Bool) (b : ℕ) (text : List ℕ) → p b ≡ true → 1 ≤ prefix_len p (b ∷ text)
prefix_some p b text passes = rw passes (omega arith)

continues_ascii : (b : ℕ) → continues_word b ≡ true → b < 128
continues_ascii b word = grind (arith, nat_tests)

pub begins_continues : (b : ℕ) → begins_word b ≡ true → continues_word b ≡ true
begins_continues b word = grind (arith, nat_tests)

word_ascii : (text : List ℕ) → IsAscii (take (word_len text) text)
word_ascii text =
    let within : word_len text ≤ length text = prefix_len-le-length continues_word text in
    IsAscii-from_reads (take (word_len text) text) (word_len text) (omega (arith, length-take-le (word_len text) text within))
    (λ k below. rw (get_or-take (word_len text) text k 0 below) (continues_ascii (get_or text k 0) (prefix_len_passes continues_word text k 0 below)))

pub number_len_within : (b : ℕ) (text : List ℕ) → is_ascii_digit b ≡ true → (1 ≤ number_len (b ∷ text)) × (number_len (b ∷ text) ≤ length (b ∷ text))
number_len_within b text digit =
    when (λ n. (1 ≤ n) × (n ≤ length (b ∷ text))) (is_hexadecimal (b ∷ text)) (2 + hexadecimal_len (drop 1 text)) (decimal_len (b ∷ text))
    (λ hexadecimal.
    let second : get_or text 0 0 ≡ 120 = eqb-true (get_or text 0 0) 120 (both (eqb b 48) (eqb (get_or text 0 0) 120) (both (eqb b 48 && eqb (get_or text 0 0) 120) (is_ascii_hexdigit (get_or text 1 0)) hexadecimal).0).1 in
    let some : 0 < length text = reads_within text 0 (omega arith) in
    let digits : hexadecimal_len (drop 1 text) ≤ length (drop 1 text) = prefix_len-le-length is_ascii_hexdigit (drop 1 text) in
    let left : length (drop 1 text) ≡ length text - 1 = length-drop 1 text in
    (omega arith, omega arith))
    (λ _. (prefix_some is_ascii_digit b text digit, prefix_len-le-length is_ascii_digit (b ∷ text)))

number_takes : (b : ℕ) (text : List ℕ) → is_ascii_digit b ≡ true → Takes (number (b ∷ text)) (b ∷ text)
number_takes b text digit =
    let within = number_len_within b text digit in
    when (λ h. Takes h (b ∷ text)) (begins_word (get_or (b ∷ text) (number_len (b ∷ text)) 0)) _ _ (λ _. tt) (λ _. (within.0, within.1))

one_byte_takes : (b : ℕ) (text : List ℕ) → 1 ≤ length text → Takes (one_byte_sign b) text
one_byte_takes b text some =
    let takes : Head → Type 0 = λ h. Takes h text in
    let one : (1 ≤ 1) × (1 ≤ length text) = (omega arith, some) in
    either takes (eqb b 40) _ _ one (either takes (eqb b 41) _ _ one (either takes (eqb b 91) _ _ one (either takes (eqb b 93) _ _ one (either takes (eqb b 123) _ _ one (either takes (eqb b 125) _ _ one (either takes (eqb b 44) _ _ one (either takes (eqb b 59) _ _ one (either takes (eqb b 58) _ _ one (either takes (eqb b 61) _ _ one (either takes (eqb b 126) _ _ one (either takes (eqb b 38) _ _ one (either takes (eqb b 94) _ _ one (either takes (eqb b 124) _ _ one (either takes (eqb b 43) _ _ one (either takes (eqb b 45) _ _ one (either takes (eqb b 42) _ _ one (either takes (eqb b 47) _ _ one (either takes (eqb b 37) _ _ one (tt)))))))))))))))))))

pub longest_takes : (b : ℕ) (text : List ℕ) → Takes (longest_sign b (get_or text 0 0) (get_or text 1 0)) (b ∷ text)
longest_takes b text =
    let c = get_or text 0 0 in
    let d = get_or text 1 0 in
    let takes : Head → Type 0 = λ h. Takes h (b ∷ text) in
    when takes ((eqb b 60 && eqb c 60) && eqb d 60) _ _ (λ is. let third : d ≡ 60 = eqb-true d 60 (both (eqb b 60 && eqb c 60) (eqb d 60) is).1 in (omega arith, omega (arith, reads_within text 1 (omega arith))))
    (λ _. when takes ((eqb b 62 && eqb c 62) && eqb d 62) _ _ (λ is. let third : d ≡ 62 = eqb-true d 62 (both (eqb b 62 && eqb c 62) (eqb d 62) is).1 in (omega arith, omega (arith, reads_within text 1 (omega arith))))
    (λ _. when takes (eqb b 60 && eqb c 60) _ _ (λ is. let second : c ≡ 60 = eqb-true c 60 (both (eqb b 60) (eqb c 60) is).1 in (omega arith, omega (arith, reads_within text 0 (omega arith))))
    (λ _. when takes (eqb b 62 && eqb c 62) _ _ (λ is. let second : c ≡ 62 = eqb-true c 62 (both (eqb b 62) (eqb c 62) is).1 in (omega arith, omega (arith, reads_within text 0 (omega arith))))
    (λ _. when takes (eqb b 46 && eqb c 46) _ _ (λ is. let second : c ≡ 46 = eqb-true c 46 (both (eqb b 46) (eqb c 46) is).1 in (omega arith, omega (arith, reads_within text 0 (omega arith))))
    (λ _. one_byte_takes b (b ∷ text) (omega arith))))))

line_takes : (b : ℕ) (text : List ℕ) → b ≡ 47 → Takes (head.Gap (line_len (b ∷ text))) (b ∷ text)
line_takes b text is = (prefix_some is_in_line b text (ap is_in_line is), prefix_len-le-length is_in_line (b ∷ text))

behind_two : (found : Option ℕ) (k len : ℕ) → 2 + k ≤ len → IfSome found (λ n. n ≤ k) → IfSome found (λ n. 2 + n ≤ len)
behind_two None k len room held = tt
behind_two (Some n) k len room held = omega (arith, held)

comment_takes : (last b : ℕ) (text : List ℕ) → 0 < last → get_or text 0 0 ≡ 42 → Takes (commented (closing last (drop 1 text))) (b ∷ text)
comment_takes last b text some star =
    let within : 0 < length text = reads_within text 0 (omega arith) in
    let left : length (drop 1 text) ≡ length text - 1 = length-drop 1 text in
    commented_takes (closing last (drop 1 text)) (b ∷ text) (behind_two (closing last (drop 1 text)) (length (drop 1 text)) (length (b ∷ text)) (omega arith) (closing_within last (drop 1 text) some))

pub head_takes : (text : List ℕ) → Takes (head_of text) text
head_takes [] = tt
head_takes (b ∷ text) =
    let next = get_or text 0 0 in
    let takes : Head → Type 0 = λ h. Takes h (b ∷ text) in
    when takes (is_blank b) _ _ (λ _. (omega arith, omega arith))
    (λ _. when takes (eqb b 47 && eqb next 47) _ _ (λ is. line_takes b text (eqb-true _ _ (both _ _ is).0))
    (λ _. when takes (eqb b 47 && eqb next 42) _ _ (λ is. comment_takes 47 b text (omega arith) (eqb-true _ _ (both _ _ is).1))
    (λ _. when takes (eqb b 40 && eqb next 42) _ _ (λ is. comment_takes 41 b text (omega arith) (eqb-true _ _ (both _ _ is).1))
    (λ _. when takes (begins_word b) _ _ (λ word. (prefix_some continues_word b text (begins_continues b word), prefix_len-le-length continues_word (b ∷ text), word_ascii (b ∷ text)))
    (λ _. when takes (is_ascii_digit b) _ _ (number_takes b text)
    (λ _. longest_takes b text))))))

-- a token lies within the text
pub token_within : (f : Form) (n : ℕ) (text : List ℕ) → Takes (head.Found f n) text → (1 ≤ n) × (n ≤ length text)
token_within form.Word n text held = (held.0, held.1)
token_within form.Number n text held = held
token_within (form.Sign s) n text held = held

pub word_is_ascii : (f : Form) (n : ℕ) (text : List ℕ) → Takes (head.Found f n) text → f ≡ form.Word → IsAscii (take n text)
word_is_ascii form.Word n text held is = held.2
word_is_ascii form.Number n text held is = absurd (cc)
word_is_ascii (form.Sign s) n text held is = absurd (cc)
