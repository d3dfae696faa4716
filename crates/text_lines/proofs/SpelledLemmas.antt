-- What was read, from what it says: the bytes of a line from its words, and those of a number from its value.
use Rattle.std.proofs.Common.{◌≡◌, ℕ, ◌^◌, ◌<◌, true, eqb, not, List, [], ◌∷◌, ◌++◌, length, get_or, Option, None, Some, refl, sym, ap, ◌∙◌, inl, inr, arith, append_assoc, append-nil, codes, decimal}
use Rattle.std.specs.Char.{is_ascii_digit}
use Rattle.std.specs.List.{slice_split, onto_first, join_with_byte, list_all}
use Rattle.std.proofs.lemmas.Bool.{false≢true, cases_Bool, and_parts, and_from, not-true, eqb-true, eqb-false}
use Rattle.std.proofs.lemmas.Fmt.{decimal-digits_value}
use Rattle.std.proofs.lemmas.List.Splits.{slice_split-cons_yes, slice_split-cons_no, join_with_byte-slice_split}
use Rattle.text_lines.specs.Lines.{last_line, lines_of_parts, lines_of}
use Rattle.text_lines.specs.Numbers.{is_number, value_of}
use Rattle.text_lines.specs.Words.{words_of, spaced, line_text}
use Rattle.text_lines.proofs.LineLemmas.{some_part}
use Rattle.text_lines.proofs.WrittenLemmas.{digits_model}

heads : {X : Type 0} (x y : X) (xs ys : List X) → x ∷ xs ≡ y ∷ ys → x ≡ y
heads x y xs ys e = cc

tails : {X : Type 0} (x y : X) (xs ys : List X) → x ∷ xs ≡ y ∷ ys → xs ≡ ys
tails x y xs ys e = cc

no_second : (part next : List ℕ) (parts : List (List ℕ)) → [] ∷ [] ≡ part ∷ next ∷ parts → ⊥
no_second part next parts e = cc

-- where a text is cut more than once, the first part ends at the byte where it is cut
first_part_back : (at : ℕ) (text part next : List ℕ) (parts : List (List ℕ)) → slice_split (λ byte. eqb byte at) text ≡ part ∷ next ∷ parts
    → (rest : List ℕ) × (text ≡ part ++ at ∷ rest) × (slice_split (λ byte. eqb byte at) rest ≡ next ∷ parts)
first_part_back at [] part next parts h = absurd (no_second part next parts h)
first_part_back at (x ∷ xs) part next parts h =
    elim (cases_Bool (eqb x at)) [
      | inl passes ↦
          (let e : [] ∷ slice_split (λ byte. eqb byte at) xs ≡ part ∷ next ∷ parts = sym (slice_split-cons_yes (λ byte. eqb byte at) x xs passes) ∙ h in
          let empty : [] ≡ part = heads [] part (slice_split (λ byte. eqb byte at) xs) (next ∷ parts) e in
          let more : slice_split (λ byte. eqb byte at) xs ≡ next ∷ parts = tails [] part (slice_split (λ byte. eqb byte at) xs) (next ∷ parts) e in
          (xs, ap (λ (b : ℕ). b ∷ xs) (eqb-true x at passes) ∙ ap (λ (p : List ℕ). p ++ at ∷ xs) empty, more))
      | inr fails ↦
          (let w = some_part (λ byte. eqb byte at) xs in
          let e : (x ∷ w.0) ∷ w.1 ≡ part ∷ next ∷ parts = sym (slice_split-cons_no (λ byte. eqb byte at) x xs fails ∙ ap (onto_first x) w.2) ∙ h in
          let first : x ∷ w.0 ≡ part = heads (x ∷ w.0) part w.1 (next ∷ parts) e in
          let more : w.1 ≡ next ∷ parts = tails (x ∷ w.0) part w.1 (next ∷ parts) e in
          let v = first_part_back at xs w.0 next parts (w.2 ∙ ap (λ (ps : List (List ℕ)). w.0 ∷ ps) more) in
          (v.0, ap (λ (bs : List ℕ). x ∷ bs) v.1 ∙ ap (λ (p : List ℕ). p ++ at ∷ v.0) first, v.2))
    ]

joined_words : (word : List ℕ) (words : List (List ℕ)) → join_with_byte 32 (word ∷ words) ≡ word ++ spaced words
joined_words word [] = sym (append-nil word)
joined_words word (next ∷ words) = ap (λ (t : List ℕ). word ++ 32 ∷ t) (joined_words next words)

no_words : (word : List ℕ) (words : List (List ℕ)) → word ∷ words ≡ [] → ⊥
no_words word words e = cc

-- a line is written of its words
line_back : (line : List ℕ) (words : List (List ℕ)) → words_of line ≡ words → line_text words ≡ line ++ codes "\n"
line_back line [] e = let w = some_part (λ byte. eqb byte 32) line in absurd (no_words w.0 w.1 (sym w.2 ∙ e))
line_back line (word ∷ words) e =
    let joined : line ≡ word ++ spaced words = sym (join_with_byte-slice_split 32 line) ∙ ap (join_with_byte 32) e ∙ joined_words word words in
    ap (λ (l : List ℕ). l ++ codes "\n") (sym joined)

no_line : (words : List (List ℕ)) (lines : List (Option (List (List ℕ)))) → [] ≡ Some words ∷ lines → ⊥
no_line words lines e = cc

no_end : (words : List (List ℕ)) (lines : List (Option (List (List ℕ)))) → None ∷ [] ≡ Some words ∷ lines → ⊥
no_end words lines e = cc

last_has_no_words : (last : List ℕ) (words : List (List ℕ)) (lines : List (Option (List (List ℕ)))) → last_line last ≡ Some words ∷ lines → ⊥
last_has_no_words [] words lines e = no_line words lines e
last_has_no_words (b ∷ bs) words lines e = no_end words lines e

first_words_are : (a b : List (List ℕ)) (xs ys : List (Option (List (List ℕ)))) → Some a ∷ xs ≡ Some b ∷ ys → a ≡ b
first_words_are a b xs ys e = cc

parts_back : (text : List ℕ) (parts words : List (List ℕ)) (lines : List (Option (List (List ℕ)))) → slice_split (λ byte. eqb byte 10) text ≡ parts
    → lines_of_parts parts ≡ Some words ∷ lines → (rest : List ℕ) × (text ≡ line_text words ++ rest) × (lines_of rest ≡ lines)
parts_back text [] words lines e h = absurd (no_line words lines h)
parts_back text (last ∷ []) words lines e h = absurd (last_has_no_words last words lines h)
parts_back text (part ∷ next ∷ parts) words lines e h =
    let w = first_part_back 10 text part next parts e in
    let these : words_of part ≡ words = first_words_are (words_of part) words (lines_of_parts (next ∷ parts)) lines h in
    let others : lines_of_parts (next ∷ parts) ≡ lines = tails (Some (words_of part)) (Some words) (lines_of_parts (next ∷ parts)) lines h in (
      w.0,
      w.1 ∙ sym (append_assoc part (codes "\n") w.0) ∙ ap (λ (l : List ℕ). l ++ w.0) (sym (line_back part words these)),
      ap lines_of_parts w.2 ∙ others,
    )

-- a text with a first line is that line and the text of the others
pub text_back_of : (text : List ℕ) (words : List (List ℕ)) (lines : List (Option (List (List ℕ)))) → lines_of text ≡ Some words ∷ lines
    → (rest : List ℕ) × (text ≡ line_text words ++ rest) × (lines_of rest ≡ lines)
text_back_of text words lines e = parts_back text (slice_split (λ byte. eqb byte 10) text) words lines refl e

number_digits : (word : List ℕ) → is_number word ≡ true → list_all is_ascii_digit word ≡ true
number_digits [] h = absurd (false≢true h)
number_digits (d ∷ []) h = and_from (is_ascii_digit d) true h refl
number_digits (d ∷ e ∷ ds) h = (and_parts (not (eqb d 48)) (list_all is_ascii_digit (d ∷ e ∷ ds)) h).1

number_nonempty : (word : List ℕ) → is_number word ≡ true → 0 < length word
number_nonempty [] h = absurd (false≢true h)
number_nonempty (d ∷ ds) h = omega arith

number_zero : (word : List ℕ) → is_number word ≡ true → get_or word 0 0 ≡ 48 → length word ≡ 1
number_zero [] h z = absurd (false≢true h)
number_zero (d ∷ []) h z = refl
number_zero (d ∷ e ∷ ds) h z =
    let w = and_parts (not (eqb d 48)) (list_all is_ascii_digit (d ∷ e ∷ ds)) h in
    absurd (eqb-false d 48 (not-true (eqb d 48) w.0) z)

-- a number is written of its value
pub number_word : (word : List ℕ) (n : ℕ) → is_number word ≡ true → value_of word ≡ n → n < 2 ^ 64 → word ≡ decimal n
number_word word n h e small =
    sym (decimal-digits_value digits_model word (number_digits word h) (number_nonempty word h) (number_zero word h) (omega arith)) ∙ ap decimal e
