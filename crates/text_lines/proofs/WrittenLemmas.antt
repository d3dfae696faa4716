-- The words and the lines of a text that is written as lines of words.
use Rattle.std.proofs.Common.{◌≡◌, ◌≢◌, ℕ, ◌^◌, ◌<◌, ◌≤◌, Bool, true, eqb, leb, not, List, [], ◌∷◌, ◌++◌, length, get_or, Some, refl, ap, ◌∙◌, inl, inr, arith, append_assoc, append-nil, codes, decimal, rules}
use Rattle.std.specs.Char.{is_ascii_digit}
use Rattle.std.specs.List.{slice_split, onto_first, list_all}
use Rattle.std.proofs.lemmas.Bool.{cases_Bool, and_parts, and_from, not-true, not_from_false, ne_eqb, eqb-true, eqb-false, leb-true, eq-eqb}
use Rattle.std.proofs.lemmas.Fmt.{digits_decimal, digits_value-decimal, first_decimal, decimal_nonempty, length-decimal-le}
use Rattle.std.proofs.lemmas.List.Splits.{slice_split-cons_yes, slice_split-cons_no}
use Rattle.std.proofs.lemmas.Str.Parse.{IsDigitsTest, IsNumeralModel, numerals_by_value}
use Rattle.text_lines.specs.Words.{words_of, spaced, line_text, is_plain, is_plain_word, are_plain_words}
use Rattle.text_lines.specs.Lines.{lines_of}
use Rattle.text_lines.specs.Numbers.{is_number, value_of}
use Rattle.text_lines.proofs.LineLemmas.{lines_of_first}

-- a weaker test passes too
pub list_all_weaker : {X : Type 0} (p q : X → Bool) → ((x : X) → p x ≡ true → q x ≡ true) → (xs : List X) → list_all p xs ≡ true → list_all q xs ≡ true
list_all_weaker p q weaker [] h = refl
list_all_weaker p q weaker (x ∷ xs) h =
    let w = and_parts (p x) (list_all p xs) h in
    and_from (q x) (list_all q xs) (weaker x w.0) (list_all_weaker p q weaker xs w.1)

-- a test that passes on two lists passes on both together
pub list_all_append : {X : Type 0} (p : X → Bool) (xs ys : List X) → list_all p xs ≡ true → list_all p ys ≡ true → list_all p (xs ++ ys) ≡ true
list_all_append p [] ys h k = k
list_all_append p (x ∷ xs) ys h k =
    let w = and_parts (p x) (list_all p xs) h in
    and_from (p x) (list_all p (xs ++ ys)) w.0 (list_all_append p xs ys w.1 k)

-- a part that is cut off where the first byte equals `at`
pub split_word : (at : ℕ) (xs ys : List ℕ) → list_all (λ byte. not (eqb byte at)) xs ≡ true
    → slice_split (λ byte. eqb byte at) (xs ++ at ∷ ys) ≡ xs ∷ slice_split (λ byte. eqb byte at) ys
split_word at [] ys h = slice_split-cons_yes (λ byte. eqb byte at) at ys (eq-eqb at at refl)
split_word at (x ∷ xs) ys h =
    let w = and_parts (not (eqb x at)) (list_all (λ byte. not (eqb byte at)) xs) h in
    slice_split-cons_no (λ byte. eqb byte at) x (xs ++ at ∷ ys) (not-true (eqb x at) w.0) ∙ ap (onto_first x) (split_word at xs ys w.1)

-- the last part
pub split_last : (at : ℕ) (xs : List ℕ) → list_all (λ byte. not (eqb byte at)) xs ≡ true → slice_split (λ byte. eqb byte at) xs ≡ xs ∷ []
split_last at [] h = refl
split_last at (x ∷ xs) h =
    let w = and_parts (not (eqb x at)) (list_all (λ byte. not (eqb byte at)) xs) h in
    slice_split-cons_no (λ byte. eqb byte at) x xs (not-true (eqb x at) w.0) ∙ ap (onto_first x) (split_last at xs w.1)

without_blanks : (word : List ℕ) → is_plain_word word ≡ true → list_all (λ byte. not (eqb byte 32)) word ≡ true
without_blanks word h = list_all_weaker is_plain (λ byte. not (eqb byte 32)) (λ x e. (and_parts (not (eqb x 32)) (not (eqb x 10)) e).0) word h

without_lfs : (word : List ℕ) → is_plain_word word ≡ true → list_all (λ byte. not (eqb byte 10)) word ≡ true
without_lfs word h = list_all_weaker is_plain (λ byte. not (eqb byte 10)) (λ x e. (and_parts (not (eqb x 32)) (not (eqb x 10)) e).1) word h

-- the words of a line are those that it is written of
pub words_of_line : (word : List ℕ) (words : List (List ℕ)) → are_plain_words (word ∷ words) ≡ true → words_of (word ++ spaced words) ≡ word ∷ words
words_of_line word [] h =
    let w = and_parts (is_plain_word word) true h in
    ap words_of (append-nil word) ∙ split_last 32 word (without_blanks word w.0)
words_of_line word (next ∷ words) h =
    let w = and_parts (is_plain_word word) (are_plain_words (next ∷ words)) h in
    split_word 32 word (next ++ spaced words) (without_blanks word w.0) ∙ ap (λ (ws : List (List ℕ)). word ∷ ws) (words_of_line next words w.1)

spaced_without_lfs : (words : List (List ℕ)) → are_plain_words words ≡ true → list_all (λ byte. not (eqb byte 10)) (spaced words) ≡ true
spaced_without_lfs [] h = refl
spaced_without_lfs (word ∷ words) h =
    let w = and_parts (is_plain_word word) (are_plain_words words) h in
    list_all_append (λ byte. not (eqb byte 10)) word (spaced words) (without_lfs word w.0) (spaced_without_lfs words w.1)

-- the first line of a text is the line of words that stands there
pub lines_of_line : (word : List ℕ) (words : List (List ℕ)) (rest : List ℕ) → are_plain_words (word ∷ words) ≡ true
    → lines_of (line_text (word ∷ words) ++ rest) ≡ Some (word ∷ words) ∷ lines_of rest
lines_of_line word words rest h =
    let w = and_parts (is_plain_word word) (are_plain_words words) h in
    let line : List ℕ = word ++ spaced words in
    let text : line_text (word ∷ words) ++ rest ≡ line ++ (10 ∷ rest) = append_assoc line (codes "\n") rest in
    let no_lf : list_all (λ byte. not (eqb byte 10)) line ≡ true =
    list_all_append (λ byte. not (eqb byte 10)) word (spaced words) (without_lfs word w.0) (spaced_without_lfs words w.1) in
    ap lines_of text
    ∙ lines_of_first (line ++ (10 ∷ rest)) line rest (split_word 10 line rest no_lf)
    ∙ ap (λ (ws : List (List ℕ)). Some ws ∷ lines_of rest) (words_of_line word words h)

-- decimal digits by a test of each
digits_test : IsDigitsTest (λ ds. list_all is_ascii_digit ds ≡ true)
digits_test = search rules

-- digits of numbers, by a test of each
pub digits_model : IsNumeralModel (λ ds. list_all is_ascii_digit ds ≡ true) value_of
digits_model = numerals_by_value (λ ds. list_all is_ascii_digit ds ≡ true) digits_test

is_number_of_digits : (ds : List ℕ) → list_all is_ascii_digit ds ≡ true → 0 < length ds → (2 ≤ length ds → 48 < get_or ds 0 0) → is_number ds ≡ true
is_number_of_digits [] h some more = absurd (omega arith)
is_number_of_digits (d ∷ []) h some more = (and_parts (is_ascii_digit d) true h).0
is_number_of_digits (d ∷ e ∷ ds) h some more =
    let high : 48 < d = more (omega arith) in
    and_from (not (eqb d 48)) (list_all is_ascii_digit (d ∷ e ∷ ds)) (not_from_false (eqb d 48) (ne_eqb d 48 (λ (z : d ≡ 48). omega arith))) h

-- what is written of a number is a number, is its number, and is one word
pub decimal_digits : (n : ℕ) → n < 2 ^ 64 → list_all is_ascii_digit (decimal n) ≡ true
decimal_digits n h = digits_decimal digits_model n h

pub value_of_decimal : (n : ℕ) → n < 2 ^ 64 → value_of (decimal n) ≡ n
value_of_decimal n h = digits_value-decimal digits_model n h

first_above : (n : ℕ) → n < 2 ^ 64 → 2 ≤ length (decimal n) → 48 < get_or (decimal n) 0 0
first_above n h long =
    elim (cases_Bool (eqb n 0)) [
      | inl zero_is ↦
          (let z : n ≡ 0 = eqb-true n 0 zero_is in
          let short : length (decimal n) ≤ 1 = length-decimal-le 1 n (omega arith) (omega arith) h in absurd (omega arith))
      | inr above ↦ (let pos : 0 < n = let ne : n ≢ 0 = eqb-false n 0 above in omega arith in first_decimal n pos h)
    ]

pub is_number_decimal : (n : ℕ) → n < 2 ^ 64 → is_number (decimal n) ≡ true
is_number_decimal n h = is_number_of_digits (decimal n) (decimal_digits n h) (decimal_nonempty n h) (first_above n h)

plain_digit : (x : ℕ) → is_ascii_digit x ≡ true → is_plain x ≡ true
plain_digit x h =
    let w = and_parts (leb 48 x) (leb x 57) h in
    let low : 48 ≤ x = leb-true 48 x w.0 in
    and_from (not (eqb x 32)) (not (eqb x 10)) (not_from_false (eqb x 32) (ne_eqb x 32 (λ (e : x ≡ 32). omega arith)))
    (not_from_false (eqb x 10) (ne_eqb x 10 (λ (e : x ≡ 10). omega arith)))

pub is_plain_decimal : (n : ℕ) → n < 2 ^ 64 → is_plain_word (decimal n) ≡ true
is_plain_decimal n h = list_all_weaker is_ascii_digit is_plain plain_digit (decimal n) (decimal_digits n h)

-- the same for all the words of a line, of which there is one or more
pub lines_of_words : (words : List (List ℕ)) (rest : List ℕ) → words ≢ [] → are_plain_words words ≡ true
    → lines_of (line_text words ++ rest) ≡ Some words ∷ lines_of rest
lines_of_words [] rest some h = absurd (some refl)
lines_of_words (word ∷ words) rest some h = lines_of_line word words rest h
