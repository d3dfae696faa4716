-- The tokens of numbers, of one letter, of signs, and of the type word of so many bits, at the head of a text.
use Rattle.std.proofs.Common.{◌≡◌, ℕ, ◌+◌, ◌*◌, ◌<◌, ◌^◌, ◌∙◌, Bool, true, false, ◌&&◌, eqb, List, [], ◌∷◌, ◌++◌, length, take, drop, get_or, decimal, Option, Some, None, refl, sym, ap, subst, arith}
use Rattle.std.specs.Prelude.{if◌then◌else◌}
use Rattle.std.specs.Char.{is_ascii_digit, digit_value}
use Rattle.std.specs.List.{fold, prefix_len, list_all}
use Rattle.std.specs.Option.{option_map}
use Rattle.std.specs.Str.Parse.{digits_value_after}
use Rattle.std.proofs.lemmas.Bool.{and_parts, and_from}
use Rattle.std.proofs.lemmas.Bool.Decides.{nat_tests}
use Rattle.std.proofs.lemmas.Fmt.{decimal_nonempty, first_decimal}
use Rattle.text_lines.proofs.WrittenLemmas.{decimal_digits, value_of_decimal, list_all_weaker}
use Rattle.tor_edge.specs.declared.place.Place.{Place}
use Rattle.usuba_tokens.specs.Bytes.{is_blank, begins_word, continues_word}
use Rattle.usuba_tokens.specs.Heads.{head_of, kind_of, number, found_sign}
use Rattle.usuba_tokens.specs.Numbers.{is_hexadecimal, number_len, decimal_len, number_value, value_in, below_2_64}
use Rattle.usuba_tokens.specs.Tokens.{Spells, next_place, place_after, gap, token}
use Rattle.usuba_tokens.specs.Words.{Meaning, is_positive_digit, is_plain, plain_number, below_2_32, type_or_name}
use Rattle.usuba_tokens.specs.declared.head.Form.{Form}
use Rattle.usuba_tokens.specs.declared.head.Form.TheVariants as form
use Rattle.usuba_tokens.specs.declared.head.Head.{Head}
use Rattle.usuba_tokens.specs.declared.head.Head.TheVariants as head
use Rattle.usuba_tokens.specs.declared.token.Base.TheVariants as base
use Rattle.usuba_tokens.specs.declared.token.Ending.{Ending}
use Rattle.usuba_tokens.specs.declared.token.Sign.{Sign}
use Rattle.usuba_tokens.specs.declared.token.Token.{Token}
use Rattle.usuba_tokens.specs.declared.token.TokenKind.{TokenKind}
use Rattle.usuba_tokens.specs.declared.token.TypeWord.{TypeWord}
use Rattle.usuba_tokens.specs.declared.token.TokenKind.TheVariants as kind
use Rattle.usuba_tokens.proofs.NumberLemmas.{small}
use Rattle.usuba_syntax.specs.Terminals.{sign, type_word}

-- one of two conditions that does not hold
and_no : (a b : Bool) → a ≡ false → (a && b) ≡ false
and_no a b fails = rw fails refl

digit_no_blank : (d : ℕ) → is_ascii_digit d ≡ true → is_blank d ≡ false
digit_no_blank d digit = grind (arith, nat_tests)

digit_no_slash : (d : ℕ) → is_ascii_digit d ≡ true → eqb d 47 ≡ false
digit_no_slash d digit = grind (arith, nat_tests)

digit_no_round : (d : ℕ) → is_ascii_digit d ≡ true → eqb d 40 ≡ false
digit_no_round d digit = grind (arith, nat_tests)

digit_no_word : (d : ℕ) → is_ascii_digit d ≡ true → begins_word d ≡ false
digit_no_word d digit = grind (arith, nat_tests)

digit_no_x : (d : ℕ) → is_ascii_digit d ≡ true → eqb d 120 ≡ false
digit_no_x d digit = grind (arith, nat_tests)

digit_continues : (d : ℕ) → is_ascii_digit d ≡ true → continues_word d ≡ true
digit_continues d digit = grind (arith, nat_tests)

-- the sixth of seven, where the tests before it fail
sixth : (blank line slash round word digit : Bool) (a b c d e f g : Head)
    → blank ≡ false → line ≡ false → slash ≡ false → round ≡ false → word ≡ false → digit ≡ true
    → (if blank then a else (if line then b else (if slash then c
    else (if round then d else (if word then e else (if digit then f else g)))))) ≡ f
sixth blank line slash round word digit a b c d e f g h1 h2 h3 h4 h5 h6 = rw (h1, h2, h3, h4, h5, h6) refl

-- a text that begins with a digit begins with a number
digit_begins : (d : ℕ) (text : List ℕ) → is_ascii_digit d ≡ true → head_of (d ∷ text) ≡ number (d ∷ text)
digit_begins d text digit =
    let next = get_or text 0 0 in
    sixth (is_blank d) (eqb d 47 && eqb next 47) (eqb d 47 && eqb next 42) (eqb d 40 && eqb next 42) (begins_word d)
    (is_ascii_digit d) _ _ _ _ _ _ _
    (digit_no_blank d digit) (and_no (eqb d 47) (eqb next 47) (digit_no_slash d digit))
    (and_no (eqb d 47) (eqb next 42) (digit_no_slash d digit))
    (and_no (eqb d 40) (eqb next 42) (digit_no_round d digit)) (digit_no_word d digit) digit

-- decimal digits, and what closes them, are not hexadecimal
not_hexadecimal : (first second third : Bool) → second ≡ false → ((first && second) && third) ≡ false
not_hexadecimal true second third fails = rw fails refl
not_hexadecimal false second third fails = refl

-- a byte that no number goes on with
abbrev pub EndsNumber : ℕ → Type 0
EndsNumber b = (is_ascii_digit b ≡ false) × (eqb b 120 ≡ false) × (begins_word b ≡ false) × (continues_word b ≡ false)

digits_not_hexadecimal : (ds : List ℕ) (b : ℕ) (rest : List ℕ) → 0 < length ds → list_all is_ascii_digit ds ≡ true
    → EndsNumber b
    → is_hexadecimal (ds ++ b ∷ rest) ≡ false
digits_not_hexadecimal [] b rest some digits ends = absurd (omega arith)
digits_not_hexadecimal (d ∷ []) b rest some digits ends = not_hexadecimal (eqb d 48) (eqb b 120) _ ends.1
digits_not_hexadecimal (d ∷ e ∷ ds) b rest some digits ends =
    let parts = and_parts (is_ascii_digit d) (list_all is_ascii_digit (e ∷ ds)) digits in
    let second = and_parts (is_ascii_digit e) (list_all is_ascii_digit ds) parts.1 in
    not_hexadecimal (eqb d 48) (eqb e 120) _ (digit_no_x e second.0)

alone_not_hexadecimal : (ds : List ℕ) → list_all is_ascii_digit ds ≡ true → is_hexadecimal ds ≡ false
alone_not_hexadecimal [] digits = refl
alone_not_hexadecimal (d ∷ []) digits = not_hexadecimal (eqb d 48) false _ refl
alone_not_hexadecimal (d ∷ e ∷ ds) digits =
    let parts = and_parts (is_ascii_digit d) (list_all is_ascii_digit (e ∷ ds)) digits in
    let second = and_parts (is_ascii_digit e) (list_all is_ascii_digit ds) parts.1 in
    not_hexadecimal (eqb d 48) (eqb e 120) _ (digit_no_x e second.0)

-- what passes a test, up to a byte that does not, is as long as it is
prefix_up_to : (p : ℕ → Bool) (ds : List ℕ) (b : ℕ) (rest : List ℕ) → list_all p ds ≡ true → p b ≡ false
    → prefix_len p (ds ++ b ∷ rest) ≡ length ds
prefix_up_to p [] b rest passes stops = rw stops refl
prefix_up_to p (d ∷ ds) b rest passes stops =
    let parts = and_parts (p d) (list_all p ds) passes in
    let more = prefix_up_to p ds b rest parts.1 stops in
    rw parts.0 (omega (arith, more))

byte_behind : (ds : List ℕ) (b : ℕ) (rest : List ℕ) → get_or (ds ++ b ∷ rest) (length ds) 0 ≡ b
byte_behind [] b rest = refl
byte_behind (d ∷ ds) b rest = byte_behind ds b rest

taken_front : (ds rest : List ℕ) → take (length ds) (ds ++ rest) ≡ ds
taken_front [] rest = refl
taken_front (d ∷ ds) rest = ap (λ xs. d ∷ xs) (taken_front ds rest)

dropped_front : (ds rest : List ℕ) → drop (length ds) (ds ++ rest) ≡ rest
dropped_front [] rest = refl
dropped_front (d ∷ ds) rest = dropped_front ds rest

-- the choice of a decimal number
second_of : (hexadecimal : Bool) (m n : ℕ) → hexadecimal ≡ false → (if hexadecimal then m else n) ≡ n
second_of hexadecimal m n fails = rw fails refl

number_ends : (ds : List ℕ) (b : ℕ) (rest : List ℕ) → 0 < length ds → list_all is_ascii_digit ds ≡ true → EndsNumber b
    → number_len (ds ++ b ∷ rest) ≡ length ds
number_ends ds b rest some digits ends =
    second_of (is_hexadecimal (ds ++ b ∷ rest)) _ (decimal_len (ds ++ b ∷ rest))
    (digits_not_hexadecimal ds b rest some digits ends)
    ∙ prefix_up_to is_ascii_digit ds b rest digits ends.0

-- digits at the head of a text are found as a number
digits_found : (ds : List ℕ) (b : ℕ) (rest : List ℕ) → 0 < length ds → list_all is_ascii_digit ds ≡ true → EndsNumber b
    → head_of (ds ++ b ∷ rest) ≡ head.Found form.Number (length ds)
digits_found [] b rest some digits ends = absurd (omega arith)
digits_found (d ∷ ds) b rest some digits ends =
    let parts = and_parts (is_ascii_digit d) (list_all is_ascii_digit ds) digits in
    let len = number_ends (d ∷ ds) b rest some digits ends in
    digit_begins d (ds ++ b ∷ rest) parts.0
    ∙ ap (λ (n : ℕ). if begins_word (get_or (d ∷ ds ++ b ∷ rest) n 0) then head.Broken else head.Found form.Number n)
    len
    ∙ ap (λ (c : ℕ). if begins_word c then head.Broken else head.Found form.Number (length (d ∷ ds)))
    (byte_behind (d ∷ ds) b rest)
    ∙ ap (λ (t : Bool). if t then head.Broken else head.Found form.Number (length (d ∷ ds))) ends.2

-- the value of digits, computed in two ways
values_agree : (n : ℕ) (ds : List ℕ) → fold (λ m digit. m * 10 + digit_value digit) n ds ≡ digits_value_after 10 n ds
values_agree n [] = refl
values_agree n (d ∷ ds) = values_agree (n * 10 + digit_value d) ds

-- the digits of a number are its token
decimal_kind : (n : ℕ) → n < 2 ^ 64 → kind_of form.Number (decimal n) ≡ kind.Number (Some n)
decimal_kind n fits =
    let digits = decimal_digits n fits in
    let value : number_value (decimal n) ≡ n
    = second_of (is_hexadecimal (decimal n)) _ (value_in 10 (decimal n)) (alone_not_hexadecimal (decimal n) digits)
    ∙ values_agree 0 (decimal n) ∙ value_of_decimal n fits in
    ap (λ v. kind.Number (below_2_64 v)) value ∙ ap kind.Number (small n fits)

-- a token that is found, and then what the rest spells
found_spelled : (at : Place) (text front rest : List ℕ) (n : ℕ) (f : Form) (k : TokenKind) (tokens : List Token)
    (end : Ending)
    → head_of text ≡ head.Found f n → take n text ≡ front → drop n text ≡ rest → kind_of f front ≡ k
    → Spells (place_after at front) rest tokens end → Spells at text (record { kind = k; place = at } ∷ tokens) end
found_spelled at text front rest n f k tokens end found front_is rest_is kind_is more =
    let moved : Spells (place_after at (take n text)) (drop n text) tokens end
    = subst (λ (r : List ℕ). Spells (place_after at (take n text)) r tokens end) (sym rest_is)
    (subst (λ (t : List ℕ). Spells (place_after at t) rest tokens end) (sym front_is) more) in
    subst (λ (j : TokenKind). Spells at text (record { kind = j; place = at } ∷ tokens) end)
    (ap (kind_of f) front_is ∙ kind_is)
    (token at text n f tokens end found moved)

-- a number, and then a byte that it does not go on with
pub number_spelled : (at : Place) (n b : ℕ) (rest : List ℕ) (tokens : List Token) (end : Ending) → n < 2 ^ 64
    → EndsNumber b
    → Spells (place_after at (decimal n)) (b ∷ rest) tokens end
    → Spells at (decimal n ++ b ∷ rest) (record { kind = kind.Number (Some n); place = at } ∷ tokens) end
number_spelled at n b rest tokens end fits ends more =
    found_spelled at (decimal n ++ b ∷ rest) (decimal n) (b ∷ rest) (length (decimal n)) form.Number
    (kind.Number (Some n)) tokens end
    (digits_found (decimal n) b rest (decimal_nonempty n fits) (decimal_digits n fits) ends)
    (taken_front (decimal n) (b ∷ rest)) (dropped_front (decimal n) (b ∷ rest)) (decimal_kind n fits) more

-- a sign of one byte
pub sign_spelled : (at : Place) (s : Sign) (b : ℕ) (rest : List ℕ) (tokens : List Token) (end : Ending)
    → head_of (b ∷ rest) ≡ found_sign s 1
    → Spells (next_place at b) rest tokens end → Spells at (b ∷ rest) (sign s at ∷ tokens) end
sign_spelled at s b rest tokens end found more = token at (b ∷ rest) 1 (form.Sign s) tokens end found more

-- a blank of one byte
pub blank_spelled : (at : Place) (b : ℕ) (rest : List ℕ) (tokens : List Token) (end : Ending)
    → head_of (b ∷ rest) ≡ head.Gap 1
    → Spells (next_place at b) rest tokens end → Spells at (b ∷ rest) tokens end
blank_spelled at b rest tokens end found more = gap at (b ∷ rest) 1 tokens end found more

positive_digit : (d : ℕ) → is_ascii_digit d ≡ true → 48 < d → is_positive_digit d ≡ true
positive_digit d digit high = grind (arith, nat_tests)

plain_digits : (ds : List ℕ) → list_all is_ascii_digit ds ≡ true → 48 < get_or ds 0 0 → is_plain ds ≡ true
plain_digits [] digits high = absurd (omega arith)
plain_digits (d ∷ ds) digits high =
    let parts = and_parts (is_ascii_digit d) (list_all is_ascii_digit ds) digits in
    and_from (is_positive_digit d) (list_all is_ascii_digit (d ∷ ds)) (positive_digit d parts.0 high) digits

short_number : (n : ℕ) → n < 2 ^ 32 → below_2_32 n ≡ Some n
short_number n fits = grind (arith, nat_tests)

-- the digits of a number are one without a leading zero
plain_decimal : (n : ℕ) → 0 < n → n < 2 ^ 32 → plain_number (decimal n) ≡ Some n
plain_decimal n some fits =
    let wide : n < 2 ^ 64 = omega (arith, fits) in
    let digits = decimal_digits n wide in
    ap (λ (t : Bool). if t then below_2_32 (value_in 10 (decimal n)) else None)
    (plain_digits (decimal n) digits (first_decimal n some wide))
    ∙ ap below_2_32 (values_agree 0 (decimal n) ∙ value_of_decimal n wide) ∙ short_number n fits

-- the type word `bN`
abbrev pub bits_word : ℕ → TypeWord
bits_word n = record { text = 98 ∷ decimal n; base = base.Bits 1; count = Some n }

bits_kind : (n : ℕ) → 0 < n → n < 2 ^ 32 → kind_of form.Word (98 ∷ decimal n) ≡ kind.TypeWord (bits_word n)
bits_kind n some fits =
    ap (λ (o : Option ℕ). type_or_name (option_map counted_bits o) (98 ∷ decimal n)) (plain_decimal n some fits)
  where
    counted_bits : ℕ → Meaning
    counted_bits m = (base.Bits 1, Some m)

-- it is found as a word
bits_found : (ds : List ℕ) (b : ℕ) (rest : List ℕ) → list_all is_ascii_digit ds ≡ true → EndsNumber b
    → head_of (98 ∷ ds ++ b ∷ rest) ≡ head.Found form.Word (length (98 ∷ ds))
bits_found ds b rest digits ends =
    let front = prefix_up_to continues_word ds b rest
    (list_all_weaker is_ascii_digit continues_word digit_continues ds digits) ends.3 in
    let len : 1 + prefix_len continues_word (ds ++ b ∷ rest) ≡ length (98 ∷ ds) = omega (arith, front) in
    ap (head.Found form.Word) len

pub bits_spelled : (at : Place) (n b : ℕ) (rest : List ℕ) (tokens : List Token) (end : Ending) → 0 < n → n < 2 ^ 32
    → EndsNumber b
    → Spells (place_after at (98 ∷ decimal n)) (b ∷ rest) tokens end
    → Spells at (98 ∷ decimal n ++ b ∷ rest) (type_word (bits_word n) at ∷ tokens) end
bits_spelled at n b rest tokens end some fits ends more =
    let wide : n < 2 ^ 64 = omega (arith, fits) in
    found_spelled at (98 ∷ decimal n ++ b ∷ rest) (98 ∷ decimal n) (b ∷ rest) (length (98 ∷ decimal n)) form.Word
    (kind.TypeWord (bits_word n)) tokens end
    (bits_found (decimal n) b rest (decimal_digits n wide) ends)
    (taken_front (98 ∷ decimal n) (b ∷ rest)) (dropped_front (98 ∷ decimal n) (b ∷ rest)) (bits_kind n some fits) more
