-- What `parse` makes of 1 to 20 digits.
use Rattle.std.proofs.Common.{◌≡◌, ◌∙◌, ◌<◌, ◌^◌, ℕ, Bool, true, false, ◌&&◌, List, [], ◌∷◌, length, refl, sym, ap, Result, true≢false, nat_le}
use Rattle.std.specs.Char.{is_ascii_digit}
use Rattle.std.specs.List.{list_all}
use Rattle.std.specs.Str.{all_ascii_digits}
use Rattle.std.specs.Str.Parse.{ParsesUnsigned}
use Rattle.std.specs.Result.{OkIff}
use Rattle.std.proofs.lemmas.Bool.{leb-true}
use Rattle.std.proofs.lemmas.Str.Parse.{numerals_by_value, parse_digits, tells_all_ascii_digits}
use Rattle.tornado_words.specs.Numbers.{is_number, value_of}

and_left : (a b : Bool) → (a && b) ≡ true → a ≡ true
and_left true b e = refl
and_left false b e = e

and_right : (a b : Bool) → (a && b) ≡ true → b ≡ true
and_right true b e = e
and_right false b e = absurd (true≢false (sym e))

all_digits : (word : List ℕ) → list_all is_ascii_digit word ≡ all_ascii_digits word
all_digits [] = refl
all_digits (digit ∷ word) = ap (λ rest. is_ascii_digit digit && rest) (all_digits word)

-- `parse` gives the number of the digits where it is below 2^64, and else fails
pub value_parsed : {E : Type 0} (word : List ℕ) (result : Result ℕ E) → is_number word ≡ true → ParsesUnsigned 64 10 word result
    → OkIff result ((0 < length word) × (value_of word < 2 ^ 64)) (value_of word)
value_parsed word result number parsed =
    parse_digits (numerals_by_value (λ ds. all_ascii_digits ds ≡ true) tells_all_ascii_digits) 64 word result parsed
    (sym (all_digits word) ∙ and_right (nat_le 1 (length word) && nat_le (length word) 20) _ number)

-- a number has a digit
pub has_digit : (word : List ℕ) → is_number word ≡ true → 0 < length word
has_digit word number = leb-true 1 (length word) (and_left _ (nat_le (length word) 20) (and_left _ (list_all is_ascii_digit word) number))
