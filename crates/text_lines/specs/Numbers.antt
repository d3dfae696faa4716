-- Numbers: decimal digits without leading zeros.
use Rattle.std.specs.Prelude.{ℕ, Bool, false, not, ◌&&◌, ◌==◌, List, [], ◌∷◌}
use Rattle.std.specs.Char.{is_ascii_digit}
use Rattle.std.specs.List.{list_all}
use Rattle.std.specs.Str.Parse.{digits_value}

-- the word is a number: one digit, or more of which the first is not 0
abbrev pub is_number : List ℕ → Bool
is_number [] = false
is_number (digit ∷ []) = is_ascii_digit digit
is_number (digit ∷ next ∷ digits) = not (digit == 48) && list_all is_ascii_digit (digit ∷ next ∷ digits)

-- the number that digits spell
abbrev pub value_of : List ℕ → ℕ
value_of digits = digits_value 10 digits
