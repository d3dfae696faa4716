-- Numbers: decimal digits, or `0x` and hexadecimal digits of either case. Leading zeros may stand.
use Rattle.std.specs.Prelude.{ℕ, ◌==◌, Bool, ◌&&◌, nat_lt, List, ◌∷◌, length, Option, Some, None, if◌then◌else◌}
use Rattle.std.specs.Char.{is_digit}
use Rattle.std.specs.List.{list_all}
use Rattle.std.specs.Str.Parse.{digits_value}

-- one digit of the base or more
abbrev pub are_digits : ℕ → List ℕ → Bool
are_digits base digits = nat_lt 0 (length digits) && list_all (λ digit. is_digit digit base) digits

-- the number that digits of the base spell
abbrev pub number_in : ℕ → List ℕ → Option ℕ
number_in base digits = if are_digits base digits then Some (digits_value base digits) else None

-- the number that a word spells
abbrev pub number_of : List ℕ → Option ℕ
number_of (first ∷ second ∷ digits) =
    if first == 48 && second == 120 then number_in 16 digits else number_in 10 (first ∷ second ∷ digits)
number_of word = number_in 10 word
