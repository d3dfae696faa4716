-- Numbers: decimal digits, or `0x` followed by hexadecimal digits of either case.
-- A text reads as 0 past its end.
use Rattle.std.specs.Prelude.{ℕ, ◌+◌, ◌*◌, ◌^◌, Bool, ◌&&◌, ◌==◌, nat_lt, if◌then◌else◌, List, fold, drop, slice_index, Option, Some, None}
use Rattle.std.specs.Char.{is_ascii_digit, is_ascii_hexdigit, digit_value}
use Rattle.std.specs.List.{prefix_len}

-- the text begins with `0x` and a hexadecimal digit
abbrev pub is_hexadecimal : List ℕ → Bool
is_hexadecimal text = slice_index text 0 == 48 && slice_index text 1 == 120 && is_ascii_hexdigit (slice_index text 2)

-- how many decimal digits stand at the head
abbrev pub decimal_len : List ℕ → ℕ
decimal_len text = prefix_len is_ascii_digit text

-- how many hexadecimal digits stand at the head
abbrev pub hexadecimal_len : List ℕ → ℕ
hexadecimal_len text = prefix_len is_ascii_hexdigit text

-- how long the longest number is at the head of a text that begins with a digit
abbrev pub number_len : List ℕ → ℕ
number_len text =
    if is_hexadecimal text then 2 + hexadecimal_len (drop 2 text) else decimal_len text

-- the number that digits spell to a base, the first digit of the greatest weight
abbrev pub value_in : ℕ → List ℕ → ℕ
value_in base digits = fold (λ n digit. n * base + digit_value digit) 0 digits

-- the number that a text spells
abbrev pub number_value : List ℕ → ℕ
number_value text = if is_hexadecimal text then value_in 16 (drop 2 text) else value_in 10 text

-- a number below 2^64, and none where it is too big
abbrev pub below_2_64 : ℕ → Option ℕ
below_2_64 n = if nat_lt n (2 ^ 64) then Some n else None
