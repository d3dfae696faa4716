-- Which bytes stand where.
use Rattle.std.specs.Prelude.{ℕ, Bool, not, ◌||◌, ◌==◌}
use Rattle.std.specs.Char.{is_ascii_alphabetic, is_ascii_digit}

-- a blank: a space, a tab, a CR or a LF
abbrev pub is_blank : ℕ → Bool
is_blank b = b == 32 || b == 9 || b == 13 || b == 10

-- a byte of a line: any but LF
abbrev pub is_in_line : ℕ → Bool
is_in_line b = not (b == 10)

-- a word begins with a letter or `_`
abbrev pub begins_word : ℕ → Bool
begins_word b = is_ascii_alphabetic b || b == 95

-- and goes on with letters, digits, `_` and `'`
abbrev pub continues_word : ℕ → Bool
continues_word b = is_ascii_alphabetic b || is_ascii_digit b || b == 95 || b == 39
