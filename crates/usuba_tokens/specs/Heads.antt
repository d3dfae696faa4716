-- What stands at the head of a text, and how many bytes it takes. A text reads as 0 past its end.
use Rattle.std.specs.Prelude.{ℕ, ◌+◌, ◌&&◌, ◌==◌, if◌then◌else◌, List, [], ◌∷◌, drop, slice_index, Option, Some, None}
use Rattle.std.specs.Char.{is_ascii_digit}
use Rattle.std.specs.List.{prefix_len}
use Rattle.std.specs.Option.{option_map}
use Rattle.usuba_tokens.specs.Bytes.{is_blank, is_in_line, begins_word, continues_word}
use Rattle.usuba_tokens.specs.Numbers.{number_len, number_value, below_2_64}
use Rattle.usuba_tokens.specs.Words.{word_kind}
use Rattle.usuba_tokens.specs.declared.head.Form.{Form}
use Rattle.usuba_tokens.specs.declared.head.Form.TheVariants as form
use Rattle.usuba_tokens.specs.declared.head.Head.{Head}
use Rattle.usuba_tokens.specs.declared.head.Head.TheVariants as head
use Rattle.usuba_tokens.specs.declared.token.Sign.{Sign}
use Rattle.usuba_tokens.specs.declared.token.Sign.TheVariants as sign
use Rattle.usuba_tokens.specs.declared.token.TokenKind.{TokenKind}
use Rattle.usuba_tokens.specs.declared.token.TokenKind.TheVariants as kind

-- how many bytes there are up to and with the next `*` that has this byte right behind it
abbrev pub closing : ℕ → List ℕ → Option ℕ
closing last [] = None
closing last (b ∷ text) = if b == 42 && slice_index text 0 == last then Some 2 else option_map (λ n. n + 1) (closing last text)

-- how long the word is that stands at the head
abbrev pub word_len : List ℕ → ℕ
word_len text = prefix_len continues_word text

-- how long a text goes before the next LF or its end
abbrev pub line_len : List ℕ → ℕ
line_len text = prefix_len is_in_line text

-- a comment that two bytes open: its close is sought behind them
abbrev pub commented : Option ℕ → Head
commented None = head.Broken
commented (Some n) = head.Gap (2 + n)

-- the longest number; one that is directly followed by a letter or `_` is no token
abbrev pub number : List ℕ → Head
number text =
    if begins_word (slice_index text (number_len text)) then head.Broken else head.Found form.Number (number_len text)

-- a sign of n bytes
abbrev pub found_sign : Sign → ℕ → Head
found_sign s n = head.Found (form.Sign s) n

-- the signs of one byte
abbrev pub one_byte_sign : ℕ → Head
one_byte_sign b =
    if b == 40 then found_sign sign.OpenRound 1  -- (
    else (if b == 41 then found_sign sign.CloseRound 1  -- )
    else (if b == 91 then found_sign sign.OpenSquare 1  -- [
    else (if b == 93 then found_sign sign.CloseSquare 1  -- ]
    else (if b == 123 then found_sign sign.OpenCurly 1  -- {
    else (if b == 125 then found_sign sign.CloseCurly 1  -- }
    else (if b == 44 then found_sign sign.Comma 1  -- ,
    else (if b == 59 then found_sign sign.Semicolon 1  -- ;
    else (if b == 58 then found_sign sign.Colon 1  -- :
    else (if b == 61 then found_sign sign.Equals 1  -- =
    else (if b == 126 then found_sign sign.Tilde 1  -- ~
    else (if b == 38 then found_sign sign.Ampersand 1  -- &
    else (if b == 94 then found_sign sign.Caret 1  -- ^
    else (if b == 124 then found_sign sign.Bar 1  -- |
    else (if b == 43 then found_sign sign.Plus 1  -- +
    else (if b == 45 then found_sign sign.Minus 1  -- -
    else (if b == 42 then found_sign sign.Star 1  -- *
    else (if b == 47 then found_sign sign.Slash 1  -- /
    else (if b == 37 then found_sign sign.Percent 1  -- %
    else head.Broken))))))))))))))))))

-- the longest sign, by the first three bytes
abbrev pub longest_sign : ℕ → ℕ → ℕ → Head
longest_sign b c d =
    if b == 60 && c == 60 && d == 60 then found_sign sign.RotateLeft 3  -- <<<
    else (if b == 62 && c == 62 && d == 62 then found_sign sign.RotateRight 3  -- >>>
    else (if b == 60 && c == 60 then found_sign sign.ShiftLeft 2  -- <<
    else (if b == 62 && c == 62 then found_sign sign.ShiftRight 2  -- >>
    else (if b == 46 && c == 46 then found_sign sign.Dots 2  -- ..
    else one_byte_sign b))))

-- Nothing, a blank, a comment, or the longest token that fits; else no token begins here.
abbrev pub head_of : List ℕ → Head
head_of [] = head.End
head_of (b ∷ text) =
    let next = slice_index text 0 in
    if is_blank b then head.Gap 1
    else (if b == 47 && next == 47 then head.Gap (line_len (b ∷ text))  -- // to before the next LF or the end
    else (if b == 47 && next == 42 then commented (closing 47 (drop 1 text))  -- /* to the next */
    else (if b == 40 && next == 42 then commented (closing 41 (drop 1 text))  -- (* to the next *)
    else (if begins_word b then head.Found form.Word (word_len (b ∷ text))
    else (if is_ascii_digit b then number (b ∷ text)
    else longest_sign b next (slice_index text 1))))))

-- the token of a form that a text is
abbrev pub kind_of : Form → List ℕ → TokenKind
kind_of form.Word text = word_kind text
kind_of form.Number text = kind.Number (below_2_64 (number_value text))
kind_of (form.Sign s) text = kind.Sign s
