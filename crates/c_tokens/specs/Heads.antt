-- What stands at the head of a text, and how many bytes it takes. A text reads as 0 past its end.
use Rattle.std.specs.Prelude.{ℕ, Bool, ◌||◌, ◌&&◌, ◌==◌, nat_lt, if◌then◌else◌, List, [], ◌∷◌, take, slice_index, Option, Some, None}
use Rattle.std.specs.Char.{is_ascii_alphabetic, is_ascii_digit}
use Rattle.std.specs.List.{prefix_len}
use Rattle.usuba_tokens.specs.Bytes.{is_blank, begins_word}
use Rattle.usuba_tokens.specs.Numbers.{decimal_len, value_in, below_2_64}
use Rattle.c_tokens.specs.Words.{word_kind}
use Rattle.c_tokens.specs.declared.head.Form.{Form}
use Rattle.c_tokens.specs.declared.head.Form.TheVariants as form
use Rattle.c_tokens.specs.declared.head.Head.{Head}
use Rattle.c_tokens.specs.declared.head.Head.TheVariants as head
use Rattle.c_tokens.specs.declared.token.Sign.{Sign}
use Rattle.c_tokens.specs.declared.token.Sign.TheVariants as sign
use Rattle.c_tokens.specs.declared.token.TokenKind.{TokenKind}
use Rattle.c_tokens.specs.declared.token.TokenKind.TheVariants as kind

-- a word goes on with letters, digits and `_`
abbrev pub continues_word : ℕ → Bool
continues_word b = is_ascii_alphabetic b || is_ascii_digit b || b == 95

-- how long the word is that stands at the head
abbrev pub word_len : List ℕ → ℕ
word_len text = prefix_len continues_word text

-- digits of a value below 2^64; of no other value they are a number
abbrev pub valued : Option ℕ → ℕ → Head
valued (Some value) n = head.Found (form.Number value) n
valued None n = head.Broken

-- The whole run of digits, with its value. With a leading zero, or directly followed by a letter or `_`, it is no
-- number.
abbrev pub number : List ℕ → Head
number text =
    let n = decimal_len text in
    if begins_word (slice_index text n) || slice_index text 0 == 48 && nat_lt 1 n then head.Broken
    else valued (below_2_64 (value_in 10 (take n text))) n

-- a sign of n bytes
abbrev pub found_sign : Sign → ℕ → Head
found_sign s n = head.Found (form.Sign s) n

-- the signs of one byte
abbrev pub one_byte_sign : ℕ → Head
one_byte_sign b =
    if b == 40 then found_sign sign.OpenRound 1  -- (
    else (if b == 41 then found_sign sign.CloseRound 1  -- )
    else (if b == 91 then found_sign sign.OpenSquare 1  -- [
    else (if b == 93 then found_sign sign.CloseSquare 1  -- ]
    else (if b == 123 then found_sign sign.OpenCurly 1  -- {
    else (if b == 125 then found_sign sign.CloseCurly 1  -- }
    else (if b == 44 then found_sign sign.Comma 1  -- ,
    else (if b == 59 then found_sign sign.Semicolon 1  -- ;
    else (if b == 61 then found_sign sign.Equals 1  -- =
    else (if b == 60 then found_sign sign.Less 1  -- <
    else (if b == 43 then found_sign sign.Plus 1  -- +
    else (if b == 45 then found_sign sign.Minus 1  -- -
    else (if b == 94 then found_sign sign.Caret 1  -- ^
    else (if b == 38 then found_sign sign.Ampersand 1  -- &
    else (if b == 124 then found_sign sign.Bar 1  -- |
    else head.Broken))))))))))))))

-- the longest sign, by the first two bytes
abbrev pub longest_sign : ℕ → ℕ → Head
longest_sign b c =
    if b == 43 && c == 43 then found_sign sign.PlusPlus 2  -- ++
    else (if b == 60 && c == 60 then found_sign sign.ShiftLeft 2  -- <<
    else (if b == 62 && c == 62 then found_sign sign.ShiftRight 2  -- >>
    else one_byte_sign b))

-- nothing, a blank, or the longest token that fits; else no token begins here
abbrev pub head_of : List ℕ → Head
head_of [] = head.End
head_of (b ∷ text) =
    if is_blank b then head.Blank
    else (if begins_word b then head.Found form.Word (word_len (b ∷ text))
    else (if is_ascii_digit b then number (b ∷ text)
    else longest_sign b (slice_index text 0)))

-- the token of a form that a text is
abbrev pub kind_of : Form → List ℕ → TokenKind
kind_of form.Word text = word_kind text
kind_of (form.Number value) text = kind.Number value
kind_of (form.Sign s) text = kind.Sign s
