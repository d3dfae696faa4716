-- What a token is by itself, apart from the text that follows it. By this the head of a text is told again:
-- the token that is found is the longest, and a text is broken only for one of three reasons.
use Rattle.std.specs.Prelude.{◌≡◌, ℕ, ◌<◌, ◌≤◌, ◌⊎◌, true, false, List, length, take, drop, slice_index, codes, None}
use Rattle.std.specs.Char.{is_ascii_digit, is_ascii_hexdigit}
use Rattle.usuba_tokens.specs.Bytes.{begins_word, continues_word}
use Rattle.usuba_tokens.specs.Heads.{closing}
use Rattle.usuba_tokens.specs.declared.head.Form.{Form}
use Rattle.usuba_tokens.specs.declared.head.Form.TheVariants as form
use Rattle.usuba_tokens.specs.declared.token.Sign.{Sign}
use Rattle.usuba_tokens.specs.declared.token.Sign.TheVariants as sign

-- a letter or `_`, then letters, digits, `_` and `'`
pub record IsWord (text : List ℕ) : Type 0 where
  pub some : 0 < length text
  pub begins : begins_word (slice_index text 0) ≡ true
  pub continues : (k : ℕ) → k < length text → continues_word (slice_index text k) ≡ true

-- decimal digits, one or more
pub record IsDecimal (text : List ℕ) : Type 0 where
  pub some : 0 < length text
  pub digits : (k : ℕ) → k < length text → is_ascii_digit (slice_index text k) ≡ true

-- `0x`, and then hexadecimal digits, one or more
pub record IsHexadecimal (text : List ℕ) : Type 0 where
  pub some : 2 < length text
  pub zero_first : slice_index text 0 ≡ 48
  pub x_second : slice_index text 1 ≡ 120
  pub digits : (k : ℕ) → 2 ≤ k → k < length text → is_ascii_hexdigit (slice_index text k) ≡ true

-- the bytes of a sign
abbrev pub sign_text : Sign → List ℕ
sign_text sign.OpenRound = codes "("
sign_text sign.CloseRound = codes ")"
sign_text sign.OpenSquare = codes "["
sign_text sign.CloseSquare = codes "]"
sign_text sign.OpenCurly = codes "{"
sign_text sign.CloseCurly = codes "}"
sign_text sign.Comma = codes ","
sign_text sign.Semicolon = codes ";"
sign_text sign.Colon = codes ":"
sign_text sign.Equals = codes "="
sign_text sign.Tilde = codes "~"
sign_text sign.Ampersand = codes "&"
sign_text sign.Caret = codes "^"
sign_text sign.Bar = codes "|"
sign_text sign.ShiftLeft = codes "<<"
sign_text sign.ShiftRight = codes ">>"
sign_text sign.RotateLeft = codes "<<<"
sign_text sign.RotateRight = codes ">>>"
sign_text sign.Plus = codes "+"
sign_text sign.Minus = codes "-"
sign_text sign.Star = codes "*"
sign_text sign.Slash = codes "/"
sign_text sign.Percent = codes "%"
sign_text sign.Dots = codes ".."

-- the text is a token of that form
abbrev pub IsToken : Form → List ℕ → Type 0
IsToken form.Word text = IsWord text
IsToken form.Number text = IsDecimal text ⊎ IsHexadecimal text
IsToken (form.Sign s) text = text ≡ sign_text s

-- the first n bytes are a token of that form, and no longer front of the text is a token of any form
pub record IsLongest (found : Form) (n : ℕ) (text : List ℕ) : Type 0 where
  pub within : n ≤ length text
  pub fits : IsToken found (take n text)
  pub longest : (other : Form) (m : ℕ) → n < m → m ≤ length text → IsToken other (take m text) → ⊥

-- no number that is found is directly followed by a letter or `_`
pub record IsFound (found : Form) (n : ℕ) (text : List ℕ) : Type 0 where
  pub token : IsLongest found n text
  pub parted : found ≡ form.Number → begins_word (slice_index text n) ≡ false

-- two bytes open a comment, and it is never closed
abbrev pub IsUnclosed : List ℕ → Type 0
IsUnclosed text =
    (slice_index text 1 ≡ 42) × (((slice_index text 0 ≡ 47) × (closing 47 (drop 2 text) ≡ None)) ⊎ ((slice_index text 0 ≡ 40) × (closing 41 (drop 2 text) ≡ None)))

-- a number is directly followed by a letter or `_`
abbrev pub IsSpoiled : List ℕ → Type 0
IsSpoiled text = (n : ℕ) × IsLongest form.Number n text × (begins_word (slice_index text n) ≡ true)

-- no front of the text is a token
abbrev pub BeginsNone : List ℕ → Type 0
BeginsNone text = (any : Form) (n : ℕ) → n ≤ length text → IsToken any (take n text) → ⊥
