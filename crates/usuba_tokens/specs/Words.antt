-- What a word is: a keyword, `in`, a type word, or a word without a meaning of its own.
use Rattle.std.specs.Prelude.{ℕ, Bool, ◌+◌, ◌^◌, ◌&&◌, ◌==◌, nat_lt, nat_le, if◌then◌else◌, List, take, drop, slice_index, position, codes, Option, Some, None, option_and_then}
use Rattle.std.specs.Char.{is_ascii_digit}
use Rattle.std.specs.Int.{is_in_range}
use Rattle.std.specs.List.{list_all}
use Rattle.std.specs.Option.{option_map}
use Rattle.std.specs.Str.{bytes_eq}
use Rattle.usuba_tokens.specs.Numbers.{value_in}
use Rattle.usuba_tokens.specs.declared.token.Keyword.{Keyword}
use Rattle.usuba_tokens.specs.declared.token.Keyword.TheVariants as keyword
use Rattle.usuba_tokens.specs.declared.token.Base.{Base}
use Rattle.usuba_tokens.specs.declared.token.Base.TheVariants.{Poly, Bits}
use Rattle.usuba_tokens.specs.declared.token.TokenKind.{TokenKind}
use Rattle.usuba_tokens.specs.declared.token.TokenKind.TheVariants as kind

-- the keyword that a word is
abbrev pub keyword_of : List ℕ → Option Keyword
keyword_of text =
    if bytes_eq text (codes "node") then Some keyword.Node
    else (if bytes_eq text (codes "table") then Some keyword.Table
    else (if bytes_eq text (codes "perm") then Some keyword.Perm
    else (if bytes_eq text (codes "returns") then Some keyword.Returns
    else (if bytes_eq text (codes "vars") then Some keyword.Vars
    else (if bytes_eq text (codes "let") then Some keyword.Let
    else (if bytes_eq text (codes "tel") then Some keyword.Tel
    else (if bytes_eq text (codes "forall") then Some keyword.Forall
    else (if bytes_eq text (codes "refresh") then Some keyword.Refresh
    else (if bytes_eq text (codes "_inline") then Some keyword.Inline
    else (if bytes_eq text (codes "_no_inline") then Some keyword.NoInline
    else None))))))))))

-- `1` to `9`
abbrev pub is_positive_digit : ℕ → Bool
is_positive_digit b = is_in_range 49 57 b

-- decimal digits, at least one, without a leading zero
abbrev pub is_plain : List ℕ → Bool
is_plain text = is_positive_digit (slice_index text 0) && list_all is_ascii_digit text

-- a number below 2^32, and none where it is too big
abbrev pub below_2_32 : ℕ → Option ℕ
below_2_32 n = if nat_lt n (2 ^ 32) then Some n else None

-- the number of 1 to 2^32 - 1 that such digits spell
abbrev pub plain_number : List ℕ → Option ℕ
plain_number text = if is_plain text then below_2_32 (value_in 10 text) else None

-- a number up to 64, and none where it is too big
abbrev pub at_most_64 : ℕ → Option ℕ
at_most_64 n = if nat_le n 64 then Some n else None

-- the width of 1 to 64 that they spell
abbrev pub width : List ℕ → Option ℕ
width text = option_and_then at_most_64 (plain_number text)

-- what a type word says: what its elements are, and how many where it has a count
abbrev pub Meaning : Type 0
Meaning = Base × Option ℕ

-- N elements of one kind
abbrev pub counted : Base → List ℕ → Option Meaning
counted base text = option_map (λ n. (base, Some n)) (plain_number text)

-- the `x` that parts a width from a count
abbrev pub is_x : ℕ → Bool
is_x b = b == 120

-- W, or W, `x` and N, where `x` stands at that place
abbrev pub words_of_bits : Option ℕ → List ℕ → Option Meaning
words_of_bits None text = option_map (λ w. (Bits w, None)) (width text)
words_of_bits (Some x) text = option_and_then (λ w. counted (Bits w) (drop (x + 1) text)) (width (take x text))

-- `uW` is W bits, `uWxN` is N times W bits, `bN` is N times one bit, `vN` is N words of the program's width.
abbrev pub type_word : List ℕ → Option Meaning
type_word text =
    let first = slice_index text 0 in
    let rest = drop 1 text in
    if first == 117 then words_of_bits (position is_x rest) rest
    else (if first == 98 then counted (Bits 1) rest
    else (if first == 118 then counted Poly rest
    else None))

-- a word that is no keyword and not `in`
abbrev pub type_or_name : Option Meaning → List ℕ → TokenKind
type_or_name (Some meaning) text = kind.TypeWord (record { text = text; base = meaning.0; count = meaning.1 })
type_or_name None text = kind.Word text

-- a word, with the keyword that it is
abbrev pub keyword_or_name : Option Keyword → List ℕ → TokenKind
keyword_or_name (Some k) text = kind.Keyword k
keyword_or_name None text = if bytes_eq text (codes "in") then kind.In text else type_or_name (type_word text) text

-- the token that a word is
abbrev pub word_kind : List ℕ → TokenKind
word_kind text = keyword_or_name (keyword_of text) text
