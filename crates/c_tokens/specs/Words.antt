-- What a word is: a keyword, or a name.
use Rattle.std.specs.Prelude.{ℕ, if◌then◌else◌, List, codes, Option, Some, None}
use Rattle.std.specs.Str.{bytes_eq}
use Rattle.c_tokens.specs.declared.token.Keyword.{Keyword}
use Rattle.c_tokens.specs.declared.token.Keyword.TheVariants as keyword
use Rattle.c_tokens.specs.declared.token.TokenKind.{TokenKind}
use Rattle.c_tokens.specs.declared.token.TokenKind.TheVariants as kind

-- the keyword that a word is
abbrev pub keyword_of : List ℕ → Option Keyword
keyword_of text =
    if bytes_eq text (codes "static") then Some keyword.Static
    else (if bytes_eq text (codes "void") then Some keyword.Void
    else (if bytes_eq text (codes "reg") then Some keyword.Reg
    else (if bytes_eq text (codes "uint64_t") then Some keyword.Word
    else (if bytes_eq text (codes "unsigned") then Some keyword.Unsigned
    else (if bytes_eq text (codes "for") then Some keyword.For
    else (if bytes_eq text (codes "D") then Some keyword.Shares
    else (if bytes_eq text (codes "UINT64_C") then Some keyword.Constant
    else (if bytes_eq text (codes "tornado_random") then Some keyword.Random
    else (if bytes_eq text (codes "masked") then Some keyword.Masked
    else (if bytes_eq text (codes "out") then Some keyword.Out
    else (if bytes_eq text (codes "in") then Some keyword.In
    else (if bytes_eq text (codes "v") then Some keyword.Slots
    else None))))))))))))

-- a word, with the keyword that it is
abbrev pub keyword_or_name : Option Keyword → List ℕ → TokenKind
keyword_or_name (Some k) text = kind.Keyword k
keyword_or_name None text = kind.Name text

-- the token that a word is
abbrev pub word_kind : List ℕ → TokenKind
word_kind text = keyword_or_name (keyword_of text) text
