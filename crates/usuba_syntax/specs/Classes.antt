-- The class of a token, as a number of the table.
use Rattle.std.specs.Prelude.{ℕ, zero, suc, List, [], ◌∷◌, Option, Some, None}
use Rattle.usuba_syntax.specs.declared.class.TheConstants as class
use Rattle.usuba_tokens.specs.declared.token.Ending.{Ending}
use Rattle.usuba_tokens.specs.declared.token.Ending.TheVariants as ending
use Rattle.usuba_tokens.specs.declared.token.Keyword.{Keyword}
use Rattle.usuba_tokens.specs.declared.token.Keyword.TheVariants as keyword
use Rattle.usuba_tokens.specs.declared.token.Sign.{Sign}
use Rattle.usuba_tokens.specs.declared.token.Sign.TheVariants as sign
use Rattle.usuba_tokens.specs.declared.token.Token.{Token}
use Rattle.usuba_tokens.specs.declared.token.TokenKind.{TokenKind}
use Rattle.usuba_tokens.specs.declared.token.TokenKind.TheVariants as kind

-- the class of a reserved word
abbrev pub class_of_keyword : Keyword → ℕ
class_of_keyword keyword.Node = class.NODE
class_of_keyword keyword.Table = class.TABLE
class_of_keyword keyword.Perm = class.PERM
class_of_keyword keyword.Returns = class.RETURNS
class_of_keyword keyword.Vars = class.VARS
class_of_keyword keyword.Let = class.LET
class_of_keyword keyword.Tel = class.TEL
class_of_keyword keyword.Forall = class.FORALL
class_of_keyword keyword.Refresh = class.REFRESH
class_of_keyword keyword.Inline = class.INLINE
class_of_keyword keyword.NoInline = class.NO_INLINE

-- the class of a sign
abbrev pub class_of_sign : Sign → ℕ
class_of_sign sign.OpenRound = class.OPEN_ROUND
class_of_sign sign.CloseRound = class.CLOSE_ROUND
class_of_sign sign.OpenSquare = class.OPEN_SQUARE
class_of_sign sign.CloseSquare = class.CLOSE_SQUARE
class_of_sign sign.OpenCurly = class.OPEN_CURLY
class_of_sign sign.CloseCurly = class.CLOSE_CURLY
class_of_sign sign.Comma = class.COMMA
class_of_sign sign.Semicolon = class.SEMICOLON
class_of_sign sign.Colon = class.COLON
class_of_sign sign.Equals = class.EQUALS
class_of_sign sign.Tilde = class.TILDE
class_of_sign sign.Ampersand = class.AMPERSAND
class_of_sign sign.Caret = class.CARET
class_of_sign sign.Bar = class.BAR
class_of_sign sign.ShiftLeft = class.SHIFT_LEFT
class_of_sign sign.ShiftRight = class.SHIFT_RIGHT
class_of_sign sign.RotateLeft = class.ROTATE_LEFT
class_of_sign sign.RotateRight = class.ROTATE_RIGHT
class_of_sign sign.Plus = class.PLUS
class_of_sign sign.Minus = class.MINUS
class_of_sign sign.Star = class.STAR
class_of_sign sign.Slash = class.SLASH
class_of_sign sign.Percent = class.PERCENT
class_of_sign sign.Dots = class.DOTS

-- a number below 2^64 is 0 or positive
abbrev pub class_of_number : Option ℕ → ℕ
class_of_number None = class.TOO_BIG
class_of_number (Some zero) = class.ZERO
class_of_number (Some (suc n)) = class.POSITIVE

-- the class of a token of the kind
abbrev pub class_of_kind : TokenKind → ℕ
class_of_kind (kind.Keyword k) = class_of_keyword k
class_of_kind (kind.Sign s) = class_of_sign s
class_of_kind (kind.In text) = class.IN
class_of_kind (kind.TypeWord word) = class.TYPE_WORD
class_of_kind (kind.Word text) = class.WORD
class_of_kind (kind.Number n) = class_of_number n

-- the class of a token
abbrev pub class_of : Token → ℕ
class_of token = class_of_kind token.kind

-- the classes behind the tokens: that of the end, and before it what begins no token
abbrev pub behind : Ending → List ℕ
behind (ending.End at) = class.END ∷ []
behind (ending.Broken at) = class.BROKEN ∷ class.END ∷ []
