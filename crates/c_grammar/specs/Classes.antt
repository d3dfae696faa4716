-- The class of a token, as a number of the table.
use Rattle.std.specs.Prelude.{ℕ, ◌==◌, nat_le, Bool, true, false, if◌then◌else◌, List, [], ◌∷◌, ◌++◌}
use Rattle.std.specs.Str.{bytes_eq}
use Rattle.c_grammar.specs.declared.class.TheConstants as class
use Rattle.c_tokens.specs.declared.token.Ending.{Ending}
use Rattle.c_tokens.specs.declared.token.Ending.TheVariants as ending
use Rattle.c_tokens.specs.declared.token.Keyword.{Keyword}
use Rattle.c_tokens.specs.declared.token.Keyword.TheVariants as keyword
use Rattle.c_tokens.specs.declared.token.Sign.{Sign}
use Rattle.c_tokens.specs.declared.token.Sign.TheVariants as sign
use Rattle.c_tokens.specs.declared.token.Token.{Token}
use Rattle.c_tokens.specs.declared.token.TokenKind.{TokenKind}
use Rattle.c_tokens.specs.declared.token.TokenKind.TheVariants as kind

-- the class of a reserved word
abbrev pub class_of_keyword : Keyword → ℕ
class_of_keyword keyword.Static = class.STATIC
class_of_keyword keyword.Void = class.VOID
class_of_keyword keyword.Reg = class.REG
class_of_keyword keyword.Word = class.WORD
class_of_keyword keyword.Unsigned = class.UNSIGNED
class_of_keyword keyword.For = class.FOR
class_of_keyword keyword.Shares = class.SHARES
class_of_keyword keyword.Constant = class.CONSTANT
class_of_keyword keyword.Random = class.RANDOM
class_of_keyword keyword.Masked = class.MASKED
class_of_keyword keyword.Out = class.OUT
class_of_keyword keyword.In = class.IN
class_of_keyword keyword.Slots = class.SLOTS

-- the class of a sign
abbrev pub class_of_sign : Sign → ℕ
class_of_sign sign.OpenRound = class.OPEN_ROUND
class_of_sign sign.CloseRound = class.CLOSE_ROUND
class_of_sign sign.OpenSquare = class.OPEN_SQUARE
class_of_sign sign.CloseSquare = class.CLOSE_SQUARE
class_of_sign sign.OpenCurly = class.OPEN_CURLY
class_of_sign sign.CloseCurly = class.CLOSE_CURLY
class_of_sign sign.Comma = class.COMMA
class_of_sign sign.Semicolon = class.SEMICOLON
class_of_sign sign.Equals = class.EQUALS
class_of_sign sign.Less = class.LESS
class_of_sign sign.Plus = class.PLUS
class_of_sign sign.PlusPlus = class.PLUS_PLUS
class_of_sign sign.Minus = class.MINUS
class_of_sign sign.Caret = class.CARET
class_of_sign sign.Ampersand = class.AMPERSAND
class_of_sign sign.Bar = class.BAR
class_of_sign sign.ShiftLeft = class.SHIFT_LEFT
class_of_sign sign.ShiftRight = class.SHIFT_RIGHT

-- The class of a number: `out` and `in` have 1 to 32,768 rows, `v` has 1 to 131,072, and a loop may begin at a counter
-- plus 1.
abbrev pub class_of_number : ℕ → ℕ
class_of_number n =
    if n == 0 then class.ZERO
    else (if n == 1 then class.ONE
    else (if nat_le n 32768 then class.FEW_ROWS
    else (if nat_le n 131072 then class.MANY_ROWS
    else class.PAST_ROWS)))

-- the class of a name, where this is the name behind the last `unsigned`; none is empty
abbrev pub class_of_name : List ℕ → List ℕ → ℕ
class_of_name counter name = if bytes_eq counter name then class.COUNTER else class.NAME

-- the class of a token of the kind
abbrev pub class_of : List ℕ → TokenKind → ℕ
class_of counter (kind.Keyword k) = class_of_keyword k
class_of counter (kind.Sign s) = class_of_sign s
class_of counter (kind.Name name) = class_of_name counter name
class_of counter (kind.Number n) = class_of_number n

-- whether a word is `unsigned`
abbrev pub is_unsigned_word : Keyword → Bool
is_unsigned_word keyword.Static = false
is_unsigned_word keyword.Void = false
is_unsigned_word keyword.Reg = false
is_unsigned_word keyword.Word = false
is_unsigned_word keyword.Unsigned = true
is_unsigned_word keyword.For = false
is_unsigned_word keyword.Shares = false
is_unsigned_word keyword.Constant = false
is_unsigned_word keyword.Random = false
is_unsigned_word keyword.Masked = false
is_unsigned_word keyword.Out = false
is_unsigned_word keyword.In = false
is_unsigned_word keyword.Slots = false

-- whether a token is `unsigned`
abbrev pub is_unsigned : TokenKind → Bool
is_unsigned (kind.Keyword k) = is_unsigned_word k
is_unsigned (kind.Sign s) = false
is_unsigned (kind.Name name) = false
is_unsigned (kind.Number n) = false

-- the name behind the last `unsigned`, after a token of the kind that may stand right behind one
abbrev pub counter_after : Bool → List ℕ → TokenKind → List ℕ
counter_after behind_unsigned counter (kind.Keyword k) = counter
counter_after behind_unsigned counter (kind.Sign s) = counter
counter_after behind_unsigned counter (kind.Name name) = if behind_unsigned then name else counter
counter_after behind_unsigned counter (kind.Number n) = counter

-- the classes of tokens, where they may stand right behind `unsigned`, and this is the name behind the last one
abbrev pub classes_from : Bool → List ℕ → List Token → List ℕ
classes_from behind_unsigned counter [] = []
classes_from behind_unsigned counter (t ∷ tokens) =
    class_of counter t.kind ∷ classes_from (is_unsigned t.kind) (counter_after behind_unsigned counter t.kind) tokens

-- the classes behind the tokens: that of the end, and before it what begins no token
abbrev pub behind : Ending → List ℕ
behind (ending.End at) = class.END ∷ []
behind (ending.Broken at) = class.BROKEN ∷ class.END ∷ []

-- the classes of the tokens of a text, and behind them that of the end
abbrev pub classes_of : List Token → Ending → List ℕ
classes_of tokens end = classes_from false [] tokens ++ behind end
