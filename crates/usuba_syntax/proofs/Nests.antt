-- What is open at each token as a list, the innermost first, from one token to the next.
use Rattle.std.specs.Prelude.{ℕ, List, [], ◌∷◌, length, Option, Some, None}
use Rattle.usuba_tokens.specs.declared.token.Keyword.TheVariants as keyword
use Rattle.usuba_tokens.specs.declared.token.Sign.{Sign}
use Rattle.usuba_tokens.specs.declared.token.Sign.TheVariants as sign
use Rattle.usuba_tokens.specs.declared.token.Token.{Token}
use Rattle.usuba_tokens.specs.declared.token.TokenKind.{TokenKind}
use Rattle.usuba_tokens.specs.declared.token.TokenKind.TheVariants as kind

-- what can be opened
pub data Opening : Type 0 where
  Bracket : Opening
  Complement : Opening

-- what is opened behind the operand of each `~` on top
abbrev pub behind_operand : List Opening → List Opening
behind_operand [] = []
behind_operand (Bracket ∷ opened) = Bracket ∷ opened
behind_operand (Complement ∷ opened) = behind_operand opened

-- what is opened without the innermost
abbrev pub outside : List Opening → List Opening
outside [] = []
outside (o ∷ opened) = opened

-- What is opened at a sign, the sign included if it opens or closes. A `~` is opened to the end of its operand, and only a
-- bracket that opens goes on with an operand.
abbrev pub at_sign : List Opening → Sign → List Opening
at_sign opened sign.OpenRound = Bracket ∷ opened
at_sign opened sign.OpenSquare = Bracket ∷ opened
at_sign opened sign.OpenCurly = Bracket ∷ opened
at_sign opened sign.Tilde = Complement ∷ opened
at_sign opened _ = behind_operand opened

-- what is opened behind a sign, from what is opened at it
abbrev pub behind_sign : List Opening → Sign → List Opening
behind_sign opened sign.CloseRound = outside opened
behind_sign opened sign.CloseSquare = outside opened
behind_sign opened sign.CloseCurly = outside opened
behind_sign opened _ = opened

-- what is open in the items of a node, and none outside of items
abbrev pub Nest : Type 0
Nest = Option (List Opening)

-- what is opened at a token: names, numbers and `refresh` belong to an operand
abbrev pub at_token : List Opening → TokenKind → List Opening
at_token opened (kind.Sign s) = at_sign opened s
at_token opened (kind.Keyword keyword.Refresh) = opened
at_token opened (kind.Keyword k) = behind_operand opened
at_token opened _ = opened

-- what is opened behind a token, from what is opened at it
abbrev pub behind_token : List Opening → TokenKind → Nest
behind_token opened (kind.Sign s) = Some (behind_sign opened s)
behind_token opened (kind.Keyword keyword.Tel) = None
behind_token opened _ = Some opened

-- whether items begin behind a token outside of items
abbrev pub behind_outer_token : TokenKind → Nest
behind_outer_token (kind.Keyword keyword.Let) = Some []
behind_outer_token _ = None

-- how many are opened at each token
abbrev pub counts : Nest → List Token → List ℕ
counts nest [] = []
counts None (t ∷ tokens) = 0 ∷ counts (behind_outer_token t.kind) tokens
counts (Some opened) (t ∷ tokens) = length (at_token opened t.kind) ∷ counts (behind_token (at_token opened t.kind) t.kind) tokens

-- how many brackets and `~` are opened at each token of a file
abbrev pub open_counts : List Token → List ℕ
open_counts tokens = counts None tokens
