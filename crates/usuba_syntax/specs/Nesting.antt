-- How many brackets and `~` are open at a token: opened in the items of a node, from `let` to `tel`, and not yet ended.
use Rattle.std.specs.Prelude.{ℕ, zero, suc, ◌+◌, ◌&&◌, Bool, true, false, List, [], ◌∷◌, Option, Some, None, if◌then◌else◌}
use Rattle.usuba_tokens.specs.declared.token.Keyword.TheVariants as keyword
use Rattle.usuba_tokens.specs.declared.token.Sign.{Sign}
use Rattle.usuba_tokens.specs.declared.token.Sign.TheVariants as sign
use Rattle.usuba_tokens.specs.declared.token.Token.{Token}
use Rattle.usuba_tokens.specs.declared.token.TokenKind.{TokenKind}
use Rattle.usuba_tokens.specs.declared.token.TokenKind.TheVariants as kind

-- how many of `inner` open brackets are open behind one that closes; none where it closes what lies around them
abbrev pub without_one : ℕ → Option ℕ
without_one zero = None
without_one (suc n) = Some n

-- how many brackets are open inside a bracket, or inside an operand, behind a sign, from how many are before it
abbrev pub inner_behind_sign : ℕ → Sign → Option ℕ
inner_behind_sign inner sign.OpenRound = Some (suc inner)
inner_behind_sign inner sign.OpenSquare = Some (suc inner)
inner_behind_sign inner sign.OpenCurly = Some (suc inner)
inner_behind_sign inner sign.CloseRound = without_one inner
inner_behind_sign inner sign.CloseSquare = without_one inner
inner_behind_sign inner sign.CloseCurly = without_one inner
inner_behind_sign inner _ = Some inner

-- and behind any token; `tel` ends the items, and with them what is open
abbrev pub inner_behind : ℕ → TokenKind → Option ℕ
inner_behind inner (kind.Sign s) = inner_behind_sign inner s
inner_behind inner (kind.Keyword keyword.Tel) = None
inner_behind inner _ = Some inner

-- the signs that an operand goes on with: `~`, and the brackets that open
abbrev pub sign_goes_on : Sign → Bool
sign_goes_on sign.OpenRound = true
sign_goes_on sign.OpenSquare = true
sign_goes_on sign.OpenCurly = true
sign_goes_on sign.Tilde = true
sign_goes_on _ = false

-- the tokens that it goes on with: these, names, numbers and `refresh`
abbrev pub goes_on : TokenKind → Bool
goes_on (kind.Sign s) = sign_goes_on s
goes_on (kind.Keyword keyword.Refresh) = true
goes_on (kind.Keyword k) = false
goes_on _ = true

-- a token belongs to an operand in which `inner` brackets are open
abbrev pub belongs : ℕ → TokenKind → Bool
belongs zero k = goes_on k
belongs (suc n) k = true

-- whether no token comes any more
abbrev pub is_last : List Token → Bool
is_last [] = true
is_last (t ∷ rest) = false

-- A bracket, in which `inner` more are open, is open at the last of the tokens behind it: none before the last closes it.
abbrev pub bracket_open : ℕ → List Token → Bool
bracket_open inner [] = true
bracket_open inner (t ∷ rest) = elim (inner_behind inner t.kind) [ None ↦ is_last rest | Some n ↦ bracket_open n rest ]

-- A `~`, in whose operand `inner` brackets are open, is open at the last of the tokens behind it: all belong to its operand.
abbrev pub operand_open : ℕ → List Token → Bool
operand_open inner [] = true
operand_open inner (t ∷ rest) =
    belongs inner t.kind && (elim (inner_behind inner t.kind) [ None ↦ is_last rest | Some n ↦ operand_open n rest ])

-- what a sign opens is open at the last of the tokens behind it
abbrev pub sign_open : Sign → List Token → Bool
sign_open sign.OpenRound rest = bracket_open 0 rest
sign_open sign.OpenSquare rest = bracket_open 0 rest
sign_open sign.OpenCurly rest = bracket_open 0 rest
sign_open sign.Tilde rest = operand_open 0 rest
sign_open _ rest = false

-- what a token opens is open at the last of the tokens behind it; nothing but a sign opens
abbrev pub is_open : TokenKind → List Token → Bool
is_open (kind.Sign s) rest = sign_open s rest
is_open _ rest = false

-- whether what stands behind a token is in the items of a node
abbrev pub in_items_behind : Bool → TokenKind → Bool
in_items_behind inside (kind.Keyword keyword.Let) = true
in_items_behind inside (kind.Keyword keyword.Tel) = false
in_items_behind inside _ = inside

-- how many of those that these tokens open in items are open at the last of them
abbrev pub open_among : Bool → List Token → ℕ
open_among inside [] = 0
open_among inside (t ∷ rest) = (if inside && is_open t.kind rest then 1 else 0) + open_among (in_items_behind inside t.kind) rest

-- how many brackets and `~` are open at the last of the tokens with which a file begins
abbrev pub open_count : List Token → ℕ
open_count tokens = open_among false tokens
