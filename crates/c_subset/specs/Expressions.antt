-- The rules of indexes and expressions. `IsX before tree after` says that the tokens `before` are a text of the rule X
-- that spells this tree, and then the tokens `after`.
use Rattle.std.specs.Prelude.{ℕ, suc, List, ◌∷◌}
use Rattle.tor_edge.specs.declared.place.Place.{Place}
use Rattle.c_tokens.specs.declared.token.Keyword.TheVariants as keyword
use Rattle.c_tokens.specs.declared.token.Sign.{Sign}
use Rattle.c_tokens.specs.declared.token.Sign.TheVariants as sign
use Rattle.c_tokens.specs.declared.token.Token.{Token}
use Rattle.c_tree.specs.declared.CExpr.{CExpr}
use Rattle.c_tree.specs.declared.CExpr.TheVariants as tree
use Rattle.c_tree.specs.declared.CIndex.{CIndex}
use Rattle.c_tree.specs.declared.CIndex.TheVariants as index
use Rattle.c_tree.specs.declared.CLow.{CLow}
use Rattle.c_tree.specs.declared.CLow.TheVariants as low
use Rattle.c_tree.specs.declared.COp.{COp}
use Rattle.c_tree.specs.declared.COp.TheVariants as op
use Rattle.c_subset.specs.Terminals.{sign, keyword, name, number}

-- idx: NUMBER, or NAME
pub data IsIdx : Token → CIndex → Type 0 where
  number_idx : {n : ℕ} {at : Place} → IsIdx (number n at) (index.Number n)
  name_idx : {text : List ℕ} {at : Place} → IsIdx (name text at) (index.Counter text)

-- low: NUMBER, or NAME `+` `1`
pub data IsLow : List Token → CLow → List Token → Type 0 where
  number_low : {n : ℕ} {at : Place} {a : List Token} → IsLow (number n at ∷ a) (low.Number n) a
  after_low : {text : List ℕ} {at plus one : Place} {a : List Token}
      → IsLow (name text at ∷ sign sign.Plus plus ∷ number 1 one ∷ a) (low.After text) a

-- op: `^`, `&`, `|`, `<<`, `>>`, `-`
pub data IsOp : Sign → COp → Type 0 where
  xor : IsOp sign.Caret op.Xor
  and : IsOp sign.Ampersand op.And
  or : IsOp sign.Bar op.Or
  shift_left : IsOp sign.ShiftLeft op.Shl
  shift_right : IsOp sign.ShiftRight op.Shr
  minus : IsOp sign.Minus op.Sub

-- ex, where so many brackets of `(` ex op ex `)` may yet be opened:
-- `(` `uint64_t` `)` NAME `[` idx `]`; NAME; `UINT64_C` `(` NUMBER `)`; `tornado_random` `(` `)`; `(` ex op ex `)`
pub data IsEx : ℕ → List Token → CExpr → List Token → Type 0 where
  cell : {room : ℕ} {array : List ℕ} {t : Token} {i : CIndex} {at word close of square end : Place} {a : List Token}
      → IsIdx t i
      → IsEx room (sign sign.OpenRound at ∷ keyword keyword.Word word ∷ sign sign.CloseRound close ∷ name array of
      ∷ sign sign.OpenSquare square ∷ t ∷ sign sign.CloseSquare end ∷ a) (tree.Cell array i) a
  word_ex : {room : ℕ} {text : List ℕ} {at : Place} {a : List Token} → IsEx room (name text at ∷ a) (tree.Word text) a
  number_ex : {room n : ℕ} {at round of end : Place} {a : List Token}
      → IsEx room (keyword keyword.Constant at ∷ sign sign.OpenRound round ∷ number n of ∷ sign sign.CloseRound end ∷ a)
      (tree.Number n) a
  random_ex : {room : ℕ} {at round end : Place} {a : List Token}
      → IsEx room (keyword keyword.Random at ∷ sign sign.OpenRound round ∷ sign sign.CloseRound end ∷ a) tree.Random a
  two : {room : ℕ} {s : Sign} {o : COp} {left right : CExpr} {at of end : Place} {a b c : List Token}
      → IsOp s o → IsEx room a left (sign s of ∷ b) → IsEx room b right (sign sign.CloseRound end ∷ c)
      → IsEx (suc room) (sign sign.OpenRound at ∷ a) (tree.Two o left right) c
