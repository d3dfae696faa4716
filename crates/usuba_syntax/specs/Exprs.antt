-- The rules of spots and expressions. `IsX before tree after` says that the tokens `before` are a text of the
-- rule X that spells this tree, and then the tokens `after`.
use Rattle.std.specs.Prelude.{ℕ, List, [], ◌∷◌}
use Rattle.tor_edge.specs.declared.place.Place.{Place}
use Rattle.usuba_tokens.specs.declared.token.Keyword.TheVariants as keyword
use Rattle.usuba_tokens.specs.declared.token.Sign.{Sign}
use Rattle.usuba_tokens.specs.declared.token.Sign.TheVariants as sign
use Rattle.usuba_tokens.specs.declared.token.Token.{Token}
use Rattle.usuba_trees.specs.Made.{link}
use Rattle.usuba_trees.specs.declared.BitOp.TheVariants as op
use Rattle.usuba_trees.specs.declared.Expr.{Expr}
use Rattle.usuba_trees.specs.declared.Expr.TheVariants as tree
use Rattle.usuba_trees.specs.declared.Index.{Index}
use Rattle.usuba_trees.specs.declared.Link.{Link}
use Rattle.usuba_trees.specs.declared.Pick.{Pick}
use Rattle.usuba_trees.specs.declared.Pick.TheVariants as pick
use Rattle.usuba_trees.specs.declared.ShiftKind.{ShiftKind}
use Rattle.usuba_trees.specs.declared.ShiftKind.TheVariants as shift
use Rattle.usuba_trees.specs.declared.ShiftLink.{ShiftLink}
use Rattle.usuba_trees.specs.declared.Spot.{Spot}
use Rattle.usuba_trees.specs.declared.Word.{Word}
use Rattle.usuba_syntax.specs.Indexes.{IsIndex, IsAmount}
use Rattle.usuba_syntax.specs.Terminals.{sign, keyword, IsName, IsNumber}

-- pick: `[` index `]`, or `[` index `..` index `]`
pub data IsPick : List Token → Pick → List Token → Type 0 where
  one_part : {a b : List Token} {i : Index} {at end : Place}
      → IsIndex a i (sign sign.CloseSquare end ∷ b) → IsPick (sign sign.OpenSquare at ∷ a) (pick.One i) b
  range : {a b c : List Token} {i j : Index} {at dots end : Place}
      → IsIndex a i (sign sign.Dots dots ∷ b) → IsIndex b j (sign sign.CloseSquare end ∷ c)
      → IsPick (sign sign.OpenSquare at ∷ a) (pick.Range i j) c

-- pick*
pub data IsPicks : List Token → List Pick → List Token → Type 0 where
  no_more_picks : {a : List Token} → IsPicks a [] a
  next_pick : {a b c : List Token} {p : Pick} {ps : List Pick} → IsPick a p b → IsPicks b ps c → IsPicks a (p ∷ ps) c

-- spot: NAME pick*
pub data IsSpot : List Token → Spot → List Token → Type 0 where
  spot : {t : Token} {a b : List Token} {w : Word} {ps : List Pick}
      → IsName t w → IsPicks a ps b → IsSpot (t ∷ a) (record { name = w; picks = ps }) b

-- SHIFT: one of `<<`, `>>`, `<<<` and `>>>`
pub data IsShiftSign : Sign → ShiftKind → Type 0 where
  left : IsShiftSign sign.ShiftLeft shift.Left
  right : IsShiftSign sign.ShiftRight shift.Right
  rotate_left : IsShiftSign sign.RotateLeft shift.RotLeft
  rotate_right : IsShiftSign sign.RotateRight shift.RotRight

-- (SHIFT amount)*
pub data IsShiftLinks : List Token → List ShiftLink → List Token → Type 0 where
  no_more_shifts : {a : List Token} → IsShiftLinks a [] a
  next_shift : {a b c : List Token} {s : Sign} {k : ShiftKind} {at : Place} {i : Index} {ls : List ShiftLink}
      → IsShiftSign s k → IsAmount a i b → IsShiftLinks b ls c
      → IsShiftLinks (sign s at ∷ a) (record { kind = k; place = at; amount = i } ∷ ls) c

mutual
  -- expr: xors (`|` xors)*
  pub data IsExpr : List Token → Expr → List Token → Type 0 where
    one_xors : {a b : List Token} {e : Expr} → IsXors a e b → IsExpr a e b
    ors : {a b c : List Token} {e : Expr} {l : Link} {ls : List Link}
        → IsXors a e b → IsOrLinks b (l ∷ ls) c → IsExpr a (tree.Chain op.Or e (l ∷ ls)) c

  -- (`|` xors)*
  pub data IsOrLinks : List Token → List Link → List Token → Type 0 where
    no_more_xors : {a : List Token} → IsOrLinks a [] a
    next_xors : {a b c : List Token} {at : Place} {e : Expr} {ls : List Link}
        → IsXors a e b → IsOrLinks b ls c → IsOrLinks (sign sign.Bar at ∷ a) (link at e ∷ ls) c

  -- xors: ands (`^` ands)*
  pub data IsXors : List Token → Expr → List Token → Type 0 where
    one_ands : {a b : List Token} {e : Expr} → IsAnds a e b → IsXors a e b
    xors : {a b c : List Token} {e : Expr} {l : Link} {ls : List Link}
        → IsAnds a e b → IsXorLinks b (l ∷ ls) c → IsXors a (tree.Chain op.Xor e (l ∷ ls)) c

  -- (`^` ands)*
  pub data IsXorLinks : List Token → List Link → List Token → Type 0 where
    no_more_ands : {a : List Token} → IsXorLinks a [] a
    next_ands : {a b c : List Token} {at : Place} {e : Expr} {ls : List Link}
        → IsAnds a e b → IsXorLinks b ls c → IsXorLinks (sign sign.Caret at ∷ a) (link at e ∷ ls) c

  -- ands: shifts (`&` shifts)*
  pub data IsAnds : List Token → Expr → List Token → Type 0 where
    one_shifts : {a b : List Token} {e : Expr} → IsShifts a e b → IsAnds a e b
    ands : {a b c : List Token} {e : Expr} {l : Link} {ls : List Link}
        → IsShifts a e b → IsAndLinks b (l ∷ ls) c → IsAnds a (tree.Chain op.And e (l ∷ ls)) c

  -- (`&` shifts)*
  pub data IsAndLinks : List Token → List Link → List Token → Type 0 where
    no_more_operands : {a : List Token} → IsAndLinks a [] a
    next_operand : {a b c : List Token} {at : Place} {e : Expr} {ls : List Link}
        → IsShifts a e b → IsAndLinks b ls c → IsAndLinks (sign sign.Ampersand at ∷ a) (link at e ∷ ls) c

  -- shifts: unary (SHIFT amount)*
  pub data IsShifts : List Token → Expr → List Token → Type 0 where
    one_unary : {a b : List Token} {e : Expr} → IsUnary a e b → IsShifts a e b
    shifts : {a b c : List Token} {e : Expr} {l : ShiftLink} {ls : List ShiftLink}
        → IsUnary a e b → IsShiftLinks b (l ∷ ls) c → IsShifts a (tree.Shift e (l ∷ ls)) c

  -- unary: `~` unary, or primary
  pub data IsUnary : List Token → Expr → List Token → Type 0 where
    complement : {a b : List Token} {e : Expr} {at : Place} → IsUnary a e b → IsUnary (sign sign.Tilde at ∷ a) (tree.Not at e) b
    one_primary : {a b : List Token} {e : Expr} → IsPrimary a e b → IsUnary a e b

  -- primary: NUMBER; spot; NAME `(` expr (`,` expr)* `)`; `refresh` `(` expr `,` index `)`; `(` expr (`,` expr)* `)`
  pub data IsPrimary : List Token → Expr → List Token → Type 0 where
    number : {t : Token} {a : List Token} {n : ℕ} → IsNumber t n → IsPrimary (t ∷ a) (tree.Number t.place n) a
    one_spot : {a b : List Token} {s : Spot} → IsSpot a s b → IsPrimary a (tree.Spot s) b
    call : {t : Token} {a b : List Token} {w : Word} {es : List Expr} {at end : Place}
        → IsName t w → IsExprs a es (sign sign.CloseRound end ∷ b)
        → IsPrimary (t ∷ sign sign.OpenRound at ∷ a) (tree.Call w es) b
    refresh : {a b c : List Token} {e : Expr} {i : Index} {at open_at comma end : Place}
        → IsExpr a e (sign sign.Comma comma ∷ b) → IsIndex b i (sign sign.CloseRound end ∷ c)
        → IsPrimary (keyword keyword.Refresh at ∷ sign sign.OpenRound open_at ∷ a) (tree.Refresh at e i) c
    tuple : {a b : List Token} {es : List Expr} {at end : Place}
        → IsExprs a es (sign sign.CloseRound end ∷ b) → IsPrimary (sign sign.OpenRound at ∷ a) (tree.Tuple es) b

  -- expr (`,` expr)*
  pub data IsExprs : List Token → List Expr → List Token → Type 0 where
    one_expr : {a b : List Token} {e : Expr} → IsExpr a e b → IsExprs a (e ∷ []) b
    next_expr : {a b c : List Token} {e : Expr} {es : List Expr} {comma : Place}
        → IsExpr a e (sign sign.Comma comma ∷ b) → IsExprs b es c → IsExprs a (e ∷ es) c
