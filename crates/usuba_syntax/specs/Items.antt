-- The rules of equations and loops. `IsX before tree after` says that the tokens `before` are a text of the rule X
-- that spells this tree, and then the tokens `after`.
use Rattle.std.specs.Prelude.{ℕ, List, [], ◌∷◌}
use Rattle.tor_edge.specs.declared.place.Place.{Place}
use Rattle.usuba_tokens.specs.declared.token.Keyword.TheVariants as keyword
use Rattle.usuba_tokens.specs.declared.token.Sign.TheVariants as sign
use Rattle.usuba_tokens.specs.declared.token.Token.{Token}
use Rattle.usuba_trees.specs.Made.{loop_of}
use Rattle.usuba_trees.specs.declared.Equation.{Equation}
use Rattle.usuba_trees.specs.declared.Expr.{Expr}
use Rattle.usuba_trees.specs.declared.Index.{Index}
use Rattle.usuba_trees.specs.declared.Item.{Item}
use Rattle.usuba_trees.specs.declared.Item.TheVariants as item
use Rattle.usuba_trees.specs.declared.Loop.{Loop}
use Rattle.usuba_trees.specs.declared.Spot.{Spot}
use Rattle.usuba_trees.specs.declared.Word.{Word}
use Rattle.usuba_syntax.specs.Exprs.{IsExpr, IsSpot}
use Rattle.usuba_syntax.specs.Indexes.{IsIndex}
use Rattle.usuba_syntax.specs.Terminals.{sign, keyword, in_word, IsName}

-- spot (`,` spot)*
pub data IsSpots : List Token → List Spot → List Token → Type 0 where
  last_spot : {a b : List Token} {s : Spot} → IsSpot a s b → IsSpots a (s ∷ []) b
  next_spot : {a b c : List Token} {s : Spot} {ss : List Spot} {comma : Place}
      → IsSpot a s (sign sign.Comma comma ∷ b) → IsSpots b ss c → IsSpots a (s ∷ ss) c

-- left: spot, or `(` spot (`,` spot)* `)`
pub data IsLeft : List Token → List Spot → List Token → Type 0 where
  one_spot : {a b : List Token} {s : Spot} → IsSpot a s b → IsLeft a (s ∷ []) b
  spots_in_brackets : {a b : List Token} {ss : List Spot} {at end : Place}
      → IsSpots a ss (sign sign.CloseRound end ∷ b) → IsLeft (sign sign.OpenRound at ∷ a) ss b

-- equation: left `=` expr
pub data IsEquation : List Token → Equation → List Token → Type 0 where
  equation : {a b c : List Token} {left : List Spot} {at : Place} {e : Expr}
      → IsLeft a left (sign sign.Equals at ∷ b) → IsExpr b e c
      → IsEquation a (record { left = left; equal = at; right = e }) c

mutual
  -- items: none; or loop `;`? items; or equation, then either nothing more, or `;` items
  pub data IsItems : List Token → List Item → List Token → Type 0 where
    no_item : {a : List Token} → IsItems a [] a
    loop_then : {a b c : List Token} {l : Loop} {is : List Item}
        → IsLoop a l b → IsItems b is c → IsItems a (item.Loop l ∷ is) c
    loop_semicolon_then : {a b c : List Token} {l : Loop} {is : List Item} {at : Place}
        → IsLoop a l (sign sign.Semicolon at ∷ b) → IsItems b is c → IsItems a (item.Loop l ∷ is) c
    last_equation : {a b : List Token} {e : Equation} → IsEquation a e b → IsItems a (item.Equation e ∷ []) b
    equation_then : {a b c : List Token} {e : Equation} {is : List Item} {at : Place}
        → IsEquation a e (sign sign.Semicolon at ∷ b) → IsItems b is c → IsItems a (item.Equation e ∷ is) c

  -- loop: `forall` NAME `in` `[` index `,` index `]` `{` items `}`
  pub data IsLoop : List Token → Loop → List Token → Type 0 where
    forall_in : {t : Token} {a b c d : List Token} {w : Word} {low high : Index} {is : List Item} {text : List ℕ}
        {at in_at square comma end curly close : Place}
        → IsName t w → IsIndex a low (sign sign.Comma comma ∷ b)
        → IsIndex b high (sign sign.CloseSquare end ∷ sign sign.OpenCurly curly ∷ c)
        → IsItems c is (sign sign.CloseCurly close ∷ d)
        → IsLoop (keyword keyword.Forall at ∷ t ∷ in_word text in_at ∷ sign sign.OpenSquare square ∷ a)
        (loop_of at w low high is) d
