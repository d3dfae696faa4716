-- The rules of indexes. `IsX before tree after` says that the tokens `before` are a text of the rule X that
-- spells this tree, and then the tokens `after`.
use Rattle.std.specs.Prelude.{ℕ, List, [], ◌∷◌}
use Rattle.tor_edge.specs.declared.place.Place.{Place}
use Rattle.usuba_tokens.specs.declared.token.Sign.{Sign}
use Rattle.usuba_tokens.specs.declared.token.Sign.TheVariants as sign
use Rattle.usuba_tokens.specs.declared.token.Token.{Token}
use Rattle.usuba_trees.specs.Made.{index_link}
use Rattle.usuba_trees.specs.declared.Index.{Index}
use Rattle.usuba_trees.specs.declared.Index.TheVariants as tree
use Rattle.usuba_trees.specs.declared.IndexLink.{IndexLink}
use Rattle.usuba_trees.specs.declared.IndexOp.{IndexOp}
use Rattle.usuba_trees.specs.declared.IndexOp.TheVariants as op
use Rattle.usuba_trees.specs.declared.Word.{Word}
use Rattle.usuba_syntax.specs.Terminals.{sign, IsName, IsNumber}

-- the signs `+` and `-`
pub data IsSumSign : Sign → IndexOp → Type 0 where
  plus : IsSumSign sign.Plus op.Add
  minus : IsSumSign sign.Minus op.Sub

-- the signs `*`, `/` and `%`
pub data IsProductSign : Sign → IndexOp → Type 0 where
  times : IsProductSign sign.Star op.Mul
  over : IsProductSign sign.Slash op.Div
  remainder : IsProductSign sign.Percent op.Rem

mutual
  -- index: product ((`+` or `-`) product)*
  pub data IsIndex : List Token → Index → List Token → Type 0 where
    one_product : {a b : List Token} {e : Index} → IsProduct a e b → IsIndex a e b
    sum : {a b c : List Token} {e : Index} {l : IndexLink} {ls : List IndexLink}
        → IsProduct a e b → IsSumLinks b (l ∷ ls) c → IsIndex a (tree.Chain e (l ∷ ls)) c

  -- ((`+` or `-`) product)*
  pub data IsSumLinks : List Token → List IndexLink → List Token → Type 0 where
    no_more_products : {a : List Token} → IsSumLinks a [] a
    next_product : {a b c : List Token} {s : Sign} {o : IndexOp} {at : Place} {e : Index} {ls : List IndexLink}
        → IsSumSign s o → IsProduct a e b → IsSumLinks b ls c → IsSumLinks (sign s at ∷ a) (index_link o e ∷ ls) c

  -- product: atom ((`*` or `/` or `%`) atom)*
  pub data IsProduct : List Token → Index → List Token → Type 0 where
    one_atom : {a b : List Token} {e : Index} → IsAtom a e b → IsProduct a e b
    product : {a b c : List Token} {e : Index} {l : IndexLink} {ls : List IndexLink}
        → IsAtom a e b → IsProductLinks b (l ∷ ls) c → IsProduct a (tree.Chain e (l ∷ ls)) c

  -- ((`*` or `/` or `%`) atom)*
  pub data IsProductLinks : List Token → List IndexLink → List Token → Type 0 where
    no_more_atoms : {a : List Token} → IsProductLinks a [] a
    next_atom : {a b c : List Token} {s : Sign} {o : IndexOp} {at : Place} {e : Index} {ls : List IndexLink}
        → IsProductSign s o → IsAtom a e b → IsProductLinks b ls c → IsProductLinks (sign s at ∷ a) (index_link o e ∷ ls) c

  -- atom: NUMBER, NAME, or `(` index `)`. The brackets add nothing to the tree.
  pub data IsAtom : List Token → Index → List Token → Type 0 where
    index_number : {t : Token} {a : List Token} {n : ℕ} → IsNumber t n → IsAtom (t ∷ a) (tree.Number n) a
    counter : {t : Token} {a : List Token} {w : Word} → IsName t w → IsAtom (t ∷ a) (tree.Counter w) a
    index_in_brackets : {a b : List Token} {e : Index} {at end : Place}
        → IsIndex a e (sign sign.CloseRound end ∷ b) → IsAtom (sign sign.OpenRound at ∷ a) e b

-- amount: NUMBER, NAME, or `(` index `)`
pub data IsAmount : List Token → Index → List Token → Type 0 where
  amount_number : {t : Token} {a : List Token} {n : ℕ} → IsNumber t n → IsAmount (t ∷ a) (tree.Number n) a
  amount_counter : {t : Token} {a : List Token} {w : Word} → IsName t w → IsAmount (t ∷ a) (tree.Counter w) a
  amount_in_brackets : {a b : List Token} {e : Index} {at end : Place}
      → IsIndex a e (sign sign.CloseRound end ∷ b) → IsAmount (sign sign.OpenRound at ∷ a) e b
