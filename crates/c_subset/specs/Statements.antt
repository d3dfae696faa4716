-- The rules of statements. `IsX before tree after` says that the tokens `before` are a text of the rule X that spells
-- this tree, and then the tokens `after`.
use Rattle.std.specs.Prelude.{ℕ, suc, List, [], ◌∷◌}
use Rattle.tor_edge.specs.declared.place.Place.{Place}
use Rattle.c_tokens.specs.declared.token.Keyword.TheVariants as keyword
use Rattle.c_tokens.specs.declared.token.Sign.TheVariants as sign
use Rattle.c_tokens.specs.declared.token.Token.{Token}
use Rattle.c_tree.specs.declared.CExpr.{CExpr}
use Rattle.c_tree.specs.declared.CIndex.{CIndex}
use Rattle.c_tree.specs.declared.CLow.{CLow}
use Rattle.c_tree.specs.declared.CStmt.{CStmt}
use Rattle.c_tree.specs.declared.CStmt.TheVariants as tree
use Rattle.c_subset.specs.Expressions.{IsIdx, IsLow, IsEx}
use Rattle.c_subset.specs.Terminals.{sign, keyword, name}

mutual
  -- stmt*, where so many loops may yet stand inside one another
  pub data IsStmts : ℕ → List Token → List CStmt → List Token → Type 0 where
    no_stmt : {loops : ℕ} {a : List Token} → IsStmts loops a [] a
    next_stmt : {loops : ℕ} {s : CStmt} {ss : List CStmt} {a b c : List Token}
        → IsStmt loops a s b → IsStmts loops b ss c → IsStmts loops a (s ∷ ss) c

  -- stmt: NAME `[` idx `]` `=` `(` `reg` `)` ex `;`; `uint64_t` NAME `=` ex `;`;
  -- `for` `(` `unsigned` NAME `=` low `;` NAME `<` `D` `;` NAME `++` `)` `{` stmt* `}`, the three names equal
  pub data IsStmt : ℕ → List Token → CStmt → List Token → Type 0 where
    assign : {loops : ℕ} {array : List ℕ} {t : Token} {i : CIndex} {e : CExpr}
        {at square close equals round reg end semicolon : Place} {a b : List Token}
        → IsIdx t i → IsEx 128 a e (sign sign.Semicolon semicolon ∷ b)
        → IsStmt loops (name array at ∷ sign sign.OpenSquare square ∷ t ∷ sign sign.CloseSquare close
        ∷ sign sign.Equals equals ∷ sign sign.OpenRound round ∷ keyword keyword.Reg reg
        ∷ sign sign.CloseRound end ∷ a) (tree.Assign array i e) b
    declare : {loops : ℕ} {text : List ℕ} {e : CExpr} {at of equals semicolon : Place} {a b : List Token}
        → IsEx 128 a e (sign sign.Semicolon semicolon ∷ b)
        → IsStmt loops (keyword keyword.Word at ∷ name text of ∷ sign sign.Equals equals ∷ a) (tree.Let text e) b
    for_counter : {loops : ℕ} {counter : List ℕ} {l : CLow} {ss : List CStmt}
        {at round unsigned of equals semicolon again less shares second once plus end curly close : Place}
        {a b c : List Token}
        → IsLow a l (sign sign.Semicolon semicolon ∷ name counter again ∷ sign sign.Less less
        ∷ keyword keyword.Shares shares ∷ sign sign.Semicolon second ∷ name counter once
        ∷ sign sign.PlusPlus plus ∷ sign sign.CloseRound end
        ∷ sign sign.OpenCurly curly ∷ b)
        → IsStmts loops b ss (sign sign.CloseCurly close ∷ c)
        → IsStmt (suc loops) (keyword keyword.For at ∷ sign sign.OpenRound round ∷ keyword keyword.Unsigned unsigned
        ∷ name counter of ∷ sign sign.Equals equals ∷ a) (tree.For counter l ss) c
