-- The rules of definitions and files. `IsX before tree after` says that the tokens `before` are a text of the rule X
-- that spells this tree, and then the tokens `after`.
use Rattle.std.specs.Prelude.{ℕ, List, [], ◌∷◌, ◌++◌}
use Rattle.tor_edge.specs.declared.place.Place.{Place}
use Rattle.usuba_tokens.specs.declared.token.Keyword.TheVariants as keyword
use Rattle.usuba_tokens.specs.declared.token.Sign.TheVariants as sign
use Rattle.usuba_tokens.specs.declared.token.Token.{Token}
use Rattle.usuba_trees.specs.declared.Decl.{Decl}
use Rattle.usuba_trees.specs.declared.Def.{Def}
use Rattle.usuba_trees.specs.declared.Def.TheVariants as tree
use Rattle.usuba_trees.specs.declared.File.{File}
use Rattle.usuba_trees.specs.declared.Grid.{Grid}
use Rattle.usuba_trees.specs.declared.Item.{Item}
use Rattle.usuba_trees.specs.declared.Node.{Node}
use Rattle.usuba_trees.specs.declared.Word.{Word}
use Rattle.usuba_syntax.specs.Declarations.{IsDecls, IsResults, IsLocals}
use Rattle.usuba_syntax.specs.Items.{IsItems}
use Rattle.usuba_syntax.specs.Terminals.{sign, keyword, IsName, IsNumber}

-- node: `node` NAME `(` decls `)` `returns` results (`vars` decls)? `let` items `tel`
pub data IsNode : List Token → Node → List Token → Type 0 where
  node : {t : Token} {a b c d e : List Token} {w : Word} {ins outs vars : List Decl} {is : List Item}
      {at open_at end returns let_at tel : Place}
      → IsName t w → IsDecls a ins (sign sign.CloseRound end ∷ keyword keyword.Returns returns ∷ b)
      → IsResults b outs c → IsLocals c vars (keyword keyword.Let let_at ∷ d)
      → IsItems d is (keyword keyword.Tel tel ∷ e)
      → IsNode (keyword keyword.Node at ∷ t ∷ sign sign.OpenRound open_at ∷ a)
      (record { name = w; inputs = ins; outputs = outs; locals = vars; items = is }) e

-- NUMBER (`,` NUMBER)*
pub data IsNumbers : List Token → List ℕ → List Token → Type 0 where
  last_number : {t : Token} {a : List Token} {n : ℕ} → IsNumber t n → IsNumbers (t ∷ a) (n ∷ []) a
  next_number : {t : Token} {a b : List Token} {n : ℕ} {ns : List ℕ} {comma : Place}
      → IsNumber t n → IsNumbers a ns b → IsNumbers (t ∷ sign sign.Comma comma ∷ a) (n ∷ ns) b

-- NAME `(` decls `)` `returns` results `{` NUMBER (`,` NUMBER)* `}`
pub data IsGrid : List Token → Grid → List Token → Type 0 where
  grid : {t : Token} {a b c d : List Token} {w : Word} {ins outs : List Decl} {ns : List ℕ}
      {open_at end returns curly close : Place}
      → IsName t w → IsDecls a ins (sign sign.CloseRound end ∷ keyword keyword.Returns returns ∷ b)
      → IsResults b outs (sign sign.OpenCurly curly ∷ c) → IsNumbers c ns (sign sign.CloseCurly close ∷ d)
      → IsGrid (t ∷ sign sign.OpenRound open_at ∷ a) (record { name = w; inputs = ins; outputs = outs; entries = ns }) d

-- node, table or perm
pub data IsPlainDef : List Token → Def → List Token → Type 0 where
  node_def : {a b : List Token} {n : Node} → IsNode a n b → IsPlainDef a (tree.Node n) b
  table_def : {a b : List Token} {g : Grid} {at : Place} → IsGrid a g b → IsPlainDef (keyword keyword.Table at ∷ a) (tree.Table g) b
  perm_def : {a b : List Token} {g : Grid} {at : Place} → IsGrid a g b → IsPlainDef (keyword keyword.Perm at ∷ a) (tree.Perm g) b

-- def: (`_inline` or `_no_inline`)? then node, table or perm
pub data IsDef : List Token → Def → List Token → Type 0 where
  plain : {a b : List Token} {d : Def} → IsPlainDef a d b → IsDef a d b
  inline : {a b : List Token} {d : Def} {at : Place} → IsPlainDef a d b → IsDef (keyword keyword.Inline at ∷ a) d b
  no_inline : {a b : List Token} {d : Def} {at : Place} → IsPlainDef a d b → IsDef (keyword keyword.NoInline at ∷ a) d b

-- def+
pub data IsDefs : List Token → List Def → List Token → Type 0 where
  last_def : {a b : List Token} {d : Def} → IsDef a d b → IsDefs a (d ∷ []) b
  next_def : {a b c : List Token} {d : Def} {ds : List Def} → IsDef a d b → IsDefs b ds c → IsDefs a (d ∷ ds) c

-- file: def+, and nothing after
pub data IsFile : List Token → File → Type 0 where
  file : {a : List Token} {ds : List Def} → IsDefs a ds [] → IsFile a (record { defs = ds })

-- some tokens after these make a file
abbrev pub BeginsFile : List Token → Type 0
BeginsFile tokens = (after : List Token) × (tree : File) × IsFile (tokens ++ after) tree
