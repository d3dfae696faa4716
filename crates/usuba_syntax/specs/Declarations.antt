-- The rules of types and declarations. `IsX before tree after` says that the tokens `before` are a text of the rule
-- X that spells this tree, and then the tokens `after`.
use Rattle.std.specs.Prelude.{ℕ, ◌<◌, List, [], ◌∷◌, ◌++◌, map}
use Rattle.tor_edge.specs.declared.place.Place.{Place}
use Rattle.usuba_tokens.specs.declared.token.Keyword.TheVariants as keyword
use Rattle.usuba_tokens.specs.declared.token.Sign.TheVariants as sign
use Rattle.usuba_tokens.specs.declared.token.Token.{Token}
use Rattle.usuba_tokens.specs.declared.token.TypeWord.{TypeWord}
use Rattle.usuba_tokens.specs.declared.token.Base.{Base}
use Rattle.usuba_tokens.specs.declared.token.Base.TheVariants as word
use Rattle.usuba_trees.specs.declared.Base as trees
use Rattle.usuba_trees.specs.declared.Base.TheVariants as tree
use Rattle.usuba_trees.specs.declared.Decl.{Decl}
use Rattle.usuba_trees.specs.declared.Shape.{Shape}
use Rattle.usuba_trees.specs.declared.Word.{Word}
use Rattle.usuba_syntax.specs.Terminals.{sign, keyword, type_word, IsName, IsNumber}

-- (`[` NUMBER `]`)*, each number at least 1
pub data IsDims : List Token → List ℕ → List Token → Type 0 where
  no_more_dims : {a : List Token} → IsDims a [] a
  next_dim : {t : Token} {a b : List Token} {n : ℕ} {ns : List ℕ} {at end : Place}
      → IsNumber t n → 0 < n → IsDims a ns b
      → IsDims (sign sign.OpenSquare at ∷ t ∷ sign sign.CloseSquare end ∷ a) (n ∷ ns) b

-- what an element of a type is: `v` words of the program's width, `u` and `b` so many bits
abbrev pub base_of : Base → trees.Base
base_of word.Poly = tree.Poly
base_of (word.Bits w) = tree.Bits w

-- type: TYPEWORD (`[` NUMBER `]`)*
pub data IsShape : List Token → Shape → List Token → Type 0 where
  shape : {a b : List Token} {word : TypeWord} {at : Place} {ns : List ℕ}
      → IsDims a ns b
      → IsShape (type_word word at ∷ a) (record { base = base_of word.base; count = word.count; dims = ns; place = at }) b

-- NAME (`,` NAME)*
pub data IsNames : List Token → List Word → List Token → Type 0 where
  last_name : {t : Token} {a : List Token} {w : Word} → IsName t w → IsNames (t ∷ a) (w ∷ []) a
  next_name : {t : Token} {a b : List Token} {w : Word} {ws : List Word} {comma : Place}
      → IsName t w → IsNames a ws b → IsNames (t ∷ sign sign.Comma comma ∷ a) (w ∷ ws) b

-- one declaration for each name of a group
abbrev pub decls_of : Shape → List Word → List Decl
decls_of s ws = map (λ w. record { name = w; shape = s }) ws

-- decl: NAME (`,` NAME)* `:` type
pub data IsDecl : List Token → List Decl → List Token → Type 0 where
  decl : {a b c : List Token} {ws : List Word} {s : Shape} {colon : Place}
      → IsNames a ws (sign sign.Colon colon ∷ b) → IsShape b s c → IsDecl a (decls_of s ws) c

-- decls: decl (`,` decl)*
pub data IsDecls : List Token → List Decl → List Token → Type 0 where
  last_decl : {a b : List Token} {ds : List Decl} → IsDecl a ds b → IsDecls a ds b
  next_decl : {a b c : List Token} {ds es : List Decl} {comma : Place}
      → IsDecl a ds (sign sign.Comma comma ∷ b) → IsDecls b es c → IsDecls a (ds ++ es) c

-- results: `(` decls `)`, or decls
pub data IsResults : List Token → List Decl → List Token → Type 0 where
  results_in_brackets : {a b : List Token} {ds : List Decl} {at end : Place}
      → IsDecls a ds (sign sign.CloseRound end ∷ b) → IsResults (sign sign.OpenRound at ∷ a) ds b
  bare_results : {a b : List Token} {ds : List Decl} → IsDecls a ds b → IsResults a ds b

-- (`vars` decls)?
pub data IsLocals : List Token → List Decl → List Token → Type 0 where
  no_locals : {a : List Token} → IsLocals a [] a
  locals : {a b : List Token} {ds : List Decl} {at : Place} → IsDecls a ds b → IsLocals (keyword keyword.Vars at ∷ a) ds b
