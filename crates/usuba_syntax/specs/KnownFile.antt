-- A small text with every form of the grammar, and the tree of the file that it spells.
use Rattle.std.specs.Prelude.{ℕ, List, [], ◌∷◌, ◌++◌, Option, Some, None, codes}
use Rattle.tor_edge.specs.declared.place.Place.{Place}
use Rattle.usuba_trees.specs.Made.{name, index_link, link, loop_of}
use Rattle.usuba_trees.specs.declared.Base.{Base}
use Rattle.usuba_trees.specs.declared.Base.TheVariants as tree
use Rattle.usuba_trees.specs.declared.BitOp.TheVariants as operator
use Rattle.usuba_trees.specs.declared.Decl.{Decl}
use Rattle.usuba_trees.specs.declared.Def.{Def}
use Rattle.usuba_trees.specs.declared.Def.TheVariants as definition
use Rattle.usuba_trees.specs.declared.Equation.{Equation}
use Rattle.usuba_trees.specs.declared.Expr.{Expr}
use Rattle.usuba_trees.specs.declared.Expr.TheVariants as expr
use Rattle.usuba_trees.specs.declared.File.{File}
use Rattle.usuba_trees.specs.declared.Index.{Index}
use Rattle.usuba_trees.specs.declared.Index.TheVariants as index
use Rattle.usuba_trees.specs.declared.IndexOp.TheVariants as order
use Rattle.usuba_trees.specs.declared.Item.TheVariants as item
use Rattle.usuba_trees.specs.declared.Item.{Item}
use Rattle.usuba_trees.specs.declared.Pick.{Pick}
use Rattle.usuba_trees.specs.declared.Pick.TheVariants as pick
use Rattle.usuba_trees.specs.declared.Shape.{Shape}
use Rattle.usuba_trees.specs.declared.ShiftKind.{ShiftKind}
use Rattle.usuba_trees.specs.declared.ShiftKind.TheVariants as shift
use Rattle.usuba_trees.specs.declared.ShiftLink.{ShiftLink}
use Rattle.usuba_trees.specs.declared.Spot.{Spot}
use Rattle.usuba_trees.specs.declared.Word.{Word}

-- the text
abbrev pub known_text : List ℕ
known_text =
    codes "_inline table T(a, b:v2[3]) returns c:u1x2, d:b4 {0, 0x1f}\n" ++
    codes "perm P(x:u8) returns (y:b3) {1} // a comment\n" ++
    codes "node G(x:u8) returns y:u8 let tel\n" ++
    codes "_no_inline node F(in:u8[2][3], k:v4) returns (o:u16)\n" ++
    codes "vars t, s:u1\n" ++
    codes "let\n" ++
    codes "  forall i in [0, 2 * k + 3 - 4 / i % (1)] { };\n" ++
    codes "  forall u8 in [i, 1] { t[i] = ~x; }\n" ++
    codes "  (o[1][0..i], t) = T(x, 1) | x ^ y & z << 1 >> i <<< (k) >>> 2;\n" ++
    codes "  s = refresh(x, 1) & (x, (y));\n" ++
    codes "  o = 7\n" ++
    codes "tel\n"

-- ---- shorter names for the parts of a tree

-- a place
abbrev pub at : ℕ → ℕ → Place
at line column = record { line = line; column = column }

-- a name at its place
abbrev pub named : List ℕ → ℕ → ℕ → Word
named text line column = name text (at line column)

-- a type
abbrev pub shape_of : Base → Option ℕ → List ℕ → Place → Shape
shape_of base count dims place = record { base = base; count = count; dims = dims; place = place }

-- a declaration
abbrev pub declared : Word → Shape → Decl
declared name shape = record { name = name; shape = shape }

-- a variable with what is picked of it
abbrev pub spot_of : Word → List Pick → Spot
spot_of name picks = record { name = name; picks = picks }

-- an equation
abbrev pub equation_of : List Spot → Place → Expr → Equation
equation_of left equal right = record { left = left; equal = equal; right = right }

-- a shift by an amount
abbrev pub shift_by : ShiftKind → Place → Index → ShiftLink
shift_by kind place amount = record { kind = kind; place = place; amount = amount }

-- ---- its definitions

-- two groups of declarations, dimensions, bare results, and a hexadecimal number
abbrev pub known_table : Def
known_table =
    definition.Table (record {
      name = named (codes "T") 1 15;
      inputs =
          declared (named (codes "a") 1 17) (shape_of tree.Poly (Some 2) (3 ∷ []) (at 1 22)) ∷
          declared (named (codes "b") 1 20) (shape_of tree.Poly (Some 2) (3 ∷ []) (at 1 22)) ∷ [];
      outputs =
          declared (named (codes "c") 1 37) (shape_of (tree.Bits 1) (Some 2) [] (at 1 39)) ∷
          declared (named (codes "d") 1 45) (shape_of (tree.Bits 1) (Some 4) [] (at 1 47)) ∷ [];
      entries = 0 ∷ 31 ∷ [];
    })

-- results in brackets, and no attribute
abbrev pub known_perm : Def
known_perm =
    definition.Perm (record {
      name = named (codes "P") 2 6;
      inputs =
          declared (named (codes "x") 2 8) (shape_of (tree.Bits 8) None [] (at 2 10)) ∷ [];
      outputs =
          declared (named (codes "y") 2 23) (shape_of (tree.Bits 1) (Some 3) [] (at 2 25)) ∷ [];
      entries = 1 ∷ [];
    })

-- no locals and no items
abbrev pub known_empty_node : Def
known_empty_node =
    definition.Node (record {
      name = named (codes "G") 3 6;
      inputs =
          declared (named (codes "x") 3 8) (shape_of (tree.Bits 8) None [] (at 3 10)) ∷ [];
      outputs =
          declared (named (codes "y") 3 22) (shape_of (tree.Bits 8) None [] (at 3 24)) ∷ [];
      locals = [];
      items = [];
    })

-- forall i in [0, 2 * k + 3 - 4 / i % (1)] { };
abbrev pub known_empty_loop : Item
known_empty_loop =
    item.Loop
    (loop_of (at 7 3) (named (codes "i") 7 10) (index.Number 0)
    (index.Chain
    (index.Chain (index.Number 2)
    (index_link order.Mul (index.Counter (named (codes "k") 7 23)) ∷ []))
    (index_link order.Add (index.Number 3) ∷
    index_link order.Sub
    (index.Chain (index.Number 4)
    (index_link order.Div (index.Counter (named (codes "i") 7 35)) ∷
    index_link order.Rem (index.Number 1) ∷ [])) ∷ [])) [])

-- forall u8 in [i, 1] { t[i] = ~x; }
abbrev pub known_loop : Item
known_loop =
    item.Loop
    (loop_of (at 8 3) (named (codes "u8") 8 10) (index.Counter (named (codes "i") 8 17))
    (index.Number 1)
    (item.Equation
    (equation_of
    ((spot_of (named (codes "t") 8 25)
    (pick.One (index.Counter (named (codes "i") 8 27)) ∷ [])) ∷ [])
    (at 8 30) (expr.Not (at 8 32) (expr.Spot (spot_of (named (codes "x") 8 33) [])))) ∷ []))

-- (o[1][0..i], t) = T(x, 1) | x ^ y & z << 1 >> i <<< (k) >>> 2;
abbrev pub known_two_lefts : Item
known_two_lefts =
    item.Equation
    (equation_of
    ((spot_of (named (codes "o") 9 4)
    (pick.One (index.Number 1) ∷
    pick.Range (index.Number 0) (index.Counter (named (codes "i") 9 12)) ∷ [])) ∷
    (spot_of (named (codes "t") 9 16) []) ∷ []) (at 9 19)
    (expr.Chain operator.Or
    (expr.Call (named (codes "T") 9 21)
    ((expr.Spot (spot_of (named (codes "x") 9 23) [])) ∷
    (expr.Number (at 9 26) 1) ∷ []))
    (link (at 9 29)
    (expr.Chain operator.Xor (expr.Spot (spot_of (named (codes "x") 9 31) []))
    (link (at 9 33)
    (expr.Chain operator.And
    (expr.Spot (spot_of (named (codes "y") 9 35) []))
    (link (at 9 37)
    (expr.Shift (expr.Spot (spot_of (named (codes "z") 9 39) []))
    (shift_by shift.Left (at 9 41) (index.Number 1) ∷
    shift_by shift.Right (at 9 46)
    (index.Counter (named (codes "i") 9 49)) ∷
    shift_by shift.RotLeft (at 9 51)
    (index.Counter (named (codes "k") 9 56)) ∷
    shift_by shift.RotRight (at 9 59) (index.Number 2) ∷ [])) ∷ [])) ∷ [])) ∷ [])))

-- s = refresh(x, 1) & (x, (y));
abbrev pub known_refresh : Item
known_refresh =
    item.Equation
    (equation_of ((spot_of (named (codes "s") 10 3) []) ∷ []) (at 10 5)
    (expr.Chain operator.And
    (expr.Refresh (at 10 7) (expr.Spot (spot_of (named (codes "x") 10 15) []))
    (index.Number 1))
    (link (at 10 21)
    (expr.Tuple
    ((expr.Spot (spot_of (named (codes "x") 10 24) [])) ∷
    (expr.Tuple ((expr.Spot (spot_of (named (codes "y") 10 28) [])) ∷ [])) ∷ [])) ∷ [])))

-- o = 7
abbrev pub known_last : Item
known_last =
    item.Equation
    (equation_of ((spot_of (named (codes "o") 11 3) []) ∷ []) (at 11 5) (expr.Number (at 11 7) 7))

-- locals, and these items
abbrev pub known_node : Def
known_node =
    definition.Node (record {
      name = named (codes "F") 4 17;
      inputs =
          declared (named (codes "in") 4 19) (shape_of (tree.Bits 8) None (2 ∷ 3 ∷ []) (at 4 22)) ∷
          declared (named (codes "k") 4 32) (shape_of tree.Poly (Some 4) [] (at 4 34)) ∷ [];
      outputs =
          declared (named (codes "o") 4 47) (shape_of (tree.Bits 16) None [] (at 4 49)) ∷ [];
      locals =
          declared (named (codes "t") 5 6) (shape_of (tree.Bits 1) None [] (at 5 11)) ∷
          declared (named (codes "s") 5 9) (shape_of (tree.Bits 1) None [] (at 5 11)) ∷ [];
      items = known_empty_loop ∷ known_loop ∷ known_two_lefts ∷ known_refresh ∷ known_last ∷ [];
    })

-- the file
abbrev pub known_file : File
known_file = record { defs = known_table ∷ known_perm ∷ known_empty_node ∷ known_node ∷ [] }
