-- What the actions of expressions make of the parts on top of a stack.
-- Lists stand in reverse while they are built. None where the parts on top are not of the kinds that are taken.
use Rattle.std.specs.Prelude.{List, [], ◌∷◌, ◌++◌, reverse, Option, Some, None}
use Rattle.usuba_parts.specs.declared.part.Part.{Part}
use Rattle.usuba_parts.specs.declared.part.Part.TheVariants as part
use Rattle.usuba_trees.specs.Made.{link}
use Rattle.usuba_trees.specs.declared.BitOp.{BitOp}
use Rattle.usuba_trees.specs.declared.Expr.{Expr}
use Rattle.usuba_trees.specs.declared.Link.{Link}
use Rattle.usuba_trees.specs.declared.ShiftKind.{ShiftKind}
use Rattle.usuba_trees.specs.declared.ShiftLink.{ShiftLink}
use Rattle.usuba_trees.specs.declared.Expr.TheVariants as tree

-- an operand with the further operands of its level: none leave it as it is
abbrev pub chained : BitOp → Expr → List Link → Expr
chained op e [] = e
chained op e (l ∷ ls) = tree.Chain op e (l ∷ ls)

-- an operand with the shifts behind it
abbrev pub shifted : Expr → List ShiftLink → Expr
shifted e [] = e
shifted e (l ∷ ls) = tree.Shift e (l ∷ ls)

-- a level of an expression from its operands
abbrev pub act_chain : BitOp → List Part → Option (List Part)
act_chain op (part.Expr e ∷ part.Links ls ∷ rest) = Some (part.Expr (chained op e (reverse ls)) ∷ rest)
act_chain _ _ = None

-- a further operand of a level, with the place of its sign
abbrev pub act_add_link : List Part → Option (List Part)
act_add_link (part.Mark at ∷ part.Expr e ∷ part.Links ls ∷ rest) =
    Some (part.Links (ls ++ link at.place e ∷ []) ∷ rest)
act_add_link _ = None

-- no further operands
abbrev pub act_no_links : List Part → Option (List Part)
act_no_links rest = Some (part.Links [] ∷ rest)

-- an operand with its shifts
abbrev pub act_shifts : List Part → Option (List Part)
act_shifts (part.Expr e ∷ part.Shifts ls ∷ rest) = Some (part.Expr (shifted e (reverse ls)) ∷ rest)
act_shifts _ = None

-- a shift of this kind, with the place of its sign
abbrev pub act_add_shift : ShiftKind → List Part → Option (List Part)
act_add_shift kind (part.Mark at ∷ part.Index i ∷ part.Shifts ls ∷ rest) =
    Some (part.Shifts (ls ++ record { kind = kind; place = at.place; amount = i } ∷ []) ∷ rest)
act_add_shift _ _ = None

-- no shifts
abbrev pub act_no_shifts : List Part → Option (List Part)
act_no_shifts rest = Some (part.Shifts [] ∷ rest)

-- a complement, with the place of its sign
abbrev pub act_not : List Part → Option (List Part)
act_not (part.Mark at ∷ part.Expr e ∷ rest) = Some (part.Expr (tree.Not at.place e) ∷ rest)
act_not _ = None

-- an expression that is a number
abbrev pub act_number_expr : List Part → Option (List Part)
act_number_expr (part.Number n ∷ rest) = Some (part.Expr (tree.Number n.place n.value) ∷ rest)
act_number_expr _ = None

-- a call of a name with its arguments, or a spot of a name with its picks
abbrev pub act_name_expr : List Part → Option (List Part)
act_name_expr (part.Word w ∷ part.Exprs es ∷ rest) = Some (part.Expr (tree.Call w (reverse es)) ∷ rest)
act_name_expr (part.Word w ∷ part.Picks ps ∷ rest) =
    Some (part.Expr (tree.Spot (record { name = w; picks = reverse ps })) ∷ rest)
act_name_expr _ = None

-- a refresh, with the place of its word
abbrev pub act_refresh : List Part → Option (List Part)
act_refresh (part.Mark at ∷ part.Refreshed e i ∷ rest) = Some (part.Expr (tree.Refresh at.place e i) ∷ rest)
act_refresh _ = None

-- a tuple of the expressions in brackets
abbrev pub act_tuple : List Part → Option (List Part)
act_tuple (part.Exprs es ∷ rest) = Some (part.Expr (tree.Tuple (reverse es)) ∷ rest)
act_tuple _ = None

-- an expression before those behind it
abbrev pub act_add_expr : List Part → Option (List Part)
act_add_expr (part.Expr x ∷ part.Exprs xs ∷ rest) = Some (part.Exprs (xs ++ x ∷ []) ∷ rest)
act_add_expr _ = None

-- no expressions
abbrev pub act_no_exprs : List Part → Option (List Part)
act_no_exprs rest = Some (part.Exprs [] ∷ rest)

-- the arguments of a refresh in their brackets
abbrev pub act_refresh_args : List Part → Option (List Part)
act_refresh_args (part.Mark p ∷ part.Expr e ∷ part.Mark q ∷ part.Index i ∷ part.Mark r ∷ rest) =
    Some (part.Refreshed e i ∷ rest)
act_refresh_args _ = None
