-- The unrolled equations of a node: loops are replaced by their instances in rising counter, index expressions by their
-- numbers. An index without a value names nothing.
use Rattle.std.specs.Prelude.{ℕ, zero, suc, ◌+◌, List, [], ◌∷◌, ◌++◌, map, flat_map, Option, Some, None, ℤ, pos, negsuc, ◌+ℤ◌, ◌-ℤ◌}
use Rattle.usuba_trees.specs.declared.BitOp.{BitOp}
use Rattle.usuba_trees.specs.declared.Decl.{Decl}
use Rattle.usuba_trees.specs.declared.Equation.{Equation}
use Rattle.usuba_trees.specs.declared.Expr.{Expr, fold-Expr}
use Rattle.usuba_trees.specs.declared.Expr.TheOpen.{Expr-F}
use Rattle.usuba_trees.specs.declared.Index.{Index}
use Rattle.usuba_trees.specs.declared.Item.{Item, fold-Item}
use Rattle.usuba_trees.specs.declared.Item.TheOpen.{Item-F}
use Rattle.usuba_trees.specs.declared.Node.{Node}
use Rattle.usuba_trees.specs.declared.ShiftKind.{ShiftKind}
use Rattle.usuba_trees.specs.declared.ShiftLink.{ShiftLink}
use Rattle.usuba_trees.specs.declared.Spot.{Spot}
use Rattle.usuba_trees.specs.declared.Word.{Word}
use Rattle.usuba_model.specs.Indexes.{Counter, computed}
use Rattle.usuba_model.specs.Cells.{Cell, spot_read}

-- a right side over cells and numbers. The arguments of a call are joined to one value, and a chain of operators associates
-- to the left.
pub data Expression : Type 0 where
  number : ℕ → Expression
  cells : List Cell → Expression
  nothing : Expression
  joined : Expression → Expression → Expression
  call : List ℕ → Expression → Expression
  complement : Expression → Expression
  operation : BitOp → Expression → Expression → Expression
  shift : ShiftKind → ℕ → Expression → Expression
  refresh : ℕ → Expression → Expression

-- a left side: the name that stands there, and the cells that it holds
pub record Target : Type 0 where
  pub name : Word
  pub cells : List Cell

-- an equation instance: its left sides, and what defines their cells
pub record Instance : Type 0 where
  pub targets : List Target
  pub right : Expression

-- the cells of left sides
abbrev pub target_cells : List Target → List Cell
target_cells [] = []
target_cells (target ∷ targets) = target.cells ++ target_cells targets

-- the cells that an instance defines
abbrev pub left_cells : Instance → List Cell
left_cells instance = target_cells instance.targets

-- a whole number as an amount or the number of a refresh; what is negative or has no value counts as 0, and is at fault
abbrev pub natural : Option ℤ → ℕ
natural (Some (pos n)) = n
natural (Some (negsuc n)) = 0
natural None = 0

-- values one after another
abbrev pub joined_all : List Expression → Expression
joined_all [] = nothing
joined_all (first ∷ []) = first
joined_all (first ∷ second ∷ rest) = joined first (joined_all (second ∷ rest))

-- a chain of operands under one operator
abbrev pub chained : BitOp → Expression → List Expression → Expression
chained op first [] = first
chained op first (operand ∷ rest) = chained op (operation op first operand) rest

-- shifts one after another
abbrev pub shifted : List Counter → Expression → List ShiftLink → Expression
shifted counters first [] = first
shifted counters first (move ∷ moves) =
    shifted counters (shift move.kind (natural (computed move.amount counters).value) first) moves

-- an expression over cells for each value of the counters around it
abbrev pub Unrolled : Type 0
Unrolled = List Counter → Expression

-- what each of some expressions is for these values of the counters
abbrev pub each_at : List Counter → List Unrolled → List Expression
each_at counters parts = map (λ part. part counters) parts

-- one level of an expression among these declarations, given what its parts are unrolled to
abbrev pub expression_level : List Decl → Expr-F Unrolled Unrolled → Unrolled
expression_level declared (Expr-F.Number place value) counters = number value
expression_level declared (Expr-F.Spot spot) counters = cells (spot_read declared counters spot).cells
expression_level declared (Expr-F.Tuple parts) counters = joined_all (each_at counters parts)
expression_level declared (Expr-F.Call name args) counters = call name.text (joined_all (each_at counters args))
expression_level declared (Expr-F.Not place inner) counters = complement (inner counters)
expression_level declared (Expr-F.Chain op first rest) counters = chained op (first counters) (each_at counters rest)
expression_level declared (Expr-F.Shift first moves) counters = shifted counters (first counters) moves
expression_level declared (Expr-F.Refresh place inner k) counters =
    refresh (natural (computed k counters).value) (inner counters)

-- an expression over cells and numbers, where the counters of the loops around have these values
abbrev pub unrolled_expression : List Decl → Expr → Unrolled
unrolled_expression declared = fold-Expr Unrolled Unrolled (expression_level declared) (λ link. link.operand)

-- the left sides of an equation
abbrev pub targets_of : List Decl → List Counter → List Spot → List Target
targets_of declared counters spots =
    map (λ spot. record { name = spot.name; cells = (spot_read declared counters spot).cells }) spots

-- an equation has one instance for these values of the counters
abbrev pub instance_of : List Decl → List Counter → Equation → Instance
instance_of declared counters equation = record {
  targets = targets_of declared counters equation.left;
  right = unrolled_expression declared equation.right counters;
}

-- so many whole numbers upwards from the first
abbrev pub upwards : ℤ → ℕ → List ℤ
upwards first zero = []
upwards first (suc n) = first ∷ upwards (first +ℤ pos 1) n

-- the whole numbers from one to another that is at so many above it; none where it lies below
abbrev pub from_up : ℤ → ℤ → List ℤ
from_up first (pos n) = upwards first (n + 1)
from_up first (negsuc n) = []

-- the whole numbers between two bounds, both included, upwards; none where a bound has no value
abbrev pub between : Option ℤ → Option ℤ → List ℤ
between (Some low) (Some high) = from_up low (high -ℤ low)
between (Some low) None = []
between None high = []

-- the values that a loop's counter takes
abbrev pub counter_values : List Counter → Index → Index → List ℤ
counter_values counters low high = between (computed low counters).value (computed high counters).value

-- instances for each value of the counters around them
abbrev pub Instances : Type 0
Instances = List Counter → List Instance

-- the instances of items, in text order
abbrev pub of_each : List Instances → Instances
of_each [] counters = []
of_each (item ∷ items) counters = item counters ++ of_each items counters

-- the instances of a loop's items for each value of its counter
abbrev pub of_loop : List ℕ → List ℤ → Instances → Instances
of_loop name values items counters = flat_map (λ value. items (record { name = name; value = value } ∷ counters)) values

-- one level of an item among these declarations
abbrev pub item_level : List Decl → Item-F Instances Instances → Instances
item_level declared (Item-F.Equation equation) counters = instance_of declared counters equation ∷ []
item_level declared (Item-F.Loop instances) counters = instances counters

-- the instances of an item, for each value of the counters around it
abbrev pub unrolled_item : List Decl → Item → Instances
unrolled_item declared = fold-Item Instances Instances (item_level declared)
    (λ loop counters. of_loop loop.counter.text (counter_values counters loop.low loop.high) (of_each loop.items) counters)

-- the declarations of a node
abbrev pub declarations : Node → List Decl
declarations node = node.inputs ++ node.outputs ++ node.locals

-- the equation instances of a node, in walk order
abbrev pub unrolled : Node → List Instance
unrolled node = of_each (map (unrolled_item (declarations node)) node.items) []
