-- Operands by the number of their product and their side, and their rows in a view.
use Rattle.std.specs.Prelude.{ℕ, ◌+◌, ◌*◌, Bool, List, [], slice_index_or}
use Rattle.span_model.specs.Closure.{Side as ProductSide, on_left, on_right, Step}
use Rattle.linear_view.specs.declared.operand.Operand.{Operand}
use Rattle.linear_view.specs.declared.operand.Side.{Side}
use Rattle.linear_view.specs.declared.operand.Side.TheVariants.{Left, Right}
use Rattle.linear_view.specs.View.{Operands, LinearView}

-- the other side
abbrev pub other_side : Side → Side
other_side Left = Right
other_side Right = Left

-- the operand of the same product on the other side
abbrev pub co_operand : Operand → Operand
co_operand operand = record { product = operand.product; side = other_side operand.side }

-- the place of a side, left before right
abbrev pub place_on : Side → ℕ
place_on Left = 0
place_on Right = 1

-- the place of an operand among all, by product, left before right
abbrev pub place_of : Operand → ℕ
place_of operand = 2 * operand.product + place_on operand.side

-- a side as the closure of a leak speaks of it
abbrev pub side_of : Side → ProductSide
side_of Left = on_left
side_of Right = on_right

-- the step that takes the operand
abbrev pub step_of : Operand → Step
step_of operand = record { product = operand.product; side = side_of operand.side }

-- the rows of a product's operand on a side
abbrev pub rows_on : Side → Operands → List (List Bool)
rows_on Left operands = operands.left
rows_on Right operands = operands.right

-- the rows of an operand in a view; that of a product past the end has none
abbrev pub operand_rows : LinearView → Operand → List (List Bool)
operand_rows view operand =
    rows_on operand.side (slice_index_or view.products operand.product (record { left = []; right = [] }))
