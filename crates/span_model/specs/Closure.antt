-- The closure of a leak, by steps. A step takes the rows of one operand of a product, and gives those of the other.
use Rattle.std.specs.Prelude.{◌<◌, ℕ, List, [], ◌∷◌, ◌++◌, length, ⊤}
use Rattle.span_model.specs.Columns.{Columns}
use Rattle.span_model.specs.Span.{InSpan}
use Rattle.span_model.specs.Attack.{Product, product_at}

-- a side of a product
pub data Side : Type 0 where
  on_left on_right : Side

-- a step: the number of a product, and the side of the operand that it takes
pub record Step : Type 0 where
  pub product : ℕ
  pub side : Side

-- the rows of a product's operand on this side
abbrev pub side_of : {C : Type 0} → Product C → Side → List (Columns C)
side_of product on_left = product.left
side_of product on_right = product.right

-- the other side
abbrev pub other_side : Side → Side
other_side on_left = on_right
other_side on_right = on_left

-- the rows of a step's operand
abbrev pub operand : {C : Type 0} → List (Product C) → Step → List (Columns C)
operand products step = side_of (product_at products step.product) step.side

-- the rows of a step's co-operand, the operand on the other side
abbrev pub co_operand : {C : Type 0} → List (Product C) → Step → List (Columns C)
co_operand products step = side_of (product_at products step.product) (other_side step.side)

-- the rows of the co-operands of all the steps
abbrev pub co_operands : {C : Type 0} → List (Product C) → List Step → List (Columns C)
co_operands products [] = []
co_operands products (step ∷ steps) = co_operand products step ++ co_operands products steps

-- steps that the leak reaches one after the other, the last one first:
-- the operand of each, with the co-operands of the steps before it, spans the leak
abbrev pub IsChain : {C : Type 0} → List (Product C) → Columns C → List Step → Type 0
IsChain products leak [] = ⊤
IsChain products leak (step ∷ before) =
    (step.product < length products) × InSpan (operand products step ++ co_operands products before) leak × IsChain products leak before

-- the leak reaches steps whose co-operands span it
abbrev pub IsClosed : {C : Type 0} → List (Product C) → Columns C → Type 0
IsClosed products leak = (steps : List Step) × IsChain products leak steps × InSpan (co_operands products steps) leak
