-- Operands with the same rows, as a view notes them.
use Rattle.std.specs.Prelude.{◌≡◌, ◌<◌, Bool, List, [], length, slice_get, slice_index_or, Some}
use Rattle.linear_view.specs.declared.operand.Operand.{Operand}
use Rattle.linear_view.specs.Sides.{rows_on, place_of}
use Rattle.linear_view.specs.View.{Operands}

-- the rows of an operand of these products
abbrev pub rows_in : List Operands → Operand → List (List Bool)
rows_in products operand = rows_on operand.side (slice_index_or products operand.product (record { left = []; right = [] }))

-- an operand of one of these products
abbrev pub IsOperand : List Operands → Operand → Type 0
IsOperand products operand = operand.product < length products

-- another operand of these products has the same rows
pub record IsAlike (products : List Operands) (operand other : Operand) : Type 0 where
  pub product : IsOperand products other
  pub rows : rows_in products other ≡ rows_in products operand

-- each entry is an operand with the rows of the one at whose place it stands
abbrev pub AreAlike : List Operands → List Operand → Type 0
AreAlike products alike =
    (operand other : Operand) → slice_get alike (place_of operand) ≡ Some other → IsAlike products operand other
