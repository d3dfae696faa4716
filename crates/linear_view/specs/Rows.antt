-- The rows of a core's registers and of the operands of its products, as sets of named columns.
use Rattle.std.specs.Prelude.{ℕ, ◌+◌, ◌-◌, ◌%◌, ◌==◌, List, [], ◌∷◌, ◌++◌, map, flat_map, slice_index_or, nat_lt, if◌then◌else◌, Bool}
use Rattle.std.specs.Int.{bit_at}
use Rattle.std.specs.List.{range_with_len}
use Rattle.span_model.specs.Columns.{Columns, empty, ◌△◌}
use Rattle.span_model.specs.Attack.{Product}
use Rattle.usuba0.specs.declared.circuit.Gate.{Gate}
use Rattle.usuba0.specs.declared.circuit.Gate.TheVariants as gate
use Rattle.usuba0.specs.declared.circuit.Reg.{Reg}
use Rattle.usuba0.specs.Circuit.{Circuit, products_of, refreshes_of}
use Rattle.linear_view.specs.declared.column.Column.{Column}
use Rattle.linear_view.specs.declared.column.ColumnKind.{ColumnKind}
use Rattle.linear_view.specs.declared.column.ColumnKind.TheVariants as column
use Rattle.linear_view.specs.Names.{same_column, bits, core_columns}
use Rattle.linear_view.specs.View.{Operands, LinearView}

-- columns in some order
abbrev pub Names : Type 0
Names = List Column

-- the rows of a register, that of the least significant bit first, each a set of columns
abbrev pub Rows : Type 0
Rows = List (Columns Column)

-- the rows of registers, in their order
abbrev pub RegisterRows : Type 0
RegisterRows = List Rows

-- the set of one column
abbrev pub only : Column → Columns Column
only name = same_column name

-- the row of a bit that has a column of its own
abbrev pub own_row : ColumnKind → (number bit : ℕ) → Columns Column
own_row kind number bit = only (record { kind = kind; number = number; bit = bit })

-- the rows of a register, where those of the registers are given in order
abbrev pub rows_at : RegisterRows → Reg → Rows
rows_at registers a = slice_index_or registers a.0 []

-- the row of a bit of a register; past the last bit it is empty
abbrev pub row_at : RegisterRows → Reg → ℕ → Columns Column
row_at registers a b = slice_index_or (rows_at registers a) b empty

-- the row of bit b of the register that an equation makes at width w, after so many products and so many refreshes:
-- xor is the symmetric difference, not keeps the rows, const has empty rows, mask empties the rows of the bits that are 0 in its constant,
-- the shifts and the rotation move the rows and fill with empty ones, products and refreshes have columns of their own
abbrev pub gate_row : ℕ → (products refreshes : ℕ) → RegisterRows → Gate → ℕ → Columns Column
gate_row w products refreshes registers (gate.Const c) b = empty
gate_row w products refreshes registers (gate.Xor x y) b = row_at registers x b △ row_at registers y b
gate_row w products refreshes registers (gate.Not x) b = row_at registers x b
gate_row w products refreshes registers (gate.Mask c x) b = if bit_at c b == 1 then row_at registers x b else empty
gate_row w products refreshes registers (gate.And x y) b = own_row column.Product products b
gate_row w products refreshes registers (gate.Shl k x) b = if nat_lt b k then empty else row_at registers x (b - k)
gate_row w products refreshes registers (gate.Shr k x) b = row_at registers x (b + k)
gate_row w products refreshes registers (gate.Rotl k x) b = row_at registers x ((b + (w - k)) % w)
gate_row w products refreshes registers (gate.Refresh x) b = own_row column.Refresh refreshes b

-- the rows of the register that an equation makes, one for each bit
abbrev pub gate_rows : ℕ → (products refreshes : ℕ) → RegisterRows → Gate → Rows
gate_rows w products refreshes registers g = map (gate_row w products refreshes registers g) (bits w)

-- the rows of an input
abbrev pub input_rows : ℕ → ℕ → Rows
input_rows w number = map (own_row column.Input number) (bits w)

-- the rows of the registers so far, and then those of the registers that the equations make
abbrev pub rows_after : ℕ → (products refreshes : ℕ) → RegisterRows → List Gate → RegisterRows
rows_after w products refreshes registers [] = registers
rows_after w products refreshes registers (g ∷ gs) =
    rows_after w (products + products_of (g ∷ [])) (refreshes + refreshes_of (g ∷ []))
    (registers ++ gate_rows w products refreshes registers g ∷ []) gs

-- the rows of all registers of a core, in order
abbrev pub core_rows : Circuit → RegisterRows
core_rows core = rows_after core.width 0 0 (map (input_rows core.width) (range_with_len 0 core.inputs)) core.equations

-- the rows of both operands of an equation that is a product; no other equation gives any
abbrev pub gate_product : RegisterRows → Gate → List (Product Column)
gate_product registers (gate.Const c) = []
gate_product registers (gate.Xor a b) = []
gate_product registers (gate.Not a) = []
gate_product registers (gate.Mask c a) = []
gate_product registers (gate.And a b) = record { left = rows_at registers a; right = rows_at registers b } ∷ []
gate_product registers (gate.Shl k a) = []
gate_product registers (gate.Shr k a) = []
gate_product registers (gate.Rotl k a) = []
gate_product registers (gate.Refresh a) = []

-- the rows of both operands of each product of a core, in order
abbrev pub core_products : Circuit → List (Product Column)
core_products core = flat_map (gate_product (core_rows core)) core.equations

-- rows as bits, one for each of the columns in their order
abbrev pub rows_over : List Column → Rows → List (List Bool)
rows_over columns rows = map (λ row. map row columns) rows

-- the operands of a product with their rows as bits over the columns
abbrev pub operands_over : List Column → Product Column → Operands
operands_over columns product = record { left = rows_over columns product.left; right = rows_over columns product.right }

-- the view of a core: its columns, and the rows of the operands of its products over these
abbrev pub core_view : Circuit → LinearView
core_view core =
    record { columns = core_columns core; products = map (operands_over (core_columns core)) (core_products core) }
