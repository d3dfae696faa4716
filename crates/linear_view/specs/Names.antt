-- The columns of a core, by their names and in their order.
use Rattle.std.specs.Prelude.{ℕ, ◌+◌, Bool, true, false, ◌==◌, ◌&&◌, List, [], ◌∷◌, ◌++◌, map, flat_map}
use Rattle.std.specs.List.{range_with_len}
use Rattle.usuba0.specs.declared.circuit.Gate.{Gate}
use Rattle.usuba0.specs.declared.circuit.Gate.TheVariants as gate
use Rattle.usuba0.specs.Circuit.{Circuit, products_of, refreshes_of}
use Rattle.linear_view.specs.declared.column.Column.{Column}
use Rattle.linear_view.specs.declared.column.ColumnKind.{ColumnKind}
use Rattle.linear_view.specs.declared.column.ColumnKind.TheVariants.{Input, Product, Refresh}

-- whether two kinds are the same
abbrev pub same_kind : ColumnKind → ColumnKind → Bool
same_kind Input Input = true
same_kind Product Product = true
same_kind Refresh Refresh = true
same_kind _ _ = false

-- whether two columns have the same name
abbrev pub same_column : Column → Column → Bool
same_column a b = same_kind a.kind b.kind && (a.number == b.number) && (a.bit == b.bit)

-- the numbers of the bits of a register of width w, the least significant first
abbrev pub bits : ℕ → List ℕ
bits w = range_with_len 0 w

-- the columns of an input, a product or a refresh: one for each bit
abbrev pub own_columns : ℕ → ColumnKind → ℕ → List Column
own_columns w kind number = map (λ bit. record { kind = kind; number = number; bit = bit }) (bits w)

-- the columns of so many inputs, by input and bit
abbrev pub input_columns : ℕ → ℕ → List Column
input_columns w inputs = flat_map (own_columns w Input) (range_with_len 0 inputs)

-- the columns that an equation has of its own, after so many products and so many refreshes
abbrev pub gate_columns : ℕ → (products refreshes : ℕ) → Gate → List Column
gate_columns w products refreshes (gate.Const c) = []
gate_columns w products refreshes (gate.Xor a b) = []
gate_columns w products refreshes (gate.Not a) = []
gate_columns w products refreshes (gate.Mask c a) = []
gate_columns w products refreshes (gate.And a b) = own_columns w Product products
gate_columns w products refreshes (gate.Shl k a) = []
gate_columns w products refreshes (gate.Shr k a) = []
gate_columns w products refreshes (gate.Rotl k a) = []
gate_columns w products refreshes (gate.Refresh a) = own_columns w Refresh refreshes

-- the columns of the products and refreshes of the equations, in their order, after so many products and so many refreshes
abbrev pub equation_columns : ℕ → (products refreshes : ℕ) → List Gate → List Column
equation_columns w products refreshes [] = []
equation_columns w products refreshes (g ∷ gs) =
    gate_columns w products refreshes g ++ equation_columns w (products + products_of (g ∷ [])) (refreshes + refreshes_of (g ∷ [])) gs

-- the columns of a core: those of its inputs, then those of its products and refreshes in the order of their equations
abbrev pub core_columns : Circuit → List Column
core_columns core = input_columns core.width core.inputs ++ equation_columns core.width 0 0 core.equations
