-- Expressions as code, operands before operators, and equation instances over numbered cells.
use Rattle.std.specs.Prelude.{ℕ, List, [], ◌∷◌, ◌++◌, map, slice_index_or}
use Rattle.tor_edge.specs.declared.place.Place.{Place}
use Rattle.usuba_trees.specs.declared.Decl.{Decl}
use Rattle.usuba_trees.specs.declared.Node.{Node}
use Rattle.usuba_model.specs.Cells.{Cell}
use Rattle.usuba_model.specs.Unrolled.{Expression, cells, number, nothing, joined, call, complement, operation, shift, refresh, Target, Instance, declarations, unrolled}
use Rattle.usuba_model.specs.Walk.{Signature, size_of}
use Rattle.usuba_code.specs.declared.operation.Operation.{Operation}
use Rattle.usuba_code.specs.declared.operation.Operation.TheVariants as make
use Rattle.usuba_model.specs.Numbers.{cell_number, callee_number}

-- the operation that makes the element of a cell
abbrev pub read_cell : List Decl → Cell → Operation
read_cell declared cell = make.Cell (cell_number declared cell)

-- the code of an expression among these declarations and earlier definitions
abbrev pub code_of : List Signature → List Decl → Expression → List Operation
code_of signatures declared (number value) = make.Number value ∷ []
code_of signatures declared (cells read) = map (read_cell declared) read
code_of signatures declared nothing = []
code_of signatures declared (joined a b) = code_of signatures declared a ++ code_of signatures declared b
code_of signatures declared (call name args) =
    code_of signatures declared args ++ make.Call (callee_number signatures name) (size_of signatures args) ∷ []
code_of signatures declared (complement a) = code_of signatures declared a ++ make.Complement (size_of signatures a) ∷ []
code_of signatures declared (operation op a b) =
    code_of signatures declared a ++ code_of signatures declared b ++ make.Combine op (size_of signatures a) ∷ []
code_of signatures declared (shift kind amount a) = code_of signatures declared a ++ make.Shift kind amount ∷ []
code_of signatures declared (refresh k a) = code_of signatures declared a ++ make.Refresh k (size_of signatures a) ∷ []

-- a left side: where its name stands, and the numbers of its cells
pub record Assigned : Type 0 where
  pub place : Place
  pub cells : List ℕ

-- an equation instance: its left sides, and the code of its right side
pub record Coded : Type 0 where
  pub targets : List Assigned
  pub code : List Operation

-- a left side over numbered cells
abbrev pub assigned : List Decl → Target → Assigned
assigned declared target = record { place = target.name.place; cells = map (cell_number declared) target.cells }

-- an equation instance over numbered cells
abbrev pub coded : List Signature → List Decl → Instance → Coded
coded signatures declared instance = record {
  targets = map (assigned declared) instance.targets;
  code = code_of signatures declared instance.right;
}

-- the equation instances of a node over numbered cells, in walk order
abbrev pub coded_node : List Signature → Node → List Coded
coded_node signatures node = map (coded signatures (declarations node)) (unrolled node)

-- the instance at a number; one without left sides and code past all
abbrev pub coded_at : List Coded → ℕ → Coded
coded_at instances k = slice_index_or instances k (record { targets = []; code = [] })

-- the left side at a number; one without cells past all
abbrev pub assigned_at : List Assigned → ℕ → Assigned
assigned_at targets j = slice_index_or targets j (record { place = record { line = 0; column = 0 }; cells = [] })

-- a table that is being built: the instances that are whole, and of the next one the left sides that are whole, the cells
-- of a further left side, and the operations
pub record Built : Type 0 where
  pub done : List Coded
  pub targets : List Assigned
  pub cells : List ℕ
  pub code : List Operation
