-- What a definition makes of its inputs: the equation instances of a node are taken in rounds, in no order. The elements of
-- values are of any kind: words, or terms.
use Rattle.std.specs.Prelude.{ℕ, zero, suc, ◌-◌, List, [], ◌∷◌, ◌++◌, length, map, Option, Some, None, option_map, option_and_then, bytes_eq, if◌then◌else◌}
use Rattle.std.specs.List.{range_with_len}
use Rattle.std.specs.Option.{option_or}
use Rattle.usuba_trees.specs.declared.BitOp.{BitOp}
use Rattle.usuba_trees.specs.declared.Def.{Def}
use Rattle.usuba_trees.specs.declared.Def.TheVariants as def
use Rattle.usuba_trees.specs.declared.Node.{Node}
use Rattle.usuba_trees.specs.declared.ShiftKind.{ShiftKind}
use Rattle.usuba_model.specs.Cells.{Cell, same_cell, declared_cells}
use Rattle.usuba_model.specs.Names.{name_of}
use Rattle.usuba_model.specs.Shapes.{all_elements}
use Rattle.usuba_model.specs.Unrolled.{Expression, cells, number, nothing, joined, call, complement, operation, shift, refresh, Instance, left_cells, unrolled}

-- what the operators make of elements. Of a table of so many output elements, with these entries, the look-up makes each output
-- element of the input elements, by its number.
pub record Operators (V : Type 0) : Type 0 where
  pub number_of : ℕ → V
  pub complement_of : V → V
  pub operation_of : BitOp → V → V → V
  pub shift_of : ShiftKind → ℕ → V → V
  pub refresh_of : ℕ → V → V
  pub look_up : ℕ → List ℕ → List V → ℕ → V

-- what each cell holds, where it is defined
abbrev pub Environment : Type 0 → Type 0
Environment V = Cell → Option V

-- what the definitions of some names make of their inputs
abbrev pub Callees : Type 0 → Type 0
Callees V = List ℕ → List V → Option (List V)

-- what two parts make together, where both are there
abbrev pub both : {A B C : Type 0} → (A → B → C) → Option A → Option B → Option C
both join (Some a) (Some b) = Some (join a b)
both join (Some a) None = None
both join None b = None

-- each element of a list of optional ones, where all are there
abbrev pub whole : {V : Type 0} → List (Option V) → Option (List V)
whole [] = Some []
whole (element ∷ rest) = both (λ v vs. v ∷ vs) element (whole rest)

-- two values element by element
abbrev pub element_by_element : {V : Type 0} → (V → V → V) → List V → List V → List V
element_by_element join [] ys = []
element_by_element join (x ∷ xs) [] = []
element_by_element join (x ∷ xs) (y ∷ ys) = join x y ∷ element_by_element join xs ys

-- the value of an expression, where all cells that it reads are defined
abbrev pub value_of : {V : Type 0} → Operators V → Callees V → Environment V → Expression → Option (List V)
value_of operators callees environment (number value) = Some (operators.number_of value ∷ [])
value_of operators callees environment (cells read) = whole (map environment read)
value_of operators callees environment nothing = Some []
value_of operators callees environment (joined a b) =
    both (λ xs ys. xs ++ ys) (value_of operators callees environment a) (value_of operators callees environment b)
value_of operators callees environment (call name args) =
    option_and_then (callees name) (value_of operators callees environment args)
value_of operators callees environment (complement a) =
    option_map (map operators.complement_of) (value_of operators callees environment a)
value_of operators callees environment (operation op a b) =
    both (element_by_element (operators.operation_of op)) (value_of operators callees environment a)
    (value_of operators callees environment b)
value_of operators callees environment (shift kind amount a) =
    option_map (map (operators.shift_of kind amount)) (value_of operators callees environment a)
value_of operators callees environment (refresh k a) =
    option_map (map (operators.refresh_of k)) (value_of operators callees environment a)

-- the element that stands at a cell's place
abbrev pub given : {V : Type 0} → List Cell → List V → Environment V
given [] elements cell = None
given (c ∷ cs) [] cell = None
given (c ∷ cs) (element ∷ elements) cell = if same_cell cell c then Some element else given cs elements cell

-- what the ready instances define at a cell
abbrev pub defined : {V : Type 0} → Operators V → Callees V → Environment V → List Instance → Environment V
defined operators callees environment [] cell = None
defined operators callees environment (instance ∷ instances) cell =
    option_or
    (option_and_then (λ elements. given (left_cells instance) elements cell) (value_of operators callees environment instance.right))
    (defined operators callees environment instances cell)

-- a round: each instance whose right side reads only defined cells defines its left cells
abbrev pub round : {V : Type 0} → Operators V → Callees V → List Instance → Environment V → Environment V
round operators callees instances environment cell =
    option_or (environment cell) (defined operators callees environment instances cell)

-- so many rounds
abbrev pub rounds : {V : Type 0} → Operators V → Callees V → List Instance → ℕ → Environment V → Environment V
rounds operators callees instances zero environment = environment
rounds operators callees instances (suc n) environment =
    round operators callees instances (rounds operators callees instances n environment)

-- the elements of the output cells after as many rounds as there are instances, begun with the input cells
abbrev pub outcome : {V : Type 0} → Operators V → Callees V → List Instance → List Cell → List V → List Cell → Option (List V)
outcome operators callees instances inputs elements outputs =
    whole (map (rounds operators callees instances (length instances) (given inputs elements)) outputs)

-- what a node makes of the elements of its inputs
abbrev pub node_outcome : {V : Type 0} → Operators V → Callees V → Node → List V → Option (List V)
node_outcome operators callees node elements =
    outcome operators callees (unrolled node) (declared_cells node.inputs) elements (declared_cells node.outputs)

-- the element at a number, where there is one
abbrev pub element_at : {V : Type 0} → List V → ℕ → Option V
element_at [] k = None
element_at (element ∷ rest) zero = Some element
element_at (element ∷ rest) (suc k) = element_at rest k

-- a permutation: output element i is the input element that entry i counts, from 1
abbrev pub permuted : {V : Type 0} → List ℕ → List V → Option (List V)
permuted entries elements = whole (map (λ entry. element_at elements (entry - 1)) entries)

-- the outputs of a table of m output elements
abbrev pub looked_up : {V : Type 0} → Operators V → ℕ → List ℕ → List V → List V
looked_up operators m entries elements = map (operators.look_up m entries elements) (range_with_len 0 m)

-- what a definition makes of the elements of its inputs
abbrev pub definition_outcome : {V : Type 0} → Operators V → Callees V → Def → List V → Option (List V)
definition_outcome operators callees (def.Node node) elements = node_outcome operators callees node elements
definition_outcome operators callees (def.Table grid) elements =
    Some (looked_up operators (all_elements grid.outputs) grid.entries elements)
definition_outcome operators callees (def.Perm grid) elements = permuted grid.entries elements

-- what the definitions make, the latest first: each calls only earlier ones
abbrev pub outcomes : {V : Type 0} → Operators V → List Def → Callees V
outcomes operators [] name elements = None
outcomes operators (d ∷ earlier) name elements =
    if bytes_eq (name_of d).text name
    then definition_outcome operators (outcomes operators earlier) d elements
    else outcomes operators earlier name elements
