-- What plans make of elements, of whatever kind these are: instances are taken in the order of the plan, over numbered cells.
use Rattle.std.specs.Prelude.{ℕ, zero, suc, ◌==◌, if◌then◌else◌, List, [], ◌∷◌, map, Option, Some, None, option_map, option_and_then, slice_get}
use Rattle.std.specs.List.{range_with_len}
use Rattle.std.specs.Option.{option_or}
use Rattle.usuba_trees.specs.declared.Def.{Def}
use Rattle.usuba_trees.specs.declared.Def.TheVariants as def
use Rattle.usuba_model.specs.Rounds.{Operators, whole, element_at, permuted, looked_up}
use Rattle.usuba_code.specs.Code.{Coded, coded_at}
use Rattle.usuba_code.specs.Machine.{NumberedCallees, NumberedEnvironment, run_code}
use Rattle.ready_order.specs.Numbered.{left_numbers}
use Rattle.usuba_plan.specs.declared.plans.NodePlan.{NodePlan}
use Rattle.usuba_plan.specs.declared.plans.Plan.{Plan}
use Rattle.usuba_plan.specs.declared.plans.Plan.TheVariants as plan

-- the element that stands at a cell's place
abbrev pub given_at : {V : Type 0} → List ℕ → List V → NumberedEnvironment V
given_at [] elements cell = None
given_at (c ∷ cs) [] cell = None
given_at (c ∷ cs) (element ∷ elements) cell = if cell == c then Some element else given_at cs elements cell

-- cells get elements; the others keep theirs
abbrev pub with_given : {V : Type 0} → List ℕ → List V → NumberedEnvironment V → NumberedEnvironment V
with_given cells elements environment cell = option_or (given_at cells elements cell) (environment cell)

-- an instance is taken: its left cells get the elements that its code makes
abbrev pub taken : {V : Type 0} → Operators V → NumberedCallees V → Coded → NumberedEnvironment V → Option (NumberedEnvironment V)
taken operators callees instance environment =
    option_map (λ elements. with_given (left_numbers instance) elements environment)
    (run_code operators callees environment instance.code [])

-- the instances at these numbers are taken one after another
abbrev pub taken_in_order : {V : Type 0} → Operators V → NumberedCallees V → List Coded → List ℕ → NumberedEnvironment V
    → Option (NumberedEnvironment V)
taken_in_order operators callees instances [] environment = Some environment
taken_in_order operators callees instances (k ∷ order) environment =
    option_and_then (taken_in_order operators callees instances order) (taken operators callees (coded_at instances k) environment)

-- what the plan of a node makes of elements for its inputs: the elements of the output cells after all
abbrev pub made_by_node : {V : Type 0} → Operators V → NumberedCallees V → NodePlan → List V → Option (List V)
made_by_node operators callees node elements =
    option_and_then (λ environment. whole (map environment (range_with_len node.inputs node.outputs)))
    (taken_in_order operators callees node.table.done node.order.items (element_at elements))

-- the entries of a table or a permutation
abbrev pub entries_of : Def → List ℕ
entries_of (def.Node node) = []
entries_of (def.Table grid) = grid.entries
entries_of (def.Perm grid) = grid.entries

-- what the plan of a definition makes
abbrev pub made_by : {V : Type 0} → Operators V → NumberedCallees V → Plan → Def → List V → Option (List V)
made_by operators callees (plan.Node node) d elements = made_by_node operators callees node elements
made_by operators callees (plan.Table outputs) d elements = Some (looked_up operators outputs (entries_of d) elements)
made_by operators callees plan.Permutation d elements = permuted (entries_of d) elements
made_by operators callees plan.Absent d elements = None

-- the same where the plan or the definition may be missing
abbrev pub made_of : {V : Type 0} → Operators V → NumberedCallees V → Option Plan → Option Def → List V → Option (List V)
made_of operators callees (Some p) (Some d) elements = made_by operators callees p d elements
made_of operators callees (Some p) None elements = None
made_of operators callees None d elements = None

-- what the definitions below a number make, each by its plan: each calls only those below its own number
abbrev pub made_below : {V : Type 0} → Operators V → List Def → List Plan → ℕ → NumberedCallees V
made_below operators defs plans zero callee elements = None
made_below operators defs plans (suc n) callee elements =
    if callee == n
    then made_of operators (made_below operators defs plans n) (slice_get plans n) (slice_get defs n) elements
    else made_below operators defs plans n callee elements

-- what the definition at a number makes of elements for its inputs, by its plan
abbrev pub plan_outcome : {V : Type 0} → Operators V → List Def → List Plan → ℕ → List V → Option (List V)
plan_outcome operators defs plans number elements =
    made_of operators (made_below operators defs plans number) (slice_get plans number) (slice_get defs number) elements
