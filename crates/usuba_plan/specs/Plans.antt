-- Which plans are those of the definitions of a file.
use Rattle.std.specs.Prelude.{◌≡◌, ℕ, Bool, true, false, List, [], ◌∷◌, Option, Some, None, slice_get}
use Rattle.usuba_trees.specs.declared.Def.{Def}
use Rattle.usuba_trees.specs.declared.Def.TheVariants as def
use Rattle.usuba_trees.specs.declared.Node.{Node}
use Rattle.usuba_model.specs.Shapes.{all_elements}
use Rattle.usuba_model.specs.Unrolled.{declarations}
use Rattle.usuba_model.specs.Walk.{Signature, signature}
use Rattle.usuba_code.specs.Code.{coded_node}
use Rattle.usuba_code.specs.CodeLaw.{Each}
use Rattle.usuba_code.specs.declared.operation.Operation.{Operation}
use Rattle.usuba_code.specs.declared.operation.Operation.TheVariants as make
use Rattle.ready_order.specs.Order.{IsReadyOrder}
use Rattle.usuba_plan.specs.declared.plans.NodePlan.{NodePlan}
use Rattle.usuba_plan.specs.declared.plans.Plan.{Plan}
use Rattle.usuba_plan.specs.declared.plans.Plan.TheVariants as plan

-- the plan of a node after these earlier definitions: its cells, its instances, and an order in which each is ready
pub record IsNodePlan (signatures : List Signature) (node : Node) (p : NodePlan) : Type 0 where
  pub cells : p.cells ≡ all_elements (declarations node)
  pub inputs : p.inputs ≡ all_elements node.inputs
  pub outputs : p.outputs ≡ all_elements node.outputs
  pub table : p.table.done ≡ coded_node signatures node
  pub order : IsReadyOrder p.inputs p.table.done p.order.items

-- the plan is that of a definition after these earlier ones, or absent
abbrev pub IsPlanOf : List Signature → Plan → Def → Type 0
IsPlanOf signatures (plan.Node p) (def.Node node) = IsNodePlan signatures node p
IsPlanOf signatures (plan.Node p) (def.Table grid) = ⊥
IsPlanOf signatures (plan.Node p) (def.Perm grid) = ⊥
IsPlanOf signatures (plan.Table outputs) (def.Node node) = ⊥
IsPlanOf signatures (plan.Table outputs) (def.Table grid) = outputs ≡ all_elements grid.outputs
IsPlanOf signatures (plan.Table outputs) (def.Perm grid) = ⊥
IsPlanOf signatures plan.Permutation (def.Node node) = ⊥
IsPlanOf signatures plan.Permutation (def.Table grid) = ⊥
IsPlanOf signatures plan.Permutation (def.Perm grid) = Unit {0}
IsPlanOf signatures plan.Absent d = Unit {0}

-- the plans are those of definitions after these earlier ones, one by one
abbrev pub ArePlansOf : List Signature → List Plan → List Def → Type 0
ArePlansOf signatures [] [] = Unit {0}
ArePlansOf signatures [] (d ∷ defs) = ⊥
ArePlansOf signatures (p ∷ plans) [] = ⊥
ArePlansOf signatures (p ∷ plans) (d ∷ defs) = IsPlanOf signatures p d × ArePlansOf (signature d ∷ signatures) plans defs

-- whether there is a plan
abbrev pub is_planned : Option Plan → Bool
is_planned (Some (plan.Node p)) = true
is_planned (Some (plan.Table outputs)) = true
is_planned (Some plan.Permutation) = true
is_planned (Some plan.Absent) = false
is_planned None = false

-- what an operation calls is planned
abbrev pub CallsPlanned : List Plan → Operation → Type 0
CallsPlanned plans (make.Number value) = Unit {0}
CallsPlanned plans (make.Cell cell) = Unit {0}
CallsPlanned plans (make.Call callee inputs) = is_planned (slice_get plans callee) ≡ true
CallsPlanned plans (make.Complement n) = Unit {0}
CallsPlanned plans (make.Combine op n) = Unit {0}
CallsPlanned plans (make.Shift kind amount) = Unit {0}
CallsPlanned plans (make.Refresh k n) = Unit {0}

-- what a plan calls is planned
abbrev pub AllCallsPlanned : List Plan → Plan → Type 0
AllCallsPlanned plans (plan.Node p) = Each (λ instance. Each (CallsPlanned plans) instance.code) p.table.done
AllCallsPlanned plans (plan.Table outputs) = Unit {0}
AllCallsPlanned plans plan.Permutation = Unit {0}
AllCallsPlanned plans plan.Absent = Unit {0}

-- the plans of a file: those of its definitions, each at its place, and what they call is planned
pub record IsPlanned (defs : List Def) (plans : List Plan) (entry : ℕ) : Type 0 where
  pub of : ArePlansOf [] plans defs
  pub calls : Each (AllCallsPlanned plans) plans
  pub entry_planned : is_planned (slice_get plans entry) ≡ true
