-- How many elements the running of a plan makes at most.
use Rattle.std.specs.Prelude.{ℕ, zero, suc, ◌+◌, ◌*◌, ◌^◌, ◌==◌, if◌then◌else◌, List, [], ◌∷◌, Option, Some, None, slice_get}
use Rattle.usuba_trees.specs.declared.Def.{Def}
use Rattle.usuba_model.specs.Walk.{signature, weight}
use Rattle.usuba_code.specs.Code.{Coded, coded_at}
use Rattle.usuba_code.specs.declared.operation.Operation.{Operation}
use Rattle.usuba_code.specs.declared.operation.Operation.TheVariants as make
use Rattle.usuba_plan.specs.declared.plans.Plan.{Plan}
use Rattle.usuba_plan.specs.declared.plans.Plan.TheVariants as plan

-- how many elements an operation makes at most, where that is known of the callees
abbrev pub operation_room : (ℕ → ℕ) → Operation → ℕ
operation_room callees (make.Number value) = 1
operation_room callees (make.Cell cell) = 0
operation_room callees (make.Call callee inputs) = callees callee
operation_room callees (make.Complement n) = n
operation_room callees (make.Combine op n) = weight op * n
operation_room callees (make.Shift kind amount) = 1
operation_room callees (make.Refresh k n) = n

-- how many code makes at most
abbrev pub code_room : (ℕ → ℕ) → List Operation → ℕ
code_room callees [] = 0
code_room callees (operation ∷ code) = operation_room callees operation + code_room callees code

-- how many the instances at these numbers make at most
abbrev pub order_room : (ℕ → ℕ) → List Coded → List ℕ → ℕ
order_room callees instances [] = 0
order_room callees instances (k ∷ order) =
    code_room callees (coded_at instances k).code + order_room callees instances order

-- how many the plan of a definition makes at most: a table of n inputs and m outputs 2^n * (m + 1)
abbrev pub room_by : (ℕ → ℕ) → Plan → Def → ℕ
room_by callees (plan.Node node) d = order_room callees node.table.done node.order.items
room_by callees (plan.Table outputs) d = 2 ^ (signature d).inputs * (outputs + 1)
room_by callees plan.Permutation d = 0
room_by callees plan.Absent d = 0

-- the same where the plan or the definition may be missing
abbrev pub room_of : (ℕ → ℕ) → Option Plan → Option Def → ℕ
room_of callees (Some p) (Some d) = room_by callees p d
room_of callees (Some p) None = 0
room_of callees None d = 0

-- how many the definitions below a number make at most
abbrev pub room_below : List Def → List Plan → ℕ → ℕ → ℕ
room_below defs plans zero callee = 0
room_below defs plans (suc n) callee =
    if callee == n
    then room_of (room_below defs plans n) (slice_get plans n) (slice_get defs n)
    else room_below defs plans n callee

-- how many elements the definition at a number makes at most, by its plan
abbrev pub plan_room : List Def → List Plan → ℕ → ℕ
plan_room defs plans number = room_of (room_below defs plans number) (slice_get plans number) (slice_get defs number)
