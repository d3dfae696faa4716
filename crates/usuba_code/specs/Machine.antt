-- What code makes of a stack of elements, whatever elements are. The last element is the top of the stack.
use Rattle.std.specs.Prelude.{ℕ, ◌-◌, nat_le, if◌then◌else◌, List, [], ◌∷◌, ◌++◌, length, map, take, drop, Option, Some, None, option_map, option_and_then}
use Rattle.usuba_model.specs.Rounds.{Operators, element_by_element}
use Rattle.usuba_code.specs.declared.operation.Operation.{Operation}
use Rattle.usuba_code.specs.declared.operation.Operation.TheVariants as make

-- what the definitions of some numbers make of their inputs
abbrev pub NumberedCallees : Type 0 → Type 0
NumberedCallees V = ℕ → List V → Option (List V)

-- what each numbered cell holds, where it is defined
abbrev pub NumberedEnvironment : Type 0 → Type 0
NumberedEnvironment V = ℕ → Option V

-- the last elements of a stack, and what is below them
pub record Split (V : Type 0) : Type 0 where
  pub below : List V
  pub last : List V

-- a stack without its last n elements, and these; none where it has fewer
abbrev pub split_last : {V : Type 0} → ℕ → List V → Option (Split V)
split_last n stack =
    if nat_le n (length stack)
    then Some (record { below = take (length stack - n) stack; last = drop (length stack - n) stack })
    else None

-- the last n elements of a stack are replaced by what a function makes of them
abbrev pub with_last : {V : Type 0} → ℕ → (List V → List V) → List V → Option (List V)
with_last n f stack = option_map (λ split. split.below ++ f split.last) (split_last n stack)

-- the last n elements of a stack, and as many before them, are replaced by what a function makes of both, the earlier ones
-- first
abbrev pub with_last_two : {V : Type 0} → ℕ → (List V → List V → List V) → List V → Option (List V)
with_last_two n f stack =
    option_and_then (λ split. with_last n (λ earlier. f earlier split.last) split.below) (split_last n stack)

-- the last n elements of a stack are replaced by what a function may make of them
abbrev pub with_answer : {V : Type 0} → ℕ → (List V → Option (List V)) → List V → Option (List V)
with_answer n f stack =
    option_and_then (λ split. option_map (λ made. split.below ++ made) (f split.last)) (split_last n stack)

-- what an operation makes of a stack; none where the stack has too few elements, a cell is not defined or a callee gives
-- nothing
abbrev pub run_operation : {V : Type 0} → Operators V → NumberedCallees V → NumberedEnvironment V → Operation → List V
    → Option (List V)
run_operation operators callees environment (make.Number value) stack = Some (stack ++ operators.number_of value ∷ [])
run_operation operators callees environment (make.Cell cell) stack = option_map (λ v. stack ++ v ∷ []) (environment cell)
run_operation operators callees environment (make.Call callee inputs) stack = with_answer inputs (callees callee) stack
run_operation operators callees environment (make.Complement n) stack = with_last n (map operators.complement_of) stack
run_operation operators callees environment (make.Combine op n) stack =
    with_last_two n (element_by_element (operators.operation_of op)) stack
run_operation operators callees environment (make.Shift kind amount) stack =
    with_last 1 (map (operators.shift_of kind amount)) stack
run_operation operators callees environment (make.Refresh k n) stack = with_last n (map (operators.refresh_of k)) stack

-- what code makes of a stack, one operation after another
abbrev pub run_code : {V : Type 0} → Operators V → NumberedCallees V → NumberedEnvironment V → List Operation → List V
    → Option (List V)
run_code operators callees environment [] stack = Some stack
run_code operators callees environment (operation ∷ code) stack =
    option_and_then (run_code operators callees environment code)
    (run_operation operators callees environment operation stack)
