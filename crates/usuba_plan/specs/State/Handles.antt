-- Handles in the cells and on the stack of a run.
use Rattle.std.specs.Prelude.{◌≡◌, ℕ, ◌<◌, List, Option, Some, option_map, slice_get}
use Rattle.std.specs.Option.{option_flatten}
use Rattle.usuba_model.specs.Rounds.{Operators}
use Rattle.usuba_code.specs.Machine.{NumberedEnvironment}
use Rattle.usuba_plan.specs.Store.{Store}
use Rattle.usuba_plan.specs.declared.stack.Unary.{Unary}
use Rattle.usuba_plan.specs.declared.stack.Unary.TheVariants.{Complement, Shift, Refresh}

-- what an operator makes of one element
abbrev pub unary_of : {V : Type 0} → Operators V → Unary → V → V
unary_of operators Complement a = operators.complement_of a
unary_of operators (Shift kind amount) a = operators.shift_of kind amount a
unary_of operators (Refresh number) a = operators.refresh_of number a

-- the amount of a shift is below the width, and there are 65,536 numbers of refreshes
abbrev pub UnaryFits : ℕ → Unary → Type 0
UnaryFits w Complement = Unit {0}
UnaryFits w (Shift kind amount) = amount < w
UnaryFits w (Refresh number) = number < 65536

-- the handle at a cell, where it is defined
abbrev pub handle_at : {H : Type 0} → List (Option H) → ℕ → Option H
handle_at cells cell = option_flatten (slice_get cells cell)

-- what the cells of handles hold
abbrev pub environment_of : {H V : Type 0} → Store H V → List (Option H) → NumberedEnvironment V
environment_of store cells cell = option_map store.meaning (handle_at cells cell)

-- the handles in cells are held
abbrev pub CellsHeld : {H V : Type 0} → Store H V → List (Option H) → Type 0
CellsHeld {H} store cells = (cell : ℕ) (handle : H) → handle_at cells cell ≡ Some handle → store.holds handle
