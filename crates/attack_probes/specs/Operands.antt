-- The rows that operands have together, and the operands that steps use and probes show.
use Rattle.std.specs.Prelude.{◌==◌, ℕ, List, [], ◌∷◌, ◌++◌, map, flat_map, if◌then◌else◌}
use Rattle.span_model.specs.Columns.{Columns}
use Rattle.span_model.specs.Attack.{Product}
use Rattle.span_model.specs.Closure.{operand}
use Rattle.linear_view.specs.Sides.{co_operand, step_of}
use Rattle.linear_view.specs.declared.operand.Operand.{Operand}
use Rattle.linear_view.specs.declared.operand.Side.TheVariants.{Left, Right}
use Rattle.attack_model.specs.Derivations.{step_at, operand_of}
use Rattle.attack_model.specs.declared.attack.Probe.{Probe}
use Rattle.attack_model.specs.declared.attack.Step.{Step}

-- the rows of an operand
abbrev pub operand_rows : {C : Type 0} → List (Product C) → Operand → List (Columns C)
operand_rows products taken = operand products (step_of taken)

-- the rows of all the operands
abbrev pub rows_of : {C : Type 0} → List (Product C) → List Operand → List (Columns C)
rows_of products operands = flat_map (operand_rows products) operands

-- the co-operands of the steps of these numbers
abbrev pub co_operands_of : List Step → (uses : List ℕ) → List Operand
co_operands_of steps uses = map (λ k. co_operand (operand_of (step_at steps k))) uses

-- the operands that a probe shows at the share s
abbrev pub shown_operands : Probe → (s : ℕ) → List Operand
shown_operands probe s =
    (if probe.left_share == s then record { product = probe.product; side = Left } ∷ [] else [])
    ++ (if probe.right_share == s then record { product = probe.product; side = Right } ∷ [] else [])

-- the operands that the probes show at the share s
abbrev pub operands_at : List Probe → (s : ℕ) → List Operand
operands_at probes s = flat_map (λ probe. shown_operands probe s) probes
