-- The laws between attacks and closures.
use Rattle.std.specs.Prelude.{◌≢◌, ◌↔◌, ℕ, List}
use Rattle.span_model.specs.Columns.{Columns, empty}
use Rattle.span_model.specs.Attack.{Product, Probe, IsAttack, IsLeak}
use Rattle.span_model.specs.Closure.{IsClosed}

-- the leak of an attack is closed: it reaches steps whose co-operands span it
abbrev pub AttackGivesClosure : Type 0 → Type 0
AttackGivesClosure C =
    (products : List (Product C)) (t : ℕ) (leak : Columns C) (probes : List Probe) → IsAttack products t leak probes → IsClosed products leak

-- a closed set that is not empty is the leak of an attack
abbrev pub ClosureGivesAttack : Type 0 → Type 0
ClosureGivesAttack C =
    (products : List (Product C)) (leak : Columns C) → leak ≢ empty → IsClosed products leak → IsLeak products leak

-- some probes with this leak are an attack exactly where it is closed and not empty
abbrev pub LeaksAreClosed : Type 0 → Type 0
LeaksAreClosed C =
    (products : List (Product C)) (leak : Columns C) → IsLeak products leak ↔ ((leak ≢ empty) × IsClosed products leak)
