-- The law between derivations and attacks.
use Rattle.std.specs.Prelude.{◌<◌, ℕ, List, length, All}
use Rattle.span_model.specs.Columns.{Columns}
use Rattle.span_model.specs.Attack.{Product, IsAttack}
use Rattle.attack_model.specs.declared.attack.Step.{Step}
use Rattle.attack_probes.specs.Derivations.{IsSound}
use Rattle.attack_model.specs.Derivations.{IsInOrder}
use Rattle.attack_probes.specs.Unfolding.{unfolding_of}

-- the leak of a sound derivation in order, whose steps are of the products, is an attack with its unfolding
abbrev pub UnfoldingIsAttack : Type 0 → Type 0
UnfoldingIsAttack C =
    (products : List (Product C)) (leak : Columns C) (steps : List Step) (root : List ℕ)
    → All (λ step. step.product < length products) steps → IsInOrder steps root → IsSound products leak steps root
    → IsAttack products (length (unfolding_of steps root)) leak (unfolding_of steps root)
