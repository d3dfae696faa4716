-- The laws of derivations.
use Rattle.std.specs.Prelude.{◌≡◌, ◌<◌, ◌≤◌, ◌*◌, ℕ, List, length, All, Option, Ok}
use Rattle.span_model.specs.Columns.{Columns, set_of}
use Rattle.span_model.specs.Attack.{Product, IsLeak}
use Rattle.span_model.specs.Renaming.{named_in, renamed}
use Rattle.linear_view.specs.View.{LinearView, IsView, products_of}
use Rattle.attack_text.specs.AttackText.{attack_text}
use Rattle.attack_model.specs.Ranges.{InRange}
use Rattle.attack_text.specs.Reading.{attack_of}
use Rattle.attack_model.specs.declared.attack.Attack.{Attack}
use Rattle.attack_model.specs.declared.attack.Step.{Step}
use Rattle.attack_probes.specs.Derivations.{IsSound}
use Rattle.attack_model.specs.Derivations.{IsInOrder}
use Rattle.attack_probes.specs.Listings.{Lists, Holds}
use Rattle.attack_probes.specs.Unfolding.{unfolding_of}
use Rattle.attack_cert.specs.Derivation.{IsDerivation}

-- a leak has at most one derivation; its steps are at most two for each product and are steps of the products, each uses steps before it, and the
-- co-operands of what a step or the root uses span the leak as they must for the unfolding to be an attack; there can't be none where the leak is
-- that of an attack (what a column is stays open, so none can be computed here), and where there is one it is
pub record DerivationsHold (C : Type 0) : Type 0 where
  pub one : (products : List (Product C)) (leak : Columns C) (steps others : List Step) (root other_root : List ℕ)
      → IsDerivation products leak steps root → IsDerivation products leak others other_root → (steps ≡ others) × (root ≡ other_root)
  pub few : (products : List (Product C)) (leak : Columns C) (steps : List Step) (root : List ℕ)
      → IsDerivation products leak steps root → length steps ≤ 2 * length products
  pub within : (products : List (Product C)) (leak : Columns C) (steps : List Step) (root : List ℕ)
      → IsDerivation products leak steps root → All (λ step. step.product < length products) steps
  pub in_order : (products : List (Product C)) (leak : Columns C) (steps : List Step) (root : List ℕ)
      → IsDerivation products leak steps root → IsInOrder steps root
  pub sound : (products : List (Product C)) (leak : Columns C) (steps : List Step) (root : List ℕ)
      → IsDerivation products leak steps root → IsSound products leak steps root
  pub exists : (products : List (Product C)) (leak : Columns C) → IsLeak products leak
      → ¬ ¬ ((steps : List Step) × (root : List ℕ) × IsDerivation products leak steps root)
  pub leaks : (products : List (Product C)) (leak : Columns C) (steps : List Step) (root : List ℕ)
      → IsDerivation products leak steps root → IsLeak products leak

-- the attack is the derivation of its leak on a view, with a listing of the derivation's unfolding
pub record IsDerivedAttack (view : LinearView) (attack : Attack) : Type 0 where
  pub columns : length attack.derivation.leak ≡ length view.columns
  pub derivation : IsDerivation (products_of view) (set_of attack.derivation.leak) attack.derivation.steps attack.derivation.root
  pub listing : Lists attack.listing (unfolding_of attack.derivation.steps attack.derivation.root)

-- such an attack holds and is one that a text for the view can hold, so what is written of it is read as the same attack
pub record DerivedAttacksHold : Type 0 where
  pub in_range : (view : LinearView) (attack : Attack) → IsDerivedAttack view attack → InRange view attack
  pub holds : (view : LinearView) (attack : Attack) → IsDerivedAttack view attack → Holds view attack
  pub read_back : (view : LinearView) (attack : Attack) → IsView view → IsDerivedAttack view attack → attack_of view (attack_text view attack) ≡ Ok attack

-- products whose columns only have other names have the same derivations
abbrev pub RenamingKeepsDerivations : (C D : Type 0) → Type 0
RenamingKeepsDerivations C D =
    (name : D → Option C) (back : C → Option D) (products : List (Product C)) (others : List (Product D))
    → renamed name products ≡ others → renamed back others ≡ products
    → (leak : Columns C) (steps : List Step) (root : List ℕ) → IsDerivation products leak steps root
    → IsDerivation others (named_in name leak) steps root
