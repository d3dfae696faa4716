-- What is said of an attack that was found over a view.
use Rattle.std.specs.Prelude.{◌≡◌, ℕ, List, length}
use Rattle.span_model.specs.Columns.{set_of}
use Rattle.span_model.specs.Attack.{IsAttack}
use Rattle.usuba0.specs.Circuit.{Circuit}
use Rattle.linear_view.specs.View.{LinearView, products_of}
use Rattle.linear_view.specs.Rows.{core_view}
use Rattle.attack_model.specs.declared.attack.Attack.{Attack}
use Rattle.attack_text.specs.AttackText.{attack_text}
use Rattle.attack_probes.specs.Unfolding.{unfolding_of}
use Rattle.attack_probes.specs.Listings.{Lists}
use Rattle.attack_cert.specs.Derivation.{IsDerivation}
use Rattle.tornado_main.specs.commands.Check.{IsAttackOfLeak}

-- the attack is that of its leak, a row over the view's columns: it has the leak's derivation, and the unfolding of
-- this, which is an attack with the leak on the products of the view
pub record IsAttackOver (view : LinearView) (attack : Attack) : Type 0 where
  pub columns : length attack.derivation.leak ≡ length view.columns
  pub derivation : IsDerivation (products_of view)
      (set_of attack.derivation.leak) attack.derivation.steps attack.derivation.root
  pub listing : Lists attack.listing (unfolding_of attack.derivation.steps attack.derivation.root)
  pub is_attack : (t : ℕ)
      × IsAttack (products_of view) t (set_of attack.derivation.leak)
      (unfolding_of attack.derivation.steps attack.derivation.root)

-- the text is that of an attack on the core, with its leak
pub record IsTextOfAttack (core : Circuit) (text : List ℕ) : Type 0 where
  pub attack : Attack
  pub of_leak : IsAttackOfLeak core attack
  pub text_is : text ≡ attack_text (core_view core) attack
