-- `check FILE`
use Rattle.std.specs.Prelude.{◌≡◌, ℕ, List, length, codes}
use Rattle.span_model.specs.Columns.{set_of}
use Rattle.span_model.specs.Attack.{IsAttack, HasAttack}
use Rattle.usuba0.specs.Circuit.{Circuit}
use Rattle.linear_view.specs.Names.{core_columns}
use Rattle.linear_view.specs.AttackLaw.{named}
use Rattle.linear_view.specs.View.{products_of}
use Rattle.linear_view.specs.Rows.{core_products, core_view}
use Rattle.attack_model.specs.declared.attack.Attack.{Attack}
use Rattle.attack_text.specs.AttackText.{attack_text}
use Rattle.attack_probes.specs.Unfolding.{unfolding_of}
use Rattle.attack_probes.specs.Listings.{Lists}
use Rattle.attack_cert.specs.Derivation.{IsDerivation}
use Rattle.tornado_words.specs.declared.order.Basis.{Basis}
use Rattle.tornado_main.specs.Files.{Contents}
use Rattle.tornado_main.specs.Outcome.{Outcome, answers}
use Rattle.tornado_main.specs.Steps.{AfterCore}
use Rattle.tornado_main.specs.declared.status.Status.TheVariants as status

-- The attack is that of its leak, a set of the core's columns: it has the leak's derivation, and the unfolding of
-- this, which is an attack on the core with the leak.
pub record IsAttackOfLeak (core : Circuit) (attack : Attack) : Type 0 where
  pub columns : length attack.derivation.leak ≡ length (core_columns core)
  pub derivation : IsDerivation (products_of (core_view core))
      (set_of attack.derivation.leak) attack.derivation.steps attack.derivation.root
  pub listing : Lists attack.listing (unfolding_of attack.derivation.steps attack.derivation.root)
  pub is_attack : (t : ℕ)
      × IsAttack (core_products core) t (named core attack.derivation.leak)
      (unfolding_of attack.derivation.steps attack.derivation.root)

-- the verdict on a core: `secure` where it has no attack, and else the text of an attack that it has
pub data IsVerdict (core : Circuit) : Outcome → Type 0 where
  secure : ¬ HasAttack (core_products core) → IsVerdict core (answers (codes "secure\n") status.Done)
  found : (attack : Attack) → IsAttackOfLeak core attack
      → IsVerdict core (answers (attack_text (core_view core) attack) status.Found)

-- it prints the verdict
abbrev pub CheckEnds : Contents → (file : List ℕ) → Basis → Outcome → Type 0
CheckEnds contents file basis = AfterCore contents file basis IsVerdict
