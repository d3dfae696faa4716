-- `verify FILE ATTACK`
use Rattle.std.specs.Prelude.{◌≡◌, ℕ, List, Ok, Err, codes}
use Rattle.span_model.specs.Attack.{IsLeak}
use Rattle.usuba0.specs.Circuit.{Circuit}
use Rattle.linear_view.specs.AttackLaw.{named}
use Rattle.linear_view.specs.View.{LinearView}
use Rattle.linear_view.specs.Rows.{core_products, core_view}
use Rattle.attack_model.specs.declared.attack.Attack.{Attack}
use Rattle.attack_text.specs.declared.read.CertFault.TheVariants as cert
use Rattle.attack_text.specs.Reading.{attack_of}
use Rattle.attack_probes.specs.Listings.{Holds}
use Rattle.tornado_words.specs.declared.order.Basis.{Basis}
use Rattle.tornado_main.specs.Files.{Contents}
use Rattle.tornado_main.specs.Outcome.{Outcome, answers}
use Rattle.tornado_main.specs.Steps.{AfterFile, AfterCore}
use Rattle.tornado_main.specs.declared.message.Complaint.TheVariants as complaint
use Rattle.tornado_main.specs.declared.message.Spot.TheVariants as spot
use Rattle.tornado_main.specs.declared.message.Fault.{Fault}
use Rattle.tornado_main.specs.declared.status.Status.TheVariants as status

-- the bytes spell this attack
abbrev pub SpellsAttack : LinearView → Attack → List ℕ → Type 0
SpellsAttack view attack bytes = attack_of view bytes ≡ Ok attack

-- the first line of the bytes that is wrong, and what is wrong with it
pub data IsFaultyAttack (view : LinearView) : Fault → List ℕ → Type 0 where
  syntax : (bytes : List ℕ) (line : ℕ) → attack_of view bytes ≡ Err (cert.Syntax line)
      → IsFaultyAttack view (record { at = spot.Line line; what = complaint.Syntax }) bytes
  out_of_range : (bytes : List ℕ) (line : ℕ) → attack_of view bytes ≡ Err (cert.OutOfRange line)
      → IsFaultyAttack view (record { at = spot.Line line; what = complaint.OutOfRange }) bytes
  other_core : (bytes : List ℕ) (line : ℕ) → attack_of view bytes ≡ Err (cert.OtherCore line)
      → IsFaultyAttack view (record { at = spot.Line line; what = complaint.OtherCore }) bytes

-- whether an attack holds on a core; where it does, its leak is that of an attack on the core
pub data IsConfirmation (core : Circuit) (attack : Attack) : Outcome → Type 0 where
  holds : Holds (core_view core) attack → IsLeak (core_products core) (named core attack.derivation.leak)
      → IsConfirmation core attack (answers (codes "attack holds\n") status.Done)
  fails : ¬ Holds (core_view core) attack → IsConfirmation core attack (answers (codes "no attack\n") status.Found)

-- it reads the attack of the other file, and prints whether it holds on the core
abbrev pub VerifyEnds : Contents → (file attack : List ℕ) → Basis → Outcome → Type 0
VerifyEnds contents file attack basis =
    AfterCore contents file basis (λ core.
    AfterFile contents attack status.Values (SpellsAttack (core_view core)) (IsFaultyAttack (core_view core))
    (IsConfirmation core))
