-- Why a file is refused, from what its reader answers.
use Rattle.std.proofs.Common.{◌≡◌, List, ℕ, Result, Err, refl, sym, subst}
use Rattle.attack_text.specs.Reading.{IsOrMemory}
use Rattle.attack_model.specs.declared.attack.Attack.{Attack}
use Rattle.attack_text.specs.declared.read.CertFault.{CertFault}
use Rattle.attack_text.specs.declared.read.CertFault.TheVariants as cert
use Rattle.tornado_main.specs.Ending.{IsRefusedFor}
use Rattle.tornado_main.specs.declared.message.Fault.{Fault}
use Rattle.tornado_main.specs.declared.refusal.Refusal.{Refusal}
use Rattle.tornado_main.specs.declared.refusal.Refusal.TheVariants as refusal
use Rattle.tornado_main.specs.declared.status.Status.{Status}

-- a refusal of this file for a fault that it has
pub refused_for : (ends_with : Status) (name : List ℕ) (Has : Fault → Type 0) {told : _} (fault : Fault) (e : Refusal)
    → e ≡ refusal.Faulty ends_with told fault → told.now ≡ name → Has fault → IsRefusedFor ends_with name Has e
refused_for ends_with name Has fault e is same has = subst (λ (k : Refusal). IsRefusedFor ends_with name Has k) (sym is) (refl, same, has)

-- the reader of an attack answers the fault that its text has
pub syntax_is : (answer wanted : Result Attack CertFault) (line : ℕ) → answer ≡ Err (cert.Syntax line) → IsOrMemory answer wanted → wanted ≡ Err (cert.Syntax line)
syntax_is answer wanted line is h = sym (subst (λ (a : Result Attack CertFault). IsOrMemory a wanted) is h)

pub range_is : (answer wanted : Result Attack CertFault) (line : ℕ) → answer ≡ Err (cert.OutOfRange line) → IsOrMemory answer wanted → wanted ≡ Err (cert.OutOfRange line)
range_is answer wanted line is h = sym (subst (λ (a : Result Attack CertFault). IsOrMemory a wanted) is h)

pub core_is : (answer wanted : Result Attack CertFault) (line : ℕ) → answer ≡ Err (cert.OtherCore line) → IsOrMemory answer wanted → wanted ≡ Err (cert.OtherCore line)
core_is answer wanted line is h = sym (subst (λ (a : Result Attack CertFault). IsOrMemory a wanted) is h)
