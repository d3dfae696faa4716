-- The end of a text, where every probe is there.
use Rattle.std.proofs.Common.{◌≡◌, ℕ, Bool, List, [], ◌∷◌, length, Option, None, Some, Ok, Err, refl, sym, ap, ◌∙◌, arith}
use Rattle.std.proofs.lemmas.Bool.{le-ltb}
use Rattle.linear_view.specs.View.{LinearView}
use Rattle.attack_text.specs.Parts.{rest_of, with_every_probe}
use Rattle.attack_text.specs.Reading.{nothing, opened, with_leak, with_steps, with_root, with_probes, with_large, attack_from, attack_of}
use Rattle.attack_model.specs.declared.attack.Derivation.{Derivation}
use Rattle.attack_model.specs.declared.attack.Listing.{Listing}
use Rattle.attack_model.specs.declared.attack.Listing.TheVariants.{Probes, Large}
use Rattle.attack_model.specs.declared.attack.Step.{Step}
use Rattle.attack_text.specs.declared.read.CertFault.TheVariants as fault
use Rattle.text_lines.specs.Lines.{LinesLeft, lines_of}

-- no line is left
pub all_read : (view : LinearView) (derivation : Derivation) (listing : Listing) (left : LinesLeft) → left.lines ≡ []
    → rest_of view (with_every_probe derivation listing) left ≡ Ok (record { derivation = derivation; listing = listing })
all_read view derivation (Probes probes) left e =
    ap (attack_from view (with_probes derivation (length probes) probes) left.number) e ∙ rw (le-ltb (length probes) (length probes) (omega arith)) refl
all_read view derivation Large left e = ap (attack_from view (with_large derivation) left.number) e

over : (view : LinearView) (derivation : Derivation) (listing : Listing) (lines : List (Option (List (List ℕ)))) (k : ℕ) → (lines ≡ [] → ⊥)
    → attack_from view (with_every_probe derivation listing) k lines ≡ Err (fault.Syntax k)
over view derivation listing [] k more = absurd (more refl)
over view derivation listing (None ∷ lines) k more = refl
over view derivation (Probes probes) (Some words ∷ lines) k more = rw (le-ltb (length probes) (length probes) (omega arith)) refl
over view derivation Large (Some words ∷ lines) k more = refl

-- a line is left over
pub left_over : (view : LinearView) (derivation : Derivation) (listing : Listing) (left : LinesLeft) → (left.lines ≡ [] → ⊥)
    → rest_of view (with_every_probe derivation listing) left ≡ Err (fault.Syntax left.number)
left_over view derivation listing left more = over view derivation listing left.lines left.number more

-- the stretches of a text, one after another
pub joined : (view : LinearView) (bytes : List ℕ) (start after_head after_leak after_steps after_root after_all : LinesLeft) (leak : List Bool) (steps : List Step) (count : ℕ)
    (root : List ℕ) (listing : Listing)
    → start ≡ record { lines = lines_of bytes; number = 1 }
    → rest_of view nothing start ≡ rest_of view opened after_head
    → rest_of view opened after_head ≡ rest_of view (with_leak leak) after_leak
    → rest_of view (with_leak leak) after_leak ≡ rest_of view (with_steps leak (length steps) steps) after_steps
    → count ≡ length steps
    → rest_of view (with_steps leak count steps) after_steps ≡ rest_of view (with_root (record { leak = leak; steps = steps; root = root })) after_root
    → rest_of view (with_root (record { leak = leak; steps = steps; root = root })) after_root
    ≡ rest_of view (with_every_probe (record { leak = leak; steps = steps; root = root }) listing) after_all
    → attack_of view bytes ≡ rest_of view (with_every_probe (record { leak = leak; steps = steps; root = root }) listing) after_all
joined view bytes start after_head after_leak after_steps after_root after_all leak steps count root listing begun head leaked stepped counted rooted listed =
    sym (ap (rest_of view nothing) begun) ∙ head ∙ leaked ∙ stepped ∙ sym (ap (λ (n : ℕ). rest_of view (with_steps leak n steps) after_steps) counted) ∙ rooted ∙ listed
