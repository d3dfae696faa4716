-- What the functions answer of which each reads a part of the text.
use Rattle.std.specs.Prelude.{◌≡◌, ℕ, true, length, Option, None, Some, Result, Ok, Err}
use Rattle.linear_view.specs.View.{LinearView}
use Rattle.attack_model.specs.declared.attack.Attack.{Attack}
use Rattle.attack_model.specs.declared.attack.Derivation.{Derivation}
use Rattle.attack_model.specs.declared.attack.Listing.{Listing}
use Rattle.attack_model.specs.declared.attack.Listing.TheVariants.{Probes, Large}
use Rattle.attack_text.specs.declared.form.ListingWord.{ListingWord}
use Rattle.attack_text.specs.declared.form.ListingWord.TheVariants as listing
use Rattle.attack_text.specs.declared.read.CertFault.{CertFault}
use Rattle.attack_text.specs.declared.read.CertFault.TheVariants as fault
use Rattle.attack_text.specs.Reading.{SoFar, with_probes, with_large, attack_from}
use Rattle.text_lines.specs.Lines.{LinesLeft}
use Rattle.text_lines.specs.Numbers.{is_number, value_of}

-- what the words of the line `probes` say
abbrev pub IsListing : ListingWord → Option (Option ℕ) → Type 0
IsListing listing.Large said = said ≡ Some None
IsListing (listing.Count count) said = (said ≡ Some (Some (value_of count.now))) × (is_number count.now ≡ true)

-- what a text says with the lines that are left
abbrev pub rest_of : LinearView → SoFar → LinesLeft → Result Attack CertFault
rest_of view so_far left = attack_from view so_far left.number left.lines

-- with every probe, or where they are too many to be listed
abbrev pub with_every_probe : Derivation → Listing → SoFar
with_every_probe derivation (Probes probes) = with_probes derivation (length probes) probes
with_every_probe derivation Large = with_large derivation

-- what the text says from the stretch on is what it says after it, or the fault that is found in it; or memory was wanting
abbrev pub Reads : {X : Type 0} → Result X CertFault → Result Attack CertFault → (X → Result Attack CertFault) → Type 0
Reads (Err (fault.Memory error)) before after = Unit {0}
Reads (Err fault) before after = before ≡ Err fault
Reads (Ok said) before after = before ≡ after said
