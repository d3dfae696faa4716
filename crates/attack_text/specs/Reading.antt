-- What an attack text says, line by line.
use Rattle.std.specs.Prelude.{◌≡◌, ℕ, ◌+◌, ◌^◌, ◌==◌, Bool, true, false, ◌&&◌, nat_lt, nat_le, if◌then◌else◌, List, [], ◌∷◌, ◌++◌, length, Option, None, Some, Result, Ok, Err}
use Rattle.linear_view.specs.View.{LinearView}
use Rattle.attack_model.specs.declared.attack.Attack.{Attack}
use Rattle.attack_model.specs.declared.attack.Derivation.{Derivation}
use Rattle.attack_model.specs.declared.attack.Listing.TheVariants.{Probes, Large}
use Rattle.attack_model.specs.declared.attack.Probe.{Probe}
use Rattle.attack_model.specs.declared.attack.Step.{Step}
use Rattle.attack_text.specs.declared.read.CertFault.{CertFault}
use Rattle.attack_text.specs.declared.read.CertFault.TheVariants as fault
use Rattle.attack_text.specs.Forms.{Counts, version_form, core_form, leak_form, steps_form, step_form, root_form, listing_form, probe_form}
use Rattle.attack_text.specs.Ranges.{is_steps_count, is_step, is_probe}
use Rattle.attack_model.specs.Derivations.{are_uses}
use Rattle.attack_model.specs.declared.attack.TheConstants.{MAX_PROBES}
use Rattle.column_lists.specs.Rows.{named_row}
use Rattle.text_lines.specs.Lines.{lines_of}

-- what line k says: a fault where its words have another form, and where what they say is out of range
abbrev pub said_in_range : {X : Type 0} → ℕ → Option X → (X → Bool) → Result X CertFault
said_in_range k None is_in_range = Err (fault.Syntax k)
said_in_range k (Some said) is_in_range = if is_in_range said then Ok said else Err (fault.OutOfRange k)

-- line 1
abbrev pub version_line : ℕ → List (List ℕ) → Result Bool CertFault
version_line k words = said_in_range k (version_form words) (λ _. true)

-- other counts than those of the view are another core
abbrev pub counts_of_view : LinearView → ℕ → Result Counts CertFault → Result Counts CertFault
counts_of_view view k (Err fault) = Err fault
counts_of_view view k (Ok counts) =
    if counts.columns == length view.columns && counts.products == length view.products then Ok counts else Err (fault.OtherCore k)

-- the line `core`
abbrev pub core_line : LinearView → ℕ → List (List ℕ) → Result Counts CertFault
core_line view k words =
    counts_of_view view k (said_in_range k (core_form words) (λ counts. nat_lt counts.columns (2 ^ 32) && nat_lt counts.products (2 ^ 32)))

-- which columns leak, if those that are named stand in order
abbrev pub leak_in_order : ℕ → Option (List Bool) → Result (List Bool) CertFault
leak_in_order k None = Err (fault.OutOfRange k)
leak_in_order k (Some leak) = Ok leak

-- which columns leak, where the words of the line `leak` name columns
abbrev pub leak_at : LinearView → ℕ → Option (List (List ℕ)) → Result (List Bool) CertFault
leak_at view k None = Err (fault.Syntax k)
leak_at view k (Some columns) = leak_in_order k (named_row view.columns columns)

-- the line `leak`
abbrev pub leak_line : LinearView → ℕ → List (List ℕ) → Result (List Bool) CertFault
leak_line view k words = leak_at view k (leak_form words)

-- the line `steps N`
abbrev pub steps_line : LinearView → ℕ → List (List ℕ) → Result ℕ CertFault
steps_line view k words = said_in_range k (steps_form words) (is_steps_count view)

-- the line of step number i
abbrev pub step_line : LinearView → ℕ → ℕ → List (List ℕ) → Result Step CertFault
step_line view i k words = said_in_range k (step_form i words) (is_step view i)

-- the line `root uses ..` after n steps
abbrev pub root_line : ℕ → ℕ → List (List ℕ) → Result (List ℕ) CertFault
root_line n k words = said_in_range k (root_form words) (are_uses 0 n)

-- at most so many probes are listed
abbrev pub is_listing : Option ℕ → Bool
is_listing None = true
is_listing (Some t) = nat_le t MAX_PROBES

-- the line `probes`
abbrev pub listing_line : ℕ → List (List ℕ) → Result (Option ℕ) CertFault
listing_line k words = said_in_range k (listing_form words) is_listing

-- the line of one of t probes
abbrev pub probe_line : LinearView → ℕ → ℕ → List (List ℕ) → Result Probe CertFault
probe_line view t k words = said_in_range k (probe_form words) (is_probe view t)

-- What the lines up to a place of the text said, which settles the form that is due at the next line.
pub data SoFar : Type 0 where
  -- nothing yet: the first line is due
  nothing : SoFar
  -- that the text is of version 2: the line `core` is due
  second : SoFar
  -- what stands before the leak: the line `leak` is due
  opened : SoFar
  -- the leak too: the line `steps` is due
  with_leak : List Bool → SoFar
  -- how many steps there are, and some of them: the line of a step is due, or the line `root` after the last step
  with_steps : List Bool → ℕ → List Step → SoFar
  -- the whole derivation: the line `probes` is due
  with_root : Derivation → SoFar
  -- how many probes there are, and some of them: the line of a probe is due, or no line after the last probe
  with_probes : Derivation → ℕ → List Probe → SoFar
  -- that the probes are too many to be listed: no line is due
  with_large : Derivation → SoFar

-- what a line adds to what was said before
abbrev pub added : {X : Type 0} → (X → SoFar) → Result X CertFault → Result SoFar CertFault
added next (Ok said) = Ok (next said)
added next (Err fault) = Err fault

-- after the first line
abbrev pub with_version : Bool → SoFar
with_version true = second
with_version false = opened

-- after the line `probes`
abbrev pub with_listing : Derivation → Option ℕ → SoFar
with_listing derivation None = with_large derivation
with_listing derivation (Some t) = with_probes derivation t []

-- what is said after line k with these words
abbrev pub after_line : LinearView → SoFar → ℕ → List (List ℕ) → Result SoFar CertFault
after_line view nothing k words = added with_version (version_line k words)
after_line view second k words = added (λ _. opened) (core_line view k words)
after_line view opened k words = added with_leak (leak_line view k words)
after_line view (with_leak leak) k words = added (λ n. with_steps leak n []) (steps_line view k words)
after_line view (with_steps leak n steps) k words =
    if nat_lt (length steps) n then added (λ step. with_steps leak n (steps ++ step ∷ [])) (step_line view (length steps) k words)
    else added (λ root. with_root (record { leak = leak; steps = steps; root = root })) (root_line n k words)
after_line view (with_root derivation) k words = added (with_listing derivation) (listing_line k words)
after_line view (with_probes derivation t probes) k words =
    if nat_lt (length probes) t then added (λ probe. with_probes derivation t (probes ++ probe ∷ [])) (probe_line view t k words)
    else Err (fault.Syntax k)
after_line view (with_large derivation) k words = Err (fault.Syntax k)

-- what a text says that ends before line k: an attack, unless a line is due
abbrev pub at_end : SoFar → ℕ → Result Attack CertFault
at_end (with_probes derivation t probes) k =
    if nat_lt (length probes) t then Err (fault.Syntax k) else Ok (record { derivation = derivation; listing = Probes probes })
at_end (with_large derivation) k = Ok (record { derivation = derivation; listing = Large })
at_end _ k = Err (fault.Syntax k)

-- the first fault, or what follows
abbrev pub unless_fault : Result SoFar CertFault → (SoFar → Result Attack CertFault) → Result Attack CertFault
unless_fault (Ok so_far) follows = follows so_far
unless_fault (Err fault) follows = Err fault

-- what a text says with the lines that are left, of which line k is the first; bytes that no LF ends are of no form
abbrev pub attack_from : LinearView → SoFar → ℕ → List (Option (List (List ℕ))) → Result Attack CertFault
attack_from view so_far k [] = at_end so_far k
attack_from view so_far k (None ∷ lines) = Err (fault.Syntax k)
attack_from view so_far k (Some words ∷ lines) = unless_fault (after_line view so_far k words) (λ next. attack_from view next (k + 1) lines)

-- the attack that bytes spell for the circuit of a view, or their first fault: that of the first line that has one
abbrev pub attack_of : LinearView → List ℕ → Result Attack CertFault
attack_of view bytes = attack_from view nothing 1 (lines_of bytes)

-- the answer is the one that is wanted, or memory was wanting
abbrev pub IsOrMemory : {X : Type 0} → Result X CertFault → Result X CertFault → Type 0
IsOrMemory (Err (fault.Memory error)) wanted = Unit {0}
IsOrMemory answer wanted = answer ≡ wanted
