-- The phases one after another.
use Rattle.std.proofs.Common.{◌≡◌, ◌⊎◌, inl, inr, ℕ, List, [], Option, Some, None, refl, sym, ap, ◌∙◌, subst}
use Rattle.std.proofs.lemmas.Option.{none-some}
use Rattle.usuba_trees.specs.declared.Def.{Def}
use Rattle.usuba_trees.specs.declared.File.{File}
use Rattle.usuba_model.specs.declared.fault.Fault.{Fault}
use Rattle.usuba_model.specs.declared.fault.FaultKind.TheVariants.{DuplicateName, UnknownName}
use Rattle.usuba_model.specs.Entries.{entry_of, entry_fault, width_of, width_fault, grid_fault}
use Rattle.usuba_model.specs.Faults.{first_of, either}
use Rattle.usuba_model.specs.Judging.{fault_of, fault_at_entry, later_fault_at}
use Rattle.usuba_model.specs.Names.{repeated_names, unknown_names}
use Rattle.usuba_phases.specs.Early.{early_fault_at, early_fault_of, IsPassed, PassedOrEarly, EarlyFaultsComeFirst}
use Rattle.usuba_phases.specs.State.Phases.{names_fault, after_names_fault}

-- the first of three faults
pub either_assoc : (a b c : Option Fault) → either (either a b) c ≡ either a (either b c)
either_assoc None b c = refl
either_assoc (Some x) b c = refl

-- the names, and then the phases after them
pub early-names : (asked_width : Option ℕ) (asked_entry : Option (List ℕ)) (file : File)
    → early_fault_of asked_width asked_entry file
    ≡ either (names_fault file) (after_names_fault asked_width asked_entry file)
early-names asked_width asked_entry file =
    sym (either_assoc (first_of DuplicateName (repeated_names [] file.defs))
    (first_of UnknownName (unknown_names [] file.defs))
    (after_names_fault asked_width asked_entry file))

-- no fault of two is there where neither is
neither : (a b : Option Fault) → either a b ≡ None → (a ≡ None) × (b ≡ None)
neither (Some fault) b none = absurd (none-some fault (sym none))
neither None b none = (refl, none)

-- a program without a fault of its width has one
width_there : (width : Option ℕ) (defs : List Def) (entry : ℕ) → width_fault defs entry width ≡ None
    → (w : ℕ) × (width ≡ Some w)
width_there (Some w) defs entry none = (w, refl)
width_there None defs entry none = absurd (none-some _ (sym none))

entry_there : (entry : Option ℕ) → entry_fault entry ≡ None → (e : ℕ) × (entry ≡ Some e)
entry_there (Some e) none = (e, refl)
entry_there None none = absurd (none-some _ (sym none))

passes : (asked_width : Option ℕ) (asked_entry : Option (List ℕ)) (file : File)
    → early_fault_of asked_width asked_entry file ≡ None
    → (width : ℕ) × (entry : ℕ) × IsPassed asked_width asked_entry file width entry
passes asked_width asked_entry file none =
    let late = neither (entry_fault (entry_of asked_entry file.defs)) _
    (neither (first_of UnknownName (unknown_names [] file.defs)) _
    (neither (first_of DuplicateName (repeated_names [] file.defs)) _ none).1).1 in
    let entry = entry_there (entry_of asked_entry file.defs) late.0 in
    let at : early_fault_at (width_of asked_width file.defs) file.defs (Some entry.0) ≡ None =
    subst (λ o. early_fault_at (width_of asked_width file.defs) file.defs o ≡ None) entry.1 late.1 in
    let width = width_there (width_of asked_width file.defs) file.defs entry.0
    (neither (width_fault file.defs entry.0 (width_of asked_width file.defs)) (grid_fault file.defs) at).0 in
    (width.0, entry.0, record { no_fault = none; has_width = width.1; has_entry = entry.1 })

-- the five phases have a fault, or the file passes them
pub passed_or_early : PassedOrEarly
passed_or_early asked_width asked_entry file = at (early_fault_of asked_width asked_entry file) refl
  where
    at : (fault : Option Fault) → early_fault_of asked_width asked_entry file ≡ fault
        → ((fault : Fault) × (early_fault_of asked_width asked_entry file ≡ Some fault))
        ⊎ ((width : ℕ) × (entry : ℕ) × IsPassed asked_width asked_entry file width entry)
    at (Some fault) is = inl (fault, is)
    at None is = inr (passes asked_width asked_entry file is)

-- the phases from the sixth on for this entry, where the program has a width
abbrev late : Option ℕ → List Def → Option ℕ → Option Fault
late width defs (Some entry) = later_fault_at width defs entry
late width defs None = None

at_entry-splits : (asked_width : Option ℕ) (defs : List Def) (entry : Option ℕ)
    → fault_at_entry asked_width defs entry
    ≡ either (early_fault_at (width_of asked_width defs) defs entry) (late (width_of asked_width defs) defs entry)
at_entry-splits asked_width defs (Some entry) =
    sym (either_assoc (width_fault defs entry (width_of asked_width defs)) (grid_fault defs) _)
at_entry-splits asked_width defs None = refl

-- the faults of a file are those of the five phases, and then the later ones
splits : (asked_width : Option ℕ) (asked_entry : Option (List ℕ)) (file : File)
    → fault_of asked_width asked_entry file
    ≡ either (early_fault_of asked_width asked_entry file)
    (late (width_of asked_width file.defs) file.defs (entry_of asked_entry file.defs))
splits asked_width asked_entry file =
    let repeated = first_of DuplicateName (repeated_names [] file.defs) in
    let unknown = first_of UnknownName (unknown_names [] file.defs) in
    let entry = entry_of asked_entry file.defs in
    let width = width_of asked_width file.defs in
    let early = early_fault_at width file.defs entry in
    let later = late width file.defs entry in
    ap (λ o. either repeated (either unknown (either (entry_fault entry) o)))
    (at_entry-splits asked_width file.defs entry)
    ∙ ap (λ o. either repeated (either unknown o)) (sym (either_assoc (entry_fault entry) early later))
    ∙ ap (either repeated) (sym (either_assoc unknown (either (entry_fault entry) early) later))
    ∙ sym (either_assoc repeated (either unknown (either (entry_fault entry) early)) later)

-- a fault of the five phases is the first of the file; the first fault of a file that passes them is that of the others
pub early_faults_come_first : EarlyFaultsComeFirst
early_faults_come_first asked_width asked_entry file =
    let later = late (width_of asked_width file.defs) file.defs (entry_of asked_entry file.defs) in (
      λ fault is. splits asked_width asked_entry file ∙ ap (λ o. either o later) is,
      λ width entry passed.
          splits asked_width asked_entry file ∙ ap (λ o. either o later) passed.no_fault
          ∙ ap (λ o. late o file.defs (entry_of asked_entry file.defs)) passed.has_width
          ∙ ap (late (Some width) file.defs) passed.has_entry,
    )
