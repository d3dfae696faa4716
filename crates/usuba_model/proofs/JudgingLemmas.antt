-- Facts about the first fault of a file.
use Rattle.std.proofs.Common.{◌≡◌, ◌⊎◌, inl, inr, ℕ, List, Option, Some, None, refl, sym, subst}
use Rattle.std.proofs.lemmas.Option.{none-some}
use Rattle.usuba_trees.specs.declared.Def.{Def}
use Rattle.usuba_trees.specs.declared.File.{File}
use Rattle.usuba_model.specs.Entries.{entry_of, entry_fault, width_of, width_fault}
use Rattle.usuba_model.specs.declared.fault.Fault.{Fault}
use Rattle.usuba_model.specs.Faults.{either}
use Rattle.usuba_model.specs.Judging.{fault_of, fault_at_entry}
use Rattle.usuba_model.specs.JudgingLaws.{HasPassed, JudgedOrFaulty}

-- neither of two faults is there where the first of them is not
pub first_none : (a b : Option Fault) → either a b ≡ None → a ≡ None
first_none (Some fault) b e = absurd (none-some fault (sym e))
first_none None b e = refl

pub second_none : (a b : Option Fault) → either a b ≡ None → b ≡ None
second_none (Some fault) b e = absurd (none-some fault (sym e))
second_none None b e = e

-- a program without a fault of its width has a width
has_width : (defs : List Def) (entry : ℕ) (found : Option ℕ) → width_fault defs entry found ≡ None → (w : ℕ) × (found ≡ Some w)
has_width defs entry (Some w) e = (w, refl)
has_width defs entry None e = absurd (none-some _ (sym e))

-- a file without a fault of its entry has one
has_entry : (found : Option ℕ) → entry_fault found ≡ None → (entry : ℕ) × (found ≡ Some entry)
has_entry (Some entry) e = (entry, refl)
has_entry None e = absurd (none-some _ (sym e))

-- a file without a fault is judged
passed : (asked_width : Option ℕ) (asked_entry : Option (List ℕ)) (file : File)
    → fault_of asked_width asked_entry file ≡ None → HasPassed asked_width asked_entry file
passed asked_width asked_entry file e =
    let found = entry_of asked_entry file.defs in
    let late = second_none _ _ (second_none _ _ e) in
    let entry = has_entry found (first_none _ _ late) in
    let at_entry : fault_at_entry asked_width file.defs (Some entry.0) ≡ None
    = subst (λ o. fault_at_entry asked_width file.defs o ≡ None) entry.1 (second_none (entry_fault found) _ late) in
    let width = has_width file.defs entry.0 (width_of asked_width file.defs) (first_none _ _ at_entry) in
    (width.0, entry.0, record { no_fault = e; has_width = width.1; has_entry = entry.1 })

-- each optional fault is there or not
fault_or_passed : (asked_width : Option ℕ) (asked_entry : Option (List ℕ)) (file : File) (fault : Option Fault)
    → fault_of asked_width asked_entry file ≡ fault
    → ((f : Fault) × (fault_of asked_width asked_entry file ≡ Some f)) ⊎ HasPassed asked_width asked_entry file
fault_or_passed asked_width asked_entry file (Some f) e = inl (f, e)
fault_or_passed asked_width asked_entry file None e = inr (passed asked_width asked_entry file e)

-- each file has a first fault or is judged
pub judged_or_faulty : JudgedOrFaulty
judged_or_faulty asked_width asked_entry file = fault_or_passed asked_width asked_entry file (fault_of asked_width asked_entry file) refl
