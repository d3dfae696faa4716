-- The ten phases of a file that passed the first five.
use Rattle.std.proofs.Common.{◌≡◌, ℕ, zero, suc, ◌+◌, ◌<◌, ◌≤◌, Bool, true, false, List, [], ◌∷◌, length, get_or, Option, Some, None, refl, sym, ap, ◌∙◌, subst, arith}
use Rattle.std.specs.Prelude.{if◌then◌else◌}
use Rattle.std.specs.Option.{option_or, unwrap_or}
use Rattle.std.proofs.lemmas.Option.{none-some}
use Rattle.usuba_trees.specs.declared.Def.{Def}
use Rattle.usuba_trees.specs.declared.Def.TheVariants as def
use Rattle.usuba_trees.specs.declared.File.{File}
use Rattle.usuba_model.specs.declared.fault.Fault.{Fault}
use Rattle.usuba_model.specs.declared.fault.FaultKind.TheVariants.{DuplicateName, UnknownName}
use Rattle.usuba_model.specs.Entries.{entry_from, entry_of, is_asked_for, entry_fault, width_of, width_fault, grid_fault}
use Rattle.usuba_model.specs.Faults.{first_of}
use Rattle.usuba_model.specs.Judging.{later_fault, later_fault_at, fault_at_entry, walks_fault, fault_of, IsJudged}
use Rattle.usuba_model.specs.Names.{declared_in, repeated_names, unknown_names}
use Rattle.usuba_model.specs.Shapes.{all_elements}
use Rattle.usuba_model.specs.Walk.{Signature, signature, most_operations, definition_steps, walk_fault}
use Rattle.usuba_model.proofs.JudgingLemmas.{first_none, second_none}
use Rattle.usuba_phases.specs.Early.{IsPassed, EarlyFaultsComeFirst}
use Rattle.usuba_types.specs.Judged.{Program, IsProgram, inputs_at, outputs_at}
use Rattle.usuba_types.proofs.Declaring.{definition-few}

-- no name repeats another
pub passed-repeated : (asked_width : Option ℕ) (asked_entry : Option (List ℕ)) (file : File) (width entry : ℕ)
    → IsPassed asked_width asked_entry file width entry → first_of DuplicateName (repeated_names [] file.defs) ≡ None
passed-repeated asked_width asked_entry file width entry passed = first_none _ _ passed.no_fault

-- no name is unknown
pub passed-unknown : (asked_width : Option ℕ) (asked_entry : Option (List ℕ)) (file : File) (width entry : ℕ)
    → IsPassed asked_width asked_entry file width entry → first_of UnknownName (unknown_names [] file.defs) ≡ None
passed-unknown asked_width asked_entry file width entry passed =
    first_none _ _ (second_none (first_of DuplicateName (repeated_names [] file.defs)) _ passed.no_fault)

-- an entry among definitions that are counted on from k is below the count past them
entry-below : (later : Option ℕ) (asked : Bool) (k n e : ℕ) → ((f : ℕ) → later ≡ Some f → f < suc k + n)
    → option_or later (if asked then Some k else None) ≡ Some e → e < k + suc n
entry-below (Some f) asked k n e below is =
    let same : f ≡ e = ap (λ o. unwrap_or o 0) is in let less : f < suc k + n = below f refl in omega (arith, less, same)
entry-below None true k n e below is = let same : k ≡ e = ap (λ o. unwrap_or o 0) is in omega (arith, same)
entry-below None false k n e below is = absurd (none-some e is)

entry-within : (asked : Option (List ℕ)) (k : ℕ) (defs : List Def) (e : ℕ) → entry_from asked k defs ≡ Some e → e < k + length defs
entry-within asked k [] e is = absurd (none-some e is)
entry-within asked k (def.Node node ∷ rest) e is =
    entry-below (entry_from asked (suc k) rest) (is_asked_for asked node) k (length rest) e (entry-within asked (suc k) rest) is
entry-within asked k (def.Table grid ∷ rest) e is =
    let less : e < suc k + length rest = entry-within asked (suc k) rest e is in omega (arith, less)
entry-within asked k (def.Perm grid ∷ rest) e is =
    let less : e < suc k + length rest = entry-within asked (suc k) rest e is in omega (arith, less)

-- the entry is one of the definitions
pub passed-entry : (asked_width : Option ℕ) (asked_entry : Option (List ℕ)) (file : File) (width entry : ℕ)
    → IsPassed asked_width asked_entry file width entry → entry < length file.defs
passed-entry asked_width asked_entry file width entry passed =
    let less : entry < 0 + length file.defs = entry-within asked_entry 0 file.defs entry passed.has_entry in omega (arith, less)

-- where the later phases have no fault, the file is judged
pub passed-judged : EarlyFaultsComeFirst → (asked_width : Option ℕ) (asked_entry : Option (List ℕ)) (file : File) (width entry : ℕ)
    → IsPassed asked_width asked_entry file width entry → later_fault width file.defs entry ≡ None
    → IsJudged asked_width asked_entry file width entry
passed-judged law asked_width asked_entry file width entry passed none = record {
  no_fault = (law asked_width asked_entry file).1 width entry passed ∙ none;
  has_width = passed.has_width;
  has_entry = passed.has_entry;
}

-- the first fault of the later phases is the first of the file
pub passed-refused : EarlyFaultsComeFirst → (asked_width : Option ℕ) (asked_entry : Option (List ℕ)) (file : File) (width entry : ℕ) (fault : Option Fault)
    → IsPassed asked_width asked_entry file width entry → later_fault width file.defs entry ≡ fault
    → fault_of asked_width asked_entry file ≡ fault
passed-refused law asked_width asked_entry file width entry fault passed is = (law asked_width asked_entry file).1 width entry passed ∙ is

-- the entry of a judged file is one of the definitions
pub judged-entry : (program : Program) → IsProgram program → program.entry < length program.file.defs
judged-entry program judged =
    let less : program.entry < 0 + length program.file.defs = entry-within judged.asked_entry 0 program.file.defs program.entry judged.judged.has_entry in
    omega (arith, less)

-- each definition of a walk without a fault has few elements
walked-at : (w : ℕ) (signatures : List Signature) (defs : List Def) (k : ℕ) (d : Def) → walks_fault w signatures defs ≡ None
    → k < length defs → d ≡ get_or defs k d → all_elements (declared_in d) ≤ most_operations
walked-at w signatures [] k d none within is = absurd (omega (arith, within))
walked-at w signatures (first ∷ rest) zero d none within is =
    subst (λ (e : Def). all_elements (declared_in e) ≤ most_operations) (sym is) (definition-few w signatures first (first_none _ _ none))
walked-at w signatures (first ∷ rest) (suc k) d none within is =
    walked-at w (signature first ∷ signatures) rest k d (second_none (walk_fault 0 (definition_steps w signatures first)) _ none) (omega (arith, within)) is

-- the walks through a judged file have no fault
judged-walks : (program : Program) → IsProgram program → walks_fault program.width [] program.file.defs ≡ None
judged-walks program judged =
    let defs = program.file.defs in
    let asked = judged.asked_width in
    let late : fault_at_entry asked defs (entry_of judged.asked_entry defs) ≡ None =
    second_none (entry_fault (entry_of judged.asked_entry defs)) _
    (second_none (first_of UnknownName (unknown_names [] defs)) _ (second_none (first_of DuplicateName (repeated_names [] defs)) _ judged.judged.no_fault)) in
    let at : fault_at_entry asked defs (Some program.entry) ≡ None = subst (λ (o : Option ℕ). fault_at_entry asked defs o ≡ None) judged.judged.has_entry late in
    let later : later_fault_at (width_of asked defs) defs program.entry ≡ None =
    second_none (grid_fault defs) _ (second_none (width_fault defs program.entry (width_of asked defs)) _ at) in
    let whole : later_fault program.width defs program.entry ≡ None =
    subst (λ (o : Option ℕ). later_fault_at o defs program.entry ≡ None) judged.judged.has_width later in
    first_none _ _ whole

-- the entry of a judged file has few elements
pub judged-few : (program : Program) → IsProgram program → (items : List Def) (d : Def) → items ≡ program.file.defs
    → d ≡ get_or items program.entry d → all_elements (declared_in d) ≤ most_operations
judged-few program judged items d same is =
    walked-at program.width [] program.file.defs program.entry d (judged-walks program judged) (judged-entry program judged)
    (subst (λ (l : List Def). d ≡ get_or l program.entry d) same is)

counts-at : (defs : List Def) (k : ℕ) (d : Def) → k < length defs → d ≡ get_or defs k d
    → ((signature d).inputs ≡ inputs_at defs k) × ((signature d).outputs ≡ outputs_at defs k)
counts-at [] k d within is = absurd (omega (arith, within))
counts-at (first ∷ rest) zero d within is = (ap (λ e. (signature e).inputs) is, ap (λ e. (signature e).outputs) is)
counts-at (first ∷ rest) (suc k) d within is = counts-at rest k d (omega (arith, within)) is

-- the elements that the entry of a judged file takes and gives
pub judged-counts : (program : Program) → IsProgram program → (items : List Def) (d : Def) → items ≡ program.file.defs
    → d ≡ get_or items program.entry d
    → ((signature d).inputs ≡ inputs_at program.file.defs program.entry) × ((signature d).outputs ≡ outputs_at program.file.defs program.entry)
judged-counts program judged items d same is =
    counts-at program.file.defs program.entry d (judged-entry program judged) (subst (λ (l : List Def). d ≡ get_or l program.entry d) same is)
