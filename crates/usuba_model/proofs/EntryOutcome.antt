-- The entry of a judged file has an outcome.
use Rattle.std.proofs.Common.{◌≡◌, ◌⊎◌, inl, inr, ℕ, zero, suc, Bool, true, false, ◌||◌, List, [], ◌∷◌, ◌++◌, map, reverse, Option, Some, None, refl, sym, ap, ◌∙◌, subst}
use Rattle.std.specs.Prelude.{bytes_eq, if◌then◌else◌, slice_get}
use Rattle.std.proofs.lemmas.Option.{none-some}
use Rattle.std.proofs.lemmas.Slice.Eq.{bytes_eq-Decides}
use Rattle.usuba_trees.specs.declared.Def.{Def}
use Rattle.usuba_trees.specs.declared.File.{File}
use Rattle.usuba_model.specs.declared.fault.FaultKind.TheVariants.{DuplicateName, UnknownName, Unassigned, Cyclic}
use Rattle.usuba_model.specs.Assignments.{unassigned_in, cyclic_in, of_nodes, twice_fault, unassigned_fault, cyclic_fault}
use Rattle.usuba_model.specs.Entries.{entry_of, entry_fault, width_of, width_fault, grid_fault}
use Rattle.usuba_model.specs.Judging.{IsJudged, fault_at_entry, later_fault_at, walks_fault, name_at}
use Rattle.usuba_model.specs.Names.{is_name_among, name_of, repeated_names, repeated_declarations, declared_in, counters_in, unknown_names}
use Rattle.usuba_model.specs.OutcomeLaw.{JudgedHasOutcome}
use Rattle.usuba_model.specs.Rounds.{outcomes}
use Rattle.usuba_model.specs.Walk.{Signature, signature, signature_of}
use Rattle.usuba_model.proofs.CellLemmas.{false_true}
use Rattle.usuba_model.proofs.FileOutcomes.{onto, names, Pass, AllTotal, all_total, none_total, signature_name}
use Rattle.usuba_model.proofs.JudgingLemmas.{first_none, second_none}
use Rattle.usuba_model.proofs.Knowing.{NoneHold, none_second, none_hold}

-- a definition is found by its name
abbrev pub IsFound : List Def → Def → Type 0
IsFound earlier d =
    (is_name_among (names earlier) (name_of d).text ≡ true) × (signature_of (map signature earlier) (name_of d).text ≡ signature d)

-- a definition is one of some
abbrev pub IsOne : Def → List Def → Type 0
IsOne d [] = ⊥
IsOne d (e ∷ defs) = (e ≡ d) ⊎ IsOne d defs

-- a new definition is found, and those before it still are
pub found_first : (earlier : List Def) (d : Def) → IsFound (d ∷ earlier) d
found_first earlier d =
    let same : bytes_eq (name_of d).text (name_of d).text ≡ true = (bytes_eq-Decides (name_of d).text (name_of d).text).1 refl in
    let test : bytes_eq (signature d).name (name_of d).text ≡ true = ap (λ (n : List ℕ). bytes_eq n (name_of d).text) (signature_name d) ∙ same in (
      ap (λ (b : Bool). b || is_name_among (names earlier) (name_of d).text) same,
      ap (λ (b : Bool). if b then signature d else signature_of (map signature earlier) (name_of d).text) test,
    )

pub found_later : (earlier : List Def) (d : Def) → is_name_among (names earlier) (name_of d).text ≡ false → (e : Def) → IsFound earlier e → IsFound (d ∷ earlier) e
found_later earlier d new e found = (
  or_found (bytes_eq (name_of e).text (name_of d).text) (is_name_among (names earlier) (name_of e).text) found.0,
  ap (λ (b : Bool). if b then signature d else signature_of (map signature earlier) (name_of e).text)
      (ap (λ (n : List ℕ). bytes_eq n (name_of e).text) (signature_name d) ∙ differs (bytes_eq (name_of d).text (name_of e).text) refl)
      ∙ found.1,
)
  where
    or_found : (p q : Bool) → q ≡ true → (p || q) ≡ true
    or_found true q is = refl
    or_found false q is = is

    differs : (b : Bool) → bytes_eq (name_of d).text (name_of e).text ≡ b → bytes_eq (name_of d).text (name_of e).text ≡ false
    differs true is =
        let equal : (name_of d).text ≡ (name_of e).text = (bytes_eq-Decides (name_of d).text (name_of e).text).0 is in
        false_true (sym new ∙ ap (is_name_among (names earlier)) equal ∙ found.0)
    differs false is = is

-- each definition is found among all, where no name is that of two
all_found : (rest earlier : List Def) → NoneHold (repeated_names (names earlier) rest) → ((e : Def) → IsOne e earlier → IsFound earlier e)
    → (e : Def) → IsOne e rest ⊎ IsOne e earlier → IsFound (onto rest earlier) e
all_found [] earlier none before e (inl h) = absurd h
all_found [] earlier none before e (inr h) = before e h
all_found (d ∷ rest) earlier none before e h =
    all_found rest (d ∷ earlier) (none_second (repeated_declarations [] (declared_in d) ++ counters_in d) _ none.1) found_now e (moved h)
  where
    found_now : (f : Def) → IsOne f (d ∷ earlier) → IsFound (d ∷ earlier) f
    found_now f (inl same) = subst (IsFound (d ∷ earlier)) same (found_first earlier d)
    found_now f (inr g) = found_later earlier d none.0 f (before f g)

    moved : IsOne e (d ∷ rest) ⊎ IsOne e earlier → IsOne e rest ⊎ IsOne e (d ∷ earlier)
    moved (inl (inl same)) = inr (inl same)
    moved (inl (inr g)) = inl g
    moved (inr g) = inr (inr g)

-- the definition at a number is one of them, and has the name there
pub at_number : (defs : List Def) (k : ℕ) (d : Def) → slice_get defs k ≡ Some d → IsOne d defs × (name_at defs k ≡ (name_of d).text)
at_number [] k d e = absurd (none-some d e)
at_number (f ∷ defs) zero d e = (inl (some_same f d e), ap (λ (g : Def). (name_of g).text) (some_same f d e))
  where
    some_same : (a b : Def) → Some a ≡ Some b → a ≡ b
    some_same a b e = cc e
at_number (f ∷ defs) (suc k) d e = let later = at_number defs k d e in (inr later.0, later.1)

-- what a judged file has passed, from the first definition on
pub judged_passes : (asked_width : Option ℕ) (asked_entry : Option (List ℕ)) (file : File) (width entry : ℕ)
    → IsJudged asked_width asked_entry file width entry
    → NoneHold (repeated_names [] file.defs) × Pass width [] file.defs
judged_passes asked_width asked_entry file width entry judged =
    let after_names = second_none _ _ judged.no_fault in
    let after_unknown = second_none _ _ after_names in
    let at_entry = subst (λ o. fault_at_entry asked_width file.defs o ≡ None) judged.has_entry (second_none (entry_fault (entry_of asked_entry file.defs)) _ after_unknown) in
    let grids = second_none (width_fault file.defs entry (width_of asked_width file.defs)) _ at_entry in
    let later = subst (λ o. later_fault_at o file.defs entry ≡ None) judged.has_width (second_none (grid_fault file.defs) _ grids) in
    let after_twice = second_none (twice_fault file.defs) _ (second_none (walks_fault width [] file.defs) _ later) in
    let after_unassigned = second_none (unassigned_fault file.defs) _ after_twice in (
      none_hold DuplicateName (repeated_names [] file.defs) (first_none _ _ judged.no_fault),
      record {
        walks = first_none (walks_fault width [] file.defs) _ later;
        known = none_hold UnknownName (unknown_names [] file.defs) (first_none _ _ after_names);
        grids = first_none (grid_fault file.defs) _ grids;
        unassigned = none_hold Unassigned (of_nodes unassigned_in file.defs) (first_none (unassigned_fault file.defs) _ after_twice);
        cyclic = none_hold Cyclic (of_nodes cyclic_in file.defs) (first_none (cyclic_fault file.defs) _ after_unassigned);
      },
    )

onto_reverses : (defs : List Def) → onto defs [] ≡ reverse defs
onto_reverses defs = refl

-- the entry of a judged file has an outcome of its size
pub entry_outcome : {V : Type 0} → JudgedHasOutcome V
entry_outcome operators asked_width asked_entry file width entry judged some_width d at elements len =
    let passed = judged_passes asked_width asked_entry file width entry judged in
    let total : AllTotal operators width some_width (onto file.defs []) = all_total operators width some_width file.defs [] (none_total operators width some_width) passed.1 in
    let place = at_number file.defs entry d at in
    let found : IsFound (onto file.defs []) d = all_found file.defs [] passed.0 (λ e h. absurd h) d (inl place.0) in
    let answer = total (name_of d).text found.0 elements (len ∙ sym (ap (λ (s : Signature). s.inputs) found.1)) in (
      answer.0,
      ap (λ (n : List ℕ). outcomes operators (onto file.defs []) n elements) place.1 ∙ answer.1,
      answer.2 ∙ ap (λ (s : Signature). s.outputs) found.1,
    )
