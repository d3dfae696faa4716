-- The definitions of a judged file are sound.
use Rattle.std.proofs.Common.{◌≡◌, ℕ, zero, suc, ◌+◌, ◌<◌, ◌≤◌, Bool, true, false, List, [], ◌∷◌, ◌++◌, length, map, take, get_or, Option, Some, None, refl, sym, ap, ◌∙◌, subst, arith}
use Rattle.std.specs.Prelude.{if◌then◌else◌, slice_get}
use Rattle.std.specs.Option.{option_or}
use Rattle.std.proofs.lemmas.Option.{none-some, same_Some}
use Rattle.usuba_trees.specs.declared.Def.{Def}
use Rattle.usuba_trees.specs.declared.Def.TheVariants as def
use Rattle.usuba_trees.specs.declared.File.{File}
use Rattle.usuba_model.specs.declared.fault.FaultKind.{FaultKind}
use Rattle.usuba_model.specs.declared.fault.FaultKind.TheVariants.{Cyclic}
use Rattle.usuba_model.specs.Assignments.{cyclic_in, of_nodes}
use Rattle.usuba_model.specs.Entries.{entry_from, is_asked_for}
use Rattle.usuba_model.specs.Faults.{Finding, first_of}
use Rattle.usuba_model.specs.Judging.{walks_fault}
use Rattle.usuba_model.specs.Names.{name_of, names_of, declared_in, counters_in, repeated_names, repeated_declarations, unknown_names, unknown_in_definition}
use Rattle.usuba_model.specs.Numbers.{AreDistinct}
use Rattle.usuba_model.specs.Shapes.{all_elements}
use Rattle.usuba_model.specs.Unrolled.{declarations, unrolled}
use Rattle.usuba_model.specs.Walk.{signature, definition_steps, walk_fault, most_operations}
use Rattle.usuba_model.proofs.CellLemmas.{false_true}
use Rattle.usuba_model.proofs.EntryOutcome.{judged_passes}
use Rattle.usuba_model.proofs.FileOutcomes.{onto, names, signature_name}
use Rattle.usuba_model.proofs.JudgingLemmas.{first_none, second_none}
use Rattle.usuba_model.proofs.Knowing.{NoneHold, none_first, none_second, node_knows}
use Rattle.usuba_code.proofs.Numbering.{distinct_names}
use Rattle.ready_order.specs.Numbered.{cyclic_numbered}
use Rattle.ready_order.proofs.Carrying.{numbered_findings}
use Rattle.usuba_walk.specs.Signatures.{place_of}
use Rattle.usuba_walk.specs.Walking.{coded_definition}
use Rattle.ready_order.proofs.Among.{AllBelow}
use Rattle.usuba_planner.specs.Judged.{IsJudgedFor}
use Rattle.usuba_planner.specs.State.Calls.{all_called}
use Rattle.usuba_planner.specs.State.Sound.{IsSound, AllSound, AllFew}
use Rattle.usuba_planner.proofs.Calling.{instances_below, new_place}
use Rattle.usuba_planner.proofs.Declaring.{definition_few}

-- the definitions after these have none of these faults
record Passes (w : ℕ) (earlier rest : List Def) : Type 0 where
  pub walks : walks_fault w (map signature earlier) rest ≡ None
  pub known : NoneHold (unknown_names (names earlier) rest)
  pub cyclic : NoneHold (of_nodes cyclic_in rest)
  pub distinct : NoneHold (repeated_names (names earlier) rest)

cyclic_after : (d : Def) (rest : List Def) → NoneHold (of_nodes cyclic_in (d ∷ rest)) → NoneHold (of_nodes cyclic_in rest)
cyclic_after (def.Node node) rest none = none_second (cyclic_in node) (of_nodes cyclic_in rest) none
cyclic_after (def.Table grid) rest none = none
cyclic_after (def.Perm grid) rest none = none

passes_after : (w : ℕ) (earlier : List Def) (d : Def) (rest : List Def) → Passes w earlier (d ∷ rest) → Passes w (d ∷ earlier) rest
passes_after w earlier d rest pass = record {
  walks = second_none (walk_fault 0 (definition_steps w (map signature earlier) d)) _ pass.walks;
  known = none_second (unknown_in_definition (names earlier) d) _ pass.known;
  cyclic = cyclic_after d rest pass.cyclic;
  distinct = none_second (repeated_declarations [] (declared_in d) ++ counters_in d) (repeated_names ((name_of d).text ∷ names earlier) rest) pass.distinct.1;
}

none_found : (kind : FaultKind) (findings : List Finding) → NoneHold findings → first_of kind findings ≡ None
none_found kind [] none = refl
none_found kind (finding ∷ findings) none =
    ap (λ (b : Bool). if b then Some (record { kind = kind; place = finding.place }) else first_of kind findings) none.0
    ∙ none_found kind findings none.1

module _ (w : ℕ) (earlier : List Def) where
  here_distinct : (d : Def) (rest : List Def) → Passes w earlier (d ∷ rest) → AreDistinct (declared_in d)
  here_distinct d rest pass =
      let here = none_first (repeated_declarations [] (declared_in d)) (counters_in d)
      (none_first (repeated_declarations [] (declared_in d) ++ counters_in d) (repeated_names ((name_of d).text ∷ names earlier) rest) pass.distinct.1) in
      (distinct_names [] (declared_in d) here).1

  here_ready : (d : Def) (rest : List Def) → Passes w earlier (d ∷ rest)
      → first_of Cyclic (cyclic_numbered (signature d).inputs (coded_definition (map signature earlier) d)) ≡ None
  here_ready (def.Node node) rest pass =
      ap (first_of Cyclic) (numbered_findings.cyclic (map signature earlier) node (here_distinct (def.Node node) rest pass))
      ∙ none_found Cyclic (cyclic_in node) (none_first (cyclic_in node) (of_nodes cyclic_in rest) pass.cyclic)
  here_ready (def.Table grid) rest pass = refl
  here_ready (def.Perm grid) rest pass = refl

  here_earlier : (d : Def) (rest : List Def) → Passes w earlier (d ∷ rest)
      → AllBelow (length (map signature earlier)) (all_called (coded_definition (map signature earlier) d))
  here_earlier (def.Node node) rest pass =
      let knows = node_knows (names earlier) node (none_first (unknown_in_definition (names earlier) (def.Node node)) _ pass.known) in
      instances_below earlier (declarations node) (names_of (declarations node)) (unrolled node) knows
  here_earlier (def.Table grid) rest pass = λ c m. false_true m
  here_earlier (def.Perm grid) rest pass = λ c m. false_true m

  here_sound : (d : Def) (rest : List Def) → Passes w earlier (d ∷ rest) → IsSound w (map signature earlier) d
  here_sound d rest pass = record {
    walks = first_none (walk_fault 0 (definition_steps w (map signature earlier) d)) _ pass.walks;
    ready = here_ready d rest pass;
    earlier = here_earlier d rest pass;
    new = ap (place_of (map signature earlier)) (signature_name d) ∙ new_place earlier (name_of d).text pass.distinct.0;
  }

sound_at : (w : ℕ) (rest earlier : List Def) → Passes w earlier rest → (j : ℕ) (d : Def) → slice_get rest j ≡ Some d
    → IsSound w (map signature (onto (take j rest) earlier)) d
sound_at w [] earlier pass j d at = absurd (none-some d at)
sound_at w (e ∷ rest) earlier pass zero d at = subst (IsSound w (map signature earlier)) (same_Some e d at) (here_sound w earlier e rest pass)
sound_at w (e ∷ rest) earlier pass (suc j) d at = sound_at w rest (e ∷ earlier) (passes_after w earlier e rest pass) j d at

-- each definition of a judged file is sound
pub judged_sound : (file : File) (w entry : ℕ) → IsJudgedFor file w entry → AllSound w file.defs
judged_sound file w entry judged number d at =
    let passed = judged_passes judged.0 judged.1 file w entry judged.2 in
    sound_at w file.defs [] (record {
      walks = passed.1.walks;
      known = passed.1.known;
      cyclic = passed.1.cyclic;
      distinct = passed.0;
    }) number d at

few_at : (defs : List Def) → ((number : ℕ) (d : Def) → slice_get defs number ≡ Some d → all_elements (declared_in d) ≤ most_operations) → AllFew defs
few_at [] few = tt
few_at (d ∷ defs) few = (few 0 d refl, few_at defs (λ number e at. few (suc number) e at))

-- sound definitions have few elements
pub sound_few : (w : ℕ) (defs : List Def) → AllSound w defs → AllFew defs
sound_few w defs sound = few_at defs (λ number d at. definition_few w _ d (sound number d at).walks)

from_within : (asked : Option (List ℕ)) (k : ℕ) (defs : List Def) (e : ℕ) → entry_from asked k defs ≡ Some e → e < k + length defs
from_within asked k [] e at = absurd (none-some e at)
from_within asked k (def.Node node ∷ rest) e at =
    by (entry_from asked (suc k) rest) (is_asked_for asked node) (from_within asked (suc k) rest e) at
  where
    by : (o : Option ℕ) (b : Bool) → (o ≡ Some e → e < suc k + length rest) → option_or o (if b then Some k else None) ≡ Some e
        → e < k + suc (length rest)
    by (Some x) b later at = let below = later at in omega (arith, below)
    by None true later at = let same = same_Some k e at in omega (arith, same)
    by None false later at = absurd (none-some e at)
from_within asked k (def.Table grid ∷ rest) e at = let below = from_within asked (suc k) rest e at in omega (arith, below)
from_within asked k (def.Perm grid ∷ rest) e at = let below = from_within asked (suc k) rest e at in omega (arith, below)

-- the entry of a judged file is one of its definitions
pub entry_within : (file : File) (w entry : ℕ) → IsJudgedFor file w entry → entry < length file.defs
entry_within file w entry judged =
    let below = from_within judged.1 0 file.defs entry judged.2.has_entry in omega (arith, below)

-- one of definitions with few elements has few
pub few_of : (defs : List Def) (i : ℕ) (d : Def) → i < length defs → d ≡ get_or defs i d → AllFew defs → all_elements (declared_in d) ≤ most_operations
few_of [] i d less at few = absurd (omega (arith, less))
few_of (e ∷ defs) zero d less at few = subst (λ (f : Def). all_elements (declared_in f) ≤ most_operations) (sym at) few.0
few_of (e ∷ defs) (suc i) d less at few = few_of defs i d (omega (arith, less)) at few.1
