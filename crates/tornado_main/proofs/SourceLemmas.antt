-- What a source holds, from what its reader, its judge and its flattening answer.
use Rattle.std.proofs.Common.{◌≡◌, List, ℕ, Option, Some, IfSome, Result, Ok, Err, IfOk, IfErr, sym, subst}
use Rattle.tor_edge.specs.declared.place.Place.{Place}
use Rattle.usuba_syntax.specs.SourceFaults.{SourceFault}
use Rattle.usuba_syntax.specs.Sources.{SpellsFile, HasFault, fault_of}
use Rattle.usuba_model.specs.declared.fault.FaultKind.{FaultKind}
use Rattle.usuba_model.specs.Judging.{fault_of as source_fault_of}
use Rattle.usuba_types.specs.declared.judging.JudgeFault.{JudgeFault}
use Rattle.usuba_types.specs.declared.judging.JudgeFault.TheVariants as judge_fault
use Rattle.usuba_types.specs.Judged.{Program, IsRefusal, IsJudgedAs}
use Rattle.usuba0.specs.Circuit.{Circuit, IsSmall, HasFewColumns}
use Rattle.source_terms.specs.SourceTerms.{core_of_source}
use Rattle.flatten.specs.CoreOf.{IsCoreOf, IsFlatRefusal}
use Rattle.flatten.specs.declared.fault.FlatFault.{FlatFault}
use Rattle.usuba_trees.specs.declared.File.{File}
use Rattle.usuba_syntax.specs.declared.read.ReadFault.{ReadFault}
use Rattle.tornado_main.specs.Ending.{IsRefusedFor}
use Rattle.tornado_main.specs.Source.{HasCore, IsSource, PassesLimit, IsFaultySource, past_limit}
use Rattle.tornado_main.specs.declared.message.Complaint.{Complaint}
use Rattle.tornado_main.specs.declared.message.Complaint.TheVariants as complaint
use Rattle.tornado_main.specs.declared.message.Spot.TheVariants as spot
use Rattle.tornado_main.specs.declared.refusal.Refusal.{Refusal}
use Rattle.tornado_main.specs.declared.refusal.Refusal.TheVariants as refusal
use Rattle.tornado_main.specs.declared.status.Status.TheVariants as status

-- the reader of a source answers a fault that the bytes have
pub has_fault : (bytes : List ℕ) (answer : Result File ReadFault) (error : ReadFault) (fault : SourceFault) → answer ≡ Err error → fault_of error ≡ Some fault
    → IfErr answer (λ e. IfSome (fault_of e) (HasFault bytes)) → HasFault bytes fault
has_fault bytes answer error fault is told has =
    let here : IfSome (fault_of error) (HasFault bytes) = subst (λ (a : Result File ReadFault). IfErr a (λ e. IfSome (fault_of e) (HasFault bytes))) is has in
    subst (λ (o : Option SourceFault). IfSome o (HasFault bytes)) told here

-- the core of a judged file passes the limit that is told
pub limit_told : (program : Program) (answer : Result Circuit FlatFault) (error : FlatFault) → answer ≡ Err error
    → IfErr answer (IsFlatRefusal program) → IsFlatRefusal program error
limit_told program answer error is h = subst (λ (a : Result Circuit FlatFault). IfErr a (IsFlatRefusal program)) is h

module _ (asked_width : Option ℕ) (asked_entry : Option (List ℕ)) where
  -- the same fault at a place that is the same
  pub at_place : (what : Complaint) (bytes : List ℕ) (here there : Place) → here ≡ there
      → IsFaultySource asked_width asked_entry (record { at = spot.Place there; what = what }) bytes → IsFaultySource asked_width asked_entry (record { at = spot.Place here; what = what }) bytes
  at_place what bytes here there same = subst (λ (at : Place). IsFaultySource asked_width asked_entry (record { at = spot.Place at; what = what }) bytes) (sym same)

  -- the same fault of judging, of a kind and at a place that are the same
  pub judged_at : (bytes : List ℕ) (here there : Place) (kind other : FaultKind) → here ≡ there → kind ≡ other
      → IsFaultySource asked_width asked_entry (record { at = spot.Place there; what = complaint.Judged other }) bytes
      → IsFaultySource asked_width asked_entry (record { at = spot.Place here; what = complaint.Judged kind }) bytes
  judged_at bytes here there kind other same like has =
      subst (λ (at : Place). IsFaultySource asked_width asked_entry (record { at = spot.Place at; what = complaint.Judged kind }) bytes) (sym same)
      (subst (λ (k : FaultKind). IsFaultySource asked_width asked_entry (record { at = spot.Place there; what = complaint.Judged k }) bytes) (sym like) has)

  -- the judge of a file answers the fault that the file has
  pub judged_fault : (file : File) (answer : Result Program JudgeFault) (kind : FaultKind) (at : Place) → answer ≡ Err (judge_fault.At kind at)
      → IfErr answer (IsRefusal asked_width asked_entry file) → source_fault_of asked_width asked_entry file ≡ Some (record { kind = kind; place = at })
  judged_fault file answer kind at is h = subst (λ (a : Result Program JudgeFault). IfErr a (IsRefusal asked_width asked_entry file)) is h

  -- the core of a judged file is that of the bytes that spell it
  pub core_of_spelled : (file : File) (program : Program) → IsJudgedAs asked_width asked_entry file program → (core : Circuit) → IsCoreOf program core
      → (bytes : List ℕ) → SpellsFile bytes file → HasCore asked_width asked_entry core bytes
  core_of_spelled file program is core made bytes spelled = record {
    file = file;
    width = program.width;
    entry = program.entry;
    spelled = spelled;
    judged = is.judged;
    core_of_file = subst (λ (f : File). core_of_source program.width f program.entry ≡ Some core) is.same_file made;
  }

  -- so what is answered for a judged file is so for the bytes that spell it
  pub source_of_spelled : (file : File) (program : Program) → IsJudgedAs asked_width asked_entry file program → (answer : Result Circuit Refusal)
      → IfOk answer (IsCoreOf program) → IfOk answer (λ core. IsSmall core × HasFewColumns core)
      → IfOk answer (λ core. (bytes : List ℕ) → SpellsFile bytes file → IsSource asked_width asked_entry core bytes)
  source_of_spelled file program is (Ok core) made within =
      λ bytes spelled. record { has_core = core_of_spelled file program is core made bytes spelled; small = within.0; few_columns = within.1 }
  source_of_spelled file program is (Err e) made within = tt

  -- and a limit that the core of a judged file passes is one of the bytes that spell it
  pub limit_of_spelled : (name : List ℕ) (file : File) (program : Program) → IsJudgedAs asked_width asked_entry file program → (e : Refusal)
      → IsRefusedFor status.Source name (λ fault. (core : Circuit) × IsCoreOf program core × PassesLimit core fault) e
      → (bytes : List ℕ) → SpellsFile bytes file → IsRefusedFor status.Source name (λ fault. IsFaultySource asked_width asked_entry fault bytes) e
  limit_of_spelled name file program is (refusal.Faulty ends told fault) h bytes spelled =
      (h.0, h.1, past_limit bytes h.2.0 fault (core_of_spelled file program is h.2.0 h.2.1 bytes spelled) h.2.2)
  limit_of_spelled name file program is (refusal.Unread told why) h bytes spelled = h
  limit_of_spelled name file program is refusal.Unwritten h bytes spelled = h
  limit_of_spelled name file program is refusal.Memory h bytes spelled = h

  pub limits_of_spelled : (name : List ℕ) (file : File) (program : Program) → IsJudgedAs asked_width asked_entry file program → (answer : Result Circuit Refusal)
      → IfErr answer (IsRefusedFor status.Source name (λ fault. (core : Circuit) × IsCoreOf program core × PassesLimit core fault))
      → IfErr answer (λ e. (bytes : List ℕ) → SpellsFile bytes file → IsRefusedFor status.Source name (λ fault. IsFaultySource asked_width asked_entry fault bytes) e)
  limits_of_spelled name file program is (Ok core) h = tt
  limits_of_spelled name file program is (Err e) h = limit_of_spelled name file program is e h

  -- what is answered for each text that spells a file is answered for this one
  pub source_of_these : (bytes : List ℕ) (file : File) → SpellsFile bytes file → (answer : Result Circuit Refusal)
      → IfOk answer (λ core. (bytes : List ℕ) → SpellsFile bytes file → IsSource asked_width asked_entry core bytes) → IfOk answer (λ core. IsSource asked_width asked_entry core bytes)
  source_of_these bytes file spelled (Ok core) h = h bytes spelled
  source_of_these bytes file spelled (Err e) h = tt

  pub refused_of_these : (name bytes : List ℕ) (file : File) → SpellsFile bytes file → (answer : Result Circuit Refusal)
      → IfErr answer (λ e. (bytes : List ℕ) → SpellsFile bytes file → IsRefusedFor status.Source name (λ fault. IsFaultySource asked_width asked_entry fault bytes) e)
      → IfErr answer (λ e. IsRefusedFor status.Source name (λ fault. IsFaultySource asked_width asked_entry fault bytes) e)
  refused_of_these name bytes file spelled (Ok core) h = tt
  refused_of_these name bytes file spelled (Err e) h = h bytes spelled
