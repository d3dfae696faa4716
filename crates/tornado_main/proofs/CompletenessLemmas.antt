-- Completeness, from how an order may end.
use Rattle.std.proofs.Common.{◌≡◌, ◌⊎◌, inl, inr, ℕ, List, Option, Some, refl, subst}
use Rattle.tor_edge.specs.Count.{Rose}
use Rattle.tor_edge.specs.declared.files.Reason.{Reason}
use Rattle.tor_edge.specs.declared.files.Reason.TheVariants as reason
use Rattle.tor_edge.specs.declared.files.Refusal.{Refusal as Refused}
use Rattle.tor_edge.specs.declared.place.Place.{Place}
use Rattle.c_tree.specs.declared.CFile.{CFile}
use Rattle.c_syntax.specs.Syntax.{IsSyntaxFault}
use Rattle.c_meaning.specs.CSubset.{Spells, IsBadName}
use Rattle.usuba_trees.specs.declared.File.{File}
use Rattle.usuba_syntax.specs.Sources.{SpellsFile, HasFault}
use Rattle.usuba_syntax.specs.SourceFaults.{SourceFault}
use Rattle.tornado_words.specs.declared.order.Order.{Order}
use Rattle.tornado_main.specs.Completeness.{AnswersWholly, IsComplete}
use Rattle.tornado_main.specs.Fetching.{count_for}
use Rattle.tornado_main.specs.Files.{Contents}
use Rattle.tornado_main.specs.Orders.{OrderEnds}
use Rattle.tornado_main.specs.Outcome.{answers, refused}
use Rattle.tornado_main.specs.Run.{WroteAnswer, Shows, IsRun}
use Rattle.tornado_main.specs.declared.status.Status.{Status}
use Rattle.tornado_main.specs.declared.status.Status.TheVariants as exit
use Rattle.tornado_main.proofs.CoverageLemmas.{WrittenIsRead, order_one, order_fits}

-- the status of an answer is that of no refused file
no_refused_file : (expected : Status) → (expected ≡ exit.Done) ⊎ (expected ≡ exit.Found) → (exit.Source ≡ expected → ⊥) × (exit.Values ≡ expected → ⊥)
no_refused_file expected (inl done) = (λ is. cc (done, is), λ is. cc (done, is))
no_refused_file expected (inr found) = (λ is. cc (found, is), λ is. cc (found, is))

-- no count rose, so none did for this reason
count_stays : (why : Reason) (faults too_long others longer : ℕ) → ¬ Rose faults others → ¬ Rose too_long longer
    → ¬ Rose (count_for why faults too_long) (count_for why others longer)
count_stays reason.Failed faults too_long others longer a b = a
count_stays reason.TooLong faults too_long others longer a b = b

module _ (one_file : (bytes : List ℕ) (first second : File) → SpellsFile bytes first → SpellsFile bytes second → first ≡ second)
    (no_fault : (bytes : List ℕ) (file : File) (fault : SourceFault) → SpellsFile bytes file → ¬ HasFault bytes fault)
    (written_is_read : WrittenIsRead)
    (one_c : (bytes : List ℕ) (first second : CFile) → Spells bytes first → Spells bytes second → first ≡ second)
    (no_syntax_fault : (bytes : List ℕ) (file : CFile) (place : Place) → Spells bytes file → ¬ IsSyntaxFault bytes place)
    (no_bad_name : (bytes : List ℕ) (file : CFile) (place : Place) → Spells bytes file → ¬ IsBadName bytes place)
    (F O E : Type 0) (faults too_long : F → ℕ) (last_refused : F → Option Refused) (fetched : F → List (List ℕ)) (out_faults : O → ℕ)
    (out_written : O → Option (List ℕ)) (err_faults : E → ℕ) (err_written : E → Option (List ℕ)) where
  module _ (file : List ℕ → Option (List ℕ)) (o : Order) (text : List ℕ) (expected : Status) (has : OrderEnds (Some file) o (answers text expected))
      (files_old files_new : F) (out_old out_new : O) (err_old err_new : E)
      (no_faults : ¬ Rose (faults files_old) (faults files_new)) (none_longer : ¬ Rose (too_long files_old) (too_long files_new))
      (wrote_all : ¬ Rose (out_faults out_old) (out_faults out_new)) where
    abbrev Shown : Status → Type 0
    Shown = Shows faults too_long last_refused fetched out_faults out_written err_faults err_written (OrderEnds (Some file) o)
        files_old files_new out_old out_new err_old err_new

    abbrev Whole : Status → Type 0
    Whole = AnswersWholly out_written (Some file) o out_old out_new expected

    -- an answer has the status that is expected
    answer_status : (told : List ℕ) (status : Status) → OrderEnds (Some file) o (answers told status) → status ≡ expected
    answer_status told status may = order_one one_file no_fault written_is_read one_c no_syntax_fault no_bad_name file o (answers told status) (answers text expected) status expected may has refl refl

    refused_status : (name : List ℕ) (status : Status) (fault : _) → OrderEnds (Some file) o (refused status name fault) → status ≡ expected
    refused_status name status fault may = order_one one_file no_fault written_is_read one_c no_syntax_fault no_bad_name file o (refused status name fault) (answers text expected) status expected may has refl refl

    answered : (status : Status) → WroteAnswer (OrderEnds (Some file) o) status (out_written out_old) (out_written out_new) → Whole status
    answered status wrote =
        let same = answer_status wrote.text status wrote.allowed in
        inl (same, subst (λ s. WroteAnswer (OrderEnds (Some file) o) s (out_written out_old) (out_written out_new)) same wrote)

    whole : (status : Status) → Shown status → Whole status
    whole exit.Done shown = answered exit.Done shown.0
    whole exit.Found shown = answered exit.Found shown.0
    whole exit.Usage shown = absurd shown
    whole exit.Source shown =
        absurd ((no_refused_file expected (order_fits (Some file) o (answers text expected) has)).0
        (refused_status shown.0.name exit.Source shown.0.fault shown.0.allowed))
    whole exit.Unread shown = absurd (count_stays shown.0.why _ _ _ _ no_faults none_longer shown.0.was_refused.rose)
    whole exit.Unwritten shown = absurd (wrote_all shown.0.rose)
    whole exit.Memory shown = inr (refl, shown.1)
    whole exit.Values shown =
        absurd ((no_refused_file expected (order_fits (Some file) o (answers text expected) has)).1
        (refused_status shown.0.name exit.Values shown.0.fault shown.0.allowed))

-- a run is complete
pub complete : ((bytes : List ℕ) (first second : File) → SpellsFile bytes first → SpellsFile bytes second → first ≡ second)
    → ((bytes : List ℕ) (file : File) (fault : SourceFault) → SpellsFile bytes file → ¬ HasFault bytes fault) → WrittenIsRead
    → ((bytes : List ℕ) (first second : CFile) → Spells bytes first → Spells bytes second → first ≡ second)
    → ((bytes : List ℕ) (file : CFile) (place : Place) → Spells bytes file → ¬ IsSyntaxFault bytes place)
    → ((bytes : List ℕ) (file : CFile) (place : Place) → Spells bytes file → ¬ IsBadName bytes place)
    → {F O E : Type 0} {faults too_long : F → ℕ} {last_refused : F → Option Refused} {fetched : F → List (List ℕ)} {out_faults : O → ℕ}
    {out_written : O → Option (List ℕ)} {err_faults : E → ℕ} {err_written : E → Option (List ℕ)}
    {contents : F → Contents} {words : List (List ℕ)} {files_old files_new : F} {out_old out_new : O} {err_old err_new : E} {status : Status}
    → IsRun faults too_long last_refused fetched out_faults out_written err_faults err_written contents words files_old files_new out_old out_new err_old err_new status
    → IsComplete faults too_long contents out_faults out_written words files_old files_new out_old out_new status
complete one_file no_fault written_is_read one_c no_syntax_fault no_bad_name {F = F} {O = O} {E = E} {faults = faults} {too_long = too_long} {last_refused = last_refused} {fetched = fetched}
    {out_faults = out_faults} {out_written = out_written} {err_faults = err_faults} {err_written = err_written}
    {files_old = files_old} {files_new = files_new} {out_old = out_old} {out_new = out_new} {err_old = err_old} {err_new = err_new} {status = status}
    run o file text expected asked told has no_faults none_longer wrote_all =
    whole one_file no_fault written_is_read one_c no_syntax_fault no_bad_name F O E faults too_long last_refused fetched out_faults out_written err_faults err_written
    file o text expected has files_old files_new out_old out_new err_old err_new no_faults none_longer wrote_all status
    (subst (λ (c : Contents). Shows faults too_long last_refused fetched out_faults out_written err_faults err_written (OrderEnds c o)
    files_old files_new out_old out_new err_old err_new status) told (run.ends o asked))
