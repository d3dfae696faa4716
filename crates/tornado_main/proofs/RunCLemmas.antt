-- How an order may end that runs a file of C.
use Rattle.std.proofs.Common.{◌≡◌, ◌⊎◌, inl, inr, ◌≤◌, ◌==◌, ℕ, Bool, true, false, max, List, length, Result, Ok, Err, IfErr, refl, sym, ◌∙◌, ap, subst, arith}
use Rattle.std.specs.Prelude.{if◌then◌else◌}
use Rattle.c_tree.specs.declared.CFile.{CFile}
use Rattle.c_machine.specs.declared.stop.RunFault.{RunFault}
use Rattle.c_machine.specs.declared.stop.RunFault.TheVariants as run_fault
use Rattle.c_machine.specs.Run.{IsRunFault}
use Rattle.c_meaning.specs.CSubset.{Spells, IsFault}
use Rattle.c_meaning.specs.declared.read.CFault.{CFault}
use Rattle.c_tokens.specs.Openings.{opening_of}
use Rattle.c_tokens.specs.declared.opening.Opening.{Opening}
use Rattle.c_tokens.specs.declared.opening.Opening.TheVariants.{Lines, Wrong}
use Rattle.c_tokens.specs.Openings.{opening_with, further, lines_of, alike}
use Rattle.c_tokens.specs.declared.token.Token.{Token}
use Rattle.c_subset.specs.Files.{IsFile}
use Rattle.c_subset.specs.Files as c_files
use Rattle.c_machine.specs.Run.{machine_run}
use Rattle.data_text.specs.Reading.{IsOrMemory}
use Rattle.data_text.specs.declared.fault.ValueFault.{ValueFault}
use Rattle.data_text.specs.declared.fault.ValueFault.TheVariants as value_fault
use Rattle.data_text.specs.declared.read.RunValues.{RunValues}
use Rattle.tor_edge.specs.declared.place.Place.{Place}
use Rattle.tornado_main.specs.Ending.{Stops, Nowhere}
use Rattle.tornado_main.specs.Files.{Contents, FileIs}
use Rattle.tornado_main.specs.Outcome.{Outcome, answers, refused, unread}
use Rattle.tor_edge.specs.declared.files.Reason.{Reason}
use Rattle.tornado_main.specs.Steps.{AfterFile}
use Rattle.tornado_main.specs.commands.Run.{IsCFile, IsFaultyCFile, SaysRun, IsFaultyRun, RunsTo, RunEnds, done, index_out, bad_shift, words_short}
use Rattle.tornado_main.specs.declared.message.Complaint.{Complaint}
use Rattle.tornado_main.specs.declared.message.Spot.TheVariants as spot
use Rattle.tornado_main.specs.declared.message.Fault.{Fault}
use Rattle.tornado_main.specs.declared.refusal.Refusal.{Refusal}
use Rattle.tornado_main.specs.declared.refusal.Refusal.TheVariants as refusal
use Rattle.tornado_main.specs.declared.status.Status.{Status}
use Rattle.tornado_main.specs.declared.status.Status.TheVariants.{Values}
use Rattle.tornado_main.proofs.StepLemmas.{stops_anyway, stops_later, goes_on_with}

-- the same fault at a place that is the same
pub c_at_place : (what : Complaint) (bytes : List ℕ) (here there : Place) → here ≡ there
    → IsFaultyCFile (record { at = spot.Place there; what = what }) bytes → IsFaultyCFile (record { at = spot.Place here; what = what }) bytes
c_at_place what bytes here there same = subst (λ (at : Place). IsFaultyCFile (record { at = spot.Place at; what = what }) bytes) (sym same)

-- the reader of C answers the fault that the bytes have
pub c_refusal : (bytes : List ℕ) (answer : Result CFile CFault) (fault : CFault) → answer ≡ Err fault → IfErr answer (IsFault bytes) → IsFault bytes fault
c_refusal bytes answer fault is h = subst (λ (a : Result CFile CFault). IfErr a (IsFault bytes)) is h

-- the reader of a run's data answers the fault that it has
pub run_syntax_is : (answer wanted : Result RunValues ValueFault) (line : ℕ) → answer ≡ Err (value_fault.Syntax line) → IsOrMemory answer wanted
    → wanted ≡ Err (value_fault.Syntax line)
run_syntax_is answer wanted line is h = sym (subst (λ (a : Result RunValues ValueFault). IsOrMemory a wanted) is h)

pub run_range_is : (answer wanted : Result RunValues ValueFault) (line : ℕ) → answer ≡ Err (value_fault.OutOfRange line) → IsOrMemory answer wanted
    → wanted ≡ Err (value_fault.OutOfRange line)
run_range_is answer wanted line is h = sym (subst (λ (a : Result RunValues ValueFault). IsOrMemory a wanted) is h)

-- a refused run has met what is answered
pub run_met : (ran : Result (List ℕ) RunFault) (answer : Result (List ℕ) RunFault) (fault : RunFault) → answer ≡ Err fault
    → IfErr answer (IsRunFault ran) → IsRunFault ran fault
run_met ran answer fault is h = subst (λ (a : Result (List ℕ) RunFault). IfErr a (IsRunFault ran)) is h

-- a refusal of this name, as the order may end
pub stops_at : (May : Outcome → Type 0) (ends_with : Status) {told : _} (fault : Fault) (e : Refusal) → e ≡ refusal.Faulty ends_with told fault
    → Stops May (refusal.Faulty ends_with told fault) → Stops May e
stops_at May ends_with fault e is may = subst (λ (k : Refusal). Stops May k) (sym is) may

-- an order that stops at its data stops
pub run_stops : (contents later : Contents) → later ≡ contents → (cfile values : List ℕ) (file : CFile) → FileIs contents cfile (IsCFile file)
    → (e : Refusal) → Stops (AfterFile later values Values (SaysRun file) (IsFaultyRun file) Nowhere) e → Stops (RunEnds contents cfile values) e
run_stops contents later same cfile values file spelled e stops =
    let P : Contents → Type 0 = λ k. Stops (AfterFile k values Values (SaysRun file) (IsFaultyRun file) Nowhere) e in
    stops_later contents cfile Values IsCFile IsFaultyCFile _ file e spelled
    (stops_anyway contents values Values (SaysRun file) (IsFaultyRun file) (RunsTo cfile values file) e (subst P same stops))

-- and so does one whose run is refused
pub run_stops_last : (contents later : Contents) → later ≡ contents → (cfile values : List ℕ) (file : CFile) → FileIs contents cfile (IsCFile file)
    → (said : RunValues) → FileIs later values (SaysRun file said) → (e : Refusal) → Stops (RunsTo cfile values file said) e
    → Stops (RunEnds contents cfile values) e
run_stops_last contents later same cfile values file spelled said says e stops =
    let P : Contents → Type 0 = λ k. FileIs k values (SaysRun file said) in
    stops_later contents cfile Values IsCFile IsFaultyCFile _ file e spelled
    (stops_later contents values Values (SaysRun file) (IsFaultyRun file) (RunsTo cfile values file) said e (subst P same says) stops)

-- how an order may end that runs a file
pub run_may : (contents later : Contents) → later ≡ contents → (cfile values : List ℕ) (file : CFile) → FileIs contents cfile (IsCFile file)
    → (said : RunValues) → FileIs later values (SaysRun file said) → (end : Outcome) → RunsTo cfile values file said end
    → RunEnds contents cfile values end
run_may contents later same cfile values file spelled said says end runs =
    let P : Contents → Type 0 = λ k. FileIs k values (SaysRun file said) in
    goes_on_with contents cfile Values IsCFile IsFaultyCFile _ file end spelled
    (goes_on_with contents values Values (SaysRun file) (IsFaultyRun file) (RunsTo cfile values file) said end (subst P same says) runs)

-- a run on the same data
pub run_told : (shares : ℕ) (file : CFile) (inputs given words drawn : List ℕ) (end : Result (List ℕ) RunFault) → inputs ≡ given → words ≡ drawn
    → machine_run shares file inputs words ≡ end → machine_run shares file given drawn ≡ end
run_told shares file inputs given words drawn end same alike is =
    subst (λ (l : List ℕ). machine_run shares file given l ≡ end) alike (subst (λ (l : List ℕ). machine_run shares file l words ≡ end) same is)

-- a run reads no file
abbrev IsUnread : Outcome → Type 0
IsUnread (answers text status) = ⊥
IsUnread (refused status name fault) = ⊥
IsUnread (unread name why) = Unit {0}

run_not_unread : (cfile values : List ℕ) (file : CFile) (said : RunValues) (end : Outcome) → RunsTo cfile values file said end → ¬ IsUnread end
run_not_unread cfile values file said _ (done shares is) = λ h. h
run_not_unread cfile values file said _ (index_out k is) = λ h. h
run_not_unread cfile values file said _ (bad_shift k is) = λ h. h
run_not_unread cfile values file said _ (words_short is) = λ h. h

pub run_reads : (cfile values : List ℕ) (file : CFile) (said : RunValues) (name : List ℕ) (why : Reason) → ¬ RunsTo cfile values file said (unread name why)
run_reads cfile values file said name why = λ ran. run_not_unread cfile values file said (unread name why) ran tt

-- the six lines of one type say its bits
chosen : (c : Bool) (b m bits n wrong : ℕ) → (if c then Lines b m else Wrong wrong) ≡ Lines bits n → bits ≡ b
chosen true b m bits n wrong is = let here : Lines b m ≡ Lines bits n = is in cc
chosen false b m bits n wrong is = let here : Wrong wrong ≡ Lines bits n = is in absurd (cc)

bits_with : (bytes : List ℕ) (b bits n : ℕ) → opening_with bytes b ≡ Lines bits n → bits ≡ b
bits_with bytes b bits n is = chosen (alike bytes (lines_of b) == length (lines_of b)) b (alike bytes (lines_of b)) bits n (alike bytes (lines_of b)) is

either : (a b : Opening) (bits n : ℕ) → further a b ≡ Lines bits n → (a ≡ Lines bits n) ⊎ (b ≡ Lines bits n)
either (Lines x m) b bits n is = inl is
either (Wrong m) (Lines y k) bits n is = inr is
either (Wrong m) (Wrong k) bits n is = let here : Wrong (max m k) ≡ Lines bits n = is in absurd (cc)

at_most : (bits b : ℕ) → b ≤ 64 → bits ≡ b → bits ≤ 64
at_most bits b few is = subst (λ (k : ℕ). k ≤ 64) (sym is) few

few_in_lines : (bytes : List ℕ) (bits n : ℕ) → opening_of bytes ≡ Lines bits n → bits ≤ 64
few_in_lines bytes bits n is =
    elim (either (further (opening_with bytes 8) (opening_with bytes 16)) (further (opening_with bytes 32) (opening_with bytes 64)) bits n is) [
      | inl small ↦ (elim (either (opening_with bytes 8) (opening_with bytes 16) bits n small) [
        | inl at ↦ at_most bits 8 (omega arith) (bits_with bytes 8 bits n at)
        | inr at ↦ at_most bits 16 (omega arith) (bits_with bytes 16 bits n at)
      ])
      | inr large ↦ (elim (either (opening_with bytes 32) (opening_with bytes 64) bits n large) [
        | inl at ↦ at_most bits 32 (omega arith) (bits_with bytes 32 bits n at)
        | inr at ↦ at_most bits 64 (omega arith) (bits_with bytes 64 bits n at)
      ])
    ]

reg_bits_are : (bits : ℕ) (tokens : List Token) (file : CFile) → IsFile bits tokens file → file.reg_bits ≡ bits
reg_bits_are bits tokens _ (c_files.file gadgets outputs inputs slots calls) = refl

-- the bits of a register of a file that bytes spell
pub few_bits : (bytes : List ℕ) (file : CFile) → Spells bytes file → file.reg_bits ≤ 64
few_bits bytes file is =
    at_most file.reg_bits is.syntax.bits (few_in_lines bytes is.syntax.bits is.syntax.spelled.n is.syntax.spelled.lines)
    (reg_bits_are is.syntax.bits is.syntax.found file is.syntax.is)
