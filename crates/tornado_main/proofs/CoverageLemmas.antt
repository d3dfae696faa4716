-- What outcomes the steps of an order leave.
use Rattle.std.proofs.Common.{arith, ◌≡◌, ◌⊎◌, inl, inr, List, ℕ, Option, Some, None, Result, Ok, Err, refl, sym, ◌∙◌, ap, ap₂, subst}
use Rattle.span_model.specs.Attack.{HasAttack}
use Rattle.tor_edge.specs.declared.place.Place.{Place}
use Rattle.usuba_trees.specs.declared.File.{File}
use Rattle.usuba_syntax.specs.Sources.{SpellsFile, HasFault}
use Rattle.usuba_syntax.specs.SourceFaults.{SourceFault}
use Rattle.usuba_syntax.specs.SourceFaults as read
use Rattle.usuba0.specs.Circuit.{Circuit, IsCore, IsSmall, HasFewColumns}
use Rattle.core_text.specs.Reading.{core_of as core_of_text}
use Rattle.core_text.specs.declared.fault.CoreFault.{CoreFault}
use Rattle.core_text.specs.declared.fault.CoreFault.TheVariants as core_fault
use Rattle.usuba0.specs.CoreText.{core_text}
use Rattle.usuba_model.specs.declared.fault.Fault.{Fault as JudgedFault}
use Rattle.usuba_model.specs.Entries.{entry_of, width_of}
use Rattle.usuba_model.specs.Judging.{fault_of}
use Rattle.source_terms.specs.SourceTerms.{core_of_source}
use Rattle.linear_view.specs.AttackLaw.{named}
use Rattle.linear_view.specs.Rows.{core_products, core_view}
use Rattle.linear_view.specs.RowsText.{rows_text}
use Rattle.linear_view.specs.View.{LinearView}
use Rattle.attack_model.specs.declared.attack.Attack.{Attack}
use Rattle.attack_text.specs.declared.read.CertFault.TheVariants as cert
use Rattle.attack_probes.specs.Unfolding.{unfolding_of}
use Rattle.data_text.specs.declared.fault.ValueFault.TheVariants as value_fault
use Rattle.share_trial.specs.Trial.{trial_of}
use Rattle.share_trial.specs.TrialText.{trial_text}
use Rattle.tornado_main.specs.Coverage.{HasStatus, FitsOutcome}
use Rattle.tornado_main.specs.Files.{Contents, IsFetched}
use Rattle.tornado_main.specs.Outcome.{Outcome, answers}
use Rattle.tornado_main.specs.Orders.{OrderEnds}
use Rattle.tornado_main.specs.Source.{HasCore, IsSource, IsFaultySource, PassesLimit, syntax, too_deep, number_too_big, not_judged, past_limit, too_large, too_many}
use Rattle.tornado_main.specs.Bases as bases
use Rattle.tornado_main.specs.CoreText.{IsCoreText, IsFaultyCoreText}
use Rattle.tornado_main.specs.CoreText as text
use Rattle.tornado_main.specs.Steps.{AfterFile, not_read, faulty, goes_on}
use Rattle.std.specs.Prelude.{◌≢◌, IsSome}
use Rattle.c_print.specs.WordSize.{FitsWord}
use Rattle.tornado_main.specs.commands.Compile.{IsCompiled, masked, other_width}
use Rattle.tornado_main.specs.commands.Check.{IsVerdict, IsAttackOfLeak, secure, found}
use Rattle.tornado_main.specs.commands.Verify.{IsConfirmation, SpellsAttack, IsFaultyAttack, holds, fails, out_of_range, other_core}
use Rattle.tornado_main.specs.commands.Verify as verify
use Rattle.tornado_main.specs.commands.Eval.{Held, IsHeld, SaysInputs, IsFaultyInputs}
use Rattle.tornado_main.specs.commands.Eval as eval
use Rattle.tornado_main.specs.commands.Run.{IsCFile, IsFaultyCFile, SaysRun, IsFaultyRun, RunsTo, bad_name, done, index_out, bad_shift, words_short}
use Rattle.tornado_main.specs.commands.Run as run
use Rattle.c_tree.specs.declared.CFile.{CFile}
use Rattle.c_machine.specs.declared.stop.RunFault.{RunFault}
use Rattle.c_machine.specs.declared.stop.RunFault.TheVariants as run_fault
use Rattle.c_meaning.specs.CSubset.{Spells, IsBadName}
use Rattle.c_syntax.specs.Syntax.{IsSyntaxFault}
use Rattle.data_text.specs.declared.read.RunValues.{RunValues}
use Rattle.tornado_main.specs.declared.message.Fault.{Fault}
use Rattle.tornado_main.specs.declared.status.Status.{Status}
use Rattle.tornado_main.specs.declared.status.Status.TheVariants as exit
use Rattle.tornado_words.specs.declared.order.Basis.{Basis}
use Rattle.tornado_words.specs.declared.order.Basis.TheVariants as basis
use Rattle.tornado_words.specs.declared.order.Order.{Order}
use Rattle.tornado_words.specs.declared.order.Order.TheVariants as order

-- what goes on from a file fits where the rest does
after_fits : {A : Type 0} (contents : Contents) (name : List ℕ) (at_fault : Status) (Holds : A → List ℕ → Type 0) (IsFaulty : Fault → List ℕ → Type 0)
    (Next : A → Outcome → Type 0) → (at_fault ≡ exit.Source) ⊎ (at_fault ≡ exit.Values) → ((held : A) (end : Outcome) → Next held end → FitsOutcome end)
    → (end : Outcome) → AfterFile contents name at_fault Holds IsFaulty Next end → FitsOutcome end
after_fits contents name at_fault Holds IsFaulty Next is fits _ (not_read why may) = tt
after_fits contents name at_fault Holds IsFaulty Next is fits _ (faulty bytes fault fetched has) = is
after_fits contents name at_fault Holds IsFaulty Next is fits end (goes_on bytes held _ fetched has next) = fits held end next

-- an answer with the status 0
done_fits : (text : List ℕ) (end : Outcome) → end ≡ answers text exit.Done → FitsOutcome end
done_fits text end is = subst FitsOutcome (sym is) (inl refl)

verdict_fits : (core : Circuit) (end : Outcome) → IsVerdict core end → FitsOutcome end
verdict_fits core _ (secure none) = inl refl
verdict_fits core _ (found attack is) = inr refl

confirmation_fits : (core : Circuit) (attack : Attack) (end : Outcome) → IsConfirmation core attack end → FitsOutcome end
confirmation_fits core attack _ (holds does leaks) = inl refl
confirmation_fits core attack _ (fails not) = inr refl

compiled_fits : (file : List ℕ) (word : Option ℕ) (core : Circuit) (end : Outcome) → IsCompiled file word core end → FitsOutcome end
compiled_fits file word core _ (masked c_file is) = inl refl
compiled_fits file word core _ (other_width given other) = inl refl

run_fits : (cfile values : List ℕ) (file : CFile) (said : RunValues) (end : Outcome) → RunsTo cfile values file said end → FitsOutcome end
run_fits cfile values file said _ (done shares is) = inl refl
run_fits cfile values file said _ (index_out k is) = inr refl
run_fits cfile values file said _ (bad_shift k is) = inr refl
run_fits cfile values file said _ (words_short is) = inr refl

-- every outcome of an order has a status of its kind
pub order_fits : (contents : Contents) (o : Order) (end : Outcome) → OrderEnds contents o end → FitsOutcome end
order_fits contents (order.Core file basis) = after_fits contents file exit.Source _ _ _ (inl refl) (λ core end. done_fits _ end)
order_fits contents (order.Rows file basis) = after_fits contents file exit.Source _ _ _ (inl refl) (λ core end. done_fits _ end)
order_fits contents (order.Check file basis) = after_fits contents file exit.Source _ _ _ (inl refl) verdict_fits
order_fits contents (order.Verify file attack basis) =
    after_fits contents file exit.Source _ _ _ (inl refl) (λ core. after_fits contents attack exit.Values _ _ _ (inr refl) (confirmation_fits core))
order_fits contents (order.Eval file values basis) =
    after_fits contents file exit.Source _ _ _ (inl refl)
    (λ held. after_fits contents values exit.Values _ _ _ (inr refl) (λ inputs end told. done_fits _ end told.2))
order_fits contents (order.Repair file basis) =
    after_fits contents file exit.Source _ _ _ (inl refl) (λ core end repaired. done_fits _ end repaired.3)
order_fits contents (order.Compile file word basis) = after_fits contents file exit.Source _ _ _ (inl refl) (compiled_fits file word)
order_fits contents (order.Run cfile values) =
    after_fits contents cfile exit.Values _ _ _ (inr refl) (λ file. after_fits contents values exit.Values _ _ _ (inr refl) (λ said. run_fits cfile values file said))
order_fits contents (order.Trial file shares seed basis) = after_fits contents file exit.Source _ _ _ (inl refl) (λ core end. done_fits _ end)
order_fits contents (order.Gen seed size) = λ end told. done_fits _ end told.2

-- where the contents are told, two fetches of a name answer the same bytes
pub same_bytes : (file : List ℕ → Option (List ℕ)) (name a b : List ℕ) → IsFetched (Some file) name a → IsFetched (Some file) name b → a ≡ b
same_bytes file name a b x y =
    let p : file name ≡ Some a = x.told in
    let q : file name ≡ Some b = y.told in
    cc

-- all outcomes of a kind that are no refused fetches have one status
abbrev pub HaveOneStatus : (Outcome → Type 0) → Type 0
HaveOneStatus May = (end other : Outcome) (status another : Status) → May end → May other → HasStatus status end → HasStatus another other → status ≡ another

-- what goes on from a told file has one status where the rest does
after_one : {A : Type 0} (file : List ℕ → Option (List ℕ)) (name : List ℕ) (at_fault : Status) (Holds : A → List ℕ → Type 0) (IsFaulty : Fault → List ℕ → Type 0)
    (Next : A → Outcome → Type 0) → ((bytes : List ℕ) (a b : A) → Holds a bytes → Holds b bytes → a ≡ b)
    → ((bytes : List ℕ) (a : A) (fault : Fault) → Holds a bytes → ¬ IsFaulty fault bytes) → ((a : A) → HaveOneStatus (Next a))
    → HaveOneStatus (AfterFile (Some file) name at_fault Holds IsFaulty Next)
after_one {A = A} file name at_fault Holds IsFaulty Next one apart next _ other s t (not_read why may) y hs ht = absurd hs
after_one {A = A} file name at_fault Holds IsFaulty Next one apart next _ _ s t (faulty b f x h) (not_read why may) hs ht = absurd ht
after_one {A = A} file name at_fault Holds IsFaulty Next one apart next _ _ s t (faulty b f x h) (faulty b' f' x' h') hs ht = sym hs ∙ ht
after_one {A = A} file name at_fault Holds IsFaulty Next one apart next _ other s t (faulty b f x h) (goes_on b' a _ x' h' n) hs ht =
    absurd (apart b' a f h' (subst (λ (k : List ℕ). IsFaulty f k) (same_bytes file name b b' x x') h))
after_one {A = A} file name at_fault Holds IsFaulty Next one apart next end _ s t (goes_on b a _ x h n) (not_read why may) hs ht = absurd ht
after_one {A = A} file name at_fault Holds IsFaulty Next one apart next end _ s t (goes_on b a _ x h n) (faulty b' f x' h') hs ht =
    absurd (apart b' a f (subst (λ (k : List ℕ). Holds a k) (same_bytes file name b b' x x') h) h')
after_one {A = A} file name at_fault Holds IsFaulty Next one apart next end other s t (goes_on b a _ x h n) (goes_on b' a' _ x' h' n') hs ht =
    let same : a ≡ a' = one b' a a' (subst (λ (k : List ℕ). Holds a k) (same_bytes file name b b' x x') h) h' in
    next a' end other s t (subst (λ (k : A). Next k end) same n) n' hs ht

-- answers with the status 0 have one status
answers_one : (text another : List ℕ) (end other : Outcome) (s t : Status) → end ≡ answers text exit.Done → other ≡ answers another exit.Done
    → HasStatus s end → HasStatus t other → s ≡ t
answers_one text another end other s t x y hs ht =
    let p : exit.Done ≡ s = subst (λ (e : Outcome). HasStatus s e) x hs in
    let q : exit.Done ≡ t = subst (λ (e : Outcome). HasStatus t e) y ht in
    sym p ∙ q

-- one answer has one status
done_one : (text : List ℕ) → HaveOneStatus (λ end. end ≡ answers text exit.Done)
done_one text end other s t x y hs ht = answers_one text text end other s t x y hs ht

-- the attack of a leak is an attack
pub has_attack : (core : Circuit) (attack : Attack) → IsAttackOfLeak core attack → HasAttack (core_products core)
has_attack core attack is =
    (named core attack.derivation.leak, (is.is_attack.0, unfolding_of attack.derivation.steps attack.derivation.root, is.is_attack.1))

verdict_one : (core : Circuit) → HaveOneStatus (IsVerdict core)
verdict_one core _ _ s t (secure none) (secure none') hs ht = sym hs ∙ ht
verdict_one core _ _ s t (secure none) (found attack is) hs ht = absurd (none (has_attack core attack is))
verdict_one core _ _ s t (found attack is) (secure none) hs ht = absurd (none (has_attack core attack is))
verdict_one core _ _ s t (found attack is) (found attack' is') hs ht = sym hs ∙ ht

confirmation_one : (core : Circuit) (attack : Attack) → HaveOneStatus (IsConfirmation core attack)
confirmation_one core attack _ _ s t (holds does leaks) (holds does' leaks') hs ht = sym hs ∙ ht
confirmation_one core attack _ _ s t (holds does leaks) (fails not) hs ht = absurd (not does)
confirmation_one core attack _ _ s t (fails not) (holds does leaks) hs ht = absurd (not does)
confirmation_one core attack _ _ s t (fails not) (fails not') hs ht = sym hs ∙ ht

-- a core is compiled, or it is refused for its width
pub only_width_1 : (word : Option ℕ) (core : Circuit) → IsSome word → core.width ≢ 1 → ¬ FitsWord word core
only_width_1 None core given other fits = absurd (cc given)
only_width_1 (Some size) core given other fits = other fits.0

compiled_one : (file : List ℕ) (word : Option ℕ) (core : Circuit) → HaveOneStatus (IsCompiled file word core)
compiled_one file word core _ _ s t (masked c is) (masked c' is') hs ht = sym hs ∙ ht
compiled_one file word core _ _ s t (masked c is) (other_width given other) hs ht = absurd (only_width_1 word core given other is.fits)
compiled_one file word core _ _ s t (other_width given other) (masked c is) hs ht = absurd (only_width_1 word core given other is.fits)
compiled_one file word core _ _ s t (other_width given other) (other_width given' other') hs ht = sym hs ∙ ht

-- a text spells one attack, and none where it has a fault
attack_one : (view : LinearView) (bytes : List ℕ) (a b : Attack) → SpellsAttack view a bytes → SpellsAttack view b bytes → a ≡ b
attack_one view bytes a b x y = let here : Ok a ≡ Ok b = sym x ∙ y in cc

attack_apart : (view : LinearView) (bytes : List ℕ) (a : Attack) (fault : Fault) → SpellsAttack view a bytes → ¬ IsFaultyAttack view fault bytes
attack_apart view bytes a _ x (verify.syntax _ line h) = let here : Ok a ≡ Err (cert.Syntax line) = sym x ∙ h in absurd (cc)
attack_apart view bytes a _ x (out_of_range _ line h) = let here : Ok a ≡ Err (cert.OutOfRange line) = sym x ∙ h in absurd (cc)
attack_apart view bytes a _ x (other_core _ line h) = let here : Ok a ≡ Err (cert.OtherCore line) = sym x ∙ h in absurd (cc)

-- a text says one list of inputs, and none where it has a fault
inputs_one : (core : Circuit) (bytes : List ℕ) (a b : List ℕ) → SaysInputs core a bytes → SaysInputs core b bytes → a ≡ b
inputs_one core bytes a b x y = let here : Ok a ≡ Ok b = sym x ∙ y in cc

inputs_apart : (core : Circuit) (bytes : List ℕ) (a : List ℕ) (fault : Fault) → SaysInputs core a bytes → ¬ IsFaultyInputs core fault bytes
inputs_apart core bytes a _ x (eval.syntax _ line h) = let here : Ok a ≡ Err (value_fault.Syntax line) = sym x ∙ h in absurd (cc)
inputs_apart core bytes a _ x (eval.out_of_range _ line h) = let here : Ok a ≡ Err (value_fault.OutOfRange line) = sym x ∙ h in absurd (cc)

-- a run ends in one way
run_one : (cfile values : List ℕ) (file : CFile) (said : RunValues) → HaveOneStatus (RunsTo cfile values file said)
run_one cfile values file said _ _ s t (done a x) (done b y) hs ht = sym hs ∙ ht
run_one cfile values file said _ _ s t (done a x) (index_out k y) hs ht = let here : Ok a ≡ Err (run_fault.IndexOut k) = sym x ∙ y in absurd (cc)
run_one cfile values file said _ _ s t (done a x) (bad_shift k y) hs ht = let here : Ok a ≡ Err (run_fault.BadShift k) = sym x ∙ y in absurd (cc)
run_one cfile values file said _ _ s t (done a x) (words_short y) hs ht = let here : Ok a ≡ Err run_fault.WordsShort = sym x ∙ y in absurd (cc)
run_one cfile values file said _ _ s t (index_out k x) (done a y) hs ht = let here : Ok a ≡ Err (run_fault.IndexOut k) = sym y ∙ x in absurd (cc)
run_one cfile values file said _ _ s t (index_out k x) (index_out l y) hs ht = sym hs ∙ ht
run_one cfile values file said _ _ s t (index_out k x) (bad_shift l y) hs ht = sym hs ∙ ht
run_one cfile values file said _ _ s t (index_out k x) (words_short y) hs ht = sym hs ∙ ht
run_one cfile values file said _ _ s t (bad_shift k x) (done a y) hs ht = let here : Ok a ≡ Err (run_fault.BadShift k) = sym y ∙ x in absurd (cc)
run_one cfile values file said _ _ s t (bad_shift k x) (index_out l y) hs ht = sym hs ∙ ht
run_one cfile values file said _ _ s t (bad_shift k x) (bad_shift l y) hs ht = sym hs ∙ ht
run_one cfile values file said _ _ s t (bad_shift k x) (words_short y) hs ht = sym hs ∙ ht
run_one cfile values file said _ _ s t (words_short x) (done a y) hs ht = let here : Ok a ≡ Err run_fault.WordsShort = sym y ∙ x in absurd (cc)
run_one cfile values file said _ _ s t (words_short x) (index_out l y) hs ht = sym hs ∙ ht
run_one cfile values file said _ _ s t (words_short x) (bad_shift l y) hs ht = sym hs ∙ ht
run_one cfile values file said _ _ s t (words_short x) (words_short y) hs ht = sym hs ∙ ht

-- a text says one run's data, and none where it has a fault
run_values_one : (file : CFile) (bytes : List ℕ) (a b : RunValues) → SaysRun file a bytes → SaysRun file b bytes → a ≡ b
run_values_one file bytes a b x y = let here : Ok a ≡ Ok b = sym x ∙ y in cc

run_values_apart : (file : CFile) (bytes : List ℕ) (a : RunValues) (fault : Fault) → SaysRun file a bytes → ¬ IsFaultyRun file fault bytes
run_values_apart file bytes a _ x (run.syntax _ line h) = let here : Ok a ≡ Err (value_fault.Syntax line) = sym x ∙ h in absurd (cc)
run_values_apart file bytes a _ x (run.out_of_range _ line h) = let here : Ok a ≡ Err (value_fault.OutOfRange line) = sym x ∙ h in absurd (cc)

-- a file of C has no fault
c_apart : ((bytes : List ℕ) (file : CFile) (place : Place) → Spells bytes file → ¬ IsSyntaxFault bytes place)
    → ((bytes : List ℕ) (file : CFile) (place : Place) → Spells bytes file → ¬ IsBadName bytes place)
    → (bytes : List ℕ) (file : CFile) (fault : Fault) → IsCFile file bytes → ¬ IsFaultyCFile fault bytes
c_apart no_syntax no_name bytes file _ x (run.syntax _ at h) = no_syntax bytes file at x h
c_apart no_syntax no_name bytes file _ x (bad_name _ at h) = no_name bytes file at x h

-- a file without a fault has none
pub no_judged_fault : (asked_width : Option ℕ) (asked_entry : Option (List ℕ)) (file : File) (fault : JudgedFault)
    → fault_of asked_width asked_entry file ≡ None → ¬ (fault_of asked_width asked_entry file ≡ Some fault)
no_judged_fault asked_width asked_entry file fault x y = let here : None ≡ Some fault = sym x ∙ y in absurd (cc)

-- a core within both limits passes none
pub limit_apart : (core : Circuit) (fault : Fault) → PassesLimit core fault → IsSmall core → ¬ HasFewColumns core
limit_apart core _ (too_large more) small few = absurd (omega (arith, more, small))
limit_apart core _ (too_many less more) small few = absurd (omega (arith, more, few))

-- what is written of a core is read as the same core
abbrev pub WrittenIsRead : Type 0
WrittenIsRead = (core : Circuit) → IsCore core → IsSmall core → HasFewColumns core → core_of_text (core_text core) ≡ Ok core

module _ (written_is_read : WrittenIsRead) where
  read_again : (bytes : List ℕ) (core : Circuit) → IsCoreText core bytes → core_of_text bytes ≡ Ok core
  read_again bytes core is = ap core_of_text is.text ∙ written_is_read core is.is_core is.small is.few_columns

  -- core text has one core, and none where it has a fault
  text_one : (bytes : List ℕ) (a b : Circuit) → IsCoreText a bytes → IsCoreText b bytes → a ≡ b
  text_one bytes a b x y = let here : Ok a ≡ Ok b = sym (read_again bytes a x) ∙ read_again bytes b y in cc

  no_text_fault : (bytes : List ℕ) (a : Circuit) (fault : CoreFault) → IsCoreText a bytes → ¬ (core_of_text bytes ≡ Err fault)
  no_text_fault bytes a fault x h = let here : Ok a ≡ Err fault = sym (read_again bytes a x) ∙ h in absurd (cc)

  text_apart : (bytes : List ℕ) (a : Circuit) (fault : Fault) → IsCoreText a bytes → ¬ IsFaultyCoreText fault bytes
  text_apart bytes a _ x (text.syntax _ line h) = no_text_fault bytes a (core_fault.Syntax line) x h
  text_apart bytes a _ x (text.out_of_range _ line h) = no_text_fault bytes a (core_fault.OutOfRange line) x h
  text_apart bytes a _ x (text.past_limit _ h) = no_text_fault bytes a core_fault.Limit x h

module _ (one_file : (bytes : List ℕ) (first second : File) → SpellsFile bytes first → SpellsFile bytes second → first ≡ second)
    (no_fault : (bytes : List ℕ) (file : File) (fault : SourceFault) → SpellsFile bytes file → ¬ HasFault bytes fault)
    (asked_width : Option ℕ) (asked_entry : Option (List ℕ)) where
  -- a source has one core, and none where it has a fault
  core_one : (bytes : List ℕ) (a b : Circuit) → HasCore asked_width asked_entry a bytes → HasCore asked_width asked_entry b bytes → a ≡ b
  core_one bytes a b x y =
      let same : x.file ≡ y.file = one_file bytes x.file y.file x.spelled y.spelled in
      let widths : Some x.width ≡ Some y.width =
      sym x.judged.has_width ∙ ap (λ (f : File). width_of asked_width f.defs) same ∙ y.judged.has_width in
      let entries : Some x.entry ≡ Some y.entry =
      sym x.judged.has_entry ∙ ap (λ (f : File). entry_of asked_entry f.defs) same ∙ y.judged.has_entry in
      let width : x.width ≡ y.width = cc in
      let entry : x.entry ≡ y.entry = cc in
      let cores : core_of_source x.width x.file x.entry ≡ core_of_source y.width y.file y.entry = cc in
      let here : Some a ≡ Some b = sym x.core_of_file ∙ cores ∙ y.core_of_file in
      cc

  source_one : (bytes : List ℕ) (a b : Circuit) → IsSource asked_width asked_entry a bytes → IsSource asked_width asked_entry b bytes → a ≡ b
  source_one bytes a b x y = core_one bytes a b x.has_core y.has_core

  source_apart : (bytes : List ℕ) (a : Circuit) (fault : Fault) → IsSource asked_width asked_entry a bytes
      → ¬ IsFaultySource asked_width asked_entry fault bytes
  source_apart bytes a _ x (syntax _ at h) = no_fault bytes x.has_core.file (read.Syntax at) x.has_core.spelled h
  source_apart bytes a _ x (too_deep _ at h) = no_fault bytes x.has_core.file (read.TooDeep at) x.has_core.spelled h
  source_apart bytes a _ x (number_too_big _ at h) = no_fault bytes x.has_core.file (read.NumberTooBig at) x.has_core.spelled h
  source_apart bytes a _ x (not_judged _ file kind at spelled has) =
      let same : x.has_core.file ≡ file = one_file bytes x.has_core.file file x.has_core.spelled spelled in
      let wrong : JudgedFault = record { kind = kind; place = at } in
      no_judged_fault asked_width asked_entry x.has_core.file wrong x.has_core.judged.no_fault
      (subst (λ (f : File). fault_of asked_width asked_entry f ≡ Some wrong) (sym same) has)
  source_apart bytes a fault x (past_limit _ core _ has passes) =
      limit_apart a fault (subst (λ (c : Circuit). PassesLimit c fault) (core_one bytes core a has x.has_core) passes) x.small x.few_columns

module _ (one_file : (bytes : List ℕ) (first second : File) → SpellsFile bytes first → SpellsFile bytes second → first ≡ second)
    (no_fault : (bytes : List ℕ) (file : File) (fault : SourceFault) → SpellsFile bytes file → ¬ HasFault bytes fault)
    (written_is_read : WrittenIsRead) where
  -- a file has one core, and none where it has a fault
  pub held_one : (b : Basis) (bytes : List ℕ) (x y : Circuit) → bases.Holds b x bytes → bases.Holds b y bytes → x ≡ y
  held_one (basis.Source width entry) = source_one one_file no_fault width entry
  held_one basis.CoreText = text_one written_is_read

  pub held_apart : (b : Basis) (bytes : List ℕ) (x : Circuit) (fault : Fault) → bases.Holds b x bytes → ¬ bases.IsFaulty b fault bytes
  held_apart (basis.Source width entry) = source_apart one_file no_fault width entry
  held_apart basis.CoreText = text_apart written_is_read

  -- a file has one core with its bytes
  core_held_one : (b : Basis) (bytes : List ℕ) (x y : Held) → IsHeld b x bytes → IsHeld b y bytes → x ≡ y
  core_held_one b bytes x y p q =
      let cores : x.core ≡ y.core = held_one b bytes x.core y.core p.core q.core in
      let texts : x.bytes ≡ y.bytes = p.same ∙ sym q.same in
      ap₂ (λ (c : Circuit) (k : List ℕ). record { core = c; bytes = k }) cores texts

module _ (one_file : (bytes : List ℕ) (first second : File) → SpellsFile bytes first → SpellsFile bytes second → first ≡ second)
    (no_fault : (bytes : List ℕ) (file : File) (fault : SourceFault) → SpellsFile bytes file → ¬ HasFault bytes fault)
    (written_is_read : WrittenIsRead)
    (one_c : (bytes : List ℕ) (first second : CFile) → Spells bytes first → Spells bytes second → first ≡ second)
    (no_syntax_fault : (bytes : List ℕ) (file : CFile) (place : Place) → Spells bytes file → ¬ IsSyntaxFault bytes place)
    (no_bad_name : (bytes : List ℕ) (file : CFile) (place : Place) → Spells bytes file → ¬ IsBadName bytes place) where
  -- all outcomes of an order but refused fetches have one status
  pub order_one : (file : List ℕ → Option (List ℕ)) (o : Order) → HaveOneStatus (OrderEnds (Some file) o)
  order_one file (order.Core name b) = after_one file name exit.Source _ _ _ (held_one one_file no_fault written_is_read b) (held_apart one_file no_fault written_is_read b) (λ core. done_one (core_text core))
  order_one file (order.Rows name b) = after_one file name exit.Source _ _ _ (held_one one_file no_fault written_is_read b) (held_apart one_file no_fault written_is_read b) (λ core. done_one (rows_text (core_view core)))
  order_one file (order.Check name b) = after_one file name exit.Source _ _ _ (held_one one_file no_fault written_is_read b) (held_apart one_file no_fault written_is_read b) verdict_one
  order_one file (order.Verify name attack b) =
      after_one file name exit.Source _ _ _ (held_one one_file no_fault written_is_read b) (held_apart one_file no_fault written_is_read b)
      (λ core. after_one file attack exit.Values _ _ _ (attack_one (core_view core)) (attack_apart (core_view core)) (confirmation_one core))
  order_one file (order.Eval name values b) =
      after_one file name exit.Source _ _ _ (core_held_one one_file no_fault written_is_read b) (λ bytes held fault is. held_apart one_file no_fault written_is_read b bytes held.core fault is.core)
      (λ held. after_one file values exit.Values _ _ _ (inputs_one held.core) (inputs_apart held.core)
      (λ inputs end other s t x y hs ht. answers_one _ _ end other s t x.2 y.2 hs ht))
  order_one file (order.Repair name b) =
      after_one file name exit.Source _ _ _ (held_one one_file no_fault written_is_read b) (held_apart one_file no_fault written_is_read b)
      (λ core end other s t x y hs ht. answers_one _ _ end other s t x.3 y.3 hs ht)
  order_one file (order.Compile name word b) = after_one file name exit.Source _ _ _ (held_one one_file no_fault written_is_read b) (held_apart one_file no_fault written_is_read b) (compiled_one name word)
  order_one file (order.Run cfile values) =
      after_one file cfile exit.Values _ _ _ one_c (c_apart no_syntax_fault no_bad_name)
      (λ c. after_one file values exit.Values _ _ _ (run_values_one c) (run_values_apart c) (run_one cfile values c))
  order_one file (order.Trial name shares seed b) =
      after_one file name exit.Source _ _ _ (held_one one_file no_fault written_is_read b) (held_apart one_file no_fault written_is_read b) (λ core. done_one (trial_text (trial_of shares core seed)))
  order_one file (order.Gen seed size) = λ end other s t x y hs ht. answers_one _ _ end other s t x.2 y.2 hs ht
