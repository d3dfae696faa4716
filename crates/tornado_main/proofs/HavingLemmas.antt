-- Each order has an outcome where its files are held.
use Rattle.std.proofs.Common.{◌≡◌, ◌⊎◌, inl, inr, ◌+◌, ◌*◌, ◌≤◌, ℕ, suc, Bool, true, false, List, [], ◌∷◌, length, Option, Some, None, Result, Ok, Err, refl, sym, subst, arith}
use Rattle.std.specs.Prelude.{MatchBool}
use Rattle.span_model.specs.Attack.{HasAttack}
use Rattle.span_model.specs.RefreshLaws.{LeftColumnsDoNotLeak}
use Rattle.usuba0.specs.Circuit.{Circuit, IsCore, HasFewColumns, products_of, refreshes_of}
use Rattle.usuba0.specs.Term.{bits_of_width}
use Rattle.usuba0.specs.PlainRun.{plain_run}
use Rattle.usuba0.specs.CoreText.{core_text}
use Rattle.linear_view.specs.AttackLaw.{AttacksAreTheViews}
use Rattle.linear_view.specs.Names.{core_columns}
use Rattle.linear_view.specs.Rows.{core_products, core_view}
use Rattle.linear_view.specs.RowsText.{rows_text}
use Rattle.linear_view.specs.View.{LinearView, IsView}
use Rattle.linear_view.proofs.ViewLemmas.{core_view_is}
use Rattle.attack_model.specs.declared.attack.Attack.{Attack}
use Rattle.attack_model.specs.Ranges.{InRange}
use Rattle.attack_probes.specs.UnfoldingLaws.{UnfoldingIsAttack}
use Rattle.attack_cert.specs.DerivationLaws.{DerivationsHold}
use Rattle.attack_text.specs.Reading.{attack_of}
use Rattle.attack_text.specs.AttackText.{attack_text, first_version_text}
use Rattle.core_refresh.specs.RefreshedLaws.{RefreshedCoreSize}
use Rattle.refresh_place.specs.RefreshedAttacks.{AttacksOnRefreshedCores}
use Rattle.c_form.specs.MaskedForm.{MaskedFormsExist}
use Rattle.c_tree.specs.declared.CFile.{CFile}
use Rattle.c_machine.specs.Machine.{Outcome as Ended}
use Rattle.c_machine.specs.Run.{Ending, machine_run, calls_done, called, after_call, start_memory, answer}
use Rattle.c_machine.specs.declared.stop.Trap.TheVariants as trap
use Rattle.c_machine.specs.declared.stop.RunFault.{RunFault}
use Rattle.c_machine.specs.declared.stop.RunFault.TheVariants as run_fault
use Rattle.c_tree.specs.declared.CCall.{CCall}
use Rattle.data_text.specs.Reading.{◌>>=◌, has_bits, first_numbers, with_nothing_left, values_in, values_of}
use Rattle.data_text.specs.Tokens.{Token, TokensLeft, tokens_of}
use Rattle.data_text.specs.Ranges.{AreValues}
use Rattle.data_text.specs.Writing.{values_text}
use Rattle.data_text.specs.declared.fault.ValueFault.{ValueFault}
use Rattle.data_text.specs.declared.read.RunValues.{RunValues}
use Rattle.data_text.proofs.RangeLemmas.{values_fit}
use Rattle.generated_files.specs.GeneratedLaw.{IsClean, GeneratedIsClean}
use Rattle.source_cores.specs.SourceCores.{SourceCoresAreCores}
use Rattle.source_gen.specs.Report.{report_text}
use Rattle.source_gen.specs.Source.{generated_source}
use Rattle.source_gen.specs.declared.report.Report.{Report}
use Rattle.source_shapes.specs.ShapeLaws.{JudgedTakesAndGives}
use Rattle.source_terms.specs.SourceLaws.{MeaningsAgree}
use Rattle.share_trial.specs.Trial.{trial_of}
use Rattle.share_trial.specs.TrialText.{trial_text}
use Rattle.tornado_main.specs.Bases as bases
use Rattle.tornado_main.specs.Coverage.{CoreOrFault, AttackOrFault, InputsOrFault, CFileOrFault, RunDataOrFault, HasOutcome, AreHeld, IsComputed, OrdersHaveOutcomes}
use Rattle.tornado_main.specs.Files.{IsFetched}
use Rattle.tornado_main.specs.Orders.{OrderEnds}
use Rattle.tornado_main.specs.Outcome.{Outcome, answers, refused}
use Rattle.tornado_main.specs.Source.{IsSource}
use Rattle.tornado_main.specs.Steps.{AfterCore}
use Rattle.tornado_main.specs.Words.{files_of}
use Rattle.tornado_main.specs.commands.Eval.{Held, IsHeld, AreOutputs, SaysInputs, IsFaultyInputs, TellsOutputs}
use Rattle.tornado_main.specs.commands.Gen.{GenEnds}
use Rattle.tornado_main.specs.commands.Run.{IsCFile, IsFaultyCFile, SaysRun, IsFaultyRun, RunsTo, outputs_text, done, index_out, bad_shift, words_short}
use Rattle.tornado_main.specs.commands.Verify.{SpellsAttack, IsFaultyAttack, IsConfirmation}
use Rattle.tornado_main.specs.declared.message.Complaint.TheVariants as complaint
use Rattle.tornado_main.specs.declared.message.Spot.TheVariants as spot
use Rattle.tornado_main.specs.declared.status.Status.TheVariants as status
use Rattle.tornado_words.specs.Ranges.{HasFitWidth, IsInRange}
use Rattle.tornado_words.specs.declared.order.Basis.{Basis}
use Rattle.tornado_words.specs.declared.order.Basis.TheVariants as basis
use Rattle.tornado_words.specs.declared.order.Order.{Order}
use Rattle.tornado_words.specs.declared.order.Order.TheVariants as order
use Rattle.tornado_main.proofs.EvalLemmas.{run_gives_outputs}
use Rattle.tornado_main.proofs.OutcomeLemmas.{CanHaveOutcome, HoldsOrFaulty, after_held, after_held_can, verdict_can, confirmation_can, repaired_can, compiled_can}

-- ---- what a run of C meets

-- how a run ends, but not for want of memory
abbrev IsMet : {X : Type 0} → Result X RunFault → Type 0
IsMet (Ok x) = Unit {0}
IsMet (Err (run_fault.IndexOut k)) = Unit {0}
IsMet (Err (run_fault.BadShift k)) = Unit {0}
IsMet (Err run_fault.WordsShort) = Unit {0}
IsMet (Err (run_fault.Memory error)) = ⊥

call_met : (k : ℕ) (further : List (List ℕ) → List ℕ → Ending) (ended : Ended) → ((memory : List (List ℕ)) (stream : List ℕ) → IsMet (further memory stream))
    → IsMet (after_call k further ended)
call_met k further (Ok state) rest = rest state.memory state.stream
call_met k further (Err trap.IndexOut) rest = tt
call_met k further (Err trap.BadShift) rest = tt
call_met k further (Err trap.WordsShort) rest = tt

calls_met : (d : ℕ) (file : CFile) (k : ℕ) (calls : List CCall) (memory : List (List ℕ)) (stream : List ℕ) → IsMet (calls_done d file k calls memory stream)
calls_met d file k [] memory stream = tt
calls_met d file k (call ∷ calls) memory stream =
    call_met k (calls_done d file (suc k) calls) (called d file call memory stream) (calls_met d file (suc k) calls)

answer_met : (outputs : ℕ) (ending : Ending) → IsMet ending → IsMet (answer outputs ending)
answer_met outputs (Ok memory) met = tt
answer_met outputs (Err (run_fault.IndexOut k)) met = tt
answer_met outputs (Err (run_fault.BadShift k)) met = tt
answer_met outputs (Err run_fault.WordsShort) met = tt
answer_met outputs (Err (run_fault.Memory error)) met = met

-- a run of a file of C on data has an outcome
runs_to : (cfile values : List ℕ) (file : CFile) (said : RunValues) → HasOutcome (RunsTo cfile values file said)
runs_to cfile values file said =
    by (machine_run said.shares file said.inputs said.words) refl
    (answer_met file.outputs (calls_done said.shares file 0 file.calls (start_memory said.shares file said.inputs) said.words)
    (calls_met said.shares file 0 file.calls (start_memory said.shares file said.inputs) said.words))
  where
    by : (ran : Result (List ℕ) RunFault) → machine_run said.shares file said.inputs said.words ≡ ran → IsMet ran → HasOutcome (RunsTo cfile values file said)
    by (Ok shares) is met = (answers (outputs_text said.shares file.outputs shares) status.Done, done shares is, tt)
    by (Err (run_fault.IndexOut k)) is met = (refused status.Values cfile (record { at = spot.Call k; what = complaint.IndexOut }), index_out k is, tt)
    by (Err (run_fault.BadShift k)) is met = (refused status.Values cfile (record { at = spot.Call k; what = complaint.BadShift }), bad_shift k is, tt)
    by (Err run_fault.WordsShort) is met = (refused status.Values values (record { at = spot.Whole; what = complaint.WordsShort }), words_short is, tt)
    by (Err (run_fault.Memory error)) is met = absurd met

-- ---- the values that a text says

-- so many values of so many bits
said_values : (n bits : ℕ) (bytes values : List ℕ) → values_of n bits bytes ≡ Ok values → AreValues n bits values
said_values n bits bytes values is = by (tokens_of bytes) is
  where
    by : (text : TokensLeft) → values_in n bits text ≡ Ok values → AreValues n bits values
    by text is = by_numbers (first_numbers (has_bits bits) n text.end text.tokens) refl is
      where
        by_left : (taken : List ℕ) (left : List Token) → first_numbers (has_bits bits) n text.end text.tokens ≡ Ok (taken, left)
            → with_nothing_left taken left ≡ Ok values → AreValues n bits values
        by_left taken [] e is = let same : taken ≡ values = cc is in subst (AreValues n bits) same (values_fit n bits text.end text.tokens [] taken e)
        by_left taken (token ∷ left) e is = absurd (cc is)

        by_numbers : (r : Result (List ℕ × List Token) ValueFault) → first_numbers (has_bits bits) n text.end text.tokens ≡ r
            → (r >>= λ taken. with_nothing_left taken.0 taken.1) ≡ Ok values → AreValues n bits values
        by_numbers (Ok (taken, left)) e is = by_left taken left e is
        by_numbers (Err wrong) e is = absurd (cc is)

-- ---- the orders

-- the view of a core within the limits is one
is_view_of : (core : Circuit) → IsCore core → HasFewColumns core → IsView (core_view core)
is_view_of core is few =
    core_view_is core is (within core.inputs (products_of core.equations) (refreshes_of core.equations) core.width 32768 few)
  where
    within : (i p f w most : ℕ) → (i + 2 * p + f) * w ≤ most → (i + p + f) * w ≤ most
    within i p f w most l = let e : (i + 2 * p + f) * w ≡ (i + p + f) * w + p * w = grind arith in omega (arith, e, l)

pub record Laws : Type 0 where
  pub cores : CoreOrFault
  pub attacks : AttackOrFault
  pub inputs : InputsOrFault
  pub c_files : CFileOrFault
  pub runs : RunDataOrFault
  pub takes_and_gives : JudgedTakesAndGives
  pub meanings_agree : MeaningsAgree
  pub source_cores : SourceCoresAreCores
  pub views : AttacksAreTheViews
  pub left_columns : LeftColumnsDoNotLeak ℕ
  pub derivations : DerivationsHold ℕ
  pub unfoldings : UnfoldingIsAttack ℕ
  pub attack_is_read : (view : LinearView) (bytes : List ℕ) (attack : Attack) → IsView view → attack_of view bytes ≡ Ok attack
      → InRange view attack × ((bytes ≡ attack_text view attack) ⊎ (bytes ≡ first_version_text view attack))
  pub refreshed : AttacksOnRefreshedCores
  pub size : RefreshedCoreSize
  pub forms : MaskedFormsExist
  pub generated : GeneratedIsClean

module _ (laws : Laws) (file : List ℕ → Option (List ℕ)) where
  -- what a file has is a core within the limits
  core_of_held : (b : Basis) → HasFitWidth b → (core : Circuit) (bytes : List ℕ) → bases.Holds b core bytes → IsCore core
  core_of_held (basis.Source width entry) fit core bytes has =
      let source = has.has_core in
      laws.source_cores bytes width entry source.file source.width source.entry source.spelled fit source.judged core source.core_of_file
  core_of_held basis.CoreText fit core bytes has = has.is_core

  few_of_held : (b : Basis) (core : Circuit) (bytes : List ℕ) → bases.Holds b core bytes → HasFewColumns core
  few_of_held (basis.Source width entry) core bytes has = has.few_columns
  few_of_held basis.CoreText core bytes has = has.few_columns

  -- what bytes hold with their core, or their fault
  held_or_faulty : (b : Basis) → HasFitWidth b → HoldsOrFaulty (IsHeld b) (bases.IsFaulty b)
  held_or_faulty b fit bytes = elim (laws.cores b fit bytes) [
    | inl has ↦ inl (record { core = has.0; bytes = bytes }, record { core = has.1; same = refl })
    | inr wrong ↦ inr wrong
  ]

  -- the first of some files, and the others
  first : (name : List ℕ) (names : List (List ℕ)) → AreHeld file (name ∷ names) → (bytes : List ℕ) × IsFetched (Some file) name bytes
  first name names held = held.0

  others : (name : List ℕ) (names : List (List ℕ)) → AreHeld file (name ∷ names) → AreHeld file names
  others name names held = held.1

  -- the outputs at the inputs of a file that is held
  outputs_at : (b : Basis) → HasFitWidth b → (held : Held) (bytes : List ℕ) → IsHeld b held bytes → (inputs said : List ℕ)
      → SaysInputs held.core inputs said → HasOutcome (TellsOutputs b held inputs)
  outputs_at b fit held bytes is inputs said says =
      let are = said_values held.core.inputs (bits_of_width held.core.width) said inputs says in
      let outputs = plain_run (bits_of_width held.core.width) held.core inputs in
      let has : bases.Holds b held.core held.bytes = subst (bases.Holds b held.core) (sym is.same) is.core in
      let gives : AreOutputs b held inputs outputs =
      run_gives_outputs laws.takes_and_gives laws.meanings_agree b fit held.core held.bytes has inputs are.as_many are.each outputs refl in
      (answers (values_text outputs) status.Done, (outputs, gives, refl), tt)

  -- an order on the core of a file
  on_core : (name : List ℕ) (b : Basis) (May : Circuit → Outcome → Type 0) → HasFitWidth b → (bytes : List ℕ) × IsFetched (Some file) name bytes
      → ((core : Circuit) → IsCore core → HasFewColumns core → CanHaveOutcome (May core))
      → CanHaveOutcome (AfterCore (Some file) name b May)
  on_core name b May fit held next =
      after_held_can file name status.Source (bases.Holds b) (bases.IsFaulty b) May held.0 held.1 (laws.cores b fit)
      (λ core has. next core (core_of_held b fit core held.0 has) (few_of_held b core held.0 has))

  computed : (o : Order) → IsInRange o → AreHeld file (files_of o) → IsComputed o → HasOutcome (OrderEnds (Some file) o)
  computed (order.Core name b) range held is =
      let at = first name [] held in
      after_held file name status.Source (bases.Holds b) (bases.IsFaulty b) _ at.0 at.1 (laws.cores b range)
      (λ core has. (answers (core_text core) status.Done, refl, tt))
  computed (order.Rows name b) range held is =
      let at = first name [] held in
      after_held file name status.Source (bases.Holds b) (bases.IsFaulty b) _ at.0 at.1 (laws.cores b range)
      (λ core has. (answers (rows_text (core_view core)) status.Done, refl, tt))
  computed (order.Check name b) range held is = absurd is
  computed (order.Verify name attack b) range held is = absurd is
  computed (order.Repair name b) range held is = absurd is
  computed (order.Eval name values b) range held is =
      let at = first name (values ∷ []) held in
      let then = first values [] (others name (values ∷ []) held) in
      after_held file name status.Source (IsHeld b) (bases.IsFaulty b) _ at.0 at.1 (held_or_faulty b range)
      (λ it has. after_held file values status.Values (SaysInputs it.core) (IsFaultyInputs it.core) (TellsOutputs b it) then.0 then.1 (laws.inputs it.core)
      (λ inputs says. outputs_at b range it at.0 has inputs then.0 says))
  computed (order.Trial name shares seed b) range held is =
      let at = first name [] held in
      after_held file name status.Source (bases.Holds b) (bases.IsFaulty b) _ at.0 at.1 (laws.cores b range.3)
      (λ core has. (answers (trial_text (trial_of shares core seed)) status.Done, refl, tt))
  computed (order.Gen seed size) range held is = absurd is
  computed (order.Compile name word b) range held is = absurd is
  computed (order.Run cfile values) range held is =
      let at = first cfile (values ∷ []) held in
      let then = first values [] (others cfile (values ∷ []) held) in
      after_held file cfile status.Values IsCFile IsFaultyCFile _ at.0 at.1 laws.c_files
      (λ c has. after_held file values status.Values (SaysRun c) (IsFaultyRun c) (RunsTo cfile values c) then.0 then.1 (laws.runs c)
      (λ said says. runs_to cfile values c said))

  -- a generated source has a report
  report_can : (seed size : ℕ) → IsClean (generated_source seed size) → CanHaveOutcome (GenEnds seed size)
  report_can seed size clean none =
      let tree = clean.spelled.0 in
      let spelled = clean.spelled.1 in
      let small = clean.small tree spelled in
      let core = small.0 in
      let source : IsSource None None core (generated_source seed size) = record {
        has_core = record {
          file = tree;
          width = 1;
          entry = 0;
          spelled = spelled;
          judged = clean.judged tree spelled;
          core_of_file = small.1;
        };
        small = small.2;
        few_columns = small.3;
      } in
      let report : Bool → Report = λ b. record {
        seed = seed;
        size = size;
        equations = length core.equations;
        columns = length (core_columns core);
        secure = b;
      } in
      let told : (b : Bool) → MatchBool b (¬ HasAttack (core_products core)) (HasAttack (core_products core)) → HasOutcome (GenEnds seed size) = λ b verdict. (
        answers (report_text (report b)) status.Done,
        (
          report b,
          record {
            core = core;
            generated = source;
            seed_is = refl;
            size_is = refl;
            equations_are = refl;
            columns_are = refl;
            verdict = verdict;
          },
          refl,
        ),
        tt,
      ) in
      let safe : ¬ HasAttack (core_products core) = λ has. none (told false has) in
      none (told true safe)

  -- what is computed can't be missing
  not_missing : (May : Outcome → Type 0) → HasOutcome May → CanHaveOutcome May
  not_missing May has none = none has

  each : (o : Order) → IsInRange o → AreHeld file (files_of o) → CanHaveOutcome (OrderEnds (Some file) o)
  each (order.Core name b) range held = not_missing _ (computed (order.Core name b) range held tt)
  each (order.Rows name b) range held = not_missing _ (computed (order.Rows name b) range held tt)
  each (order.Check name b) range held =
      on_core name b _ range (first name [] held)
      (λ core is few. verdict_can laws.views laws.left_columns laws.derivations laws.unfoldings core is (is_view_of core is few))
  each (order.Verify name attack b) range held =
      let at = first attack [] (others name (attack ∷ []) held) in
      on_core name b _ range (first name (attack ∷ []) held)
      (λ core is few.
      after_held_can file attack status.Values (SpellsAttack (core_view core)) (IsFaultyAttack (core_view core)) (IsConfirmation core) at.0 at.1
      (laws.attacks (core_view core))
      (λ spelled says.
      confirmation_can laws.views laws.left_columns laws.derivations laws.unfoldings core is (is_view_of core is few) spelled
      (laws.attack_is_read (core_view core) at.0 spelled (is_view_of core is few) says).0))
  each (order.Repair name b) range held =
      on_core name b _ range (first name [] held) (λ core is few. repaired_can laws.refreshed core is)
  each (order.Eval name values b) range held = not_missing _ (computed (order.Eval name values b) range held tt)
  each (order.Trial name shares seed b) range held = not_missing _ (computed (order.Trial name shares seed b) range held tt)
  each (order.Gen seed size) range held = report_can seed size (laws.generated seed size range.1 range.2)
  each (order.Compile name word b) range held =
      on_core name b _ range.1 (first name [] held) (λ core is few. compiled_can laws.refreshed core is laws.size laws.forms name word range.0)
  each (order.Run cfile values) range held = not_missing _ (computed (order.Run cfile values) range held tt)

-- each order has an outcome
pub orders_have_outcomes : Laws → OrdersHaveOutcomes
orders_have_outcomes laws = record { computed = computed laws; each = each laws }
