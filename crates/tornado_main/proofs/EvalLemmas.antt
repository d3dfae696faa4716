-- What a core computes is what its file means, and how an order may end that reads inputs for it.
use Rattle.std.proofs.Common.{◌≡◌, ◌<◌, ◌^◌, ℕ, List, length, All, Option, Some, None, option_map, Result, Err, refl, sym, ◌∙◌, ap, subst}
use Rattle.data_text.specs.Reading.{values_of, IsOrMemory}
use Rattle.data_text.specs.Writing.{values_text}
use Rattle.data_text.specs.declared.fault.ValueFault.{ValueFault}
use Rattle.data_text.specs.declared.fault.ValueFault.TheVariants as value_fault
use Rattle.source_shapes.specs.ShapeLaws.{JudgedTakesAndGives}
use Rattle.source_terms.specs.SourceTerms.{core_of_source, source_terms, inputs_of}
use Rattle.source_terms.specs.SourceLaws.{MeaningsAgree}
use Rattle.usuba0.specs.Circuit.{Circuit}
use Rattle.usuba0.specs.CoreOfTerms.{core_of_terms}
use Rattle.usuba0.specs.PlainRun.{plain_run}
use Rattle.usuba0.specs.Term.{Term, bits_of_width}
use Rattle.tornado_words.specs.Ranges.{HasFitWidth}
use Rattle.tornado_words.specs.declared.order.Basis.{Basis}
use Rattle.tornado_words.specs.declared.order.Basis.TheVariants as basis
use Rattle.tornado_main.specs.Bases as bases
use Rattle.tornado_main.specs.Ending.{Stops, Nowhere}
use Rattle.tornado_main.specs.Files.{Contents, FileIs}
use Rattle.tornado_main.specs.Outcome.{Outcome, answers, refused, unread}
use Rattle.tornado_main.specs.Source.{HasCore}
use Rattle.tornado_main.specs.Steps.{AfterFile, AfterCore, not_read, faulty, goes_on}
use Rattle.tornado_main.specs.commands.Eval.{Held, IsHeld, IsMeaning, AreOutputs, SaysInputs, IsFaultyInputs, TellsOutputs, EvalEnds}
use Rattle.tornado_main.specs.declared.refusal.Refusal.{Refusal}
use Rattle.tornado_main.specs.declared.refusal.Refusal.TheVariants as refusal
use Rattle.tornado_main.specs.declared.status.Status.TheVariants.{Done, Source, Values}
use Rattle.tornado_main.proofs.StepLemmas.{stops_anyway, stops_later, goes_on_with}

-- the core of a source has the source's width and inputs
core_counts : (w n : ℕ) (made : Option (List Term)) (core : Circuit) → option_map (core_of_terms w n) made ≡ Some core
    → (core.width ≡ w) × (core.inputs ≡ n)
core_counts w n (Some terms) core is =
    let here : Some (core_of_terms w n terms) ≡ Some core = is in
    let same : core ≡ core_of_terms w n terms = cc in
    (ap (λ (c : Circuit). c.width) same, ap (λ (c : Circuit). c.inputs) same)
core_counts w n None core is = let here : None ≡ Some core = is in absurd (cc)

same_core : (made : Option Circuit) (a b : Circuit) → made ≡ Some a → made ≡ Some b → a ≡ b
same_core made a b x y = let here : Some a ≡ Some b = sym x ∙ y in cc

module _ (takes_and_gives : JudgedTakesAndGives) (meanings_agree : MeaningsAgree) where
  -- the plain run of a source's core is the plain meaning of the source
  run_is_meaning : (asked_width : Option ℕ) (asked_entry : Option (List ℕ)) → HasFitWidth (basis.Source asked_width asked_entry)
      → (core : Circuit) (bytes : List ℕ) → HasCore asked_width asked_entry core bytes
      → (inputs : List ℕ) → length inputs ≡ core.inputs → All (λ x. x < 2 ^ bits_of_width core.width) inputs
      → (outputs : List ℕ) → outputs ≡ plain_run (bits_of_width core.width) core inputs → IsMeaning asked_width asked_entry bytes inputs outputs
  run_is_meaning asked_width asked_entry fit core bytes has inputs count words outputs is =
      let counts = core_counts has.width (inputs_of has.file.defs has.entry) (source_terms has.width has.file has.entry) core has.core_of_file in
      let shaped = takes_and_gives bytes asked_width asked_entry has.file has.width has.entry has.spelled fit has.judged in
      let agreed = meanings_agree asked_width asked_entry has.file has.width has.entry has.judged shaped.0.0 inputs (record {
        each = count ∙ counts.1;
        words = subst (λ (k : ℕ). All (λ (x : ℕ). x < 2 ^ bits_of_width k) inputs) counts.0 words;
      }) in
      let same : core ≡ agreed.0 = same_core (core_of_source has.width has.file has.entry) core agreed.0 has.core_of_file agreed.1 in
      let run : outputs ≡ plain_run (bits_of_width has.width) agreed.0 inputs =
      is ∙ ap (λ (k : ℕ). plain_run (bits_of_width k) core inputs) counts.0 ∙ ap (λ (c : Circuit). plain_run (bits_of_width has.width) c inputs) same in
      record {
        file = has.file;
        width = has.width;
        entry = has.entry;
        spelled = has.spelled;
        judged = has.judged;
        meaning = agreed.2 ∙ ap (λ (l : List ℕ). Some l) (sym run);
      }

  -- the plain run of the core of a file gives the outputs
  pub run_gives_outputs : (b : Basis) → HasFitWidth b → (core : Circuit) (bytes : List ℕ) → bases.Holds b core bytes
      → (inputs : List ℕ) → length inputs ≡ core.inputs → All (λ x. x < 2 ^ bits_of_width core.width) inputs
      → (outputs : List ℕ) → outputs ≡ plain_run (bits_of_width core.width) core inputs
      → AreOutputs b (record { core = core; bytes = bytes }) inputs outputs
  run_gives_outputs (basis.Source width entry) fit core bytes holds inputs count words outputs is =
      run_is_meaning width entry fit core bytes holds.has_core inputs count words outputs is
  run_gives_outputs basis.CoreText fit core bytes holds inputs count words outputs is = is

-- what is read with the counts of a core is read of its inputs
pub of_core : (core : Circuit) (n B : ℕ) (bytes : List ℕ) (wanted : Result (List ℕ) ValueFault) → n ≡ core.inputs → B ≡ bits_of_width core.width
    → values_of n B bytes ≡ wanted → values_of core.inputs (bits_of_width core.width) bytes ≡ wanted
of_core core n B bytes wanted en eB is =
    sym (ap (λ (k : ℕ). values_of k B bytes) en ∙ ap (λ (k : ℕ). values_of core.inputs k bytes) eB) ∙ is

-- the reader of values answers the fault that they have
pub syntax_is : (answer wanted : Result (List ℕ) ValueFault) (line : ℕ) → answer ≡ Err (value_fault.Syntax line) → IsOrMemory answer wanted
    → wanted ≡ Err (value_fault.Syntax line)
syntax_is answer wanted line is h = sym (subst (λ (a : Result (List ℕ) ValueFault). IsOrMemory a wanted) is h)

pub range_is : (answer wanted : Result (List ℕ) ValueFault) (line : ℕ) → answer ≡ Err (value_fault.OutOfRange line) → IsOrMemory answer wanted
    → wanted ≡ Err (value_fault.OutOfRange line)
range_is answer wanted line is h = sym (subst (λ (a : Result (List ℕ) ValueFault). IsOrMemory a wanted) is h)

-- what a file has is its core and its bytes
held_of : (contents : Contents) (file : List ℕ) (b : Basis) (core : Circuit) (source : FileIs contents file (bases.Holds b core))
    → FileIs contents file (IsHeld b (record { core = core; bytes = source.0 }))
held_of contents file b core source = (source.0, source.1, record { core = source.2; same = refl })

-- an order that ends at its first step ends there, whatever was to be held of the file
elsewhere : (contents : Contents) (file values : List ℕ) (b : Basis) (end : Outcome) → AfterCore contents file b Nowhere end
    → EvalEnds contents file values b end
elsewhere contents file values b _ (not_read why may) = not_read why may
elsewhere contents file values b _ (faulty bytes fault fetched has) = faulty bytes fault fetched has
elsewhere contents file values b end (goes_on bytes held _ fetched holds nowhere) = absurd nowhere

pub eval_stops_first : (contents : Contents) (file values : List ℕ) (b : Basis) (e : Refusal) → Stops (AfterCore contents file b Nowhere) e
    → Stops (EvalEnds contents file values b) e
eval_stops_first contents file values b (refusal.Faulty status told fault) stops = elsewhere contents file values b (refused status told.now fault) stops
eval_stops_first contents file values b (refusal.Unread told why) stops = elsewhere contents file values b (unread told.now why) stops
eval_stops_first contents file values b refusal.Unwritten stops = stops
eval_stops_first contents file values b refusal.Memory stops = stops

-- an order that stops at its inputs stops
pub eval_stops : (contents later : Contents) → later ≡ contents → (file values : List ℕ) (b : Basis) (core : Circuit)
    → FileIs contents file (bases.Holds b core) → (e : Refusal) → Stops (AfterFile later values Values (SaysInputs core) (IsFaultyInputs core) Nowhere) e
    → Stops (EvalEnds contents file values b) e
eval_stops contents later same file values b core source e stops =
    let P : Contents → Type 0 = λ k. Stops (AfterFile k values Values (SaysInputs core) (IsFaultyInputs core) Nowhere) e in
    let held : Held = record { core = core; bytes = source.0 } in
    stops_later contents file Source (IsHeld b) (bases.IsFaulty b) _ held e (held_of contents file b core source)
    (stops_anyway contents values Values (SaysInputs core) (IsFaultyInputs core) (TellsOutputs b held) e (subst P same stops))

-- how an order may end that reads its inputs
pub eval_may : (contents later : Contents) → later ≡ contents → (file values : List ℕ) (b : Basis) (core : Circuit)
    → (source : FileIs contents file (bases.Holds b core)) → (inputs : List ℕ) → FileIs later values (SaysInputs core inputs)
    → (outputs : List ℕ) → AreOutputs b (record { core = core; bytes = source.0 }) inputs outputs
    → EvalEnds contents file values b (answers (values_text outputs) Done)
eval_may contents later same file values b core source inputs said outputs are =
    let P : Contents → Type 0 = λ k. FileIs k values (SaysInputs core inputs) in
    let held : Held = record { core = core; bytes = source.0 } in
    goes_on_with contents file Source (IsHeld b) (bases.IsFaulty b) _ held (answers (values_text outputs) Done) (held_of contents file b core source)
    (goes_on_with contents values Values (SaysInputs core) (IsFaultyInputs core) (TellsOutputs b held) inputs (answers (values_text outputs) Done)
    (subst P same said) (outputs, are, refl))
