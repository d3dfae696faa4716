-- The headline, from how an order may end.
use Rattle.std.proofs.Common.{◌≡◌, inl, inr, ℕ, Bool, List, map, Option, None, Some, length, refl, sym, ◌∙◌, ap, subst, codes}
use Rattle.std.proofs.lemmas.List.{length-map}
use Rattle.tor_edge.specs.Written.{appended}
use Rattle.tor_edge.specs.declared.files.Refusal.{Refusal as Refused}
use Rattle.span_model.specs.Attack.{HasAttack}
use Rattle.attack_model.specs.declared.attack.Attack.{Attack}
use Rattle.attack_text.specs.AttackText.{attack_text}
use Rattle.linear_view.specs.Rows.{core_products, core_view}
use Rattle.c_tree.specs.declared.CFile.{CFile}
use Rattle.c_text.specs.CText.{c_text}
use Rattle.c_print.specs.WordSize.{bits_of_c, FitsWord}
use Rattle.masked_meaning.specs.Lanes.{LanesAreRuns, MaskedLanesComputeTheSource}
use Rattle.masked_meaning.specs.MaskedCode.{IsMaskedRun, AnswersSharings, MaskedCodeComputesTheCore, MaskedCodeComputesTheSource}
use Rattle.masked_meaning.proofs.Composing.{source_shape}
use Rattle.source_terms.specs.SourceTerms.{core_of_source}
use Rattle.usuba_model.specs.Judging.{IsJudged}
use Rattle.share_gadgets.specs.RunLaw.{AreWordBits}
use Rattle.share_gadgets.specs.Sharing.{sharing_value}
use Rattle.usuba_trees.specs.declared.File.{File}
use Rattle.usuba_syntax.specs.Sources.{SpellsFile, HasFault}
use Rattle.usuba_syntax.specs.SourceFaults.{SourceFault}
use Rattle.usuba0.specs.Circuit.{Circuit}
use Rattle.usuba0.specs.PlainRun.{plain_run}
use Rattle.usuba0.specs.Term.{bits_of_width}
use Rattle.tornado_words.specs.declared.order.Basis.{Basis}
use Rattle.tornado_words.specs.declared.order.Basis.TheVariants as basis
use Rattle.tornado_words.specs.declared.order.Order.{Order}
use Rattle.tornado_words.specs.declared.order.Order.TheVariants as order
use Rattle.tornado_main.specs.Bases as bases
use Rattle.tornado_main.specs.Files.{Contents, IsFetched}
use Rattle.tornado_main.specs.Headline.{IsAccepted, ChecksExactly, IsSharedInput, AnswersValues, source_gives, core_gives, IsNoRefusal, Computes, CompilesExactly, Headline}
use Rattle.tornado_main.specs.Outcome.{Outcome, answers, refused, unread}
use Rattle.tornado_main.specs.Source.{HasCore}
use Rattle.tornado_main.specs.Orders.{OrderEnds}
use Rattle.tornado_main.specs.Run.{WroteAnswer, Shows, IsRun}
use Rattle.tornado_main.specs.Steps.{AfterCore, AfterFile, not_read, faulty, goes_on}
use Rattle.tornado_main.specs.Words.{order_of}
use Rattle.tornado_main.specs.commands.Check.{CheckEnds, IsVerdict, IsAttackOfLeak, secure, found}
use Rattle.tornado_main.specs.commands.Compile.{CompileEnds, IsCompiled, IsMaskedC, masked, other_width}
use Rattle.tornado_main.specs.declared.message.Fault.{Fault}
use Rattle.tornado_main.specs.declared.status.Status.{Status}
use Rattle.tornado_main.specs.declared.status.Status.TheVariants as exit
use Rattle.tornado_main.proofs.CoverageLemmas.{WrittenIsRead, held_one, held_apart, same_bytes, has_attack, only_width_1}

-- what is said of answers alone
abbrev IsAnswer : Outcome → Type 0
IsAnswer (answers text status) = Unit {0}
IsAnswer (refused status name fault) = ⊥
IsAnswer (unread name why) = ⊥

-- an answer after a file comes of what the file holds
pub after_answer : {A : Type 0} (contents : Contents) (name : List ℕ) (at_fault : Status) (Held : A → List ℕ → Type 0) (IsFaulty : Fault → List ℕ → Type 0)
    (Next : A → Outcome → Type 0) (end : Outcome) → AfterFile contents name at_fault Held IsFaulty Next end → IsAnswer end
    → (bytes : List ℕ) × (held : A) × IsFetched contents name bytes × Held held bytes × Next held end
after_answer contents name at_fault Held IsFaulty Next _ (not_read why may) is = absurd is
after_answer contents name at_fault Held IsFaulty Next _ (faulty bytes fault fetched has) is = absurd is
after_answer contents name at_fault Held IsFaulty Next end (goes_on bytes held _ fetched holds next) is = (bytes, held, fetched, holds, next)

-- no refusal of a file
abbrev pub IsNoFault : Outcome → Type 0
IsNoFault (answers text status) = Unit {0}
IsNoFault (refused status name fault) = ⊥
IsNoFault (unread name why) = Unit {0}

verdict_no_fault : (core : Circuit) (end : Outcome) → IsVerdict core end → IsNoFault end
verdict_no_fault core _ (secure none) = tt
verdict_no_fault core _ (found attack is) = tt

compiled_no_fault : (file : List ℕ) (word : Option ℕ) (core : Circuit) → FitsWord word core → (end : Outcome) → IsCompiled file word core end → IsNoFault end
compiled_no_fault file word core fits _ (masked c_file is) = tt
compiled_no_fault file word core fits _ (other_width given other) = absurd (only_width_1 word core given other fits)

-- words with an order are not without one
no_order : (words : List (List ℕ)) (o : Order) → order_of words ≡ Some o → order_of words ≡ None → ⊥
no_order words o some none = cc (some, none)

-- a status that is that of no refusal
no_refusal : (status : Status) → (status ≡ exit.Usage → ⊥) → (status ≡ exit.Source → ⊥) → (status ≡ exit.Values → ⊥) → IsNoRefusal status
no_refusal exit.Done a b c = tt
no_refusal exit.Found a b c = tt
no_refusal exit.Usage a b c = a refl
no_refusal exit.Source a b c = b refl
no_refusal exit.Unread a b c = tt
no_refusal exit.Unwritten a b c = tt
no_refusal exit.Memory a b c = tt
no_refusal exit.Values a b c = c refl

-- what a verdict says
abbrev pub VerdictSays : Circuit → Outcome → Type 0
VerdictSays core (answers text exit.Done) = (¬ HasAttack (core_products core)) × (text ≡ codes "secure\n")
VerdictSays core (answers text exit.Found) =
    HasAttack (core_products core) × (attack : Attack) × IsAttackOfLeak core attack × (text ≡ attack_text (core_view core) attack)
VerdictSays core _ = Unit {0}

pub verdict_says : (core : Circuit) (end : Outcome) → IsVerdict core end → VerdictSays core end
verdict_says core _ (secure none) = (none, refl)
verdict_says core _ (found attack is) = (has_attack core attack is, attack, is, refl)

-- what compiled C is
abbrev pub CompiledSays : Circuit → Option ℕ → Outcome → Type 0
CompiledSays core word (answers text exit.Done) = (c_file : CFile) × IsMaskedC core word c_file × (text ≡ c_text c_file)
CompiledSays core word (answers text exit.Found) = ⊥
CompiledSays core word _ = Unit {0}

pub compiled_says : (file : List ℕ) (word : Option ℕ) (core : Circuit) (end : Outcome) → IsCompiled file word core end → CompiledSays core word end
compiled_says file word core _ (masked c_file is) = (c_file, is, refl)
compiled_says file word core _ (other_width given other) = tt

-- word bits, from what was asked for
are_bits : (word : Option ℕ) (core : Circuit) → FitsWord word core → AreWordBits core.width (bits_of_c word core.width)
are_bits None core fits = inl refl
are_bits (Some size) core fits = inr fits

module _ (over_cores : MaskedCodeComputesTheCore) (over_sources : MaskedCodeComputesTheSource) (over_lanes : MaskedLanesComputeTheSource)
    (word : Option ℕ) (core : Circuit) (c_file : CFile) (is : IsMaskedC core word c_file) where
  runs : (d : ℕ) (inputs : List (List ℕ)) (words : List ℕ) → IsSharedInput core is.set (bits_of_c word core.width) d inputs words
      → IsMaskedRun core is.set (bits_of_c word core.width) d c_file inputs words
  runs d inputs words it = record {
    is_core = is.is_core;
    form = is.form;
    bits = are_bits word core is.fits;
    some = it.some;
    count = it.count;
    shared = it.shared;
    enough = it.enough;
  }

  -- over the core that was read
  core_values : (gives : (inputs : List ℕ) → length inputs ≡ core.inputs → core_gives word core inputs (plain_run (bits_of_c word core.width) core inputs))
      → AnswersValues core is.set (bits_of_c word core.width) c_file (core_gives word core)
  core_values gives d inputs words it = (
    plain_run (bits_of_c word core.width) core (map sharing_value inputs),
    gives (map sharing_value inputs) (length-map inputs sharing_value ∙ it.count),
    over_cores core is.set (bits_of_c word core.width) d c_file inputs words (runs d inputs words it),
  )

module _ (over_sources : MaskedCodeComputesTheSource) (over_lanes : MaskedLanesComputeTheSource)
    (core : Circuit) (set : ℕ → Bool) (c_file : CFile) {asked_width : Option ℕ} {asked_entry : Option (List ℕ)} {bytes : List ℕ}
    (source : HasCore asked_width asked_entry core bytes) where
  shape : core.width ≡ source.width
  shape = (source_shape source.width source.file source.entry core source.core_of_file).0

  -- over the source, at its own word bits
  source_values : ((d : ℕ) (inputs : List (List ℕ)) (words : List ℕ) → IsSharedInput core set (bits_of_width core.width) d inputs words
      → IsMaskedRun core set (bits_of_width core.width) d c_file inputs words)
      → AnswersValues core set (bits_of_width core.width) c_file (source_gives None source)
  source_values runs d inputs words it =
      let run : IsMaskedRun core set (bits_of_width source.width) d c_file inputs words =
      subst (λ w. IsMaskedRun core set (bits_of_width w) d c_file inputs words) shape (runs d inputs words it) in
      let made = over_sources asked_width asked_entry source.file source.width source.entry source.judged core source.core_of_file set d c_file inputs words run in
      (made.0, made.1, subst (λ w. AnswersSharings (bits_of_width w) d c_file inputs words made.0) (sym shape) made.2)

  -- and at words of another size
  lane_values : (word : ℕ) → core.width ≡ 1
      → ((d : ℕ) (inputs : List (List ℕ)) (words : List ℕ) → IsSharedInput core set word d inputs words → IsMaskedRun core set word d c_file inputs words)
      → AnswersValues core set word c_file (source_gives (Some word) source)
  lane_values word one runs d inputs words it =
      let width : source.width ≡ 1 = sym shape ∙ one in
      let made = over_lanes asked_width asked_entry source.file source.entry
      (subst (λ w. IsJudged asked_width asked_entry source.file w source.entry) width source.judged) core
      (subst (λ w. core_of_source w source.file source.entry ≡ Some core) width source.core_of_file) set word d c_file inputs words (runs d inputs words it) in
      (made.0, made.2, made.1)

-- what the C computes
computes : MaskedCodeComputesTheCore → MaskedCodeComputesTheSource → MaskedLanesComputeTheSource → LanesAreRuns
    → (read_as : Basis) (bytes : List ℕ) (word : Option ℕ) (core : Circuit) (c_file : CFile) (is : IsMaskedC core word c_file)
    → Computes read_as bytes word core is.set c_file
computes over_cores over_sources over_lanes lanes (basis.Source width entry) bytes None core c_file is =
    λ source. source_values over_sources over_lanes core is.set c_file source (runs over_cores over_sources over_lanes None core c_file is)
computes over_cores over_sources over_lanes lanes (basis.Source width entry) bytes (Some word) core c_file is =
    λ source. lane_values over_sources over_lanes core is.set c_file source word is.fits.0 (runs over_cores over_sources over_lanes (Some word) core c_file is)
computes over_cores over_sources over_lanes lanes basis.CoreText bytes None core c_file is =
    core_values over_cores over_sources over_lanes None core c_file is (λ inputs many. refl)
computes over_cores over_sources over_lanes lanes basis.CoreText bytes (Some word) core c_file is =
    core_values over_cores over_sources over_lanes (Some word) core c_file is
    (λ inputs many position within. lanes core word position inputs is.is_core is.fits.0 within many)

module _ (one_file : (bytes : List ℕ) (first second : File) → SpellsFile bytes first → SpellsFile bytes second → first ≡ second)
    (no_fault : (bytes : List ℕ) (file : File) (fault : SourceFault) → SpellsFile bytes file → ¬ HasFault bytes fault)
    (written_is_read : WrittenIsRead) where
  -- an answer about an accepted file is one about its core
  of_its_core : (contents : Contents) (name : List ℕ) (read_as : Basis) (core : Circuit) (bytes : List ℕ) → IsAccepted contents name read_as core bytes
      → (Next : Circuit → Outcome → Type 0) (text : List ℕ) (status : Status) → AfterCore contents name read_as Next (answers text status)
      → Next core (answers text status)
  of_its_core contents name read_as core bytes accepted Next text status ends =
      let it = after_answer contents name exit.Source (bases.Holds read_as) (bases.IsFaulty read_as) Next (answers text status) ends tt in
      let fetched : IsFetched (Some accepted.files) name it.0 = subst (λ (c : Contents). IsFetched c name it.0) accepted.told it.2 in
      let same : it.0 ≡ bytes = same_bytes accepted.files name it.0 bytes fetched (record { within = accepted.within; told = accepted.held }) in
      let one : it.1 ≡ core = held_one one_file no_fault written_is_read read_as bytes it.1 core (subst (bases.Holds read_as it.1) same it.3) accepted.holds in
      subst (λ (c : Circuit). Next c (answers text status)) one it.4

  -- an accepted file is not refused, where its core is not
  no_fault_after : (contents : Contents) (name : List ℕ) (read_as : Basis) (core : Circuit) (bytes : List ℕ) → IsAccepted contents name read_as core bytes
      → (Next : Circuit → Outcome → Type 0) → ((end : Outcome) → Next core end → IsNoFault end)
      → (end : Outcome) → AfterCore contents name read_as Next end → IsNoFault end
  no_fault_after contents name read_as core bytes accepted Next next _ (not_read why may) = tt
  no_fault_after contents name read_as core bytes accepted Next next _ (faulty other fault fetched has) =
      let told : IsFetched (Some accepted.files) name other = subst (λ (c : Contents). IsFetched c name other) accepted.told fetched in
      let same : other ≡ bytes = same_bytes accepted.files name other bytes told (record { within = accepted.within; told = accepted.held }) in
      absurd (held_apart one_file no_fault written_is_read read_as bytes core fault accepted.holds (subst (bases.IsFaulty read_as fault) same has))
  no_fault_after contents name read_as core bytes accepted Next next end (goes_on other held _ fetched holds after) =
      let told : IsFetched (Some accepted.files) name other = subst (λ (c : Contents). IsFetched c name other) accepted.told fetched in
      let same : other ≡ bytes = same_bytes accepted.files name other bytes told (record { within = accepted.within; told = accepted.held }) in
      let one : held ≡ core = held_one one_file no_fault written_is_read read_as bytes held core (subst (bases.Holds read_as held) same holds) accepted.holds in
      next end (subst (λ (c : Circuit). Next c end) one after)

  module _ (contents : Contents) (before now : Option (List ℕ)) where
    checks : (name : List ℕ) (read_as : Basis) (core : Circuit) (bytes : List ℕ) → IsAccepted contents name read_as core bytes → (status : Status)
        → IsNoRefusal status → (status ≡ exit.Found → WroteAnswer (CheckEnds contents name read_as) exit.Found before now)
        → (status ≡ exit.Done → WroteAnswer (CheckEnds contents name read_as) exit.Done before now)
        → ChecksExactly core before now status
    checks name read_as core bytes accepted status answered with_found with_done = record {
      answered = answered;
      found = λ is.
          let wrote = with_found is in
          let says = verdict_says core (answers wrote.text exit.Found) (of_its_core contents name read_as core bytes accepted IsVerdict wrote.text exit.Found wrote.allowed) in
          (says.0, says.1, says.2, wrote.written ∙ ap (appended before) says.3);
      secure = λ is.
          let wrote = with_done is in
          let says = verdict_says core (answers wrote.text exit.Done) (of_its_core contents name read_as core bytes accepted IsVerdict wrote.text exit.Done wrote.allowed) in
          (says.0, wrote.written ∙ ap (appended before) says.1);
    }

    compiles : MaskedCodeComputesTheCore → MaskedCodeComputesTheSource → MaskedLanesComputeTheSource → LanesAreRuns
        → (name : List ℕ) (word : Option ℕ) (read_as : Basis) (core : Circuit) (bytes : List ℕ) → IsAccepted contents name read_as core bytes
        → WroteAnswer (CompileEnds contents name word read_as) exit.Done before now → CompilesExactly read_as bytes word core before now
    compiles over_cores over_sources over_lanes lanes name word read_as core bytes accepted wrote =
        let says = compiled_says name word core (answers wrote.text exit.Done) (of_its_core contents name read_as core bytes accepted (IsCompiled name word) wrote.text exit.Done wrote.allowed) in
        record {
          c_file = says.0;
          masks = says.1;
          printed = wrote.written ∙ ap (appended before) says.2;
          computes = computes over_cores over_sources over_lanes lanes read_as bytes word core says.0 says.1;
        }

  -- the headline of a run
  pub headline : MaskedCodeComputesTheCore → MaskedCodeComputesTheSource → MaskedLanesComputeTheSource → LanesAreRuns
      → {F O E : Type 0} {faults too_long : F → ℕ} {last_refused : F → Option Refused} {fetched : F → List (List ℕ)} {out_faults : O → ℕ}
      {out_written : O → Option (List ℕ)} {err_faults : E → ℕ} {err_written : E → Option (List ℕ)} {contents : F → Contents} {words : List (List ℕ)}
      {files_old files_new : F} {out_old out_new : O} {err_old err_new : E} {status : Status}
      → IsRun faults too_long last_refused fetched out_faults out_written err_faults err_written contents words files_old files_new out_old out_new err_old err_new status
      → Headline (contents files_old) words (out_written out_old) (out_written out_new) status
  headline over_cores over_sources over_lanes lanes {faults = faults} {too_long = too_long} {last_refused = last_refused} {fetched = fetched} {out_faults = out_faults}
      {out_written = out_written} {err_faults = err_faults} {err_written = err_written} {contents = contents} {words = words} {files_old = files_old} {files_new = files_new}
      {out_old = out_old} {out_new = out_new} {err_old = err_old} {err_new = err_new} {status = status} run =
      let shows : (o : Order) → Status → Type 0 = λ o s. Shows faults too_long last_refused fetched out_faults out_written err_faults err_written
      (OrderEnds (contents files_old) o) files_old files_new out_old out_new err_old err_new s in
      let kept : (o : Order) → order_of words ≡ Some o → ((end : Outcome) → OrderEnds (contents files_old) o end → IsNoFault end) → IsNoRefusal status =
      λ o asked never.
      no_refusal status (λ is. no_order words o asked (run.usage is))
      (λ is. let told = (subst (shows o) is (run.ends o asked)).0 in never (refused exit.Source told.name told.fault) told.allowed)
      (λ is. let told = (subst (shows o) is (run.ends o asked)).0 in never (refused exit.Values told.name told.fault) told.allowed) in
      record {
        check = λ name read_as core bytes asked accepted.
            let ends = run.ends (order.Check name read_as) asked in
            let answered = kept (order.Check name read_as) asked
            (no_fault_after (contents files_old) name read_as core bytes accepted IsVerdict (verdict_no_fault core)) in
            checks (contents files_old) (out_written out_old) (out_written out_new) name read_as core bytes accepted status answered
            (λ is. (subst (shows (order.Check name read_as)) is ends).0) (λ is. (subst (shows (order.Check name read_as)) is ends).0);
        compile = λ name word read_as core bytes asked accepted is.
            let ends = run.ends (order.Compile name word read_as) asked in
            compiles (contents files_old) (out_written out_old) (out_written out_new) over_cores over_sources over_lanes lanes name word read_as core bytes accepted
            (subst (shows (order.Compile name word read_as)) is ends).0;
        compile_answered = λ name word read_as core bytes asked accepted fits. (
          kept (order.Compile name word read_as) asked
              (no_fault_after (contents files_old) name read_as core bytes accepted (IsCompiled name word) (compiled_no_fault name word core fits)),
          λ is.
              let wrote = (subst (shows (order.Compile name word read_as)) is (run.ends (order.Compile name word read_as) asked)).0 in
              compiled_says name word core (answers wrote.text exit.Found)
              (of_its_core (contents files_old) name read_as core bytes accepted (IsCompiled name word) wrote.text exit.Found wrote.allowed),
        );
      }
