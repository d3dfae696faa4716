-- What a run did, from how its order ended.
use Rattle.std.proofs.Common.{◌≡◌, ◌≢◌, ◌⊎◌, inl, inr, List, [], ℕ, Option, None, Some, Ok, Err, refl, sym, ◌∙◌, subst, append-nil}
use Rattle.tor_edge.specs.declared.files.Refusal.{Refusal as Refused}
use Rattle.tornado_main.specs.Fetching.{NoneRefused, FetchedInOrder}
use Rattle.tornado_main.specs.Files.{Contents}
use Rattle.tornado_main.specs.Message.{run_message, file_message}
use Rattle.tornado_main.specs.Orders.{OrderEnds}
use Rattle.tornado_main.specs.Outcome.{answers, refused}
use Rattle.tornado_main.specs.Refusals.{status_of, message_of}
use Rattle.tornado_main.specs.Run.{Sent, Shows, IsRun}
use Rattle.tornado_main.specs.Ending.{Ends}
use Rattle.tornado_main.specs.Words.{order_of, files_of}
use Rattle.tornado_main.specs.declared.message.Complaint.TheVariants as complaint
use Rattle.tornado_main.specs.declared.message.Fault.{Fault}
use Rattle.tornado_main.specs.declared.refusal.Refusal.{Refusal}
use Rattle.tornado_main.specs.declared.refusal.Refusal.TheVariants as refusal
use Rattle.tornado_main.specs.declared.status.Status.{Status}
use Rattle.tornado_main.specs.declared.status.Status.TheVariants as exit
use Rattle.tornado_words.specs.declared.order.Order.{Order}
use Rattle.tornado_main.proofs.CoverageLemmas.{order_fits}

-- the words have one order
one_order : (asked : Option Order) (a b : Order) → asked ≡ Some a → asked ≡ Some b → a ≡ b
one_order asked a b x y =
    let here : Some a ≡ Some b = sym x ∙ y in
    cc

module _ {F O E : Type 0} {faults too_long : F → ℕ} {last_refused : F → Option Refused} {fetched : F → List (List ℕ)}
    {out_faults : O → ℕ} {out_written : O → Option (List ℕ)} {err_faults : E → ℕ} {err_written : E → Option (List ℕ)} {contents : F → Contents}
    {words : List (List ℕ)} {files_old files_new : F} {out_old out_new : O} {err_old err_new : E} where
  -- what a run did that had an order, and showed an outcome of it
  with_order : (o : Order) (s : Status) → order_of words ≡ Some o → s ≢ exit.Usage
      → Shows faults too_long last_refused fetched out_faults out_written err_faults err_written (OrderEnds (contents files_old) o) files_old files_new out_old out_new err_old err_new s
      → FetchedInOrder (files_of o) (fetched files_old) (fetched files_new)
      → (s ≢ exit.Unread → NoneRefused faults too_long last_refused files_old files_new) → contents files_new ≡ contents files_old
      → IsRun faults too_long last_refused fetched out_faults out_written err_faults err_written contents words files_old files_new out_old out_new err_old err_new s
  with_order o s asked not_usage shows fetches none_refused stay = record {
    usage = λ e. absurd (not_usage e);
    without_order = λ none. let here : None ≡ Some o = sym none ∙ asked in absurd (cc);
    ends = λ other h.
        let same : o ≡ other = one_order (order_of words) o other asked h in
        subst
        (λ (k : Order). Shows faults too_long last_refused fetched out_faults out_written err_faults err_written (OrderEnds (contents files_old) k) files_old files_new out_old out_new err_old err_new s)
        same shows;
    fetches = λ other h.
        let same : o ≡ other = one_order (order_of words) o other asked h in
        subst (λ (k : Order). FetchedInOrder (files_of k) (fetched files_old) (fetched files_new)) same fetches;
    none_refused = none_refused;
    contents_stay = stay;
  }

  -- a file was refused, and that was told
  faulty_run : (o : Order) (s : Status) (name : List ℕ) (fault : Fault) → (s ≡ exit.Source) ⊎ (s ≡ exit.Values) → order_of words ≡ Some o
      → OrderEnds (contents files_old) o (refused s name fault) → out_new ≡ out_old → Sent err_faults err_written err_old err_new (file_message name fault)
      → FetchedInOrder (files_of o) (fetched files_old) (fetched files_new) → NoneRefused faults too_long last_refused files_old files_new
      → contents files_new ≡ contents files_old
      → IsRun faults too_long last_refused fetched out_faults out_written err_faults err_written contents words files_old files_new out_old out_new err_old err_new s
  faulty_run o s name fault is asked may same told fetches none stay =
      let P : Status → Type 0 = λ k. OrderEnds (contents files_old) o (refused k name fault)
      → IsRun faults too_long last_refused fetched out_faults out_written err_faults err_written contents words files_old files_new out_old out_new err_old err_new k in
      let at_source : P exit.Source = λ h.
      with_order o exit.Source asked (λ e. absurd (cc)) (record { name = name; fault = fault; allowed = h; told = told }, same) fetches (λ _. none) stay in
      let at_values : P exit.Values = λ h.
      with_order o exit.Values asked (λ e. absurd (cc)) (record { name = name; fault = fault; allowed = h; told = told }, same) fetches (λ _. none) stay in
      elim is [ inl source ↦ subst P (sym source) at_source may | inr values ↦ subst P (sym values) at_values may ]

  -- an order was refused, and that was told
  refused_run : (o : Order) (e : Refusal) → order_of words ≡ Some o
      → Ends faults too_long last_refused fetched contents out_faults out_written (files_of o) (OrderEnds (contents files_old) o) files_old files_new out_old out_new (Err e)
      → Sent err_faults err_written err_old err_new (message_of e)
      → IsRun faults too_long last_refused fetched out_faults out_written err_faults err_written contents words files_old files_new out_old out_new err_old err_new (status_of e)
  refused_run o (refusal.Faulty s name fault) asked ends told =
      faulty_run o s name.now fault (order_fits (contents files_old) o (refused s name.now fault) ends.shown.0) asked ends.shown.0 ends.shown.1 told ends.fetches ends.refuses ends.contents_stay
  refused_run o (refusal.Unread name why) asked ends told =
      with_order o exit.Unread asked (λ e. absurd (cc))
      (record { name = name.now; why = why; allowed = ends.shown.0; was_refused = ends.refuses; told = told }, ends.shown.1) ends.fetches (λ not. absurd (not refl)) ends.contents_stay
  refused_run o refusal.Unwritten asked ends told =
      with_order o exit.Unwritten asked (λ e. absurd (cc)) (ends.shown, told) ends.fetches (λ _. ends.refuses) ends.contents_stay
  refused_run o refusal.Memory asked ends told =
      with_order o exit.Memory asked (λ e. absurd (cc)) (told, ends.shown) ends.fetches (λ _. ends.refuses) ends.contents_stay

  -- an order was refused, that was told, and the run ends with its status
  pub run_refused : (o : Order) (e : Refusal) (s : Status) → s ≡ status_of e → order_of words ≡ Some o
      → Ends faults too_long last_refused fetched contents out_faults out_written (files_of o) (OrderEnds (contents files_old) o) files_old files_new out_old out_new (Err e)
      → Sent err_faults err_written err_old err_new (message_of e)
      → IsRun faults too_long last_refused fetched out_faults out_written err_faults err_written contents words files_old files_new out_old out_new err_old err_new s
  run_refused o e s is asked ends told =
      subst
      (λ (k : Status). IsRun faults too_long last_refused fetched out_faults out_written err_faults err_written contents words files_old files_new out_old out_new err_old err_new k)
      (sym is) (refused_run o e asked ends told)

  -- the answer was written, and nothing was told
  pub run_answered : (o : Order) (s : Status) → order_of words ≡ Some o → err_new ≡ err_old
      → Ends faults too_long last_refused fetched contents out_faults out_written (files_of o) (OrderEnds (contents files_old) o) files_old files_new out_old out_new (Ok s)
      → IsRun faults too_long last_refused fetched out_faults out_written err_faults err_written contents words files_old files_new out_old out_new err_old err_new s
  run_answered o s asked quiet ends =
      let P : Status → Type 0 = λ k. Ends faults too_long last_refused fetched contents out_faults out_written (files_of o) (OrderEnds (contents files_old) o) files_old files_new out_old out_new (Ok k)
      → IsRun faults too_long last_refused fetched out_faults out_written err_faults err_written contents words files_old files_new out_old out_new err_old err_new k in
      let at_done : P exit.Done = λ h. with_order o exit.Done asked (λ e. absurd (cc)) (h.shown, quiet) h.fetches (λ _. h.refuses) h.contents_stay in
      let at_found : P exit.Found = λ h. with_order o exit.Found asked (λ e. absurd (cc)) (h.shown, quiet) h.fetches (λ _. h.refuses) h.contents_stay in
      elim (order_fits (contents files_old) o (answers ends.shown.text s) ends.shown.allowed)
      [ inl done ↦ subst P (sym done) at_done ends | inr found ↦ subst P (sym found) at_found ends ]

module _ {F O E : Type 0} {faults too_long : F → ℕ} {last_refused : F → Option Refused} {fetched : F → List (List ℕ)}
    {out_faults : O → ℕ} {out_written : O → Option (List ℕ)} {err_faults : E → ℕ} {err_written : E → Option (List ℕ)} {contents : F → Contents}
    {words : List (List ℕ)} {files : F} {out : O} {err_old err_new : E} where
  -- the words are no order, and that was told
  pub run_without_order : order_of words ≡ None → Sent err_faults err_written err_old err_new (run_message complaint.BadCommandLine)
      → IsRun faults too_long last_refused fetched out_faults out_written err_faults err_written contents words files files out out err_old err_new exit.Usage
  run_without_order none told = record {
    usage = λ e. none;
    without_order = λ h. record { ends = inl (refl, told); files_alone = refl; output_alone = refl };
    ends = λ order h. let here : None ≡ Some order = sym none ∙ h in absurd (cc);
    fetches = λ order h. let here : None ≡ Some order = sym none ∙ h in absurd (cc);
    none_refused = λ e. record { faults_stay = refl; too_long_stays = refl; refused_stays = refl };
    contents_stay = refl;
  }

  -- memory was wanting before there was an order, and that was told
  pub run_without_memory : (s : Status) → s ≡ exit.Memory → Sent err_faults err_written err_old err_new (run_message complaint.OutOfMemory)
      → IsRun faults too_long last_refused fetched out_faults out_written err_faults err_written contents words files files out out err_old err_new s
  run_without_memory s is told =
      subst (λ (k : Status). IsRun faults too_long last_refused fetched out_faults out_written err_faults err_written contents words files files out out err_old err_new k) (sym is) (record {
        usage = λ e. absurd (cc);
        without_order = λ none. record { ends = inr (refl, told); files_alone = refl; output_alone = refl };
        ends = λ order h. (told, refl);
        fetches = λ order h. record { taken = []; left = files_of order; in_order = refl; fetched = sym (append-nil (fetched files)) };
        none_refused = λ e. record { faults_stay = refl; too_long_stays = refl; refused_stays = refl };
        contents_stay = refl;
      })
