-- The first step of an order.
use Rattle.std.proofs.Common.{List, ℕ, Result, Ok, Err, IfErr, sym, subst}
use Rattle.tornado_main.specs.Files.{Contents, IsFetched, FileIs}
use Rattle.tornado_main.specs.Outcome.{Outcome, unread, refused}
use Rattle.tornado_main.specs.Steps.{AfterFile, not_read, faulty, goes_on}
use Rattle.tornado_main.specs.Ending.{Nowhere, Stops, IsUnread, IsRefusedFor}
use Rattle.tornado_main.specs.declared.message.Fault.{Fault}
use Rattle.tornado_main.specs.declared.refusal.Refusal.{Refusal}
use Rattle.tornado_main.specs.declared.refusal.Refusal.TheVariants as refusal
use Rattle.tornado_main.specs.declared.status.Status.{Status}

module _ {A : Type 0} (contents : Contents) (name : List ℕ) (at_fault : Status) (Holds : A → List ℕ → Type 0)
    (IsFaulty : Fault → List ℕ → Type 0) where
  -- an order that ends at its first step ends there however it would have gone on
  pub ends_anyway : (Next : A → Outcome → Type 0) (end : Outcome) → AfterFile contents name at_fault Holds IsFaulty Nowhere end
      → AfterFile contents name at_fault Holds IsFaulty Next end
  ends_anyway Next _ (not_read why may) = not_read why may
  ends_anyway Next _ (faulty bytes fault fetched has) = faulty bytes fault fetched has
  ends_anyway Next end (goes_on bytes held _ fetched holds nowhere) = absurd nowhere

  -- and so it is refused however it would have gone on
  pub stops_anyway : (Next : A → Outcome → Type 0) (e : Refusal) → Stops (AfterFile contents name at_fault Holds IsFaulty Nowhere) e
      → Stops (AfterFile contents name at_fault Holds IsFaulty Next) e
  stops_anyway Next (refusal.Faulty status told fault) stops = ends_anyway Next (refused status told.now fault) stops
  stops_anyway Next (refusal.Unread told why) stops = ends_anyway Next (unread told.now why) stops
  stops_anyway Next refusal.Unwritten stops = stops
  stops_anyway Next refusal.Memory stops = stops

  -- a fetch that is refused stops the order
  pub unread_stops : (e : Refusal) → IsUnread contents name e → Stops (AfterFile contents name at_fault Holds IsFaulty Nowhere) e
  unread_stops (refusal.Faulty status told fault) is = absurd is
  unread_stops (refusal.Unread told why) is =
      subst (λ (n : List ℕ). AfterFile contents name at_fault Holds IsFaulty Nowhere (unread n why)) (sym is.0) (not_read why is.1)
  unread_stops refusal.Unwritten is = is
  unread_stops refusal.Memory is = is

  -- and so does a fault of what was fetched
  pub fault_stops : (bytes : List ℕ) → IsFetched contents name bytes → (e : Refusal) → IsRefusedFor at_fault name (λ fault. IsFaulty fault bytes) e
      → Stops (AfterFile contents name at_fault Holds IsFaulty Nowhere) e
  fault_stops bytes fetched (refusal.Faulty status told fault) is =
      let P : List ℕ → Type 0 = λ n. AfterFile contents name at_fault Holds IsFaulty Nowhere (refused at_fault n fault) in
      let Q : Status → Type 0 = λ s. AfterFile contents name at_fault Holds IsFaulty Nowhere (refused s told.now fault) in
      subst Q (sym is.0) (subst P (sym is.1) (faulty bytes fault fetched is.2))
  fault_stops bytes fetched (refusal.Unread told why) is = absurd is
  fault_stops bytes fetched refusal.Unwritten is = is
  fault_stops bytes fetched refusal.Memory is = is

  -- so what was fetched is read, or the order stops
  pub faults_stop : {T : Type 0} (bytes : List ℕ) → IsFetched contents name bytes → (r : Result T Refusal)
      → IfErr r (λ e. IsRefusedFor at_fault name (λ fault. IsFaulty fault bytes) e)
      → IfErr r (λ e. Stops (AfterFile contents name at_fault Holds IsFaulty Nowhere) e)
  faults_stop bytes fetched (Ok made) is = tt
  faults_stop bytes fetched (Err e) is = fault_stops bytes fetched e is

  -- an order goes on with what the file holds
  pub goes_on_with : (Next : A → Outcome → Type 0) (held : A) (end : Outcome) → FileIs contents name (Holds held) → Next held end
      → AfterFile contents name at_fault Holds IsFaulty Next end
  goes_on_with Next held end file next = goes_on file.0 held end file.1 file.2 next

  -- so an order stops that goes on with what the file holds, and stops then
  pub stops_later : (Next : A → Outcome → Type 0) (held : A) (e : Refusal) → FileIs contents name (Holds held) → Stops (Next held) e
      → Stops (AfterFile contents name at_fault Holds IsFaulty Next) e
  stops_later Next held (refusal.Faulty status told fault) file stops = goes_on_with Next held (refused status told.now fault) file stops
  stops_later Next held (refusal.Unread told why) file stops = goes_on_with Next held (unread told.now why) file stops
  stops_later Next held refusal.Unwritten file stops = stops
  stops_later Next held refusal.Memory file stops = stops
