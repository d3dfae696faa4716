-- How the texts that are gathered join: what was written of them, and what waits.
use Rattle.std.proofs.Common.{◌≡◌, ℕ, ◌+◌, ◌<◌, List, [], ◌++◌, Option, Result, Ok, Err, IsErr}
use Rattle.std.proofs.Common.{ap, sym, ◌∙◌, append_assoc, append-nil, length, get_or, take, drop, flat_map}
use Rattle.tor_edge.specs.Written.{Wrote}
use Rattle.tor_edge.specs.Gathered.{SentOrWaiting, Gathered}
use Rattle.tor_edge.specs.declared.sink.PutFault.{PutFault}
use Rattle.tor_edge.proofs.Writing.{Wrote-ok, Wrote-then, Wrote-stops, Wrote-is, texts_to, texts_around}

-- where a text is what was sent and what waits, and what waits goes on with the next text, both texts are what was sent
joined : (sent waiting more after text next : List ℕ) → sent ++ waiting ≡ text → more ++ after ≡ waiting ++ next
    → (sent ++ more) ++ after ≡ text ++ next
joined sent waiting more after text next first second =
    append_assoc sent more after ∙ ap (λ (rest : List ℕ). sent ++ rest) second
    ∙ sym (append_assoc sent waiting next) ∙ ap (λ (front : List ℕ). front ++ next) first

-- the same with a rest after them
joined_rest : (sent waiting text next rest : List ℕ) → sent ++ waiting ≡ text
    → sent ++ ((waiting ++ next) ++ rest) ≡ text ++ (next ++ rest)
joined_rest sent waiting text next rest first =
    ap (λ (more : List ℕ). sent ++ more) (append_assoc waiting next rest)
    ∙ sym (append_assoc sent waiting (next ++ rest)) ∙ ap (λ (front : List ℕ). front ++ (next ++ rest)) first

module _ {S : Type 0} {faults : S → ℕ} {written : S → Option (List ℕ)} where
  -- what waited was written, then the text was: nothing waits
  pub Gathered-passed_on : {T U : Type 0} {old mid new : S} {before text now : List ℕ} {x : T} {q : Result U PutFault}
      → Wrote faults written old mid before (Ok x) → Wrote faults written mid new text q → now ≡ []
      → Gathered faults written old new before text now q
  Gathered-passed_on {before = before} {text = text} {q = Ok y} first more none = (
    before ++ text,
    Wrote-ok y tt (Wrote-then first more),
    ap (λ (rest : List ℕ). (before ++ text) ++ rest) none ∙ append-nil (before ++ text),
  )
  Gathered-passed_on {q = Err fault} first more none = Wrote-then first more

  -- what waits of a text is written: the text was written
  pub SentOrWaiting-written : {T : Type 0} {old mid new : S} {text waiting : List ℕ} {q : Result T PutFault}
      → SentOrWaiting faults written old mid text waiting → Wrote faults written mid new waiting q
      → Wrote faults written old new text q
  SentOrWaiting-written before last = Wrote-is before.2 (Wrote-then before.1 last)

  -- in a loop that gathers the text of each item: the next item was gathered too
  pub Gathered-next : {T X : Type 0} {old mid new : S} {before now : List ℕ}
      (x : T) (f : X → List ℕ) (items : List X) (i : ℕ) (d : X) → i < length items
      → SentOrWaiting faults written old mid (flat_map f (take i items)) before
      → Gathered faults written mid new before (f (get_or items i d)) now (Ok x)
      → SentOrWaiting faults written old new (flat_map f (take (i + 1) items)) now
  Gathered-next {before = before} {now = now} x f items i d within first next = (
    first.0 ++ next.0,
    Wrote-then first.1 next.1,
    joined first.0 before next.0 now (flat_map f (take i items)) (f (get_or items i d)) first.2 next.2
        ∙ texts_to f items i d within,
  )

  -- in such a loop: a fault came in the next item, or in what waited before it
  pub Gathered-next_stops : {T U X : Type 0} {old mid new : S} {before : List ℕ} {fault : PutFault}
      {q : Result U PutFault} (f : X → List ℕ) (items : List X) (i : ℕ) (d : X) → i < length items
      → SentOrWaiting faults written old mid (flat_map f (take i items)) before
      → Wrote {T = T} faults written mid new (before ++ f (get_or items i d)) (Err fault)
      → IsErr q → Wrote faults written old new (flat_map f items) q
  Gathered-next_stops {before = before} f items i d within first next fails =
      let rest : List ℕ = flat_map f (drop (i + 1) items) in
      Wrote-is (joined_rest first.0 before (flat_map f (take i items)) (f (get_or items i d)) rest first.2
      ∙ texts_around f items i d within) (Wrote-then first.1 (Wrote-stops rest next fails))
