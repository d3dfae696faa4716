-- Texts that are gathered, so that a sink gets many of them at one go. Only the calls that put pieces speak of it.
use Rattle.std.specs.Prelude.{◌≡◌, ℕ, List, ◌++◌, Option, Result, Ok, Err}
use Rattle.tor_edge.specs.Written.{Wrote}
use Rattle.tor_edge.specs.declared.sink.PutFault.{PutFault}

-- of this text the first part was written, and the rest waits
abbrev pub SentOrWaiting : {S : Type 0} (faults : S → ℕ) (written : S → Option (List ℕ)) (old new : S)
    (text waiting : List ℕ) → Type 0
SentOrWaiting faults written old new text waiting =
    (sent : List ℕ) × Wrote {T = Unit {0}} faults written old new sent (Ok tt) × (sent ++ waiting ≡ text)

-- what a call that gathers this text did, with what waited before it and what waits now: of the two texts the first
-- part was written and the rest waits, or a fault came while they were written
abbrev pub Gathered : {S T : Type 0} (faults : S → ℕ) (written : S → Option (List ℕ)) (old new : S)
    (before text now : List ℕ) → Result T PutFault → Type 0
Gathered faults written old new before text now (Ok x) = SentOrWaiting faults written old new (before ++ text) now
Gathered {T = T} faults written old new before text now (Err fault) =
    Wrote {T = T} faults written old new (before ++ text) (Err fault)
