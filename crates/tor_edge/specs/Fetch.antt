-- What a fetch of a file answers, and what it leaves.
use Rattle.std.specs.Prelude.{◌≡◌, ◌⊎◌, ℕ, ◌<◌, List, [], ◌∷◌, ◌++◌, length, Option, None, Some, Result, Ok, Err}
use Rattle.tor_edge.specs.declared.files.FetchFault.{FetchFault}
use Rattle.tor_edge.specs.declared.files.FetchFault.TheVariants.{Failed, TooLong, Memory}
use Rattle.tor_edge.specs.declared.files.Reason.TheVariants.{Failed as by_a_fault, TooLong as by_its_length}
use Rattle.tor_edge.specs.declared.files.Refusal.{Refusal}

-- P holds where the answer is that a fault came
abbrev pub OnFailed : {T : Type 0} → Result T FetchFault → Type 0 → Type 0
OnFailed (Err Failed) P = P
OnFailed (Err TooLong) P = Unit {0}
OnFailed (Err (Memory error)) P = Unit {0}
OnFailed (Ok file) P = Unit {0}

-- P holds where the answer is that the file is too long
abbrev pub OnTooLong : {T : Type 0} → Result T FetchFault → Type 0 → Type 0
OnTooLong (Err Failed) P = Unit {0}
OnTooLong (Err TooLong) P = P
OnTooLong (Err (Memory error)) P = Unit {0}
OnTooLong (Ok file) P = Unit {0}

-- P holds where no fault came and memory was there: the answer is the file, or that it is too long
abbrev pub OnOkOrTooLong : {T : Type 0} → Result T FetchFault → Type 0 → Type 0
OnOkOrTooLong (Err Failed) P = Unit {0}
OnOkOrTooLong (Err TooLong) P = P
OnOkOrTooLong (Err (Memory error)) P = Unit {0}
OnOkOrTooLong (Ok file) P = P

-- P holds where the answer is the file or want of memory
abbrev pub OnOkOrMemory : {T : Type 0} → Result T FetchFault → Type 0 → Type 0
OnOkOrMemory (Err Failed) P = Unit {0}
OnOkOrMemory (Err TooLong) P = Unit {0}
OnOkOrMemory (Err (Memory error)) P = P
OnOkOrMemory (Ok file) P = P

-- the answer is that a fault came, or want of memory
abbrev pub IsFailedOrMemory : {T : Type 0} → Result T FetchFault → Type 0
IsFailedOrMemory (Err Failed) = Unit {0}
IsFailedOrMemory (Err TooLong) = ⊥
IsFailedOrMemory (Err (Memory error)) = Unit {0}
IsFailedOrMemory (Ok file) = ⊥

-- there is a file, and it has more than so many bytes
abbrev pub IsLongerThan : ℕ → Option (List ℕ) → Type 0
IsLongerThan limit None = ⊥
IsLongerThan limit (Some bytes) = limit < length bytes

-- the last refused fetch after a fetch of this name: the fetch itself where it was refused by a fault or for the
-- file's length, and else the one before
abbrev pub refused_after : {T : Type 0} → Option Refusal → List ℕ → Result T FetchFault → Option Refusal
refused_after before name (Err Failed) = Some (record { name = name; reason = by_a_fault })
refused_after before name (Err TooLong) = Some (record { name = name; reason = by_its_length })
refused_after before name (Err (Memory error)) = before
refused_after before name (Ok file) = before

-- before and now are the names that were fetched before and after a fetch of this name: it stands last, however the
-- fetch ended; only where memory was wanting the fetch may not have begun
abbrev pub IsFetchedNext : {T : Type 0} → List (List ℕ) → List (List ℕ) → List ℕ → Result T FetchFault → Type 0
IsFetchedNext before now name (Err Failed) = now ≡ before ++ name ∷ []
IsFetchedNext before now name (Err TooLong) = now ≡ before ++ name ∷ []
IsFetchedNext before now name (Err (Memory error)) = (now ≡ before) ⊎ (now ≡ before ++ name ∷ [])
IsFetchedNext before now name (Ok file) = now ≡ before ++ name ∷ []
