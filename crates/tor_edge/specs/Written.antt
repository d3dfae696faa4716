-- What a sink tells of the bytes that are written to it, and what a call that writes a text does.
use Rattle.std.specs.Prelude.{◌≡◌, ℕ, ◌≤◌, List, ◌++◌, Option, None, Some, Result, OnOk, OnErr}
use Rattle.tor_edge.specs.Count.{Rose}
use Rattle.tor_edge.specs.declared.sink.PutFault.{PutFault}

-- what is told once the text was appended; a sink that tells no bytes goes on telling none
abbrev pub appended : Option (List ℕ) → List ℕ → Option (List ℕ)
appended None text = None
appended (Some bytes) text = Some (bytes ++ text)

-- this is the beginning of the text
abbrev pub IsPrefix : List ℕ → List ℕ → Type 0
IsPrefix front text = (rest : List ℕ) × (front ++ rest ≡ text)

-- between before and now a prefix of the text was appended
abbrev pub AppendsPrefix : Option (List ℕ) → Option (List ℕ) → List ℕ → Type 0
AppendsPrefix before now text = (front : List ℕ) × IsPrefix front text × (now ≡ appended before front)

-- what a call that writes this text did to its sink, with this answer
pub record Wrote {S T : Type 0} (faults : S → ℕ) (written : S → Option (List ℕ)) (old new : S) (text : List ℕ) (result : Result T PutFault) : Type 0 where
  -- the count of faults never falls
  pub never_falls : faults old ≤ faults new
  -- on Ok the whole text was appended
  pub whole : OnOk result (written new ≡ appended (written old) text)
  -- and no fault came
  pub ok_keeps_count : OnOk result (faults new ≡ faults old)
  -- it fails only where the count rose
  pub failed : OnErr result (Rose (faults old) (faults new))
  -- and then a prefix of the text was appended
  pub prefix : OnErr result (AppendsPrefix (written old) (written new) text)
