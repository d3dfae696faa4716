-- What is fetched of files.
use Rattle.std.specs.Prelude.{◌≡◌, ℕ, ◌≤◌, List, Option, Some, IfSome, length}
use Rattle.tor_edge.specs.Fetch.{IsLongerThan}
use Rattle.tor_edge.specs.declared.files.TheConstants.{MAX_FILE_BYTES}
use Rattle.tor_edge.specs.declared.files.Reason.{Reason}
use Rattle.tor_edge.specs.declared.files.Reason.TheVariants as reason

-- the contents of files, where they are told
abbrev pub Contents : Type 0
Contents = Option (List ℕ → Option (List ℕ))

-- a fetch of this name may answer these bytes: at most as many as a file may have, and the told ones where the contents
-- are told
pub record IsFetched (contents : Contents) (name bytes : List ℕ) : Type 0 where
  pub within : length bytes ≤ MAX_FILE_BYTES
  pub told : IfSome contents (λ file. file name ≡ Some bytes)

-- a fetch of this name may be refused for this reason: any may fail, and one is too long only of a file that is, where
-- the contents are told
abbrev pub MayRefuse : Contents → (name : List ℕ) → Reason → Type 0
MayRefuse contents name reason.Failed = Unit {0}
MayRefuse contents name reason.TooLong = IfSome contents (λ file. IsLongerThan MAX_FILE_BYTES (file name))

-- a fetch of this name may answer bytes of which this holds
abbrev pub FileIs : Contents → List ℕ → (List ℕ → Type 0) → Type 0
FileIs contents name P = (bytes : List ℕ) × IsFetched contents name bytes × P bytes
