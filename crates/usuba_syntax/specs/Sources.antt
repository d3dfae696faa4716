-- Which file the bytes of a source spell, and its faults.
use Rattle.std.specs.Prelude.{◌≡◌, ◌<◌, ℕ, zero, suc, ◌+◌, List, [], ◌∷◌, length, take, Option, Some, None, IfSome, Result, Ok, Err, slice_get}
use Rattle.tor_edge.specs.declared.place.Place.{Place}
use Rattle.usuba_syntax.specs.Files.{IsFile, BeginsFile}
use Rattle.usuba_syntax.specs.Nesting.{open_count}
use Rattle.usuba_syntax.specs.SourceFaults.{SourceFault}
use Rattle.usuba_syntax.specs.SourceFaults as fault
use Rattle.usuba_syntax.specs.declared.read.ReadFault.{ReadFault}
use Rattle.usuba_syntax.specs.declared.read.ReadFault.TheVariants as error
use Rattle.usuba_tokens.specs.Tokens.{Spells, start}
use Rattle.usuba_tokens.specs.declared.token.Ending.{Ending}
use Rattle.usuba_tokens.specs.declared.token.Ending.TheVariants as ending
use Rattle.usuba_tokens.specs.declared.token.Token.{Token}
use Rattle.usuba_tokens.specs.declared.token.TokenKind.TheVariants as kind
use Rattle.usuba_trees.specs.declared.File.{File}

-- the place of the token at a number, or the place where the tokens end
abbrev pub place_at : List Token → Ending → ℕ → Place
place_at [] (ending.End at) k = at
place_at [] (ending.Broken at) k = at
place_at (t ∷ tokens) end zero = t.place
place_at (t ∷ tokens) end (suc k) = place_at tokens end k

-- With the end behind them the tokens are no file. What begins no token makes none.
abbrev pub IsWrongAtEnd : List Token → Ending → Type 0
IsWrongAtEnd tokens (ending.End at) = (file : File) → ¬ IsFile tokens file
IsWrongAtEnd tokens (ending.Broken at) = Unit {0}

-- the tokens up to the one at k begin no file; behind the last token the end stands, or what begins no token
pub data IsSyntaxFault (tokens : List Token) (end : Ending) : ℕ → Type 0 where
  at_token : {k : ℕ} → k < length tokens → ¬ BeginsFile (take (k + 1) tokens) → IsSyntaxFault tokens end k
  at_end : IsWrongAtEnd tokens end → IsSyntaxFault tokens end (length tokens)

-- the token at k is a number of 2^64 or more
abbrev pub IsNumberTooBig : List Token → ℕ → Type 0
IsNumberTooBig tokens k = (t : Token) × (slice_get tokens k ≡ Some t) × (t.kind ≡ kind.Number None)

-- more than 128 brackets and `~` of its item are open at the token at k
abbrev pub IsTooDeep : List Token → ℕ → Type 0
IsTooDeep tokens k = (k < length tokens) × (128 < open_count (take (k + 1) tokens))

-- no fault stands at the token at k
pub record IsFaultless (tokens : List Token) (end : Ending) (k : ℕ) : Type 0 where
  pub syntax : ¬ IsSyntaxFault tokens end k
  pub big : ¬ IsNumberTooBig tokens k
  pub deep : ¬ IsTooDeep tokens k

-- What a fault says of the token at k. At one token a number too big comes before wrong syntax, and that before nesting too
-- deep.
abbrev pub IsFaultAt : List Token → Ending → SourceFault → ℕ → Type 0
IsFaultAt tokens end (fault.NumberTooBig at) k = (at ≡ place_at tokens end k) × IsNumberTooBig tokens k
IsFaultAt tokens end (fault.Syntax at) k = (at ≡ place_at tokens end k) × (¬ IsNumberTooBig tokens k) × IsSyntaxFault tokens end k
IsFaultAt tokens end (fault.TooDeep at) k =
    (at ≡ place_at tokens end k) × (¬ IsNumberTooBig tokens k) × (¬ IsSyntaxFault tokens end k) × IsTooDeep tokens k

-- the fault is the first in the tokens
abbrev pub IsFirstFault : List Token → Ending → SourceFault → Type 0
IsFirstFault tokens end fault = (k : ℕ) × ((j : ℕ) → j < k → IsFaultless tokens end j) × IsFaultAt tokens end fault k

-- the bytes spell this file, and have no fault
abbrev pub SpellsFile : List ℕ → File → Type 0
SpellsFile bytes file =
    (tokens : List Token) × (at : Place) × Spells start bytes tokens (ending.End at) × IsFile tokens file ×
    ((k : ℕ) → IsFaultless tokens (ending.End at) k)

-- the bytes spell tokens that have this fault as their first
abbrev pub HasFault : List ℕ → SourceFault → Type 0
HasFault bytes fault = (tokens : List Token) × (end : Ending) × Spells start bytes tokens end × IsFirstFault tokens end fault

-- the fault that an error tells of the bytes; want of memory tells none
abbrev pub fault_of : ReadFault → Option SourceFault
fault_of (error.Syntax at) = Some (fault.Syntax at)
fault_of (error.TooDeep at) = Some (fault.TooDeep at)
fault_of (error.NumberTooBig at) = Some (fault.NumberTooBig at)
fault_of (error.Memory e) = None

-- the answer is the one that the bytes have, unless memory ran out
abbrev pub IsOrMemory : Result File ReadFault → Result File SourceFault → Type 0
IsOrMemory (Ok file) wanted = Ok file ≡ wanted
IsOrMemory (Err error) wanted = IfSome (fault_of error) (λ fault. Err fault ≡ wanted)
