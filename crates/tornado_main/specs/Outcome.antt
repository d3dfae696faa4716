-- How an order may end, as far as its files decide it.
use Rattle.std.specs.Prelude.{ℕ, List}
use Rattle.tor_edge.specs.declared.files.Reason.{Reason}
use Rattle.tornado_main.specs.declared.message.Fault.{Fault}
use Rattle.tornado_main.specs.declared.status.Status.{Status}

-- an answer, a file that is refused, or one that could not be read
pub data Outcome : Type 0 where
  -- with this text, all of which is printed, and this status
  answers : (text : List ℕ) → Status → Outcome
  -- with this status, since the file of this name has this fault
  refused : Status → (name : List ℕ) → Fault → Outcome
  -- without the file of this name, whose fetch is refused for this reason
  unread : (name : List ℕ) → Reason → Outcome
