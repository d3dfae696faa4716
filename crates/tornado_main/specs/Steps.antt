-- The steps of orders. A command is told as the steps that it takes, one inside the other: so come the order of its
-- fetches and that of its refusals.
use Rattle.std.specs.Prelude.{ℕ, List}
use Rattle.tor_edge.specs.declared.files.Reason.{Reason}
use Rattle.usuba0.specs.Circuit.{Circuit}
use Rattle.tornado_main.specs.Files.{Contents, IsFetched, MayRefuse}
use Rattle.tornado_main.specs.Outcome.{Outcome, refused, unread}
use Rattle.tornado_main.specs.Bases as bases
use Rattle.tornado_words.specs.declared.order.Basis.{Basis}
use Rattle.tornado_main.specs.declared.message.Fault.{Fault}
use Rattle.tornado_main.specs.declared.status.Status.{Status}
use Rattle.tornado_main.specs.declared.status.Status.TheVariants as status

-- An order may end so that fetches the file of this name first. What the bytes of a file hold, and which faults they
-- have, is given, as is the status for a fault and how an order may end that goes on with what the file holds.
pub data AfterFile {A : Type 0} (contents : Contents) (name : List ℕ) (at_fault : Status) (Holds : A → List ℕ → Type 0)
    (IsFaulty : Fault → List ℕ → Type 0) (Next : A → Outcome → Type 0) : Outcome → Type 0 where
  -- the fetch is refused
  not_read : (why : Reason) → MayRefuse contents name why
      → AfterFile contents name at_fault Holds IsFaulty Next (unread name why)
  -- the file is refused for a fault that it has
  faulty : (bytes : List ℕ) (fault : Fault) → IsFetched contents name bytes → IsFaulty fault bytes
      → AfterFile contents name at_fault Holds IsFaulty Next (refused at_fault name fault)
  -- the order goes on with what the file holds
  goes_on : (bytes : List ℕ) (held : A) (end : Outcome) → IsFetched contents name bytes → Holds held bytes
      → Next held end → AfterFile contents name at_fault Holds IsFaulty Next end

-- an order may end so that fetches the file of this name first, and goes on with its core
abbrev pub AfterCore : Contents → (name : List ℕ) → Basis → (Circuit → Outcome → Type 0) → Outcome → Type 0
AfterCore contents name basis Next = AfterFile contents name status.Source (bases.Holds basis)
    (bases.IsFaulty basis) Next
