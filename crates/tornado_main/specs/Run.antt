-- What a run of the program does.
use Rattle.std.specs.Prelude.{◌≡◌, ◌≢◌, ◌⊎◌, ℕ, List, Option, None, Some, Result}
use Rattle.tor_edge.specs.Count.{Rose}
use Rattle.tor_edge.specs.Written.{appended, AppendsPrefix, Wrote}
use Rattle.tor_edge.specs.declared.files.Reason.{Reason}
use Rattle.tor_edge.specs.declared.files.Refusal.{Refusal as Refused}
use Rattle.tor_edge.specs.declared.sink.PutFault.{PutFault}
use Rattle.tornado_main.specs.Fetching.{RefusedFetch, NoneRefused, FetchedInOrder}
use Rattle.tornado_main.specs.Files.{Contents}
use Rattle.tornado_main.specs.Message.{run_message, file_message, unread_message}
use Rattle.tornado_main.specs.Orders.{OrderEnds}
use Rattle.tornado_main.specs.Outcome.{Outcome, answers, refused, unread}
use Rattle.tornado_main.specs.Words.{order_of, files_of}
use Rattle.tornado_main.specs.declared.message.Complaint.TheVariants as complaint
use Rattle.tornado_main.specs.declared.message.Fault.{Fault}
use Rattle.tornado_main.specs.declared.status.Status.{Status}
use Rattle.tornado_main.specs.declared.status.Status.TheVariants.{Done, Found, Usage, Source, Unread, Unwritten}
use Rattle.tornado_main.specs.declared.status.Status.TheVariants.{Memory, Values}
use Rattle.tornado_words.specs.declared.order.Order.{Order}

-- the sink was sent a text and nothing else: it got a prefix of it, and all of it where its count of faults didn't rise
abbrev pub Sent : {S : Type 0} → (S → ℕ) → (S → Option (List ℕ)) → S → S → List ℕ → Type 0
Sent faults written old new text = (answer : Result (Unit {0}) PutFault) × Wrote faults written old new text answer

-- an answer that may be given with this status was written whole
pub record WroteAnswer (May : Outcome → Type 0) (status : Status) (before now : Option (List ℕ)) : Type 0 where
  pub text : List ℕ
  pub allowed : May (answers text status)
  pub written : now ≡ appended before text

-- the output failed after a prefix of an answer that may be given
pub record StoppedWriting (May : Outcome → Type 0) (faults_before faults_now : ℕ) (before now : Option (List ℕ))
    : Type 0 where
  pub text : List ℕ
  pub status : Status
  pub allowed : May (answers text status)
  pub rose : Rose faults_before faults_now
  pub prefix : AppendsPrefix before now text

-- a file is refused, as it may be, with this status, and that was told
pub record ToldFault (May : Outcome → Type 0) (status : Status) (Told : List ℕ → Type 0) : Type 0 where
  pub name : List ℕ
  pub fault : Fault
  pub allowed : May (refused status name fault)
  pub told : Told (file_message name fault)

-- the last fetch was refused, as it may be, and that was told
pub record ToldUnread (May : Outcome → Type 0) (WasRefused : List ℕ → Reason → Type 0) (Told : List ℕ → Type 0)
    : Type 0 where
  pub name : List ℕ
  pub why : Reason
  pub allowed : May (unread name why)
  pub was_refused : WasRefused name why
  pub told : Told (unread_message name why)

module _ {F O E : Type 0} (faults too_long : F → ℕ) (last_refused : F → Option Refused) (fetched : F → List (List ℕ))
    (out_faults : O → ℕ) (out_written : O → Option (List ℕ)) (err_faults : E → ℕ)
    (err_written : E → Option (List ℕ)) where
  -- What a run that carries out an order did to the files, the output and the sink of messages, by the status with
  -- which it ends. How the order may end is given.
  abbrev pub Shows : (Outcome → Type 0) → (files_old files_new : F) → (out_old out_new : O) → (err_old err_new : E)
      → Status → Type 0
  Shows May files_old files_new out_old out_new err_old err_new Done =
      WroteAnswer May Done (out_written out_old) (out_written out_new) × (err_new ≡ err_old)
  Shows May files_old files_new out_old out_new err_old err_new Found =
      WroteAnswer May Found (out_written out_old) (out_written out_new) × (err_new ≡ err_old)
  Shows May files_old files_new out_old out_new err_old err_new Usage = ⊥
  Shows May files_old files_new out_old out_new err_old err_new Source =
      ToldFault May Source (Sent err_faults err_written err_old err_new) × (out_new ≡ out_old)
  Shows May files_old files_new out_old out_new err_old err_new Unread =
      ToldUnread May (RefusedFetch faults too_long last_refused fetched files_old files_new)
      (Sent err_faults err_written err_old err_new)
      × (out_new ≡ out_old)
  Shows May files_old files_new out_old out_new err_old err_new Unwritten =
      StoppedWriting May (out_faults out_old) (out_faults out_new) (out_written out_old) (out_written out_new)
      × Sent err_faults err_written err_old err_new (run_message complaint.CannotWrite)
  Shows May files_old files_new out_old out_new err_old err_new Memory =
      Sent err_faults err_written err_old err_new (run_message complaint.OutOfMemory) × (out_new ≡ out_old)
  Shows May files_old files_new out_old out_new err_old err_new Values =
      ToldFault May Values (Sent err_faults err_written err_old err_new) × (out_new ≡ out_old)

  -- a run on words that are no order: it is told that they are none, or that memory was wanting to read them, and
  -- neither files nor output were touched
  pub record EndsWithoutOrder (files_old files_new : F) (out_old out_new : O) (err_old err_new : E) (status : Status)
      : Type 0 where
    pub ends : ((status ≡ Usage) × Sent err_faults err_written err_old err_new (run_message complaint.BadCommandLine))
        ⊎ ((status ≡ Memory) × Sent err_faults err_written err_old err_new (run_message complaint.OutOfMemory))
    pub files_alone : files_new ≡ files_old
    pub output_alone : out_new ≡ out_old

  -- what a run on these words did, which are those after the program's name, by its status
  pub record IsRun (contents : F → Contents) (words : List (List ℕ)) (files_old files_new : F) (out_old out_new : O)
      (err_old err_new : E)
      (status : Status) : Type 0 where
    -- it is the status of a bad command line only where the words are no order
    pub usage : status ≡ Usage → order_of words ≡ None
    -- then that was told, but for want of memory
    pub without_order : order_of words ≡ None
        → EndsWithoutOrder files_old files_new out_old out_new err_old err_new status
    -- an order ends as it may
    pub ends : (order : Order) → order_of words ≡ Some order
        → Shows (OrderEnds (contents files_old) order) files_old files_new out_old out_new err_old err_new status
    -- its files are fetched in their order, each at most once, and none after a refused one
    pub fetches : (order : Order) → order_of words ≡ Some order
        → FetchedInOrder (files_of order) (fetched files_old) (fetched files_new)
    -- what is told of refused fetches stays where none was refused
    pub none_refused : status ≢ Unread → NoneRefused faults too_long last_refused files_old files_new
    -- the told contents stay
    pub contents_stay : contents files_new ≡ contents files_old
