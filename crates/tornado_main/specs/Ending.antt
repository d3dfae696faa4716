-- How the steps of an order end. This stands between the functions of the program alone.
use Rattle.std.specs.Prelude.{◌≡◌, ℕ, List, ◌++◌, Option, Result, Ok, Err}
use Rattle.tor_edge.specs.Count.{Rose}
use Rattle.tor_edge.specs.Written.{appended, AppendsPrefix}
use Rattle.tor_edge.specs.declared.files.Refusal.{Refusal as Refused}
use Rattle.tornado_main.specs.Fetching.{RefusedFetch, NoneRefused, FetchedInOrder}
use Rattle.tornado_main.specs.Files.{Contents, MayRefuse}
use Rattle.tornado_main.specs.Outcome.{Outcome, refused, unread}
use Rattle.tornado_main.specs.Run.{WroteAnswer, StoppedWriting}
use Rattle.tornado_main.specs.declared.message.Fault.{Fault}
use Rattle.tornado_main.specs.declared.refusal.Refusal.{Refusal}
use Rattle.tornado_main.specs.declared.refusal.Refusal.TheVariants as refusal
use Rattle.tornado_main.specs.declared.status.Status.{Status}

-- no way to end
abbrev pub Nowhere : {A : Type 0} → A → Outcome → Type 0
Nowhere held end = ⊥

-- a step is refused as an order may end, before the output is touched
abbrev pub Stops : (Outcome → Type 0) → Refusal → Type 0
Stops May (refusal.Faulty status name fault) = May (refused status name.now fault)
Stops May (refusal.Unread name why) = May (unread name.now why)
Stops May refusal.Unwritten = ⊥
Stops May refusal.Memory = Unit {0}

-- a fetch of this name is refused as it may be, or memory was wanting
abbrev pub IsUnread : Contents → (name : List ℕ) → Refusal → Type 0
IsUnread contents name (refusal.Faulty status told fault) = ⊥
IsUnread contents name (refusal.Unread told why) = (told.now ≡ name) × MayRefuse contents name why
IsUnread contents name refusal.Unwritten = ⊥
IsUnread contents name refusal.Memory = Unit {0}

-- the file of this name is refused with this status for a fault that it has, or memory was wanting
abbrev pub IsRefusedFor : Status → (name : List ℕ) → (Fault → Type 0) → Refusal → Type 0
IsRefusedFor ends_with name Has (refusal.Faulty status told fault) = (status ≡ ends_with) × (told.now ≡ name)
    × Has fault
IsRefusedFor ends_with name Has (refusal.Unread told why) = ⊥
IsRefusedFor ends_with name Has refusal.Unwritten = ⊥
IsRefusedFor ends_with name Has refusal.Memory = Unit {0}

-- the names that were fetched in a step that answers this: all of these or, where memory was wanting, some from the
-- first on
abbrev pub Takes : {T : Type 0} → (names before now : List (List ℕ)) → Result T Refusal → Type 0
Takes names before now (Ok made) = now ≡ before ++ names
Takes names before now (Err (refusal.Faulty status name fault)) = now ≡ before ++ names
Takes names before now (Err (refusal.Unread name why)) = now ≡ before ++ names
Takes names before now (Err refusal.Unwritten) = now ≡ before ++ names
Takes names before now (Err refusal.Memory) = FetchedInOrder names before now

module _ {F : Type 0} (faults too_long : F → ℕ) (last_refused : F → Option Refused) (fetched : F → List (List ℕ)) where
  -- what files tell of refused fetches after a step that answers this
  abbrev pub Refuses : {T : Type 0} → (old new : F) → Result T Refusal → Type 0
  Refuses old new (Ok made) = NoneRefused faults too_long last_refused old new
  Refuses old new (Err (refusal.Faulty status name fault)) = NoneRefused faults too_long last_refused old new
  Refuses old new (Err (refusal.Unread name why)) =
      RefusedFetch faults too_long last_refused fetched old new name.now why
  Refuses old new (Err refusal.Unwritten) = NoneRefused faults too_long last_refused old new
  Refuses old new (Err refusal.Memory) = NoneRefused faults too_long last_refused old new

  -- a step fetches the files of these names, one after another, and no others
  pub record Fetched {T : Type 0} (contents : F → Contents) (names : List (List ℕ)) (old new : F)
      (result : Result T Refusal) : Type 0 where
    pub contents_stay : contents new ≡ contents old
    pub takes : Takes names (fetched old) (fetched new) result
    pub refuses : Refuses old new result

-- what became of the output, where an order ends as it may
abbrev pub Shown : {O : Type 0} → (O → ℕ) → (O → Option (List ℕ)) → (Outcome → Type 0) → (old new : O)
    → Result Status Refusal → Type 0
Shown faults written May old new (Ok status) = WroteAnswer May status (written old) (written new)
Shown faults written May old new (Err (refusal.Faulty status name fault)) = May (refused status name.now fault)
    × (new ≡ old)
Shown faults written May old new (Err (refusal.Unread name why)) = May (unread name.now why) × (new ≡ old)
Shown faults written May old new (Err refusal.Unwritten) = StoppedWriting May (faults old) (faults new) (written old)
    (written new)
Shown faults written May old new (Err refusal.Memory) = new ≡ old

-- what became of the output to which an answer was sent
abbrev pub SentAnswer : {O : Type 0} → (O → ℕ) → (O → Option (List ℕ)) → (text : List ℕ) → (old new : O)
    → Result (Unit {0}) Refusal → Type 0
SentAnswer faults written text old new (Ok done) = written new ≡ appended (written old) text
SentAnswer faults written text old new (Err (refusal.Faulty status name fault)) = ⊥
SentAnswer faults written text old new (Err (refusal.Unread name why)) = ⊥
SentAnswer faults written text old new (Err refusal.Unwritten) = Rose (faults old) (faults new)
    × AppendsPrefix (written old) (written new) text
SentAnswer faults written text old new (Err refusal.Memory) = new ≡ old

module _ {F O : Type 0} (faults too_long : F → ℕ) (last_refused : F → Option Refused) (fetched : F → List (List ℕ))
    (contents : F → Contents)
    (out_faults : O → ℕ) (out_written : O → Option (List ℕ)) where
  -- an order on these files ended as it may
  pub record Ends (names : List (List ℕ)) (May : Outcome → Type 0) (files_old files_new : F) (out_old out_new : O)
      (result : Result Status Refusal)
      : Type 0 where
    pub contents_stay : contents files_new ≡ contents files_old
    pub fetches : FetchedInOrder names (fetched files_old) (fetched files_new)
    pub refuses : Refuses faults too_long last_refused fetched files_old files_new result
    pub shown : Shown out_faults out_written May out_old out_new result
