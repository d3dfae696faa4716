-- What the outcomes of an order have in common.
use Rattle.std.specs.Prelude.{◌≡◌, ◌⊎◌, ℕ, List, [], ◌∷◌, Option, Some}
use Rattle.usuba0.specs.Circuit.{Circuit}
use Rattle.linear_view.specs.View.{LinearView}
use Rattle.attack_model.specs.declared.attack.Attack.{Attack}
use Rattle.c_tree.specs.declared.CFile.{CFile}
use Rattle.data_text.specs.declared.read.RunValues.{RunValues}
use Rattle.tornado_words.specs.Ranges.{HasFitWidth, IsInRange}
use Rattle.tornado_words.specs.declared.order.Basis.{Basis}
use Rattle.tornado_main.specs.Bases.{Holds, IsFaulty}
use Rattle.tornado_main.specs.Files.{Contents, IsFetched}
use Rattle.tornado_main.specs.Orders.{OrderEnds}
use Rattle.tornado_main.specs.Outcome.{Outcome, answers, refused, unread}
use Rattle.tornado_main.specs.Words.{files_of}
use Rattle.tornado_main.specs.commands.Eval.{SaysInputs, IsFaultyInputs}
use Rattle.tornado_main.specs.commands.Run.{IsCFile, IsFaultyCFile, SaysRun, IsFaultyRun}
use Rattle.tornado_main.specs.commands.Verify.{SpellsAttack, IsFaultyAttack}
use Rattle.tornado_main.specs.declared.message.Fault.{Fault}
use Rattle.tornado_main.specs.declared.status.Status.{Status}
use Rattle.tornado_main.specs.declared.status.Status.TheVariants.{Done, Found, Source, Values}
use Rattle.tornado_words.specs.declared.order.Order.{Order}
use Rattle.tornado_words.specs.declared.order.Order.TheVariants as order

-- the outcome is an answer with this status or a refusal of a file with it, and no refused fetch
abbrev pub HasStatus : Status → Outcome → Type 0
HasStatus s (answers text status) = status ≡ s
HasStatus s (refused status name fault) = status ≡ s
HasStatus s (unread name why) = ⊥

-- the status is one of an answer, or one of a refused file
abbrev pub FitsOutcome : Outcome → Type 0
FitsOutcome (answers text status) = (status ≡ Done) ⊎ (status ≡ Found)
FitsOutcome (refused status name fault) = (status ≡ Source) ⊎ (status ≡ Values)
FitsOutcome (unread name why) = Unit {0}

-- over told files the contents decide the status
pub record OutcomesAgree : Type 0 where
  -- all outcomes of an order but refused fetches have one status
  pub one_status : (file : List ℕ → Option (List ℕ)) (order : Order) (end other : Outcome) (status another : Status)
      → OrderEnds (Some file) order end → OrderEnds (Some file) order other → HasStatus status end → HasStatus another other → status ≡ another
  -- answers have the status 0 or 1, and refusals of files 3 or 7
  pub statuses : (contents : Contents) (order : Order) (end : Outcome) → OrderEnds contents order end → FitsOutcome end

-- all bytes have a core within both limits or a fault, whatever they are read as
abbrev pub CoreOrFault : Type 0
CoreOrFault = (basis : Basis) → HasFitWidth basis → (bytes : List ℕ)
    → ((core : Circuit) × Holds basis core bytes) ⊎ ((fault : Fault) × IsFaulty basis fault bytes)

-- all bytes spell an attack on a view, or have a fault as one
abbrev pub AttackOrFault : Type 0
AttackOrFault = (view : LinearView) (bytes : List ℕ)
    → ((attack : Attack) × SpellsAttack view attack bytes) ⊎ ((fault : Fault) × IsFaultyAttack view fault bytes)

-- all bytes say the inputs of a core, or have a fault as these
abbrev pub InputsOrFault : Type 0
InputsOrFault = (core : Circuit) (bytes : List ℕ)
    → ((inputs : List ℕ) × SaysInputs core inputs bytes) ⊎ ((fault : Fault) × IsFaultyInputs core fault bytes)

-- all bytes are a file of C, or have a fault as one
abbrev pub CFileOrFault : Type 0
CFileOrFault = (bytes : List ℕ)
    → ((file : CFile) × IsCFile file bytes) ⊎ ((fault : Fault) × IsFaultyCFile fault bytes)

-- all bytes say the data of a run of a file, or have a fault as these
abbrev pub RunDataOrFault : Type 0
RunDataOrFault = (file : CFile) (bytes : List ℕ)
    → ((said : RunValues) × SaysRun file said bytes) ⊎ ((fault : Fault) × IsFaultyRun file fault bytes)

-- the outcome is no refused fetch
abbrev pub IsOfContents : Outcome → Type 0
IsOfContents (answers text status) = Unit {0}
IsOfContents (refused status name fault) = Unit {0}
IsOfContents (unread name why) = ⊥

-- an answer or a refusal of a file is among the outcomes
abbrev pub HasOutcome : (Outcome → Type 0) → Type 0
HasOutcome May = (end : Outcome) × May end × IsOfContents end

-- each of these files is held, and is no longer than a file may be
abbrev pub AreHeld : (List ℕ → Option (List ℕ)) → List (List ℕ) → Type 0
AreHeld file [] = Unit {0}
AreHeld file (name ∷ names) = ((bytes : List ℕ) × IsFetched (Some file) name bytes) × AreHeld file names

-- what is asked for can be computed without looking for attacks
abbrev pub IsComputed : Order → Type 0
IsComputed (order.Core file basis) = Unit {0}
IsComputed (order.Rows file basis) = Unit {0}
IsComputed (order.Check file basis) = ⊥
IsComputed (order.Verify file attack basis) = ⊥
IsComputed (order.Repair file basis) = ⊥
IsComputed (order.Eval file values basis) = Unit {0}
IsComputed (order.Trial file shares seed basis) = Unit {0}
IsComputed (order.Gen seed size) = ⊥
IsComputed (order.Compile file word basis) = ⊥
IsComputed (order.Run cfile values) = Unit {0}

-- Where the files of an order in range are held, it has an outcome that is an answer or a refusal of one of them. Where
-- attacks matter there can't be none: they are sets of columns of which the logic does not decide whether they exist.
pub record OrdersHaveOutcomes : Type 0 where
  pub computed : (file : List ℕ → Option (List ℕ)) (o : Order) → IsInRange o → AreHeld file (files_of o)
      → IsComputed o → HasOutcome (OrderEnds (Some file) o)
  pub each : (file : List ℕ → Option (List ℕ)) (o : Order) → IsInRange o → AreHeld file (files_of o)
      → ¬ ¬ HasOutcome (OrderEnds (Some file) o)
