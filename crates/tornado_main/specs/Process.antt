-- How the process ends.
use Rattle.std.specs.Prelude.{◌≡◌, ◌≢◌, ◌⊎◌, ℕ, List, Option}
use Rattle.std.specs.IoError.{error_kind}
use Rattle.std.specs.declared.io.Error.{Error}
use Rattle.std.specs.declared.io.ErrorKind.TheVariants.{OutOfMemory}
use Rattle.tor_edge.specs.declared.files.Refusal.{Refusal as Refused}
use Rattle.tornado_main.specs.Files.{Contents}
use Rattle.tornado_main.specs.Message.{run_message}
use Rattle.tornado_main.specs.Run.{Sent, IsRun}
use Rattle.tornado_main.specs.Status.{code}
use Rattle.tornado_main.specs.declared.message.Complaint.TheVariants as complaint
use Rattle.tornado_main.specs.declared.process.LostWords.{LostWords}
use Rattle.tornado_main.specs.declared.process.LostWords.TheVariants as lost
use Rattle.tornado_main.specs.declared.status.Status.{Status}
use Rattle.tornado_main.specs.declared.status.Status.TheVariants.{Usage, Memory}

-- the status with which a run ends whose words could not be had, and the line that tells it
abbrev pub lost_status : LostWords → Status
lost_status lost.NotText = Usage
lost_status lost.Memory = Memory

-- what is said where the words could not be had
abbrev pub lost_message : LostWords → List ℕ
lost_message lost.NotText = run_message complaint.BadCommandLine
lost_message lost.Memory = run_message complaint.OutOfMemory

-- why the words could not be had where the system gave this error: memory was wanting where it says so, and else a
-- word is no text
pub record IsReason (error : Error) (why : LostWords) : Type 0 where
  pub memory : error_kind error ≡ OutOfMemory → why ≡ lost.Memory
  pub not_text : error_kind error ≢ OutOfMemory → why ≡ lost.NotText

-- the words could not be had, and that was told, while neither files nor output were touched; the process ends with
-- the code of its status
pub record EndsWithoutWords {F O E : Type 0} (err_faults : E → ℕ) (err_written : E → Option (List ℕ))
    (files_old files_new : F) (out_old out_new : O)
    (err_old err_new : E) (why : LostWords) (exit_code : ℕ) : Type 0 where
  pub ends_with : exit_code ≡ code (lost_status why)
  pub told : Sent err_faults err_written err_old err_new (lost_message why)
  pub files_alone : files_new ≡ files_old
  pub output_alone : out_new ≡ out_old

-- the process ends with the code of a run on these words, or memory for them was wanting
abbrev pub EndsRun : {F O E : Type 0} → (faults too_long : F → ℕ) → (F → Option Refused)
    → (fetched : F → List (List ℕ)) → (O → ℕ) → (O → Option (List ℕ))
    → (E → ℕ) → (E → Option (List ℕ)) → (F → Contents) → List (List ℕ) → (files_old files_new : F)
    → (out_old out_new : O) → (err_old err_new : E) → (exit_code : ℕ)
    → Type 0
EndsRun faults too_long last_refused fetched out_faults out_written err_faults err_written contents words files_old
    files_new out_old out_new err_old err_new exit_code =
    ((status : Status) × (exit_code ≡ code status)
    × IsRun faults too_long last_refused fetched out_faults out_written err_faults err_written contents words
    files_old files_new out_old out_new err_old err_new status)
    ⊎ EndsWithoutWords err_faults err_written files_old files_new out_old out_new err_old err_new lost.Memory exit_code
