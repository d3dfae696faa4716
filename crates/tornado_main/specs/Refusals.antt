-- The status and the message of a refusal. This stands between the functions of the program alone.
use Rattle.std.specs.Prelude.{ℕ, List}
use Rattle.tornado_main.specs.Message.{run_message, file_message, unread_message}
use Rattle.tornado_main.specs.declared.message.Complaint.TheVariants as complaint
use Rattle.tornado_main.specs.declared.refusal.Refusal.{Refusal}
use Rattle.tornado_main.specs.declared.refusal.Refusal.TheVariants as refusal
use Rattle.tornado_main.specs.declared.status.Status.{Status}
use Rattle.tornado_main.specs.declared.status.Status.TheVariants as status

-- the status with which a run ends that is refused so
abbrev pub status_of : Refusal → Status
status_of (refusal.Faulty ends_with name fault) = ends_with
status_of (refusal.Unread name why) = status.Unread
status_of refusal.Unwritten = status.Unwritten
status_of refusal.Memory = status.Memory

-- the line that tells it
abbrev pub message_of : Refusal → List ℕ
message_of (refusal.Faulty ends_with name fault) = file_message name.now fault
message_of (refusal.Unread name why) = unread_message name.now why
message_of refusal.Unwritten = run_message complaint.CannotWrite
message_of refusal.Memory = run_message complaint.OutOfMemory
