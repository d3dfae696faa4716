-- The one line that tells why a run ends without its whole answer.
use Rattle.std.specs.Prelude.{ℕ, List, [], ◌++◌, codes, decimal}
use Rattle.tor_edge.specs.declared.files.Reason.{Reason}
use Rattle.tor_edge.specs.declared.files.Reason.TheVariants as reason
use Rattle.usuba_model.specs.declared.fault.FaultKind.{FaultKind}
use Rattle.usuba_model.specs.declared.fault.FaultKind.TheVariants as fault_kind
use Rattle.tornado_main.specs.declared.message.Complaint.{Complaint}
use Rattle.tornado_main.specs.declared.message.Complaint.TheVariants as complaint
use Rattle.tornado_main.specs.declared.message.Spot.{Spot}
use Rattle.tornado_main.specs.declared.message.Spot.TheVariants as spot
use Rattle.tornado_main.specs.declared.message.Fault.{Fault}

-- what is wrong with a source that was read, in words
abbrev pub kind_text : FaultKind → List ℕ
kind_text fault_kind.DuplicateName = codes "name declared twice"
kind_text fault_kind.UnknownName = codes "unknown name"
kind_text fault_kind.NoEntry = codes "no entry node"
kind_text fault_kind.MixedWidth = codes "another width"
kind_text fault_kind.NoWidth = codes "no width"
kind_text fault_kind.BadTable = codes "bad table"
kind_text fault_kind.BadPerm = codes "bad permutation"
kind_text fault_kind.ZeroDivisor = codes "division by zero"
kind_text fault_kind.IndexOut = codes "index out of range"
kind_text fault_kind.ConstTooBig = codes "constant too big"
kind_text fault_kind.ShiftTooFar = codes "shift too far"
kind_text fault_kind.SizeMismatch = codes "sizes differ"
kind_text fault_kind.TooManyOps = codes "too many operations"
kind_text fault_kind.AssignedTwice = codes "assigned twice"
kind_text fault_kind.Unassigned = codes "never assigned"
kind_text fault_kind.Cyclic = codes "cyclic equations"
kind_text fault_kind.CallsTooDeep = codes "calls too deep"

-- what is wrong, in words
abbrev pub complaint_text : Complaint → List ℕ
complaint_text complaint.BadCommandLine = codes "bad command line"
complaint_text complaint.CannotRead = codes "cannot read"
complaint_text complaint.TooLong = codes "longer than 1048576 bytes"
complaint_text complaint.CannotWrite = codes "cannot write"
complaint_text complaint.OutOfMemory = codes "out of memory"
complaint_text complaint.Syntax = codes "syntax"
complaint_text complaint.TooDeep = codes "nesting too deep"
complaint_text complaint.NumberTooBig = codes "number too big"
complaint_text (complaint.Judged kind) = kind_text kind
complaint_text complaint.CoreTooLarge = codes "core too large"
complaint_text complaint.ColumnsTooMany = codes "too many columns"
complaint_text complaint.LimitPassed = codes "limit passed"
complaint_text complaint.OutOfRange = codes "out of range"
complaint_text complaint.OtherCore = codes "another core"
complaint_text complaint.WordSize = codes "word size needs width 1"
complaint_text complaint.BadName = codes "bad name"
complaint_text complaint.IndexOut = codes "index out of range"
complaint_text complaint.BadShift = codes "bad shift"
complaint_text complaint.WordsShort = codes "random words too few"

-- where a file is at fault, behind its name: nothing of the file as a whole, a line, a line and a column, or the
-- number of a call
abbrev pub spot_text : Spot → List ℕ
spot_text spot.Whole = []
spot_text (spot.Line line) = codes ":" ++ decimal line
spot_text (spot.Place at) = codes ":" ++ decimal at.line ++ codes ":" ++ decimal at.column
spot_text (spot.Call call) = codes ": call " ++ decimal call

-- the line for a complaint about no file
abbrev pub run_message : Complaint → List ℕ
run_message what = codes "tornado: " ++ complaint_text what ++ codes "\n"

-- the line for a fault of the file of this name
abbrev pub file_message : (name : List ℕ) → Fault → List ℕ
file_message name fault =
    codes "tornado: " ++ name ++ spot_text fault.at ++ codes ": " ++ complaint_text fault.what ++ codes "\n"

-- what is said of a file that could not be fetched
abbrev pub complaint_of : Reason → Complaint
complaint_of reason.Failed = complaint.CannotRead
complaint_of reason.TooLong = complaint.TooLong

-- the line for a file that could not be fetched
abbrev pub unread_message : (name : List ℕ) → Reason → List ℕ
unread_message name why = file_message name (record { at = spot.Whole; what = complaint_of why })
