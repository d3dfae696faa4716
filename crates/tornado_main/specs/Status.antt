-- How a run of the program ends.
use Rattle.std.specs.Prelude.{ℕ}
use Rattle.tornado_main.specs.declared.status.Status.{Status}
use Rattle.tornado_main.specs.declared.status.Status.TheVariants.{Done, Found, Usage, Source, Unread, Unwritten}
use Rattle.tornado_main.specs.declared.status.Status.TheVariants.{Memory, Values}

-- the exit status of the process
abbrev pub code : Status → ℕ
code Done = 0
code Found = 1
code Usage = 2
code Source = 3
code Unread = 4
code Unwritten = 5
code Memory = 6
code Values = 7
