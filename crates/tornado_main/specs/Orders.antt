-- How orders may end.
use Rattle.tornado_main.specs.Files.{Contents}
use Rattle.tornado_main.specs.Outcome.{Outcome}
use Rattle.tornado_main.specs.commands.Core.{CoreEnds}
use Rattle.tornado_main.specs.commands.Rows.{RowsEnds}
use Rattle.tornado_main.specs.commands.Check.{CheckEnds}
use Rattle.tornado_main.specs.commands.Verify.{VerifyEnds}
use Rattle.tornado_main.specs.commands.Repair.{RepairEnds}
use Rattle.tornado_main.specs.commands.Eval.{EvalEnds}
use Rattle.tornado_main.specs.commands.Trial.{TrialEnds}
use Rattle.tornado_main.specs.commands.Gen.{GenEnds}
use Rattle.tornado_main.specs.commands.Compile.{CompileEnds}
use Rattle.tornado_main.specs.commands.Run.{RunEnds}
use Rattle.tornado_words.specs.declared.order.Order.{Order}
use Rattle.tornado_words.specs.declared.order.Order.TheVariants as order

-- an order may end so on files of these contents
abbrev pub OrderEnds : Contents → Order → Outcome → Type 0
OrderEnds contents (order.Core file basis) = CoreEnds contents file basis
OrderEnds contents (order.Rows file basis) = RowsEnds contents file basis
OrderEnds contents (order.Check file basis) = CheckEnds contents file basis
OrderEnds contents (order.Verify file attack basis) = VerifyEnds contents file attack basis
OrderEnds contents (order.Repair file basis) = RepairEnds contents file basis
OrderEnds contents (order.Eval file values basis) = EvalEnds contents file values basis
OrderEnds contents (order.Trial file shares seed basis) = TrialEnds contents file shares seed basis
OrderEnds contents (order.Gen seed size) = GenEnds seed size
OrderEnds contents (order.Compile file word basis) = CompileEnds contents file word basis
OrderEnds contents (order.Run cfile values) = RunEnds contents cfile values
