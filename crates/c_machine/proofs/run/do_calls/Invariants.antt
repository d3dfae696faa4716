use Rattle.std.proofs.Common.{◌≡◌, drop}
use Rattle.c_machine.specs.Run.{calls_done}
use Rattle.c_machine.specs.State.Answers.{state_of}
use Rattle.c_machine.proofs.run.do_calls.Given as goal

abbrev pub invariant-loop-k : goal.invariant-loop-k
invariant-loop-k l =
    calls_done l.size.shares l.file l.k (drop l.k l.file.calls) (state_of l.machine).memory (state_of l.machine).stream
    ≡ calls_done l.size.shares l.file 0 l.file.calls (state_of l.fn.machine).memory (state_of l.fn.machine).stream
