use Rattle.std.proofs.Common.{◌≡◌, ◌+◌, drop, length, vec_len}
use Rattle.usuba0.specs.PlainRun.{run_equations}
use Rattle.usuba0.proofs.run.run_equations.Given as goal

abbrev pub invariant-loop-gate : goal.invariant-loop-gate
invariant-loop-gate l =
    record {
      same : run_equations l.width l.bits l.words.items (drop l.gate-index l.equations) ≡ run_equations l.width l.bits l.inputs l.equations;
      many : vec_len l.words ≡ length l.inputs + l.gate-index;
    }
