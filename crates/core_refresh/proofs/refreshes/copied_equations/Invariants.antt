use Rattle.std.proofs.Common.{◌≤◌, length}
use Rattle.core_refresh.specs.RefreshedCore.{marked}
use Rattle.core_refresh.specs.State.Copying.{IsCopied}
use Rattle.core_refresh.proofs.refreshes.copied_equations.Given as goal

abbrev pub invariant-loop-gate : goal.invariant-loop-gate
invariant-loop-gate l =
    record {
      within : l.gate-index ≤ length l.gates;
      copied : IsCopied l.core (marked l.set) l.gate-index l.copied;
    }
