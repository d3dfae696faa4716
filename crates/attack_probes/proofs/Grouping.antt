-- Operands that are put to their shares, probe by probe.
use Rattle.std.proofs.Common.{◌≡◌, ◌≤◌, ◌+◌, ℕ, List, [], length, take, get_or}
use Rattle.attack_model.specs.declared.attack.Probe.{Probe}
use Rattle.linear_view.specs.declared.operand.Operand.{Operand}
use Rattle.attack_probes.specs.Operands.{operands_at}

-- the operands of the first so many probes are at their shares
pub record AreGrouped (probes : List Probe) (index : ℕ) (shares : List (List Operand)) : Type 0 where
  pub many : length shares ≡ length probes + 1
  pub at : (s : ℕ) → s ≤ length probes → get_or shares s [] ≡ operands_at (take index probes) s
