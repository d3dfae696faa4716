use Rattle.std.proofs.Common.{◌≡◌, ℕ, ◌^◌, ◌-◌, min, drop}
use Rattle.std.specs.List.{list_any}
use Rattle.usuba_model.specs.Entries.{is_no_input}
use Rattle.usuba_phases.proofs.grids.has_outside.Given as goal

abbrev pub invariant-loop-entry : goal.invariant-loop-entry
invariant-loop-entry l = (count : ℕ) → l.inputs ≡ min count (2 ^ 64 - 1)
    → list_any (is_no_input count) (drop l.entry-index l.entries) ≡ list_any (is_no_input count) l.entries
