use Rattle.std.proofs.Common.{◌≡◌, ◌^◌, drop}
use Rattle.std.specs.Prelude.{nat_le}
use Rattle.std.specs.List.{list_any}
use Rattle.usuba_phases.proofs.grids.has_wide_entry.Given as goal

abbrev pub invariant-loop-entry : goal.invariant-loop-entry
invariant-loop-entry l =
    list_any (nat_le (2 ^ l.outputs)) (drop l.entry-index l.entries) ≡ list_any (nat_le (2 ^ l.outputs)) l.entries
