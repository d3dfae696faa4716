use Rattle.std.proofs.Common.{◌≡◌, drop}
use Rattle.std.specs.Option.{option_or, option_map}
use Rattle.usuba_model.specs.Entries.{entry_from, entry_of}
use Rattle.usuba_phases.proofs.entries.entry_of.Given as goal

abbrev pub invariant-loop-index : goal.invariant-loop-index
invariant-loop-index l =
    option_or (entry_from (option_map (λ name. name.now) l.asked) l.index (drop l.index l.file.defs)) l.entry
    ≡ entry_of (option_map (λ name. name.now) l.asked) l.file.defs
