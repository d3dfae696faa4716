use Rattle.std.proofs.Common.{length, ap, arith}
use Rattle.std.specs.Option.{option_map}
use Rattle.usuba_phases.proofs.Entering.{entry-end, entry-within}
use Rattle.usuba_phases.proofs.entries.entry_of.Goals as goal

pub returns-clause-within : goal.returns-clause-within
returns-clause-within c =
    entry-within (option_map (λ name. name.now) c.args.asked) c.args.file.now.defs c.loop-index.entry
    (entry-end (option_map (λ name. name.now) c.args.asked) c.args.file.now.defs c.loop-index.index c.loop-index.entry _
    (omega (arith, ap length c.as_slice-definition-items.ensures)) c.loop-index.invariant)
