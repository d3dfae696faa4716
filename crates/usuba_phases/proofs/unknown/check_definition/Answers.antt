use Rattle.std.proofs.Common.{ap}
use Rattle.std.specs.Prelude.{map}
use Rattle.usuba_phases.specs.State.Names.{names_in}
use Rattle.usuba_phases.proofs.PerDefinition.{unknown_own-is}
use Rattle.usuba_phases.proofs.unknown.check_definition.Goals as goal

pub returns : goal.returns
returns c =
    unknown_own-is (names_in c.args.defined.now) (names_in c.new-declared.result) (names_in c.note_declared.new.names)
    c.args.definition.now
    c.check_body.result (ap (map (λ key. key.now)) c.new-declared.ensures.empty) c.in_ok-_repeated.ensures.noted
    c.check_body.ensures
