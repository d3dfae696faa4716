use Rattle.std.proofs.Common.{◌||◌, sym, ap, ◌∙◌}
use Rattle.usuba_model.specs.Names.{is_name_among}
use Rattle.usuba_phases.proofs.SameNames.{is_name_among-append}
use Rattle.usuba_phases.specs.State.Names.{names_in}
use Rattle.usuba_phases.specs.State.Scopes.{counters_of}
use Rattle.usuba_phases.proofs.repeated.is_taken.Goals as goal

pub returns-then-is_among : goal.returns-then-is_among
returns-then-is_among c =
    c.if-is_among.true
    ∙ sym (is_name_among-append (names_in c.args.declared.now) (counters_of c.args.scope.now) c.args.name.now
    ∙ ap (λ b. b || is_name_among (counters_of c.args.scope.now) c.args.name.now)
    (sym c.is_among.ensures ∙ c.if-is_among.true))

pub returns-else-is_among : goal.returns-else-is_among
returns-else-is_among c =
    c.is_counter.ensures
    ∙ sym (is_name_among-append (names_in c.args.declared.now) (counters_of c.args.scope.now) c.args.name.now
    ∙ ap (λ b. b || is_name_among (counters_of c.args.scope.now) c.args.name.now)
    (sym c.is_among.ensures ∙ c.if-is_among.false))
