use Rattle.std.proofs.Common.{sym, ap, ◌∙◌}
use Rattle.usuba_model.specs.Entries.{name_place}
use Rattle.usuba_phases.proofs.Entering.{name_place-some, name_place-none}
use Rattle.usuba_phases.proofs.widths.place_of_name.Goals as goal

pub returns-in-Some : goal.returns-in-Some
returns-in-Some c =
    ap (λ w. w.place) c.name_of.ensures
    ∙ sym (name_place-some c.as_slice.result.now c.args.at c.in-Some.definition.now c.in-Some.ensures.lookup.3.0
    c.in-Some.ensures.lookup.1)
    ∙ ap (λ ds. name_place ds c.args.at) c.as_slice.ensures

pub returns-in-None : goal.returns-in-None
returns-in-None c =
    sym (name_place-none c.as_slice.result.now c.args.at c.in-None.ensures.lookup.3)
    ∙ ap (λ ds. name_place ds c.args.at) c.as_slice.ensures
