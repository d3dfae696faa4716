use Rattle.usuba0.proofs.KeepLemmas.{input_named}
use Rattle.usuba0.proofs.builder.CoreBuilder.input.Goals as goal

pub returns-clause-term : goal.returns-clause-term
returns-clause-term c =
    let below = rw (← c.self.view_is) at c.requires in
    rw (← c.self.view_is) (input_named c.self.inside.inputs c.self.inside.heads.keys c.args.k below)
