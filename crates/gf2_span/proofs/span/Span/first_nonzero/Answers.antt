use Rattle.std.proofs.Common.{◌≡◌}
use Rattle.std.specs.Option.{option_copied}
use Rattle.std.specs.List.{slice_get}
use Rattle.gf2_span.proofs.Reducing.{nonzero_first}
use Rattle.gf2_span.proofs.span.Span.first_nonzero.Goals as goal

pub returns : goal.returns
returns c =
    let e : option_copied c.first.result ≡ slice_get c.self.inside.rows.items 0 = rw (← c.deref.ensures.value) c.first.ensures.value in
    rw (← c.self.view_is) (nonzero_first c.self.inside.columns c.self.inside.rows.items c.self.inside.leads.items c.first.result c.self.invariant e)
