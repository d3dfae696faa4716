use Rattle.std.proofs.Common.{length, arith, ◌≤◌}
use Rattle.gf2_span.proofs.Leads.{own_independent}
use Rattle.gf2_span.proofs.Reducing.{echelon_own, rank_bound}
use Rattle.span_model.specs.Columns.{sets_of}
use Rattle.gf2_span.proofs.span.Span.rank.Goals as goal

pub overflow_cast-result : goal.overflow_cast-result
overflow_cast-result c =
    let bound : length c.self.inside.rows.items ≤ c.self.inside.columns = rank_bound c.self.inside.columns c.self.inside.rows.items c.self.inside.leads.items c.self.invariant in
    record { fits = omega (arith, c.self.invariant.small, c.self.inside.rows.ok) }

pub returns-clause-independent : goal.returns-clause-independent
returns-clause-independent c =
    rw (← c.self.view_is) (own_independent (sets_of c.self.inside.rows.items) (echelon_own c.self.inside.columns c.self.inside.rows.items c.self.inside.leads.items c.self.invariant))

pub returns-clause-bound : goal.returns-clause-bound
returns-clause-bound c =
    let bound : length c.self.inside.rows.items ≤ c.self.inside.columns = rank_bound c.self.inside.columns c.self.inside.rows.items c.self.inside.leads.items c.self.invariant in
    rw (← c.self.view_is) (omega (arith, c.len.ensures, c.self.inside.rows.ok))

pub returns-clause-leads : goal.returns-clause-leads
returns-clause-leads c = rw (← c.self.view_is) (echelon_own c.self.inside.columns c.self.inside.rows.items c.self.inside.leads.items c.self.invariant)
