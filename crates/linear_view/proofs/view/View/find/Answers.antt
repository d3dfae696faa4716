use Rattle.linear_view.proofs.NameLemmas.{place_found, place_none}
use Rattle.linear_view.proofs.view.View.find.Goals as goal

pub returns-in_err-at : goal.returns-in_err-at
returns-in_err-at c =
    rw (c.from_residual.ensures, ← c.self.view_is) (λ k there. place_none c.self.inside.columns.keys c.args.column c.in_err-at.ensures.found k there)

pub returns : goal.returns
returns c = rw (← c.self.view_is) (place_found c.self.inside.columns.keys c.args.column c.in_ok-at.at c.in_ok-at.ensures.index)
