use Rattle.span_select.proofs.Choosing.{one_least, selection_within}
use Rattle.span_select.proofs.laws.least_selections.Goals as goal

pub returns : goal.returns
returns g c = record { one = one_least; less = selection_within }
