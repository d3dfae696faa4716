use Rattle.linear_view.proofs.ViewLemmas.{core_view_size}
use Rattle.linear_view.proofs.laws.core_view_size.Goals as goal

pub returns : goal.returns
returns c = core_view_size
