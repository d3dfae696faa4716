use Rattle.span_model.proofs.Members.{in_exchange}
use Rattle.span_model.proofs.spans.rows_exchange.Goals as goal

pub returns : goal.returns
returns g c = in_exchange
