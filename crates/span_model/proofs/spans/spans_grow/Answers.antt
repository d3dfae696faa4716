use Rattle.span_model.proofs.Members.{spans_all, in_behind, in_front, together}
use Rattle.span_model.proofs.spans.spans_grow.Goals as goal

pub returns : goal.returns
returns g c = record { members = spans_all; behind = in_behind; in_front = in_front; together = together }
