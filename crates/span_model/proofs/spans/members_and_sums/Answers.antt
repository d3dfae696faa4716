use Rattle.span_model.proofs.Members.{empty_in, all_in, in_sum}
use Rattle.span_model.proofs.spans.members_and_sums.Goals as goal

pub returns : goal.returns
returns g c = record { empty_set = empty_in; rows = all_in; sums = in_sum }
