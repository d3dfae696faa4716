use Rattle.span_model.proofs.Ranks.{independent_at_most, same_length, one_rank, independent_in_front, independent_behind, free_independent}
use Rattle.span_model.proofs.spans.rank_is_length.Goals as goal

pub returns : goal.returns
returns g c = record {
  at_most = independent_at_most;
  same = same_length;
  one_rank = one_rank;
  in_front = independent_in_front;
  behind = independent_behind;
  empty_list = free_independent _ tt;
}
