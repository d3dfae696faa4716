use Rattle.span_model.proofs.SmallCases.{one_probe, repaired, secure, two_probes, share_moved, other_leak, empty_leak, two_rows, one_row, repair, no_repair, nothing_to_repair, needless_repair, second_of_two, both_of_two}
use Rattle.span_model.proofs.cases.known_cases.Goals as goal

pub returns : goal.returns
returns c = record {
  one_probe = one_probe;
  repaired = repaired;
  secure = secure;
  two_probes = two_probes;
  share_moved = share_moved;
  other_leak = other_leak;
  empty_leak = empty_leak;
  two_rows = two_rows;
  one_row = one_row;
  repair = repair;
  no_repair = no_repair;
  nothing_to_repair = nothing_to_repair;
  needless_repair = needless_repair;
  second_of_two = second_of_two;
  both_of_two = both_of_two;
}
