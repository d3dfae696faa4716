use Rattle.data_text.proofs.LawLemmas as law
use Rattle.data_text.proofs.laws.known_cases.Goals as goal

pub returns : goal.returns
returns c = record {
  blanks = law.blanks;
  no_number = law.no_number;
  first_fault = law.first_fault;
  no_digit = law.no_digit;
  left_over = law.left_over;
  small_run = law.small_run;
  many_shares = law.many_shares;
  few_shares = law.few_shares;
}
