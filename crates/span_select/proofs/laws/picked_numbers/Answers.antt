use Rattle.span_select.proofs.Numbers.{numbers_rising, numbers_within, rows_of_numbers}
use Rattle.span_select.proofs.laws.picked_numbers.Goals as goal

pub returns : goal.returns
returns g c = record { rising = numbers_rising; within = numbers_within; rows = rows_of_numbers }
