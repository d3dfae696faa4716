use Rattle.std.proofs.Common.{refl}
use Rattle.text_lines.proofs.SpelledLemmas.{number_word}
use Rattle.text_lines.proofs.WrittenLemmas.{value_of_decimal, is_number_decimal, is_plain_decimal}
use Rattle.text_lines.specs.Numbers.{value_of}
use Rattle.text_lines.proofs.laws.numbers_read_back.Goals as goal

pub returns-clause-read : goal.returns-clause-read
returns-clause-read c = λ n h. (is_plain_decimal n h, is_number_decimal n h, value_of_decimal n h)

pub returns-clause-written : goal.returns-clause-written
returns-clause-written c = λ word h small. number_word word (value_of word) h refl small
