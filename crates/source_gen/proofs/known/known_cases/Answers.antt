use Rattle.std.proofs.Common.{lit<}
use Rattle.std.proofs.lemmas.Fmt.{decimal_digit}
use Rattle.word_draws.specs.Draws.{after_draws}
use Rattle.source_gen.proofs.known.known_cases.Goals as goal

pub returns : goal.returns
unfolding after_draws
returns c =
    let zeros = decimal_digit 0 (lit< tt) in
    let ones = decimal_digit 1 (lit< tt) in
    let twos = decimal_digit 2 (lit< tt) in
    let threes = decimal_digit 3 (lit< tt) in
    let fives = decimal_digit 5 (lit< tt) in
    let sixes = decimal_digit 6 (lit< tt) in
    record { one_line = simp (zeros, ones, fives); two_lines = simp (zeros, ones, twos, threes, fives, sixes) }
