use Rattle.std.proofs.Common.{ℕ, Ok, Err}
use Rattle.tornado_words.proofs.NumberLemmas.{has_digit, value_parsed}
use Rattle.tornado_words.proofs.numbers.value_of.Goals as goal

pub returns-in-Ok : goal.returns-in-Ok
returns-in-Ok c =
    let parsed = value_parsed {E = ℕ} c.args.word.now (Ok c.in-Ok.number) c.requires c.in-Ok.ensures.value.0 in
    (parsed.0.1, parsed.1)

pub returns-in-Err : goal.returns-in-Err
returns-in-Err c =
    λ small. value_parsed c.args.word.now (Err c.in-Err.field-0) c.requires c.in-Err.ensures.value.0 (has_digit c.args.word.now c.requires, small)
