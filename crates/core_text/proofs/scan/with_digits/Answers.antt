use Rattle.std.proofs.Common.{◌≡◌, ℕ, ◌+◌, ◌-◌, ◌*◌, ◌<◌, ◌++◌, List, true, get_or, drop, length, refl, ap, ◌∙◌, arith, decimal}
use Rattle.std.specs.Char.{is_ascii_digit}
use Rattle.std.proofs.lemmas.List.{drop_more}
use Rattle.core_text.proofs.DigitLemmas.{digit_inside, more_digits}
use Rattle.core_text.proofs.scan.with_digits.Goals as goal

pub loop-value-preserved : goal.loop-value-preserved
loop-value-preserved c =
    let bytes = c.args.bytes.now in
    let end = c.loop-value.end in
    let value = c.loop-value.value in
    let digit : ℕ = get_or bytes end 0 in
    let is : is_ascii_digit digit ≡ true = grind arith in
    let more : ℕ = value * 10 + c.from.result in
    let one_more : more ≡ value * 10 + (digit - 48) = grind arith in
    record {
      some = omega (arith, c.loop-value.invariant.some);
      small = omega (arith, c.if-value.false);
      within = digit_inside bytes end c.requires.ends c.loop-value.invariant.within is;
      text =
          c.loop-value.invariant.text
          ∙ ap (λ (rest : List ℕ). decimal value ++ rest) (drop_more bytes end 0 c.loop-value.invariant.within)
          ∙ more_digits value digit more (drop (end + 1) bytes) c.loop-value.invariant.some c.loop-value.invariant.small is one_more;
    }
