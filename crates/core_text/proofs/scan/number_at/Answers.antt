use Rattle.std.proofs.Common.{◌≡◌, ℕ, List, ◌+◌, ◌-◌, ◌++◌, ◌∷◌, true, get_or, drop, refl, sym, ap, ◌∙◌, subst, arith, decimal}
use Rattle.std.specs.Char.{is_ascii_digit}
use Rattle.std.specs.Option.{IfSome}
use Rattle.std.proofs.lemmas.List.{drop_more}
use Rattle.core_text.proofs.DigitLemmas.{one_digit}
use Rattle.core_text.proofs.scan.number_at.Goals as goal

pub returns-then-first-eq48-clause-text : goal.returns-then-first-eq48-clause-text
returns-then-first-eq48-clause-text c =
    let first : get_or c.args.bytes.now c.args.at 0 ≡ 48 = grind arith in
    drop_more c.args.bytes.now c.args.at 0 c.requires.at
    ∙ ap (λ (digit : ℕ). digit ∷ drop (c.args.at + 1) c.args.bytes.now) first
    ∙ one_digit 48 0 (drop (c.args.at + 1) c.args.bytes.now) refl refl

pub returns-then-is_ascii_digit-clause-text : goal.returns-then-is_ascii_digit-clause-text
returns-then-is_ascii_digit-clause-text c =
    let bytes = c.args.bytes.now in
    let first : ℕ = get_or bytes c.args.at 0 in
    let is : is_ascii_digit first ≡ true = grind arith in
    let value : c.from.result ≡ first - 48 = grind arith in
    let text = drop_more bytes c.args.at 0 c.requires.at ∙ one_digit first c.from.result (drop (c.args.at + 1) bytes) is value in
    subst (λ (front : List ℕ). IfSome c.with_digits.result (λ read. front ≡ decimal read.0 ++ drop read.1 bytes)) (sym text) c.with_digits.ensures.text
