-- What a function answers that reads words.
use Rattle.std.specs.Prelude.{◌≡◌, Option, Some, None, Result, MatchResult}
use Rattle.tornado_words.specs.declared.order.WordFault.{WordFault}
use Rattle.tornado_words.specs.declared.order.WordFault.TheVariants.{Usage}

-- what a value shows is what the words give, and `Usage` comes only where they give nothing;
-- want of memory may come at any time
abbrev pub AnswersBy : {T V : Type 0} → (T → V) → Option V → Result T WordFault → Type 0
AnswersBy shown given result =
    MatchResult result (λ value. given ≡ Some (shown value)) (λ fault. fault ≡ Usage → given ≡ None)

-- the same of a value that shows itself
abbrev pub Answers : {T : Type 0} → Option T → Result T WordFault → Type 0
Answers = AnswersBy (λ value. value)
