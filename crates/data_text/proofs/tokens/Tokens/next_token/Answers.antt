use Rattle.std.proofs.Common.{ap, sym, ◌∙◌}
use Rattle.data_text.specs.Tokens.{TokensLeft}
use Rattle.data_text.proofs.TokenLemmas.{first_past, no_word, no_word_left, some_word}
use Rattle.data_text.proofs.tokens.Tokens.next_token.Goals as goal

pub returns-clause-token : goal.returns-clause-token
returns-clause-token c =
    sym (ap (λ (left : TokensLeft). left.tokens) c.self.view_is)
    ∙ sym c.after_blanks-line.ensures.tokens
    ∙ some_word c.after_blanks-line.result.0 c.after_blanks-line.result.1.now c.first_word.result.0.now c.first_word.result.1.now c.first_word.ensures
    (sym c.is_empty.ensures ∙ c.if-is_empty.false)

pub returns-clause-end : goal.returns-clause-end
returns-clause-end c =
    sym (first_past c.after_blanks-line.result.0 c.after_blanks-line.result.1.now c.first_word.result.0.now c.first_word.result.1.now c.first_word.ensures)
    ∙ c.after_blanks-line.ensures.end
    ∙ ap (λ (left : TokensLeft). left.end) c.self.view_is

pub returns-then-is_empty-clause-token : goal.returns-then-is_empty-clause-token
returns-then-is_empty-clause-token c =
    let none = sym c.is_empty.ensures ∙ c.if-is_empty.true in (
      sym (ap (λ (left : TokensLeft). left.tokens) c.self.view_is)
          ∙ sym c.after_blanks-line.ensures.tokens
          ∙ no_word c.after_blanks-line.result.0 c.after_blanks-line.result.1.now c.first_word.result.0.now c.first_word.result.1.now c.after_blanks-line.ensures.begun c.first_word.ensures none,
      no_word_left c.after_blanks-line.result.0 c.after_blanks-line.result.1.now c.first_word.result.0.now c.first_word.result.1.now c.after_blanks-line.ensures.begun c.first_word.ensures none,
    )
