use Rattle.std.proofs.Common.{◌≡◌, List, ℕ, [], ◌∷◌, ap, sym, ◌∙◌, rules}
use Rattle.core_text.specs.Forms.{gate_form}
use Rattle.core_text.specs.Parts.{kept_gate, answer_kept}
use Rattle.core_text.specs.Ranges.{is_gate}
use Rattle.core_text.specs.Reading.{said_in_range}
use Rattle.core_text.proofs.right_side.right_side.Goals as goal

pub returns-in_default : goal.returns-in_default
returns-in_default c =
    let words : c.args.words ≡ c.in_ok-name.name.now ∷ c.in_ok-first.first.now ∷ [] = search rules in
    c.one_operand.ensures ∙ ap (λ (ws : List (List ℕ)). answer_kept kept_gate (said_in_range c.args.line (gate_form ws) (is_gate c.args.width c.args.next))) (sym words)
