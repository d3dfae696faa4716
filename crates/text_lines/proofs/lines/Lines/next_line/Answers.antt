use Rattle.std.proofs.Common.{ℕ, List, ◌∷◌, Some, ap, sym, ◌∙◌}
use Rattle.text_lines.specs.Lines.{LinesLeft, lines_of}
use Rattle.text_lines.proofs.LineLemmas.{lines_of_first}
use Rattle.text_lines.proofs.lines.Lines.next_line.Goals as goal

pub returns-clause-line : goal.returns-clause-line
returns-clause-line c =
    sym (ap (λ (left : LinesLeft). left.lines) c.self.view_is)
    ∙ lines_of_first c.self.inside.rest.now c.in_ok-line.line.now c.in_ok-line.rest.now c.in_ok-line.ensures.parts
    ∙ ap (λ (words : List (List ℕ)). Some words ∷ lines_of c.in_ok-line.rest.now) (sym c.new.ensures)
