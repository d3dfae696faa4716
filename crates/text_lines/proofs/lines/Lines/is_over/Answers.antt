use Rattle.std.proofs.Common.{ap}
use Rattle.text_lines.specs.Lines.{LinesLeft}
use Rattle.text_lines.proofs.LineLemmas.{over_decides}
use Rattle.text_lines.proofs.lines.Lines.is_over.Goals as goal

pub returns : goal.returns
returns c = over_decides c.self.inside.rest.now _ _ (ap (λ (left : LinesLeft). left.lines) c.self.view_is) c.is_empty.ensures
