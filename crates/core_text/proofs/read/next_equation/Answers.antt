use Rattle.std.proofs.Common.{◌≡◌, ◌∷◌, Some, Err, true, false, refl, ap, sym, ◌∙◌, arith}
use Rattle.core_text.specs.Forms.{is_outputs}
use Rattle.core_text.specs.Parts.{rest_of, answer_kept, kept_body}
use Rattle.core_text.proofs.BodyLemmas.{line_due, wrong_equation, fault_handed_on}
use Rattle.text_lines.specs.Lines.{LinesLeft}
use Rattle.core_text.proofs.read.next_equation.Goals as goal

pub returns-then-is_outputs : goal.returns-then-is_outputs
returns-then-is_outputs c =
    let first : c.args.lines.now.lines ≡ Some c.in_ok-line.words ∷ c.due_line.new.lines.lines =
    sym (ap (λ (left : LinesLeft). left.lines) c.copy-later.ensures) ∙ c.in_ok-line.ensures.1 in
    let last : is_outputs c.in_ok-line.words ≡ true = grind arith in
    (refl, (c.in_ok-line.words, c.due_line.new.lines.lines, first, last))

pub returns-in_err-gate : goal.returns-in_err-gate
returns-in_err-gate c =
    let same : c.copy-later.result ≡ c.args.lines.now = c.copy-later.ensures in
    let other : is_outputs c.in_ok-line.words ≡ false = grind arith in
    let told : answer_kept kept_body (rest_of c.args.width c.args.next c.args.lines.now) ≡ Err c.in_err-gate.field-0.0 =
    ap (λ (left : LinesLeft). answer_kept kept_body (rest_of c.args.width c.args.next left)) (sym same)
    ∙ ap (answer_kept kept_body) (line_due c.args.width c.args.next c.in_ok-line.line c.copy-later.result c.in_ok-line.words c.due_line.new.lines.lines c.in_ok-line.ensures.1 c.in_ok-line.ensures.0)
    ∙ wrong_equation c.args.width c.args.next c.in_ok-line.line c.in_ok-line.words c.due_line.new.lines.lines c.in_err-gate.field-0.0 other
    (sym c.in_err-gate.was ∙ c.equation_line.ensures) in
    fault_handed_on c.from_residual-in_err-gate.result c.in_err-gate.field-0.0 _ (λ wrong. answer_kept kept_body (rest_of c.args.width c.args.next c.args.lines.now) ≡ Err wrong)
    c.from_residual-in_err-gate.ensures.1 told
