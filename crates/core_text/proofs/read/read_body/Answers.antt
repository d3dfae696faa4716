use Rattle.std.proofs.Common.{◌≡◌, ◌+◌, ◌∷◌, [], ℕ, length, Option, Some, Err, true, MatchOption, ap, sym, ◌∙◌, subst, arith}
use Rattle.core_text.specs.declared.fault.CoreFault.TheVariants as fault
use Rattle.core_text.specs.Forms.{is_outputs}
use Rattle.core_text.specs.Parts.{rest_of, answer_kept, kept_body, after_equations, TakesEquation, AreOutputsDue}
use Rattle.core_text.specs.Reading.{body_from}
use Rattle.text_lines.specs.Lines.{LinesLeft}
use Rattle.usuba0.specs.declared.circuit.Gate.{Gate}
use Rattle.core_text.proofs.BodyLemmas.{one_taken, at_outputs, left_over, whole, tells_outputs}
use Rattle.core_text.proofs.read.read_body.Goals.{In_ok-line}
use Rattle.core_text.proofs.read.read_body.Goals as goal

abbrev Said : ℕ → ℕ → LinesLeft → LinesLeft → Option Gate → Type 0
Said w n before after said = MatchOption said ((after ≡ before) × AreOutputsDue before) (λ gate. TakesEquation w n gate before after)

pub loop-equations-preserved : goal.loop-equations-preserved
loop-equations-preserved c =
    let taken : TakesEquation c.args.width c.loop-equations.next c.in-Some.gate c.loop-equations.lines c.next_equation.new.lines =
    subst (Said c.args.width c.loop-equations.next c.loop-equations.lines c.next_equation.new.lines) c.in-Some.is c.in_ok-gate.ensures in
    let longer : length c.loop-equations.lines.lines ≡ length c.next_equation.new.lines.lines + 1 = ap length taken.1 ∙ omega arith in
    record {
      so_far =
          c.loop-equations.invariant.so_far
          ∙ one_taken c.args.width c.loop-equations.next c.in-Some.gate c.loop-equations.lines c.next_equation.new.lines c.loop-equations.equations.items c.push.new.self.items taken
          c.in_ok-push.ensures.items
          ∙ c.in_ok-next-2.ensures.taken c.args.width c.requires.width;
      room = omega (arith, c.loop-equations.invariant.room, longer, c.in_ok-next-2.ensures.fewer.1);
    }

taken_outputs : (c : In_ok-line) → (is_outputs c.in_ok-line.words ≡ true)
    × (answer_kept kept_body (rest_of c.args.width c.args.inputs c.args.lines.now)
    ≡ after_equations c.loop-equations.equations.items
    (answer_kept kept_body (body_from c.args.width c.loop-equations.next c.in_ok-line.line (Some c.in_ok-line.words ∷ c.due_line.new.lines.lines))))
taken_outputs c =
    let done : (c.next_equation.new.lines ≡ c.loop-equations.lines) × AreOutputsDue c.loop-equations.lines =
    subst (Said c.args.width c.loop-equations.next c.loop-equations.lines c.next_equation.new.lines) c.in_default.is c.in_ok-gate.ensures in
    at_outputs c.args.width c.loop-equations.next c.in_ok-line.line c.loop-equations.lines c.next_equation.new.lines c.in_ok-line.words c.due_line.new.lines.lines c.loop-equations.equations.items _
    done c.in_ok-line.ensures.1 c.in_ok-line.ensures.0 c.loop-equations.invariant.so_far

pub returns-in_err-outputs : goal.returns-in_err-outputs
returns-in_err-outputs c =
    let at = taken_outputs (goal.at.returns-in_err-outputs c).In_ok-line in
    tells_outputs _ _ c.from_residual-in_err-outputs.result c.outputs_line.result c.in_err-outputs.field-0.0 c.args.width c.loop-equations.next c.in_ok-line.line c.in_ok-line.words
    c.due_line.new.lines.lines c.loop-equations.equations.items _ c.from_residual-in_err-outputs.ensures.1 c.in_err-outputs.was at.0 c.outputs_line.ensures at.1

pub returns-then-not-is_over : goal.returns-then-not-is_over
returns-then-not-is_over c =
    let at = taken_outputs (goal.at.returns-then-not-is_over c).In_ok-line in
    let more : c.due_line.new.lines.lines ≡ [] → ⊥ = λ e. let on : c.is_over.result ≡ true = c.is_over.ensures.1 e in grind arith in
    at.1
    ∙ left_over c.args.width c.loop-equations.next c.in_ok-line.line c.in_ok-line.words c.due_line.new.lines.lines c.loop-equations.equations.items c.in_ok-outputs.outputs.items at.0
    c.in_ok-outputs.ensures more
    ∙ ap (λ (m : ℕ). Err (fault.Syntax m)) (sym (c.number.ensures ∙ c.in_ok-line.ensures.2))

pub returns : goal.returns
returns c =
    let at = taken_outputs (goal.at.returns c).In_ok-line in
    let over : c.due_line.new.lines.lines ≡ [] = let on : c.is_over.result ≡ true = grind arith in c.is_over.ensures.0 on in
    at.1
    ∙ whole c.args.width c.loop-equations.next c.in_ok-line.line c.in_ok-line.words c.due_line.new.lines.lines c.loop-equations.equations.items c.in_ok-outputs.outputs.items at.0
    c.in_ok-outputs.ensures over
