use Rattle.std.proofs.Common.{◌≡◌, true, false, eqb, sym, ◌∙◌, arith, rules}
use Rattle.core_text.specs.Forms.{equation_form, with_gate, register_of, gate_form}
use Rattle.core_text.proofs.LineLemmas.{wrong_line, other_line, right_line, handed_on}
use Rattle.core_text.proofs.line.equation_line.Goals as goal

pub returns-in_err-gate : goal.returns-in_err-gate
returns-in_err-gate c =
    let form : equation_form c.args.words ≡ with_gate (register_of c.in_ok-left.left.now) (gate_form c.left_side.new.words) = search rules in
    handed_on c.from_residual-in_err-gate.result c.in_err-gate.field-0.0 c.from_residual-in_err-gate.ensures.1
    ∙ wrong_line c.args.width c.args.next c.args.line c.args.words c.in_ok-left.left.now c.left_side.new.words c.in_err-gate.field-0.0 form
    (sym (c.in_err-gate.was) ∙ c.right_side.ensures)

pub returns-then-not-is_next : goal.returns-then-not-is_next
returns-then-not-is_next c =
    let form : equation_form c.args.words ≡ with_gate (register_of c.in_ok-left.left.now) (gate_form c.left_side.new.words) = search rules in
    let off : eqb (register_of c.in_ok-left.left.now).0 c.args.next ≡ false = grind arith in
    other_line c.args.width c.args.next c.args.line c.args.words c.in_ok-left.left.now c.left_side.new.words c.in_ok-gate.gate form off
    (sym (c.in_ok-gate.was) ∙ c.right_side.ensures)

pub returns : goal.returns
returns c =
    let form : equation_form c.args.words ≡ with_gate (register_of c.in_ok-left.left.now) (gate_form c.left_side.new.words) = search rules in
    let at : eqb (register_of c.in_ok-left.left.now).0 c.args.next ≡ true = grind arith in
    right_line c.args.width c.args.next c.args.line c.args.words c.in_ok-left.left.now c.left_side.new.words c.in_ok-gate.gate form at
    (sym (c.in_ok-gate.was) ∙ c.right_side.ensures)
