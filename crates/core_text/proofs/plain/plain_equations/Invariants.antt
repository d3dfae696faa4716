use Rattle.std.proofs.Common.{◌≡◌, ℕ, ◌+◌, ◌-◌, ◌≤◌, drop, length}
use Rattle.core_text.specs.Parts.{TakesEquations}
use Rattle.text_lines.specs.Lines.{lines_of}
use Rattle.core_text.proofs.plain.plain_equations.Given as goal

abbrev pub invariant-loop-at : goal.invariant-loop-at
invariant-loop-at l =
    record {
      within : l.at ≤ length l.bytes;
      counted : l.number ≤ l.fn.lines.number + l.at;
      later : l.fn.next ≤ l.due;
      fewer : l.due + length (lines_of (drop l.at l.bytes)) ≡ l.fn.next + length l.fn.lines.lines;
      taken :
          (width : ℕ) → width ≤ 64
          → TakesEquations width l.fn.next l.due l.fn.equations.items l.equations.items l.fn.lines (record { lines = lines_of (drop l.at l.bytes); number = l.number });
    }

abbrev pub decreases-loop-at : goal.decreases-loop-at
decreases-loop-at l = length l.bytes - l.at
