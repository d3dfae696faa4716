use Rattle.std.proofs.Common.{◌≡◌, ◌+◌, ◌≤◌, ◌^◌, length}
use Rattle.core_text.specs.Parts.{rest_of, answer_kept, kept_body, after_equations}
use Rattle.core_text.proofs.read.read_body.Given as goal

abbrev pub invariant-loop-equations : goal.invariant-loop-equations
invariant-loop-equations l =
    record {
      so_far : answer_kept kept_body (rest_of l.width l.inputs l.fn.lines) ≡ after_equations l.equations.items (answer_kept kept_body (rest_of l.width l.next l.lines));
      room : l.next + length l.lines.lines ≤ 2 ^ 33;
    }

abbrev pub decreases-loop-equations : goal.decreases-loop-equations
decreases-loop-equations l = length l.lines.lines
