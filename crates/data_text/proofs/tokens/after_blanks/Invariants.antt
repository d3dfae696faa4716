use Rattle.std.proofs.Common.{◌≡◌, ◌+◌, ◌≤◌, length}
use Rattle.data_text.specs.Tokens.{tokens_from, line_past}
use Rattle.data_text.proofs.tokens.after_blanks.Given as goal

abbrev pub invariant-loop-rest : goal.invariant-loop-rest
invariant-loop-rest l =
    record {
      tokens : tokens_from l.line l.rest ≡ tokens_from l.fn.line l.fn.bytes;
      end : line_past l.line l.rest ≡ line_past l.fn.line l.fn.bytes;
      room : l.line + length l.rest ≤ l.fn.line + length l.fn.bytes;
    }

abbrev pub decreases-loop-rest : goal.decreases-loop-rest
decreases-loop-rest l = length l.rest
