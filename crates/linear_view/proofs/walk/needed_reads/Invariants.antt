use Rattle.std.proofs.Common.{◌≡◌, ℕ, ◌+◌, ◌≤◌, Some, IfSome, length, vec_len, get_or}
use Rattle.std.specs.List.{slice_get}
use Rattle.usuba0.specs.declared.circuit.Gate.{Gate}
use Rattle.linear_view.specs.Walk.{AreTakenLate}
use Rattle.linear_view.proofs.walk.needed_reads.Given as goal

abbrev pub invariant-loop-k : goal.invariant-loop-k
invariant-loop-k l =
    record {
      count : vec_len l.last ≡ l.inputs + length l.gates;
      late : (j : ℕ) (g : Gate) → l.k ≤ j → slice_get l.gates j ≡ Some g → AreTakenLate l.last.items (l.inputs + j) j g;
      wanted : IfSome l.fn.wanted (λ a. length l.gates ≤ get_or l.last.items a.0 0);
    }
