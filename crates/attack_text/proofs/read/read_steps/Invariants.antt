use Rattle.std.proofs.Common.{◌≡◌, List, Bool, length}
use Rattle.attack_text.specs.Parts.{rest_of}
use Rattle.attack_text.specs.Reading.{with_leak, with_steps}
use Rattle.attack_text.proofs.read.read_steps.Given as goal

abbrev pub invariant-loop-index : goal.invariant-loop-index
invariant-loop-index l =
    record {
      so_far : (leak : List Bool) → rest_of l.view (with_leak leak) l.fn.lines ≡ rest_of l.view (with_steps leak l.count l.steps) l.lines;
      counted : length l.steps ≡ l.index;
    }
