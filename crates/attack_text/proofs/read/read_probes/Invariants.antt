use Rattle.std.proofs.Common.{◌≡◌, ◌≤◌, ◌-◌, [], length}
use Rattle.attack_model.specs.declared.attack.Derivation.{Derivation}
use Rattle.attack_text.specs.Parts.{rest_of}
use Rattle.attack_text.specs.Reading.{with_probes}
use Rattle.attack_text.proofs.read.read_probes.Given as goal

abbrev pub invariant-loop-lines : goal.invariant-loop-lines
invariant-loop-lines l =
    record {
      so_far : (derivation : Derivation) → rest_of l.view (with_probes derivation l.count []) l.fn.lines ≡ rest_of l.view (with_probes derivation l.count l.probes) l.lines;
      counted : length l.probes ≤ l.count;
    }

abbrev pub decreases-loop-lines : goal.decreases-loop-lines
decreases-loop-lines l = l.count - length l.probes
