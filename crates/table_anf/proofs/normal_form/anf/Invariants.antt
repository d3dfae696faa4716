use Rattle.std.proofs.Common.{◌≡◌, ℕ, ◌<◌, ◌^◌, get_or, length}
use Rattle.table_anf.specs.State.Transform.{after_passes}
use Rattle.table_anf.proofs.normal_form.anf.Given as goal

abbrev pub invariant-loop-bit : goal.invariant-loop-bit
invariant-loop-bit l =
    record {
      all : length l.words.items ≡ 2 ^ l.inputs;
      passed : (x : ℕ) → x < 2 ^ l.inputs → get_or l.words.items x 0 ≡ after_passes l.bit (λ k. get_or l.fn.entries k 0) x;
    }
