use Rattle.std.proofs.Common.{◌≡◌, ℕ, List, [], ◌∷◌, ◌++◌, length, map, take}
use Rattle.core_slots.specs.State.Ends.{AreEnds}
use Rattle.core_slots.proofs.ends.note_outputs.Given as goal

abbrev pub invariant-loop-register : goal.invariant-loop-register
invariant-loop-register l =
    record {
      count : length l.ends.items ≡ length l.fn.ends.items;
      noted : (groups : List (List ℕ)) → length groups ≡ length l.fn.ends.items
          → AreEnds l.inputs groups l.fn.ends.items
          → AreEnds l.inputs (groups ++ map (λ r. r.0) (take l.register-index l.registers) ∷ []) l.ends.items;
    }
