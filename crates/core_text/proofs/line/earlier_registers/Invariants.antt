use Rattle.std.proofs.Common.{◌≡◌, ◌++◌, true, length, map}
use Rattle.std.specs.List.{list_all}
use Rattle.core_text.specs.Forms.{is_register, register_of}
use Rattle.core_text.specs.Parts.{kept}
use Rattle.core_text.specs.Ranges.{are_outputs}
use Rattle.core_text.proofs.line.earlier_registers.Given as goal

abbrev pub invariant-loop-word : goal.invariant-loop-word
invariant-loop-word l =
    record {
      registers : list_all is_register l.words ≡ true;
      values : map kept (map register_of l.initial.words) ≡ l.registers.items ++ map kept (map register_of l.words);
      earlier : are_outputs l.next (map register_of l.initial.words) ≡ are_outputs l.next (map register_of l.words);
    }

abbrev pub decreases-loop-word : goal.decreases-loop-word
decreases-loop-word l = length l.words
