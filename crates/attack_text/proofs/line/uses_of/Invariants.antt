use Rattle.std.proofs.Common.{◌≡◌, ◌++◌, true, length, map}
use Rattle.std.specs.List.{list_all}
use Rattle.attack_model.specs.Derivations.{are_uses}
use Rattle.text_lines.specs.Numbers.{is_number, value_of}
use Rattle.attack_text.proofs.line.uses_of.Given as goal

abbrev pub invariant-loop-word : goal.invariant-loop-word
invariant-loop-word l =
    record {
      numbers : list_all is_number l.words ≡ true;
      values : map value_of l.initial.words ≡ l.uses ++ map value_of l.words;
      rising : are_uses 0 l.step (map value_of l.initial.words) ≡ are_uses l.least l.step (map value_of l.words);
    }

abbrev pub decreases-loop-word : goal.decreases-loop-word
decreases-loop-word l = length l.words
