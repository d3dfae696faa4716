use Rattle.std.proofs.Common.{◌≡◌, length, is_some}
use Rattle.std.specs.List.{list_all}
use Rattle.column_lists.specs.Names.{column_of}
use Rattle.column_lists.proofs.named.are_columns.Given as goal

abbrev pub invariant-loop-word : goal.invariant-loop-word
invariant-loop-word l = list_all (λ word. is_some (column_of word)) l.initial.words ≡ list_all (λ word. is_some (column_of word)) l.words

abbrev pub decreases-loop-word : goal.decreases-loop-word
decreases-loop-word l = length l.words
