-- How the reader finds the production at which a rule goes on.
use Rattle.std.specs.Prelude.{◌≡◌, ◌≤◌, ℕ, List, Some, slice_get, slice_index}
use Rattle.std.specs.Int.{bit_at}
use Rattle.ll_reader.specs.declared.grammar.Production.{Production}

-- for each rule there is a number, and none of its productions has a lesser one
abbrev pub IsBelow : List Production → List ℕ → Type 0
IsBelow table firsts = (k : ℕ) (p : Production) → slice_get table k ≡ Some p → slice_index firsts p.rule ≤ k

-- the production with the number is of the rule, and is chosen at the class
abbrev pub GoesOn : List Production → ℕ → ℕ → ℕ → Type 0
GoesOn table rule class k =
    (p : Production) × (slice_get table k ≡ Some p) × (p.rule ≡ rule) × (bit_at p.first class ≡ 1)
