-- Random words as a run hands them to one equation: those that are left, each cut to B bits.
use Rattle.std.specs.Prelude.{ℕ, ◌%◌, ◌^◌, List, slice_index}

-- the low B bits of a number
abbrev pub cut_number : ℕ → ℕ → ℕ
cut_number B w = w % 2 ^ B

-- word n of those that are left
abbrev pub cut_word : ℕ → List ℕ → ℕ → ℕ
cut_word B words n = cut_number B (slice_index words n)
