-- The source that is generated from a seed and a size: a node of so many lines, whose operands are drawn.
use Rattle.std.specs.Prelude.{ℕ, ◌+◌, ◌-◌, ◌*◌, ◌%◌, List, ◌++◌, nat_lt, if◌then◌else◌, flat_map, codes, decimal}
use Rattle.std.specs.List.{range_with_len}
use Rattle.source_gen.specs.declared.operands.Operands.{Operands}
use Rattle.word_draws.specs.Draws.{start, next, after_draws}

-- an operand by its number: below 8 an element of x, and from there on the elements of z
abbrev pub operand_text : ℕ → List ℕ
operand_text j = if nat_lt j 8 then codes "x[" ++ decimal j ++ codes "]" else codes "z[" ++ decimal (j - 8) ++ codes "]"

-- the operands of line k that the draws after a state pick, of the 8 + k that stand before the line
abbrev pub picked : ℕ → ℕ → Operands
picked k state = record {
  first = next state % (8 + k);
  second = next (next state) % (8 + k);
  third = next (next (next state)) % (8 + k);
}

-- the operands of line k: three draws were made for each line before it
abbrev pub operands_of : ℕ → ℕ → Operands
operands_of seed k = picked k (after_draws (start seed) (3 * k))

-- line k of these operands
abbrev pub line_text : ℕ → Operands → List ℕ
line_text k operands =
    codes "  z[" ++ decimal k ++ codes "] = (" ++ operand_text operands.first ++ codes " ^ "
    ++ operand_text operands.second ++ codes ") & " ++ operand_text operands.third ++ codes ";\n"

-- line k of a seed
abbrev pub generated_line : ℕ → ℕ → List ℕ
generated_line seed k = line_text k (operands_of seed k)

-- what stands before the lines
abbrev pub head_text : ℕ → List ℕ
head_text size = codes "node g (x:b8) returns (z:b" ++ decimal size ++ codes ")\nlet\n"

-- the source of so many lines
abbrev pub generated_source : ℕ → ℕ → List ℕ
generated_source seed size = head_text size ++ flat_map (generated_line seed) (range_with_len 0 size) ++ codes "tel\n"
