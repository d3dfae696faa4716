-- The tokens of a text of data, each with its line.
use Rattle.std.specs.Prelude.{ℕ, suc, ◌+◌, ◌==◌, Bool, ◌||◌, nat_lt, List, [], ◌∷◌, ◌++◌, map, filter, length, count_by}
use Rattle.std.specs.List.{slice_split}

-- space, tab, LF and CR
abbrev pub is_blank : ℕ → Bool
is_blank byte = byte == 32 || byte == 9 || byte == 10 || byte == 13

-- the byte ends its line
abbrev pub ends_line : ℕ → Bool
ends_line byte = byte == 10

-- bytes that stand between blanks, and their line
pub record Token : Type 0 where
  pub word : List ℕ
  pub line : ℕ

-- what stands between blanks
abbrev pub words_of : List ℕ → List (List ℕ)
words_of line = filter (λ word. nat_lt 0 (length word)) (slice_split is_blank line)

-- the tokens of line k
abbrev pub tokens_of_line : ℕ → List ℕ → List Token
tokens_of_line k line = map (λ word. record { word = word; line = k }) (words_of line)

-- the tokens of lines, of which the first is line k
abbrev pub tokens_of_lines : ℕ → List (List ℕ) → List Token
tokens_of_lines k [] = []
tokens_of_lines k (line ∷ lines) = tokens_of_line k line ++ tokens_of_lines (suc k) lines

-- the tokens of bytes that begin on line k
abbrev pub tokens_from : ℕ → List ℕ → List Token
tokens_from k bytes = tokens_of_lines k (slice_split ends_line bytes)

-- the line of the place just past these bytes
abbrev pub line_past : ℕ → List ℕ → ℕ
line_past k bytes = k + count_by ends_line bytes

-- what is left of a text: its tokens, and the line of the place just past its last byte
pub record TokensLeft : Type 0 where
  pub tokens : List Token
  pub end : ℕ

-- all of a text
abbrev pub tokens_of : List ℕ → TokensLeft
tokens_of bytes = record { tokens = tokens_from 1 bytes; end = line_past 1 bytes }
