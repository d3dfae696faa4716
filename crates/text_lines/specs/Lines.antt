-- The lines of a text.
use Rattle.std.specs.Prelude.{ℕ, ◌==◌, List, [], ◌∷◌, Option, None, Some}
use Rattle.std.specs.List.{slice_split}
use Rattle.text_lines.specs.Words.{words_of}

-- what stands after the last LF: nothing, or bytes that no LF ends, which are a line without words
abbrev pub last_line : List ℕ → List (Option (List (List ℕ)))
last_line [] = []
last_line (byte ∷ bytes) = None ∷ []

-- the lines of a text that is cut at each LF
abbrev pub lines_of_parts : List (List ℕ) → List (Option (List (List ℕ)))
lines_of_parts [] = []
lines_of_parts (last ∷ []) = last_line last
lines_of_parts (part ∷ next ∷ parts) = Some (words_of part) ∷ lines_of_parts (next ∷ parts)

-- the lines of a text: the words of each, or None for bytes that no LF ends
abbrev pub lines_of : List ℕ → List (Option (List (List ℕ)))
lines_of text = lines_of_parts (slice_split (λ byte. byte == 10) text)

-- the words of the first line, if there is one and LF ends it
abbrev pub first_words : List (Option (List (List ℕ))) → Option (List (List ℕ))
first_words [] = None
first_words (line ∷ lines) = line

-- what is left of a text: its lines, and the number of the first of them
pub record LinesLeft : Type 0 where
  pub lines : List (Option (List (List ℕ)))
  pub number : ℕ
