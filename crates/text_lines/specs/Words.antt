-- Words, and how a line is made of them.
use Rattle.std.specs.Prelude.{ℕ, ◌==◌, Bool, not, ◌&&◌, List, [], ◌∷◌, ◌++◌, codes, flat_map, Option, None, Some}
use Rattle.std.specs.List.{slice_split, list_all}

-- the words of a line: what stands between its blanks; the word between two blanks in a row, or at a blank that begins or ends
-- the line, is empty
abbrev pub words_of : List ℕ → List (List ℕ)
words_of line = slice_split (λ byte. byte == 32) line

-- words, each after a blank
abbrev pub spaced : List (List ℕ) → List ℕ
spaced words = flat_map (λ word. codes " " ++ word) words

-- the text of a line: its words parted by one blank, and LF at its end
abbrev pub line_text : List (List ℕ) → List ℕ
line_text [] = codes "\n"
line_text (word ∷ words) = word ++ spaced words ++ codes "\n"

-- the words of what is left of a line, if anything is
abbrev pub words_left : Option (List ℕ) → List (List ℕ)
words_left None = []
words_left (Some line) = words_of line

-- a byte that is no blank and no LF
abbrev pub is_plain : ℕ → Bool
is_plain byte = not (byte == 32) && not (byte == 10)

-- a word without blanks and LFs
abbrev pub is_plain_word : List ℕ → Bool
is_plain_word word = list_all is_plain word

-- words without blanks and LFs
abbrev pub are_plain_words : List (List ℕ) → Bool
are_plain_words words = list_all is_plain_word words
