-- What holds of the names of tokens that are a file.
use Rattle.std.specs.Prelude.{◌≡◌, ◌↔◌, ℕ, true, List, length, None}
use Rattle.std.specs.List.{list_all}
use Rattle.c_names.specs.Names.{first_bad, names_of}
use Rattle.c_subset.specs.Files.{IsFile}
use Rattle.c_tokens.specs.declared.token.Token.{Token}
use Rattle.c_tree.specs.declared.CFile.{CFile}
use Rattle.c_name_places.specs.Places.{names_at}

-- a file has as many names as there are among its tokens
abbrev pub NamesHavePlaces : Type 0
NamesHavePlaces = (bits : ℕ) (tokens : List Token) (file : CFile) → IsFile bits tokens file
    → length (names_of file) ≡ length (names_at tokens)

-- a file has a first bad name, or all its names are right
abbrev pub BadOrRight : Type 0
BadOrRight = (bits : ℕ) (tokens : List Token) (file : CFile) → IsFile bits tokens file
    → (first_bad (names_of file) (names_at tokens) ≡ None) ↔ (list_all (λ right. right) (names_of file) ≡ true)
