-- Which file of the C subset bytes spell, names in scope included, and what is at fault where they spell none.
use Rattle.std.specs.Prelude.{◌≡◌, ℕ, true, List, Some}
use Rattle.std.specs.List.{list_all}
use Rattle.tor_edge.specs.declared.place.Place.{Place}
use Rattle.c_meaning.specs.declared.read.CFault.{CFault}
use Rattle.c_meaning.specs.declared.read.CFault.TheVariants.{Syntax, BadName, Memory}
use Rattle.c_name_places.specs.Places.{names_at}
use Rattle.c_names.specs.Names.{first_bad, names_of}
use Rattle.c_subset.specs.Files.{IsFile}
use Rattle.c_syntax.specs.Syntax.{AreSpelled, IsSyntaxFault, SpellsFile}
use Rattle.c_tokens.specs.declared.token.Ending.TheVariants as ending
use Rattle.c_tokens.specs.declared.token.Token.{Token}
use Rattle.c_tree.specs.declared.CFile.{CFile}

-- the bytes spell this file: by the grammar, and each of its names is right where it stands
pub record Spells (bytes : List ℕ) (file : CFile) : Type 0 where
  pub syntax : SpellsFile bytes file
  pub names : list_all (λ right. right) (names_of file) ≡ true

-- the bytes are a file by the grammar, and the first of its names that is not right stands there
pub record IsBadName (bytes : List ℕ) (place : Place) : Type 0 where
  pub bits : ℕ
  pub found : List Token
  pub end : Place
  pub source : CFile
  pub spelled : AreSpelled bytes bits found (ending.End end)
  pub is : IsFile bits found source
  pub bad : first_bad (names_of source) (names_at found) ≡ Some place

-- the fault is that of the bytes; want of memory has no cause
abbrev pub IsFault : List ℕ → CFault → Type 0
IsFault bytes (Syntax place) = IsSyntaxFault bytes place
IsFault bytes (BadName place) = IsBadName bytes place
IsFault bytes (Memory error) = Unit {0}
