-- Which file the bytes of a C file spell, names in scope apart, and where its syntax is at fault.
use Rattle.std.specs.Prelude.{◌≡◌, ◌⊎◌, ℕ, List, take, drop}
use Rattle.tor_edge.specs.declared.place.Place.{Place}
use Rattle.usuba_tokens.specs.Tokens.{start, place_after}
use Rattle.c_grammar.specs.Grammar.{place_at, IsStop}
use Rattle.c_subset.specs.Files.{IsFile}
use Rattle.c_syntax.specs.declared.read.SyntaxFault.{SyntaxFault}
use Rattle.c_syntax.specs.declared.read.SyntaxFault.TheVariants.{Syntax, Memory}
use Rattle.c_tokens.specs.Openings.{opening_of}
use Rattle.c_tokens.specs.Tokens.{Spells}
use Rattle.c_tokens.specs.declared.opening.Opening.TheVariants.{Lines, Wrong}
use Rattle.c_tokens.specs.declared.token.Ending.{Ending}
use Rattle.c_tokens.specs.declared.token.Ending.TheVariants as ending
use Rattle.c_tokens.specs.declared.token.Token.{Token}
use Rattle.c_tree.specs.declared.CFile.{CFile}

-- where the tokens behind the first six lines begin
abbrev pub behind_lines : Place
behind_lines = record { line = 7; column = 1 }

-- the bytes are the six lines with a type of so many bits, of n bytes, and behind them these tokens
pub record AreSpelled (bytes : List ℕ) (bits : ℕ) (tokens : List Token) (end : Ending) : Type 0 where
  pub n : ℕ
  pub lines : opening_of bytes ≡ Lines bits n
  pub behind : Spells behind_lines (drop n bytes) tokens end

-- the bytes spell this file, names in scope apart
pub record SpellsFile (bytes : List ℕ) (file : CFile) : Type 0 where
  pub bits : ℕ
  pub found : List Token
  pub end : Place
  pub spelled : AreSpelled bytes bits found (ending.End end)
  pub is : IsFile bits found file

-- the first wrong byte of the six lines
pub record IsWrongLine (bytes : List ℕ) (place : Place) : Type 0 where
  pub n : ℕ
  pub wrong : opening_of bytes ≡ Wrong n
  pub at : place ≡ place_after start (take n bytes)

-- the first token that cannot continue, or the end
pub record IsWrongToken (bytes : List ℕ) (place : Place) : Type 0 where
  pub bits : ℕ
  pub found : List Token
  pub end : Ending
  pub spelled : AreSpelled bytes bits found end
  pub k : ℕ
  pub stop : IsStop found end k
  pub at : place ≡ place_at found end k

-- the syntax of the bytes is at fault there
abbrev pub IsSyntaxFault : List ℕ → Place → Type 0
IsSyntaxFault bytes place = IsWrongLine bytes place ⊎ IsWrongToken bytes place

-- the fault is that of the bytes; want of memory has no cause
abbrev pub IsFault : List ℕ → SyntaxFault → Type 0
IsFault bytes (Syntax place) = IsSyntaxFault bytes place
IsFault bytes (Memory error) = Unit {0}
