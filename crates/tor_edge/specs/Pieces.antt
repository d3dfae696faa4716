-- The text of pieces that are put at one go.
use Rattle.std.specs.Prelude.{ℕ, List, decimal, flat_map}
use Rattle.tor_edge.specs.declared.put.Piece.{Piece}
use Rattle.tor_edge.specs.declared.put.Piece.TheVariants.{Text, Number}

-- the bytes of a piece
abbrev pub piece_text : Piece → List ℕ
piece_text (Text text) = text.now
piece_text (Number value) = decimal value

-- the bytes of the pieces, one after another
abbrev pub text_of : List Piece → List ℕ
text_of pieces = flat_map piece_text pieces
