-- Which part is on top of a stack.
use Rattle.std.specs.Prelude.{Bool, true, false, List, ◌∷◌}
use Rattle.usuba_parts.specs.declared.part.Part.{Part}
use Rattle.usuba_parts.specs.declared.part.Part.TheVariants as part

-- whether a mark is on top
abbrev pub is_mark : List Part → Bool
is_mark (part.Mark x ∷ parts) = true
is_mark _ = false

-- whether a word is on top
abbrev pub is_word : List Part → Bool
is_word (part.Word x ∷ parts) = true
is_word _ = false

-- whether a type word is on top
abbrev pub is_type_word : List Part → Bool
is_type_word (part.TypeWord x y ∷ parts) = true
is_type_word _ = false

-- whether a number is on top
abbrev pub is_number : List Part → Bool
is_number (part.Number x ∷ parts) = true
is_number _ = false

-- whether an index is on top
abbrev pub is_index : List Part → Bool
is_index (part.Index x ∷ parts) = true
is_index _ = false

-- whether further operands of an index are on top
abbrev pub is_index_links : List Part → Bool
is_index_links (part.IndexLinks x ∷ parts) = true
is_index_links _ = false

-- whether bounds of a loop are on top
abbrev pub is_bounds : List Part → Bool
is_bounds (part.Bounds x y ∷ parts) = true
is_bounds _ = false

-- whether the far end of a pick, or none is on top
abbrev pub is_high : List Part → Bool
is_high (part.High x ∷ parts) = true
is_high _ = false

-- whether a pick is on top
abbrev pub is_pick : List Part → Bool
is_pick (part.Pick x ∷ parts) = true
is_pick _ = false

-- whether picks are on top
abbrev pub is_picks : List Part → Bool
is_picks (part.Picks x ∷ parts) = true
is_picks _ = false

-- whether a spot is on top
abbrev pub is_spot : List Part → Bool
is_spot (part.Spot x ∷ parts) = true
is_spot _ = false

-- whether spots are on top
abbrev pub is_spots : List Part → Bool
is_spots (part.Spots x ∷ parts) = true
is_spots _ = false

-- whether an expression is on top
abbrev pub is_expr : List Part → Bool
is_expr (part.Expr x ∷ parts) = true
is_expr _ = false

-- whether expressions are on top
abbrev pub is_exprs : List Part → Bool
is_exprs (part.Exprs x ∷ parts) = true
is_exprs _ = false

-- whether further operands are on top
abbrev pub is_links : List Part → Bool
is_links (part.Links x ∷ parts) = true
is_links _ = false

-- whether shifts are on top
abbrev pub is_shifts : List Part → Bool
is_shifts (part.Shifts x ∷ parts) = true
is_shifts _ = false

-- whether the arguments of a refresh are on top
abbrev pub is_refreshed : List Part → Bool
is_refreshed (part.Refreshed x y ∷ parts) = true
is_refreshed _ = false

-- whether an item is on top
abbrev pub is_item : List Part → Bool
is_item (part.Item x ∷ parts) = true
is_item _ = false

-- whether items are on top
abbrev pub is_items : List Part → Bool
is_items (part.Items x ∷ parts) = true
is_items _ = false

-- whether numbers are on top
abbrev pub is_numbers : List Part → Bool
is_numbers (part.Numbers x ∷ parts) = true
is_numbers _ = false

-- whether a shape is on top
abbrev pub is_shape : List Part → Bool
is_shape (part.Shape x ∷ parts) = true
is_shape _ = false

-- whether names of one shape are on top
abbrev pub is_group : List Part → Bool
is_group (part.Group x y ∷ parts) = true
is_group _ = false

-- whether declarations are on top
abbrev pub is_decls : List Part → Bool
is_decls (part.Decls x ∷ parts) = true
is_decls _ = false

-- whether a grid is on top
abbrev pub is_grid : List Part → Bool
is_grid (part.Grid x ∷ parts) = true
is_grid _ = false

-- whether a definition is on top
abbrev pub is_def : List Part → Bool
is_def (part.Def x ∷ parts) = true
is_def _ = false

-- whether definitions are on top
abbrev pub is_defs : List Part → Bool
is_defs (part.Defs x ∷ parts) = true
is_defs _ = false

-- whether a file is on top
abbrev pub is_file : List Part → Bool
is_file (part.File x ∷ parts) = true
is_file _ = false
