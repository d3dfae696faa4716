-- What the actions of tokens make of the parts on top of a stack.
-- Lists stand in reverse while they are built. None where the parts on top are not of the kinds that are taken.
use Rattle.std.specs.Prelude.{List, ◌∷◌, Option, Some, None}
use Rattle.usuba_parts.specs.declared.part.Part.{Part}
use Rattle.usuba_parts.specs.declared.part.Part.TheVariants as part
use Rattle.usuba_trees.specs.Made.{name}

-- the part behind a mark
abbrev pub act_skip : List Part → Option (List Part)
act_skip (part.Mark p ∷ x ∷ ps) = Some (x ∷ ps)
act_skip _ = None

-- the part between two marks
abbrev pub act_inner : List Part → Option (List Part)
act_inner (part.Mark p ∷ x ∷ part.Mark q ∷ ps) = Some (x ∷ ps)
act_inner _ = None

-- the name that a type word is where no type stands
abbrev pub act_name_of_type_word : List Part → Option (List Part)
act_name_of_type_word (part.TypeWord t at ∷ rest) = Some (part.Word (name t.text at) ∷ rest)
act_name_of_type_word _ = None
