-- What the actions of items make of the parts on top of a stack.
-- Lists stand in reverse while they are built. None where the parts on top are not of the kinds that are taken.
use Rattle.std.specs.Prelude.{List, [], ◌∷◌, ◌++◌, reverse, Option, Some, None}
use Rattle.usuba_parts.specs.declared.part.Part.{Part}
use Rattle.usuba_parts.specs.declared.part.Part.TheVariants as part
use Rattle.usuba_trees.specs.Made.{loop_of}
use Rattle.usuba_trees.specs.declared.Item.TheVariants as item

-- an item before those behind it
abbrev pub act_add_item : List Part → Option (List Part)
act_add_item (part.Item x ∷ part.Items xs ∷ rest) = Some (part.Items (xs ++ x ∷ []) ∷ rest)
act_add_item _ = None

-- no items
abbrev pub act_no_items : List Part → Option (List Part)
act_no_items rest = Some (part.Items [] ∷ rest)

-- a loop from its parts
abbrev pub act_loop : List Part → Option (List Part)
act_loop (part.Mark at ∷ part.Word w ∷ part.Word v ∷ part.Bounds low high ∷ part.Items is ∷ rest) =
    Some (part.Item (item.Loop (loop_of at.place w low high (reverse is))) ∷ rest)
act_loop _ = None

-- the bounds of a loop in their brackets
abbrev pub act_bounds : List Part → Option (List Part)
act_bounds (part.Mark p ∷ part.Index i ∷ part.Mark q ∷ part.Index j ∷ part.Mark r ∷ rest) =
    Some (part.Bounds i j ∷ rest)
act_bounds _ = None

-- an equation from its two sides
abbrev pub act_equation : List Part → Option (List Part)
act_equation (part.Spots ss ∷ part.Mark at ∷ part.Expr e ∷ rest) =
    Some (part.Item (item.Equation (record { left = reverse ss; equal = at.place; right = e })) ∷ rest)
act_equation _ = None

-- a left side of one spot
abbrev pub act_one_spot : List Part → Option (List Part)
act_one_spot (part.Spot s ∷ rest) = Some (part.Spots (s ∷ []) ∷ rest)
act_one_spot _ = None

-- a spot before those behind it
abbrev pub act_add_spot : List Part → Option (List Part)
act_add_spot (part.Spot x ∷ part.Spots xs ∷ rest) = Some (part.Spots (xs ++ x ∷ []) ∷ rest)
act_add_spot _ = None

-- no spots
abbrev pub act_no_spots : List Part → Option (List Part)
act_no_spots rest = Some (part.Spots [] ∷ rest)
