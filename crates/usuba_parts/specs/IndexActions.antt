-- What the actions of indexes, picks and spots make of the parts on top of a stack.
-- Lists stand in reverse while they are built. None where the parts on top are not of the kinds that are taken.
use Rattle.std.specs.Prelude.{List, [], ◌∷◌, ◌++◌, reverse, Option, Some, None}
use Rattle.usuba_parts.specs.declared.part.Part.{Part}
use Rattle.usuba_parts.specs.declared.part.Part.TheVariants as part
use Rattle.usuba_trees.specs.Made.{index_link}
use Rattle.usuba_trees.specs.declared.Index.{Index}
use Rattle.usuba_trees.specs.declared.IndexLink.{IndexLink}
use Rattle.usuba_trees.specs.declared.IndexOp.{IndexOp}
use Rattle.usuba_trees.specs.declared.Pick.{Pick}
use Rattle.usuba_trees.specs.declared.Index.TheVariants as index
use Rattle.usuba_trees.specs.declared.Pick.TheVariants as pick

-- an operand of an index with the further operands of its level
abbrev pub index_chained : Index → List IndexLink → Index
index_chained e [] = e
index_chained e (l ∷ ls) = index.Chain e (l ∷ ls)

-- a pick from its ends
abbrev pub pick_of : Index → Option Index → Pick
pick_of i None = pick.One i
pick_of i (Some j) = pick.Range i j

-- a spot of a name and its picks
abbrev pub act_spot : List Part → Option (List Part)
act_spot (part.Word w ∷ part.Picks ps ∷ rest) = Some (part.Spot (record { name = w; picks = reverse ps }) ∷ rest)
act_spot _ = None

-- a pick before those behind it
abbrev pub act_add_pick : List Part → Option (List Part)
act_add_pick (part.Pick x ∷ part.Picks xs ∷ rest) = Some (part.Picks (xs ++ x ∷ []) ∷ rest)
act_add_pick _ = None

-- no picks
abbrev pub act_no_picks : List Part → Option (List Part)
act_no_picks rest = Some (part.Picks [] ∷ rest)

-- a pick from its ends, in its brackets
abbrev pub act_pick : List Part → Option (List Part)
act_pick (part.Mark p ∷ part.Index i ∷ part.High high ∷ part.Mark q ∷ rest) =
    Some (part.Pick (pick_of i high) ∷ rest)
act_pick _ = None

-- the far end of a pick
abbrev pub act_high : List Part → Option (List Part)
act_high (part.Mark p ∷ part.Index i ∷ rest) = Some (part.High (Some i) ∷ rest)
act_high _ = None

-- no far end
abbrev pub act_no_high : List Part → Option (List Part)
act_no_high rest = Some (part.High None ∷ rest)

-- a level of an index from its operands
abbrev pub act_index_chain : List Part → Option (List Part)
act_index_chain (part.Index e ∷ part.IndexLinks ls ∷ rest) = Some (part.Index (index_chained e (reverse ls)) ∷ rest)
act_index_chain _ = None

-- a further operand of a level of an index, with its sign
abbrev pub act_add_index_link : IndexOp → List Part → Option (List Part)
act_add_index_link op (part.Mark at ∷ part.Index i ∷ part.IndexLinks ls ∷ rest) =
    Some (part.IndexLinks (ls ++ index_link op i ∷ []) ∷ rest)
act_add_index_link _ _ = None

-- no further operands of an index
abbrev pub act_no_index_links : List Part → Option (List Part)
act_no_index_links rest = Some (part.IndexLinks [] ∷ rest)

-- an index that is a number
abbrev pub act_index_number : List Part → Option (List Part)
act_index_number (part.Number n ∷ rest) = Some (part.Index (index.Number n.value) ∷ rest)
act_index_number _ = None

-- an index that is a loop counter
abbrev pub act_counter : List Part → Option (List Part)
act_counter (part.Word w ∷ rest) = Some (part.Index (index.Counter w) ∷ rest)
act_counter _ = None
