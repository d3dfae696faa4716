-- What the actions of definitions and declarations make of the parts on top of a stack.
-- Lists stand in reverse while they are built. None where the parts on top are not of the kinds that are taken.
use Rattle.std.specs.Prelude.{List, [], ◌∷◌, ◌++◌, reverse, Option, Some, None}
use Rattle.usuba_parts.specs.Bases.{base_of}
use Rattle.usuba_parts.specs.declared.part.Part.{Part}
use Rattle.usuba_parts.specs.declared.part.Part.TheVariants as part
use Rattle.usuba_trees.specs.declared.Def.TheVariants as def

-- a file of the definitions
abbrev pub act_finish : List Part → Option (List Part)
act_finish (part.Defs ds ∷ rest) = Some (part.File (record { defs = reverse ds }) ∷ rest)
act_finish _ = None

-- a definition before those behind it
abbrev pub act_add_def : List Part → Option (List Part)
act_add_def (part.Def x ∷ part.Defs xs ∷ rest) = Some (part.Defs (xs ++ x ∷ []) ∷ rest)
act_add_def _ = None

-- no definitions
abbrev pub act_no_defs : List Part → Option (List Part)
act_no_defs rest = Some (part.Defs [] ∷ rest)

-- a node from its parts
abbrev pub act_node : List Part → Option (List Part)
act_node (part.Mark at ∷ part.Word w ∷ part.Mark p ∷ part.Decls ins ∷ part.Mark q ∷ part.Mark r ∷
    part.Decls outs ∷ part.Decls vars ∷ part.Mark s ∷ part.Items is ∷ part.Mark t ∷ rest) =
    Some (part.Def (def.Node (record {
      name = w;
      inputs = reverse ins;
      outputs = reverse outs;
      locals = reverse vars;
      items = reverse is;
    })) ∷ rest)
act_node _ = None

-- a table of the grid behind its word
abbrev pub act_table : List Part → Option (List Part)
act_table (part.Mark at ∷ part.Grid g ∷ rest) = Some (part.Def (def.Table g) ∷ rest)
act_table _ = None

-- a permutation of the grid behind its word
abbrev pub act_perm : List Part → Option (List Part)
act_perm (part.Mark at ∷ part.Grid g ∷ rest) = Some (part.Def (def.Perm g) ∷ rest)
act_perm _ = None

-- a grid from its parts
abbrev pub act_grid : List Part → Option (List Part)
act_grid (part.Word w ∷ part.Mark p ∷ part.Decls ins ∷ part.Mark q ∷ part.Mark r ∷ part.Decls outs ∷
    part.Mark s ∷ part.Numbers ns ∷ part.Mark t ∷ rest) =
    Some (part.Grid (record {
      name = w;
      inputs = reverse ins;
      outputs = reverse outs;
      entries = reverse ns;
    }) ∷ rest)
act_grid _ = None

-- a number before those behind it
abbrev pub act_add_number : List Part → Option (List Part)
act_add_number (part.Number n ∷ part.Numbers xs ∷ rest) = Some (part.Numbers (xs ++ n.value ∷ []) ∷ rest)
act_add_number _ = None

-- no numbers
abbrev pub act_no_numbers : List Part → Option (List Part)
act_no_numbers rest = Some (part.Numbers [] ∷ rest)

-- no declarations
abbrev pub act_no_decls : List Part → Option (List Part)
act_no_decls rest = Some (part.Decls [] ∷ rest)

-- the declarations of a group before those behind it
abbrev pub act_join_decls : List Part → Option (List Part)
act_join_decls (part.Decls ds ∷ part.Decls more ∷ rest) = Some (part.Decls (more ++ ds) ∷ rest)
act_join_decls _ = None

-- the declaration of the first name of a group, with those behind it
abbrev pub act_declare : List Part → Option (List Part)
act_declare (part.Word w ∷ part.Group s ds ∷ rest) =
    Some (part.Decls (ds ++ record { name = w; shape = s } ∷ []) ∷ rest)
act_declare _ = None

-- one more name of a group, declared with its type
abbrev pub act_declare_alike : List Part → Option (List Part)
act_declare_alike (part.Mark at ∷ part.Word w ∷ part.Group s ds ∷ rest) =
    Some (part.Group s (ds ++ record { name = w; shape = s } ∷ []) ∷ rest)
act_declare_alike _ = None

-- a group of a type, with no names yet
abbrev pub act_group : List Part → Option (List Part)
act_group (part.Mark at ∷ part.Shape s ∷ rest) = Some (part.Group s [] ∷ rest)
act_group _ = None

-- a type from its word and its dimensions
abbrev pub act_shape : List Part → Option (List Part)
act_shape (part.TypeWord t at ∷ part.Numbers ns ∷ rest) =
    Some (part.Shape (record { base = base_of t.base; count = t.count; dims = reverse ns; place = at }) ∷ rest)
act_shape _ = None

-- a dimension in its brackets before those behind it
abbrev pub act_add_dim : List Part → Option (List Part)
act_add_dim (part.Mark p ∷ part.Number n ∷ part.Mark q ∷ part.Numbers ns ∷ rest) =
    Some (part.Numbers (ns ++ n.value ∷ []) ∷ rest)
act_add_dim _ = None
