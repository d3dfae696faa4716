-- Names that repeat, and names that are unknown: the first two phases of judging. Each name of the text, in text order, is a
-- finding that holds where the name is at fault.
use Rattle.std.specs.Prelude.{ℕ, Bool, not, List, [], ◌∷◌, ◌++◌, map, flat_map, bytes_eq}
use Rattle.std.specs.List.{list_any}
use Rattle.usuba_trees.specs.declared.Decl.{Decl}
use Rattle.usuba_trees.specs.declared.Def.{Def}
use Rattle.usuba_trees.specs.declared.Def.TheVariants as def
use Rattle.usuba_trees.specs.declared.Equation.{Equation}
use Rattle.usuba_trees.specs.declared.Expr.{Expr, fold-Expr}
use Rattle.usuba_trees.specs.declared.Expr.TheOpen.{Expr-F}
use Rattle.usuba_trees.specs.declared.Index.{Index, fold-Index}
use Rattle.usuba_trees.specs.declared.Index.TheOpen.{Index-F}
use Rattle.usuba_trees.specs.declared.Item.{Item, fold-Item}
use Rattle.usuba_trees.specs.declared.Item.TheOpen.{Item-F}
use Rattle.usuba_trees.specs.declared.Pick.{Pick}
use Rattle.usuba_trees.specs.declared.Pick.TheVariants.{One, Range}
use Rattle.usuba_trees.specs.declared.Spot.{Spot}
use Rattle.usuba_trees.specs.declared.Word.{Word}
use Rattle.usuba_model.specs.Faults.{Finding}
use Rattle.usuba_model.specs.Unrolled.{declarations}

-- whether a name is among some
abbrev pub is_name_among : List (List ℕ) → List ℕ → Bool
is_name_among names name = list_any (bytes_eq name) names

-- the name of a definition
abbrev pub name_of : Def → Word
name_of (def.Node node) = node.name
name_of (def.Table grid) = grid.name
name_of (def.Perm grid) = grid.name

-- the declarations of a definition, in text order
abbrev pub declared_in : Def → List Decl
declared_in (def.Node node) = declarations node
declared_in (def.Table grid) = grid.inputs ++ grid.outputs
declared_in (def.Perm grid) = grid.inputs ++ grid.outputs

-- the names of declarations
abbrev pub names_of : List Decl → List (List ℕ)
names_of declared = map (λ declaration. declaration.name.text) declared

-- a name at its place, which is at fault where it is among these
abbrev pub repeated : List (List ℕ) → Word → Finding
repeated taken name = record { place = name.place; holds = is_name_among taken name.text }

-- declared names after these: each is at fault where it came before
abbrev pub repeated_declarations : List (List ℕ) → List Decl → List Finding
repeated_declarations taken [] = []
repeated_declarations taken (declaration ∷ rest) =
    repeated taken declaration.name ∷ repeated_declarations (declaration.name.text ∷ taken) rest

-- the findings of items, for the names of the counters around them
abbrev pub Findings : Type 0
Findings = List (List ℕ) → List Finding

-- the findings of each of some parts, in text order
abbrev pub findings_of : List Findings → Findings
findings_of parts counters = flat_map (λ part. part counters) parts

-- one level of an item: an equation has no counter of its own
abbrev pub repeated_level : Item-F Findings Findings → Findings
repeated_level (Item-F.Equation equation) counters = []
repeated_level (Item-F.Loop findings) counters = findings counters

-- the counters of an item: each is at fault where it is a declaration or the counter of a loop around it
abbrev pub repeated_counters : List (List ℕ) → Item → Findings
repeated_counters taken = fold-Item Findings Findings repeated_level
    (λ loop counters. repeated (taken ++ counters) loop.counter ∷ findings_of loop.items (loop.counter.text ∷ counters))

-- the counters of a definition
abbrev pub counters_in : Def → List Finding
counters_in (def.Node node) = findings_of (map (repeated_counters (names_of (declarations node))) node.items) []
counters_in (def.Table grid) = []
counters_in (def.Perm grid) = []

-- the names of definitions after some of these names: each definition's own, its declarations', its counters'
abbrev pub repeated_names : List (List ℕ) → List Def → List Finding
repeated_names taken [] = []
repeated_names taken (d ∷ rest) =
    repeated taken (name_of d) ∷ repeated_declarations [] (declared_in d) ++ counters_in d
    ++ repeated_names ((name_of d).text ∷ taken) rest

-- a name at its place, which is at fault where it is none of these
abbrev pub unknown : List (List ℕ) → Word → Finding
unknown known name = record { place = name.place; holds = not (is_name_among known name.text) }

-- one level of an index: a name in it is to be a counter of a loop around it
abbrev pub unknown_index_level : Index-F Findings Findings → Findings
unknown_index_level (Index-F.Number number) counters = []
unknown_index_level (Index-F.Counter name) counters = unknown counters name ∷ []
unknown_index_level (Index-F.Chain first rest) counters = first counters ++ findings_of rest counters

-- the names in an index
abbrev pub unknown_in_index : Index → Findings
unknown_in_index = fold-Index Findings Findings unknown_index_level (λ link. link.operand)

-- the names in a bracket
abbrev pub unknown_in_pick : List (List ℕ) → Pick → List Finding
unknown_in_pick counters (One index) = unknown_in_index index counters
unknown_in_pick counters (Range first last) = unknown_in_index first counters ++ unknown_in_index last counters

-- the names in a spot: its own, which is to be declared, and those in its brackets
abbrev pub unknown_in_spot : List (List ℕ) → List (List ℕ) → Spot → List Finding
unknown_in_spot declared counters spot = unknown declared spot.name ∷ flat_map (unknown_in_pick counters) spot.picks

-- one level of an expression: what is called is to be defined earlier
abbrev pub unknown_level : List (List ℕ) → List (List ℕ) → Expr-F Findings Findings → Findings
unknown_level defined declared (Expr-F.Number place value) counters = []
unknown_level defined declared (Expr-F.Spot spot) counters = unknown_in_spot declared counters spot
unknown_level defined declared (Expr-F.Tuple parts) counters = findings_of parts counters
unknown_level defined declared (Expr-F.Call name args) counters = unknown defined name ∷ findings_of args counters
unknown_level defined declared (Expr-F.Not place inner) counters = inner counters
unknown_level defined declared (Expr-F.Chain op first rest) counters = first counters ++ findings_of rest counters
unknown_level defined declared (Expr-F.Shift first moves) counters =
    first counters ++ flat_map (λ move. unknown_in_index move.amount counters) moves
unknown_level defined declared (Expr-F.Refresh place inner k) counters = inner counters ++ unknown_in_index k counters

-- the names in an expression
abbrev pub unknown_in_expression : List (List ℕ) → List (List ℕ) → Expr → Findings
unknown_in_expression defined declared = fold-Expr Findings Findings (unknown_level defined declared) (λ link. link.operand)

-- the names in an equation
abbrev pub unknown_in_equation : List (List ℕ) → List (List ℕ) → Equation → Findings
unknown_in_equation defined declared equation counters =
    flat_map (unknown_in_spot declared counters) equation.left ++ unknown_in_expression defined declared equation.right counters

-- one level of an item
abbrev pub unknown_item_level : List (List ℕ) → List (List ℕ) → Item-F Findings Findings → Findings
unknown_item_level defined declared (Item-F.Equation equation) counters = unknown_in_equation defined declared equation counters
unknown_item_level defined declared (Item-F.Loop findings) counters = findings counters

-- the names in an item; a loop's own counter is not around its bounds
abbrev pub unknown_in_item : List (List ℕ) → List (List ℕ) → Item → Findings
unknown_in_item defined declared = fold-Item Findings Findings (unknown_item_level defined declared)
    (λ loop counters.
    unknown_in_index loop.low counters ++ unknown_in_index loop.high counters
    ++ findings_of loop.items (loop.counter.text ∷ counters))

-- the names in a definition after these
abbrev pub unknown_in_definition : List (List ℕ) → Def → List Finding
unknown_in_definition defined (def.Node node) =
    findings_of (map (unknown_in_item defined (names_of (declarations node))) node.items) []
unknown_in_definition defined (def.Table grid) = []
unknown_in_definition defined (def.Perm grid) = []

-- the names in definitions after some of these names
abbrev pub unknown_names : List (List ℕ) → List Def → List Finding
unknown_names defined [] = []
unknown_names defined (d ∷ rest) = unknown_in_definition defined d ++ unknown_names ((name_of d).text ∷ defined) rest
