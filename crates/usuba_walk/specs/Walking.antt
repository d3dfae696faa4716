-- What the walk through a definition comes to.
use Rattle.std.specs.Prelude.{◌≡◌, ℕ, List, [], Some, None}
use Rattle.usuba_trees.specs.declared.Def.{Def}
use Rattle.usuba_trees.specs.declared.Def.TheVariants as def
use Rattle.usuba_model.specs.Walk.{Signature, definition_steps, walk_fault, count_of}
use Rattle.usuba_code.specs.Code.{Coded, coded_node}
use Rattle.usuba_walk.specs.declared.definition.Walked.{Walked}
use Rattle.usuba_walk.specs.declared.definition.Walked.TheVariants as walked

-- the equation instances of a definition over numbered cells; a table or a permutation has none
abbrev pub coded_definition : List Signature → Def → List Coded
coded_definition signatures (def.Node node) = coded_node signatures node
coded_definition signatures (def.Table grid) = []
coded_definition signatures (def.Perm grid) = []

-- the first fault of the walk, or that it has none, with its count and the instances that it walked
abbrev pub IsWalk : ℕ → List Signature → Def → Walked → Type 0
IsWalk w signatures definition (walked.Fault fault) = walk_fault 0 (definition_steps w signatures definition) ≡ Some fault
IsWalk w signatures definition (walked.Whole count table) =
    (walk_fault 0 (definition_steps w signatures definition) ≡ None)
    × (count ≡ count_of (definition_steps w signatures definition))
    × (table.done ≡ coded_definition signatures definition)
