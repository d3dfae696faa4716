-- A file that bytes spell has shaped types only, and each definition of it takes and gives at least one element.
use Rattle.std.proofs.Common.{List, [], ◌∷◌, ◌++◌}
use Rattle.std.specs.List.{AllByRecursion}
use Rattle.usuba_syntax.specs.Files as files
use Rattle.usuba_syntax.specs.Files.{IsNode, IsGrid, IsPlainDef, IsDef, IsDefs, IsFile}
use Rattle.usuba_tokens.specs.declared.token.Token.{Token}
use Rattle.usuba_trees.specs.declared.Def.{Def}
use Rattle.usuba_trees.specs.declared.Def.TheVariants as tree
use Rattle.usuba_trees.specs.declared.File.{File}
use Rattle.usuba_trees.specs.declared.Grid.{Grid}
use Rattle.usuba_trees.specs.declared.Node.{Node}
use Rattle.usuba_model.specs.Entries.{all_declarations}
use Rattle.usuba_model.specs.Names.{declared_in}
use Rattle.source_shapes.specs.Shaped.{IsDeclared, TakesAndGives, IsShapedFile}
use Rattle.source_shapes.specs.ShapeLaws.{SpelledIsShaped}
use Rattle.source_shapes.proofs.Tokens.{AreShaped, spelled_are_shaped}
use Rattle.source_shapes.proofs.Passing.{past_items, past_numbers}
use Rattle.source_shapes.proofs.Declaring.{each_of_both, AreDeclared, past_decls, past_results, past_locals}

-- a definition whose types are shaped, and that takes and gives at least one element
record IsShapedDef (d : Def) : Type 0 where
  each : AllByRecursion IsDeclared (declared_in d)
  ends : TakesAndGives d

past_node : {a b : List Token} {n : Node} → IsNode a n b → AreShaped a → IsShapedDef (tree.Node n) × AreShaped b
past_node (files.node {ins = ins} {outs = outs} {vars = vars} n x y z w) h =
    let inputs = past_decls x h.1.1.1 in
    let outputs = past_results y inputs.1.1.1 in
    let locals = past_locals z outputs.1 in (
      record {
        each = each_of_both IsDeclared (ins ++ outs) vars (each_of_both IsDeclared ins outs inputs.0.each outputs.0.each) locals.0;
        ends = record { takes = inputs.0.some; gives = outputs.0.some };
      },
      (past_items w locals.1.1).1,
    )

-- the declarations of a table or a permutation are shaped, with an element to take and one to give
record IsShapedGrid (g : Grid) : Type 0 where
  each : AllByRecursion IsDeclared (g.inputs ++ g.outputs)
  takes : AreDeclared g.inputs
  gives : AreDeclared g.outputs

past_grid : {a b : List Token} {g : Grid} → IsGrid a g b → AreShaped a → IsShapedGrid g × AreShaped b
past_grid (files.grid {ins = ins} {outs = outs} n x y z) h =
    let inputs = past_decls x h.1.1 in
    let outputs = past_results y inputs.1.1.1 in (
      record { each = each_of_both IsDeclared ins outs inputs.0.each outputs.0.each; takes = inputs.0; gives = outputs.0 },
      (past_numbers z outputs.1.1).1,
    )

past_plain_def : {a b : List Token} {d : Def} → IsPlainDef a d b → AreShaped a → IsShapedDef d × AreShaped b
past_plain_def (files.node_def x) h = past_node x h
past_plain_def (files.table_def x) h =
    let grid = past_grid x h.1 in
    (record { each = grid.0.each; ends = record { takes = grid.0.takes.some; gives = grid.0.gives.some } }, grid.1)
past_plain_def (files.perm_def x) h =
    let grid = past_grid x h.1 in
    (record { each = grid.0.each; ends = record { takes = grid.0.takes.some; gives = grid.0.gives.some } }, grid.1)

past_def : {a b : List Token} {d : Def} → IsDef a d b → AreShaped a → IsShapedDef d × AreShaped b
past_def (files.plain x) h = past_plain_def x h
past_def (files.inline x) h = past_plain_def x h.1
past_def (files.no_inline x) h = past_plain_def x h.1

-- definitions, each shaped
record AreShapedDefs (ds : List Def) : Type 0 where
  each : AllByRecursion IsDeclared (all_declarations ds)
  ends : AllByRecursion TakesAndGives ds

one_more : (d : Def) (ds : List Def) → IsShapedDef d → AreShapedDefs ds → AreShapedDefs (d ∷ ds)
one_more d ds first later = record {
  each = each_of_both IsDeclared (declared_in d) (all_declarations ds) first.each later.each;
  ends = (first.ends, later.ends);
}

past_defs : {a b : List Token} {ds : List Def} → IsDefs a ds b → AreShaped a → AreShapedDefs ds
past_defs (files.last_def {d = d} x) h = one_more d [] (past_def x h).0 (record { each = tt; ends = tt })
past_defs (files.next_def {d = d} {ds = ds} x y) h =
    let first = past_def x h in
    one_more d ds first.0 (past_defs y first.1)

file_is_shaped : {a : List Token} {f : File} → IsFile a f → AreShaped a → IsShapedFile f
file_is_shaped (files.file x) h =
    let defs = past_defs x h in
    record { declarations = defs.each; definitions = defs.ends }

-- a file that bytes spell is shaped
pub spelled_is_shaped : SpelledIsShaped
spelled_is_shaped bytes file (tokens, at, spelled, is, faultless) = file_is_shaped is (spelled_are_shaped spelled)
