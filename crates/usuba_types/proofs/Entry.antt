-- What is known of the entry of a program.
use Rattle.std.proofs.Common.{◌≡◌, ◌<◌, ◌≤◌, Some, refl, sym, arith}
use Rattle.std.specs.Prelude.{slice_get}
use Rattle.std.proofs.lemmas.Option.{get_or_from_slice_get}
use Rattle.usuba_trees.specs.declared.Def.{Def}
use Rattle.usuba_trees.specs.declared.Def.TheVariants as def
use Rattle.usuba_model.specs.Names.{declared_in}
use Rattle.usuba_model.specs.Shapes.{all_elements}
use Rattle.usuba_model.specs.Walk.{signature, most_operations}
use Rattle.source_shapes.specs.Shaped.{IsWidth}
use Rattle.source_shapes.proofs.Entry.{judged_takes_and_gives}
use Rattle.usuba_types.specs.Judged.{Program, IsProgram, inputs_at, outputs_at}
use Rattle.usuba_types.proofs.Deciding.{judged-few, judged-counts}
use Rattle.usuba_types.proofs.Declaring.{node-elements, first-few, second-few}

-- the definition is the program's entry: it takes and gives at least one element, and no more than a program may have
-- operations
pub record IsEntry (program : Program) (d : Def) : Type 0 where
  pub stands : slice_get program.file.defs program.entry ≡ Some d
  pub takes : 0 < (signature d).inputs
  pub gives : 0 < (signature d).outputs
  pub few_taken : (signature d).inputs ≤ most_operations
  pub few_given : (signature d).outputs ≤ most_operations
  pub taken : (signature d).inputs ≡ inputs_at program.file.defs program.entry
  pub given : (signature d).outputs ≡ outputs_at program.file.defs program.entry

-- a definition takes and gives no more elements than it declares
few-taken : (d : Def) → all_elements (declared_in d) ≤ most_operations → (signature d).inputs ≤ most_operations
few-taken (def.Node node) few = omega (arith, node-elements node, few)
few-taken (def.Table grid) few = first-few grid.inputs grid.outputs few
few-taken (def.Perm grid) few = first-few grid.inputs grid.outputs few

few-given : (d : Def) → all_elements (declared_in d) ≤ most_operations → (signature d).outputs ≤ most_operations
few-given (def.Node node) few = omega (arith, node-elements node, few)
few-given (def.Table grid) few = second-few grid.inputs grid.outputs few
few-given (def.Perm grid) few = second-few grid.inputs grid.outputs few

-- the width of a program is 1 to 64, and one of its definitions is its entry
pub entry_stands : (program : Program) → IsProgram program → IsWidth program.width × (d : Def) × IsEntry program d
entry_stands program known =
    let ends = judged_takes_and_gives known.spelled.0 known.asked_width known.asked_entry program.file program.width program.entry
    known.spelled.1 known.wide known.judged in
    let d : Def = ends.1 in
    let is = sym (get_or_from_slice_get program.file.defs program.entry d d ends.2) in
    let few = judged-few program known program.file.defs d refl is in
    let counts = judged-counts program known program.file.defs d refl is in (
      ends.0,
      d,
      record {
        stands = ends.2;
        takes = ends.3.takes;
        gives = ends.3.gives;
        few_taken = few-taken d few;
        few_given = few-given d few;
        taken = counts.0;
        given = counts.1;
      },
    )
