-- The further operands of a chain of operators.
use Rattle.std.proofs.Common.{List, map}
use Rattle.usuba_trees.specs.declared.IndexLink.{IndexLink}
use Rattle.usuba_model.specs.Indexes.{IndexPart, computed}

-- a further operand, as the model sees it
abbrev pub part_of : IndexLink → IndexPart
part_of link = record { op = link.op; operand = computed link.operand }

-- those of a chain
abbrev pub parts_of : List IndexLink → List IndexPart
parts_of links = map part_of links
