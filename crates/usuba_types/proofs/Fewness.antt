-- A node has no more equation instances than its walk counts operations.
use Rattle.std.proofs.Common.{◌≡◌, ◌<◌, ◌≤◌, ◌^◌, ℕ, List, length, ap, subst, arith}
use Rattle.usuba_trees.specs.declared.Def.{Def}
use Rattle.usuba_model.specs.Walk.{Signature, most_operations}
use Rattle.usuba_code.specs.Code.{Built}
use Rattle.usuba_walk.specs.Walking.{IsWalk, coded_definition}
use Rattle.usuba_walk.specs.declared.definition.Walked.{Walked}
use Rattle.usuba_walk.specs.declared.definition.Walked.TheVariants.{Whole}
use Rattle.usuba_walk.proofs.Counting.{few_instances}

-- the table of a definition that was walked without a fault has few instances
pub table_few : (w : ℕ) (signatures : List Signature) (d : Def) (walked : Walked) (count : ℕ) (table : Built)
    → walked ≡ Whole count table → IsWalk w signatures d walked → length table.done < 2 ^ 32
table_few w signatures d walked count table is walk =
    let whole : IsWalk w signatures d (Whole count table) = subst (IsWalk w signatures d) is walk in
    let few : length (coded_definition signatures d) ≤ most_operations = few_instances w signatures d whole.0 in
    omega (arith, few, ap length whole.2)
