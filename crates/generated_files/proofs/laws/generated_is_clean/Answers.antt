use Rattle.std.proofs.Common.{◌≡◌, ◌<◌, ◌+◌, ◌%◌, ℕ, List, None, arith, subst}
use Rattle.usuba_model.specs.Judging.{IsJudged}
use Rattle.usuba_syntax.specs.SourceFaults.{SourceFault}
use Rattle.usuba_syntax.specs.Sources.{SpellsFile, HasFault}
use Rattle.usuba_trees.specs.declared.File.{File}
use Rattle.source_gen.specs.Source.{operands_of, generated_source}
use Rattle.generated_files.specs.GeneratedLaw.{HasSmallCore, IsClean}
use Rattle.generated_files.proofs.Judged.{judged}
use Rattle.generated_files.proofs.Spelling.{AllBelow, file_of, source_spelled}
use Rattle.generated_files.proofs.Terms.{small_core}
use Rattle.generated_files.proofs.laws.generated_is_clean.Goals as goal

-- a remainder is below what it is taken by
remainder : (n k : ℕ) → n % (8 + k) < 8 + k
remainder n k = omega arith

drawn_below : (seed : ℕ) → AllBelow (operands_of seed)
drawn_below seed k = record { first = remainder _ k; second = remainder _ k; third = remainder _ k }

-- what holds of one file that a source spells holds of each
clean_by : (source : List ℕ) (file : File) → ((first second : File) → SpellsFile source first
    → SpellsFile source second → first ≡ second)
    → ((other : File) (fault : SourceFault) → SpellsFile source other → HasFault source fault → ⊥)
    → SpellsFile source file
    → IsJudged None None file 1 0 → HasSmallCore file → IsClean source
clean_by source file one apart spelled is_judged is_small = record {
  spelled = (file, spelled);
  no_fault = λ fault has. apart file fault spelled has;
  judged = λ other spells. subst (λ (f : File). IsJudged None None f 1 0) (one file other spelled spells) is_judged;
  small = λ other spells. subst HasSmallCore (one file other spelled spells) is_small;
}

pub returns : goal.returns
returns c = λ seed size some few.
    let below = drawn_below seed in
    let spelled = source_spelled (operands_of seed) below size some few in
    clean_by (generated_source seed size) (file_of (operands_of seed) size spelled.0)
    (c.one_source.ensures.file (generated_source seed size))
    (c.one_source.ensures.apart (generated_source seed size)) spelled.2
    (judged (operands_of seed) below size few spelled.0 spelled.1)
    (small_core (operands_of seed) below size few spelled.0 spelled.1)
