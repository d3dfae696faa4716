-- At width 1 each bit of a word is an instance of its own, a lane.
use Rattle.std.specs.Prelude.{◌≡◌, ℕ, ◌<◌, Bool, List, length, map, Option, Some}
use Rattle.std.specs.Int.{bit_at}
use Rattle.c_tree.specs.declared.CFile.{CFile}
use Rattle.share_gadgets.specs.Sharing.{sharing_value}
use Rattle.source_terms.specs.SourceTerms.{core_of_source}
use Rattle.usuba_trees.specs.declared.File.{File}
use Rattle.usuba0.specs.Circuit.{Circuit, IsCore}
use Rattle.usuba0.specs.PlainRun.{plain_run}
use Rattle.usuba_model.specs.Judging.{IsJudged}
use Rattle.usuba_model.specs.Meaning.{plain_meaning}
use Rattle.masked_meaning.specs.MaskedCode.{IsMaskedRun, AnswersSharings}

-- a lane of words: 1 for each word that has this bit, and 0 for each that has not
abbrev pub lane : ℕ → List ℕ → List ℕ
lane position words = map (λ word. bit_at word position) words

-- a lane of the run of a core of width 1 over words of B bits is bit 0 of the run at that lane of the inputs
abbrev pub LanesAreRuns : Type 0
LanesAreRuns = (core : Circuit) (B position : ℕ) (inputs : List ℕ) → IsCore core → core.width ≡ 1 → position < B
    → length inputs ≡ core.inputs
    → lane position (plain_run B core inputs) ≡ lane 0 (plain_run 32 core (lane position inputs))

-- masked code of a judged source of width 1, for words of B bits: its answer has values, and each lane of them is bit 0 of
-- the source's plain meaning at that lane of the values of the inputs
abbrev pub MaskedLanesComputeTheSource : Type 0
MaskedLanesComputeTheSource =
    (asked_width : Option ℕ) (asked_entry : Option (List ℕ)) (source : File) (entry : ℕ)
    → IsJudged asked_width asked_entry source 1 entry
    → (core : Circuit) → core_of_source 1 source entry ≡ Some core
    → (set : ℕ → Bool) (B d : ℕ) (file : CFile) (inputs : List (List ℕ)) (words : List ℕ)
    → IsMaskedRun core set B d file inputs words
    → (values : List ℕ) × AnswersSharings B d file inputs words values
    × ((position : ℕ) → position < B → (outputs : List ℕ)
    × (plain_meaning 1 32 source entry (lane position (map sharing_value inputs)) ≡ Some outputs)
    × (lane position values ≡ lane 0 outputs))
