-- What masked code computes.
use Rattle.std.specs.Prelude.{◌≡◌, ℕ, ◌<◌, ◌≤◌, Bool, List, length, map, All, Option, Some, Ok}
use Rattle.c_tree.specs.declared.CFile.{CFile}
use Rattle.c_machine.specs.Run.{machine_run, words_of_rows}
use Rattle.c_form.specs.MaskedForm.{IsMaskedForm}
use Rattle.core_refresh.specs.RefreshedCore.{refreshed_core}
use Rattle.share_gadgets.specs.MaskedRun.{words_drawn}
use Rattle.share_gadgets.specs.RunLaw.{AreWordBits}
use Rattle.share_gadgets.specs.Sharing.{sharing_value, IsSharing}
use Rattle.source_terms.specs.SourceTerms.{core_of_source}
use Rattle.usuba_trees.specs.declared.File.{File}
use Rattle.usuba0.specs.Circuit.{Circuit, IsCore}
use Rattle.usuba0.specs.PlainRun.{plain_run}
use Rattle.usuba0.specs.Term.{bits_of_width}
use Rattle.usuba_model.specs.Judging.{IsJudged}
use Rattle.usuba_model.specs.Meaning.{plain_meaning}

-- the file is the masked form of the core with the refreshes of a set of products, for words of B bits, and is run on d
-- shares, d above 0, with sharings of the core's inputs and with random words that are enough
pub record IsMaskedRun (core : Circuit) (set : ℕ → Bool) (B d : ℕ) (file : CFile) (inputs : List (List ℕ))
    (words : List ℕ) : Type 0 where
  pub is_core : IsCore core
  pub form : IsMaskedForm (refreshed_core core set) B file
  pub bits : AreWordBits core.width B
  pub some : 0 < d
  pub count : length inputs ≡ core.inputs
  pub shared : All (IsSharing B d) inputs
  pub enough : words_drawn d (refreshed_core core set) ≤ length words

-- the machine's answer is sharings on d shares of B bits, whose values are these
pub record AnswersSharings (B d : ℕ) (file : CFile) (inputs : List (List ℕ)) (words given : List ℕ) : Type 0 where
  pub shares : List (List ℕ)
  pub answer : machine_run d file (words_of_rows inputs) words ≡ Ok (words_of_rows shares)
  pub shared : All (IsSharing B d) shares
  pub values : map sharing_value shares ≡ given

-- the values of the answer are the plain run of the core, over words of B bits, at the values of the inputs
abbrev pub MaskedCodeComputesTheCore : Type 0
MaskedCodeComputesTheCore =
    (core : Circuit) (set : ℕ → Bool) (B d : ℕ) (file : CFile) (inputs : List (List ℕ)) (words : List ℕ)
    → IsMaskedRun core set B d file inputs words
    → AnswersSharings B d file inputs words (plain_run B core (map sharing_value inputs))

-- for the core of a judged source, over words of as many bits as its width has, they are the source's plain meaning
abbrev pub MaskedCodeComputesTheSource : Type 0
MaskedCodeComputesTheSource =
    (asked_width : Option ℕ) (asked_entry : Option (List ℕ)) (source : File) (width entry : ℕ)
    → IsJudged asked_width asked_entry source width entry
    → (core : Circuit) → core_of_source width source entry ≡ Some core
    → (set : ℕ → Bool) (d : ℕ) (file : CFile) (inputs : List (List ℕ)) (words : List ℕ)
    → IsMaskedRun core set (bits_of_width width) d file inputs words
    → (values : List ℕ)
    × (plain_meaning width (bits_of_width width) source entry (map sharing_value inputs) ≡ Some values)
    × AnswersSharings (bits_of_width width) d file inputs words values
