-- `eval FILE DATA`
use Rattle.std.specs.Prelude.{◌≡◌, ℕ, List, Option, Some, Ok, Err}
use Rattle.data_text.specs.Reading.{values_of}
use Rattle.data_text.specs.Writing.{values_text}
use Rattle.data_text.specs.declared.fault.ValueFault.TheVariants as value_fault
use Rattle.usuba_trees.specs.declared.File.{File}
use Rattle.usuba_syntax.specs.Sources.{SpellsFile}
use Rattle.usuba_model.specs.Judging.{IsJudged}
use Rattle.usuba_model.specs.Meaning.{plain_meaning}
use Rattle.usuba0.specs.Circuit.{Circuit}
use Rattle.usuba0.specs.PlainRun.{plain_run}
use Rattle.usuba0.specs.Term.{bits_of_width}
use Rattle.tornado_words.specs.declared.order.Basis.{Basis}
use Rattle.tornado_words.specs.declared.order.Basis.TheVariants as basis
use Rattle.tornado_main.specs.Bases as bases
use Rattle.tornado_main.specs.Files.{Contents}
use Rattle.tornado_main.specs.Outcome.{Outcome, answers}
use Rattle.tornado_main.specs.Steps.{AfterFile}
use Rattle.tornado_main.specs.declared.message.Complaint.TheVariants as complaint
use Rattle.tornado_main.specs.declared.message.Spot.TheVariants as spot
use Rattle.tornado_main.specs.declared.message.Fault.{Fault}
use Rattle.tornado_main.specs.declared.status.Status.TheVariants as status

-- the core of a file, and the bytes that have it
pub record Held : Type 0 where
  pub core : Circuit
  pub bytes : List ℕ

-- the bytes have this core
pub record IsHeld (read_as : Basis) (held : Held) (bytes : List ℕ) : Type 0 where
  pub core : bases.Holds read_as held.core bytes
  pub same : held.bytes ≡ bytes

-- the outputs are the plain meaning, at these inputs, of the source that the bytes are
pub record IsMeaning (asked_width : Option ℕ) (asked_entry : Option (List ℕ)) (bytes inputs outputs : List ℕ) : Type 0 where
  pub file : File
  pub width : ℕ
  pub entry : ℕ
  pub spelled : SpellsFile bytes file
  pub judged : IsJudged asked_width asked_entry file width entry
  pub meaning : plain_meaning width (bits_of_width width) file entry inputs ≡ Some outputs

-- the outputs at these inputs: of a source by its plain meaning, of core text by the plain run of its core
abbrev pub AreOutputs : Basis → Held → (inputs outputs : List ℕ) → Type 0
AreOutputs (basis.Source width entry) held inputs outputs = IsMeaning width entry held.bytes inputs outputs
AreOutputs basis.CoreText held inputs outputs = outputs ≡ plain_run (bits_of_width held.core.width) held.core inputs

-- the bytes say a word for each input of the core
abbrev pub SaysInputs : Circuit → (inputs bytes : List ℕ) → Type 0
SaysInputs core inputs bytes = values_of core.inputs (bits_of_width core.width) bytes ≡ Ok inputs

-- the first line of the bytes that is wrong, and what is wrong with it
pub data IsFaultyInputs (core : Circuit) : Fault → List ℕ → Type 0 where
  syntax : (bytes : List ℕ) (line : ℕ) → values_of core.inputs (bits_of_width core.width) bytes ≡ Err (value_fault.Syntax line)
      → IsFaultyInputs core (record { at = spot.Line line; what = complaint.Syntax }) bytes
  out_of_range : (bytes : List ℕ) (line : ℕ) → values_of core.inputs (bits_of_width core.width) bytes ≡ Err (value_fault.OutOfRange line)
      → IsFaultyInputs core (record { at = spot.Line line; what = complaint.OutOfRange }) bytes

-- the outputs on one line
abbrev pub TellsOutputs : Basis → Held → (inputs : List ℕ) → Outcome → Type 0
TellsOutputs read_as held inputs end =
    (outputs : List ℕ) × AreOutputs read_as held inputs outputs × (end ≡ answers (values_text outputs) status.Done)

-- it reads the inputs of the other file, and prints the outputs
abbrev pub EvalEnds : Contents → (file values : List ℕ) → Basis → Outcome → Type 0
EvalEnds contents file values read_as =
    AfterFile contents file status.Source (IsHeld read_as) (bases.IsFaulty read_as) (λ held.
    AfterFile contents values status.Values (SaysInputs held.core) (IsFaultyInputs held.core) (TellsOutputs read_as held))
