-- `run CFILE DATA`
use Rattle.std.specs.Prelude.{◌≡◌, ◌<◌, ◌≤◌, ◌*◌, ℕ, length, List, [], ◌++◌, take, drop, Ok, Err, codes, decimal, flat_map}
use Rattle.std.specs.List.{range_with_len}
use Rattle.c_tree.specs.declared.CFile.{CFile}
use Rattle.c_machine.specs.Run.{machine_run}
use Rattle.c_machine.specs.declared.stop.RunFault.TheVariants as run_fault
use Rattle.c_meaning.specs.CSubset.{Spells, IsBadName}
use Rattle.c_syntax.specs.Syntax.{IsSyntaxFault}
use Rattle.data_text.specs.Reading.{run_of}
use Rattle.data_text.specs.declared.fault.ValueFault.TheVariants as value_fault
use Rattle.data_text.specs.declared.read.RunValues.{RunValues}
use Rattle.tor_edge.specs.declared.place.Place.{Place}
use Rattle.tornado_main.specs.Files.{Contents}
use Rattle.tornado_main.specs.Outcome.{Outcome, answers, refused}
use Rattle.tornado_main.specs.Steps.{AfterFile}
use Rattle.tornado_main.specs.declared.message.Complaint.TheVariants as complaint
use Rattle.tornado_main.specs.declared.message.Spot.TheVariants as spot
use Rattle.tornado_main.specs.declared.message.Fault.{Fault}
use Rattle.tornado_main.specs.declared.status.Status.TheVariants as status

-- the bytes spell this file of C
abbrev pub IsCFile : CFile → List ℕ → Type 0
IsCFile file bytes = Spells bytes file

-- the first fault of the bytes of a file of C, at its place
pub data IsFaultyCFile : Fault → List ℕ → Type 0 where
  syntax : (bytes : List ℕ) (at : Place) → IsSyntaxFault bytes at
      → IsFaultyCFile (record { at = spot.Place at; what = complaint.Syntax }) bytes
  bad_name : (bytes : List ℕ) (at : Place) → IsBadName bytes at
      → IsFaultyCFile (record { at = spot.Place at; what = complaint.BadName }) bytes

-- the bytes say how many shares there are, those of each input of the file, and random words
abbrev pub SaysRun : CFile → RunValues → List ℕ → Type 0
SaysRun file said bytes = run_of file.inputs file.reg_bits bytes ≡ Ok said

-- the first line of the bytes that is wrong, and what is wrong with it
pub data IsFaultyRun (file : CFile) : Fault → List ℕ → Type 0 where
  syntax : (bytes : List ℕ) (line : ℕ) → run_of file.inputs file.reg_bits bytes ≡ Err (value_fault.Syntax line)
      → IsFaultyRun file (record { at = spot.Line line; what = complaint.Syntax }) bytes
  out_of_range : (bytes : List ℕ) (line : ℕ) → run_of file.inputs file.reg_bits bytes ≡ Err (value_fault.OutOfRange line)
      → IsFaultyRun file (record { at = spot.Line line; what = complaint.OutOfRange }) bytes

-- what a run of a file asks of its data
pub record CanRun (file : CFile) (said : RunValues) : Type 0 where
  pub some : 0 < said.shares
  pub few : said.shares ≤ 64
  pub count : length said.inputs ≡ file.inputs * said.shares

-- a share after a blank
abbrev pub share_text : ℕ → List ℕ
share_text share = codes " " ++ decimal share

-- the line of output k, with its shares
abbrev pub output_text : ℕ → List ℕ → List ℕ
output_text k shares = codes "o" ++ decimal k ++ flat_map share_text shares ++ codes "\n"

-- the line of output k, among shares of which each output has d
abbrev pub line_text : (d : ℕ) → List ℕ → ℕ → List ℕ
line_text d shares k = output_text k (take d (drop (k * d) shares))

-- the lines of n outputs of d shares each
abbrev pub outputs_text : (d n : ℕ) → List ℕ → List ℕ
outputs_text d n shares = flat_map (line_text d shares) (range_with_len 0 n)

-- the shares of the outputs, or what the run meets first: the fault of the file at a call, or of the data that has too few words
pub data RunsTo (cfile values : List ℕ) (file : CFile) (said : RunValues) : Outcome → Type 0 where
  done : (shares : List ℕ) → machine_run said.shares file said.inputs said.words ≡ Ok shares
      → RunsTo cfile values file said (answers (outputs_text said.shares file.outputs shares) status.Done)
  index_out : (k : ℕ) → machine_run said.shares file said.inputs said.words ≡ Err (run_fault.IndexOut k)
      → RunsTo cfile values file said (refused status.Values cfile (record { at = spot.Call k; what = complaint.IndexOut }))
  bad_shift : (k : ℕ) → machine_run said.shares file said.inputs said.words ≡ Err (run_fault.BadShift k)
      → RunsTo cfile values file said (refused status.Values cfile (record { at = spot.Call k; what = complaint.BadShift }))
  words_short : machine_run said.shares file said.inputs said.words ≡ Err run_fault.WordsShort
      → RunsTo cfile values file said (refused status.Values values (record { at = spot.Whole; what = complaint.WordsShort }))

-- it runs the file of C on the data of the other file, and prints the shares of its outputs
abbrev pub RunEnds : Contents → (cfile values : List ℕ) → Outcome → Type 0
RunEnds contents cfile values =
    AfterFile contents cfile status.Values IsCFile IsFaultyCFile (λ file.
    AfterFile contents values status.Values (SaysRun file) (IsFaultyRun file) (RunsTo cfile values file))
