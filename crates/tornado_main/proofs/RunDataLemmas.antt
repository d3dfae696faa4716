-- All bytes are a file of C or have a fault, and say the data of a run or have a fault.
use Rattle.std.proofs.Common.{◌≡◌, ◌⊎◌, inl, inr, ℕ, List, Result, Ok, Err, refl}
use Rattle.tor_edge.specs.declared.place.Place.{Place}
use Rattle.c_tree.specs.declared.CFile.{CFile}
use Rattle.c_meaning.specs.CSubset.{Spells, IsBadName}
use Rattle.c_syntax.specs.Syntax.{IsSyntaxFault}
use Rattle.data_text.specs.Laws.{RunOrFault}
use Rattle.data_text.specs.Reading.{run_of, IsSaidOrFault}
use Rattle.data_text.specs.declared.fault.ValueFault.{ValueFault}
use Rattle.data_text.specs.declared.fault.ValueFault.TheVariants as fault
use Rattle.data_text.specs.declared.read.RunValues.{RunValues}
use Rattle.tornado_main.specs.commands.Run.{IsCFile, IsFaultyCFile, SaysRun, IsFaultyRun}
use Rattle.tornado_main.specs.commands.Run as run
use Rattle.tornado_main.specs.declared.message.Fault.{Fault}

-- all bytes are a file of C, or have a fault as one
pub c_read : ((bytes : List ℕ) → ((file : CFile) × Spells bytes file)
    ⊎ ((place : Place) × (IsSyntaxFault bytes place ⊎ IsBadName bytes place)))
    → (bytes : List ℕ) → ((file : CFile) × IsCFile file bytes) ⊎ ((wrong : Fault) × IsFaultyCFile wrong bytes)
c_read file_or_fault bytes = by_answer (file_or_fault bytes)
  where
    by_answer : ((file : CFile) × Spells bytes file) ⊎ ((place : Place) × (IsSyntaxFault bytes place ⊎ IsBadName bytes place))
        → ((file : CFile) × IsCFile file bytes) ⊎ ((wrong : Fault) × IsFaultyCFile wrong bytes)
    by_answer (inl spelled) = inl spelled
    by_answer (inr (place, inl is)) = inr (_, run.syntax bytes place is)
    by_answer (inr (place, inr is)) = inr (_, run.bad_name bytes place is)

-- all bytes say the data of a run of a file, or have a fault as these
pub run_read : RunOrFault → (file : CFile) (bytes : List ℕ)
    → ((said : RunValues) × SaysRun file said bytes) ⊎ ((wrong : Fault) × IsFaultyRun file wrong bytes)
run_read run_or_fault file bytes =
    by_answer (run_of file.inputs file.reg_bits bytes) refl (run_or_fault file.inputs file.reg_bits bytes)
  where
    by_answer : (r : Result RunValues ValueFault) → run_of file.inputs file.reg_bits bytes ≡ r → IsSaidOrFault r
        → ((said : RunValues) × SaysRun file said bytes) ⊎ ((wrong : Fault) × IsFaultyRun file wrong bytes)
    by_answer (Ok said) is known = inl (said, is)
    by_answer (Err (fault.Syntax line)) is known = inr (_, run.syntax bytes line is)
    by_answer (Err (fault.OutOfRange line)) is known = inr (_, run.out_of_range bytes line is)
    by_answer (Err (fault.Memory error)) is known = absurd known
