-- All bytes say the inputs of a core or have a fault.
use Rattle.std.proofs.Common.{◌≡◌, ◌⊎◌, inl, inr, ℕ, List, Result, Ok, Err, refl}
use Rattle.data_text.specs.Laws.{ValuesOrFault}
use Rattle.data_text.specs.Reading.{values_of, IsSaidOrFault}
use Rattle.data_text.specs.declared.fault.ValueFault.{ValueFault}
use Rattle.data_text.specs.declared.fault.ValueFault.TheVariants as fault
use Rattle.usuba0.specs.Circuit.{Circuit}
use Rattle.usuba0.specs.Term.{bits_of_width}
use Rattle.tornado_main.specs.commands.Eval.{SaysInputs, IsFaultyInputs, syntax, out_of_range}
use Rattle.tornado_main.specs.declared.message.Fault.{Fault}

-- all bytes say the inputs of a core, or have a fault as these
pub inputs_read : ValuesOrFault → (core : Circuit) (bytes : List ℕ)
    → ((inputs : List ℕ) × SaysInputs core inputs bytes) ⊎ ((wrong : Fault) × IsFaultyInputs core wrong bytes)
inputs_read values_or_fault core bytes =
    by_answer (values_of core.inputs (bits_of_width core.width) bytes) refl (values_or_fault core.inputs (bits_of_width core.width) bytes)
  where
    by_answer : (r : Result (List ℕ) ValueFault) → values_of core.inputs (bits_of_width core.width) bytes ≡ r → IsSaidOrFault r
        → ((inputs : List ℕ) × SaysInputs core inputs bytes) ⊎ ((wrong : Fault) × IsFaultyInputs core wrong bytes)
    by_answer (Ok inputs) is said = inl (inputs, is)
    by_answer (Err (fault.Syntax line)) is said = inr (_, syntax bytes line is)
    by_answer (Err (fault.OutOfRange line)) is said = inr (_, out_of_range bytes line is)
    by_answer (Err (fault.Memory error)) is said = absurd said
