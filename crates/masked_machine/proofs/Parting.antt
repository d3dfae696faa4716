-- Calls with more random words: the words were too few, or what comes is the same.
use Rattle.std.proofs.Common.{◌≡◌, ◌⊎◌, inl, inr, ℕ, suc, List, [], ◌∷◌, ◌++◌, Option, None, Some, Ok, Err, refl, sym, ap, subst}
use Rattle.c_tree.specs.declared.CArg.{CArg}
use Rattle.c_tree.specs.declared.CCall.{CCall}
use Rattle.c_tree.specs.declared.CFile.{CFile}
use Rattle.c_tree.specs.declared.CFun.{CFun}
use Rattle.c_machine.specs.Scope.{Binding}
use Rattle.c_machine.specs.Machine.{Outcome}
use Rattle.c_machine.specs.Run.{Ending, after_call, body_done, bound, call_done, gadget_named}
use Rattle.c_machine.specs.declared.stop.RunFault.{RunFault}
use Rattle.c_machine.specs.declared.stop.RunFault.TheVariants as fault
use Rattle.c_machine.specs.declared.stop.Trap.TheVariants.{IndexOut, BadShift, WordsShort}
use Rattle.masked_machine.proofs.Calls.{calls_then}
use Rattle.masked_machine.proofs.Streams.{AgreesOutcome, statements_agree}

-- what comes of a memory and of the random words that are left
abbrev pub Final : Type 0
Final = List (List ℕ) → List ℕ → Ending

-- what comes of calls with some random words, and with more of them, whatever is made of what they leave: the words are too few,
-- or the calls leave the same memory and the further words, or they are stopped by a fault
abbrev pub Parted : List ℕ → (Final → Ending) → (Final → Ending) → Type 0
Parted more short long =
    ((final : Final) → short final ≡ Err fault.WordsShort)
    ⊎ ((left : List (List ℕ)) × (rest : List ℕ) × ((final : Final) → short final ≡ final left rest) × ((final : Final) → long final ≡ final left (rest ++ more)))
    ⊎ ((met : RunFault) × ((final : Final) → long final ≡ Err met))

module _ (more : List ℕ) (d : ℕ) (file : CFile) where
  body_agrees : (gadget : CFun) (memory : List (List ℕ)) (stream : List ℕ) (scope : Option (List Binding))
      → AgreesOutcome more (body_done d file.reg_bits gadget memory stream scope) (body_done d file.reg_bits gadget memory (stream ++ more) scope)
  body_agrees gadget memory stream None = refl
  body_agrees gadget memory stream (Some scope) =
      statements_agree more d file.reg_bits gadget.body (record { scope = scope; memory = memory; stream = stream })

  call_agrees : (arguments : List CArg) (memory : List (List ℕ)) (stream : List ℕ) (gadget : Option CFun)
      → AgreesOutcome more (call_done d file arguments memory stream gadget) (call_done d file arguments memory (stream ++ more) gadget)
  call_agrees arguments memory stream None = refl
  call_agrees arguments memory stream (Some gadget) = body_agrees gadget memory stream (bound file gadget.params arguments)

  parted_step : (k : ℕ) (calls : List CCall)
      → ((memory : List (List ℕ)) (stream : List ℕ) → Parted more (λ final. calls_then d file final (suc k) calls memory stream) (λ final. calls_then d file final (suc k) calls memory (stream ++ more)))
      → (o longer : Outcome) → AgreesOutcome more o longer
      → Parted more (λ final. after_call k (calls_then d file final (suc k) calls) o) (λ final. after_call k (calls_then d file final (suc k) calls) longer)
  parted_step k calls further (Ok state) longer is =
      subst (λ l. Parted more (λ final. calls_then d file final (suc k) calls state.memory state.stream) (λ final. after_call k (calls_then d file final (suc k) calls) l))
      (sym is) (further state.memory state.stream)
  parted_step k calls further (Err IndexOut) longer is =
      inr (inr (fault.IndexOut k, λ final. ap (after_call k (calls_then d file final (suc k) calls)) is))
  parted_step k calls further (Err BadShift) longer is =
      inr (inr (fault.BadShift k, λ final. ap (after_call k (calls_then d file final (suc k) calls)) is))
  parted_step k calls further (Err WordsShort) longer is = inl (λ final. refl)

  -- of all calls
  pub parted : (calls : List CCall) (k : ℕ) (memory : List (List ℕ)) (stream : List ℕ)
      → Parted more (λ final. calls_then d file final k calls memory stream) (λ final. calls_then d file final k calls memory (stream ++ more))
  parted [] k memory stream = inr (inl (memory, stream, λ final. refl, λ final. refl))
  parted (call ∷ calls) k memory stream =
      parted_step k calls (parted calls (suc k)) _ _ (call_agrees call.args memory stream (gadget_named file.gadgets call.gadget))
