-- Completeness. Where an order has an answer on files that are told, and neither fetches nor the output failed, the run
-- ends with an answer, which was written whole, or memory was wanting.
use Rattle.std.specs.Prelude.{◌≡◌, ◌⊎◌, ℕ, List, Option, Some}
use Rattle.tor_edge.specs.Count.{Rose}
use Rattle.tornado_main.specs.Files.{Contents}
use Rattle.tornado_main.specs.Orders.{OrderEnds}
use Rattle.tornado_main.specs.Outcome.{answers}
use Rattle.tornado_main.specs.Run.{WroteAnswer}
use Rattle.tornado_main.specs.Words.{order_of}
use Rattle.tornado_main.specs.declared.status.Status.{Status}
use Rattle.tornado_main.specs.declared.status.Status.TheVariants.{Memory}
use Rattle.tornado_words.specs.declared.order.Order.{Order}

-- an answer with this status was written whole, or memory was wanting and nothing was written
abbrev pub AnswersWholly : {O : Type 0} → (O → Option (List ℕ)) → Contents → Order → (out_old out_new : O)
    → (expected status : Status) → Type 0
AnswersWholly written contents order out_old out_new expected status =
    ((status ≡ expected) × WroteAnswer (OrderEnds contents order) expected (written out_old) (written out_new))
    ⊎ ((status ≡ Memory) × (out_new ≡ out_old))

-- the run is complete. The files are valid where the order has an answer on them: then it has no refusal
abbrev pub IsComplete : {F O : Type 0} → (faults too_long : F → ℕ) → (F → Contents) → (out_faults : O → ℕ)
    → (O → Option (List ℕ)) → (words : List (List ℕ)) → (files_old files_new : F) → (out_old out_new : O) → Status → Type 0
IsComplete faults too_long contents out_faults written words files_old files_new out_old out_new status =
    (order : Order) (file : List ℕ → Option (List ℕ)) (text : List ℕ) (expected : Status)
    → order_of words ≡ Some order → contents files_old ≡ Some file → OrderEnds (Some file) order (answers text expected)
    → ¬ Rose (faults files_old) (faults files_new) → ¬ Rose (too_long files_old) (too_long files_new)
    → ¬ Rose (out_faults out_old) (out_faults out_new)
    → AnswersWholly written (Some file) order out_old out_new expected status
