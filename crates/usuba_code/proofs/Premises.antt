-- The premises of the law of code follow from what is known of expressions that were walked without a fault.
use Rattle.std.proofs.Common.{ℕ, List, [], ◌∷◌, length, sym, ap, ◌∙◌}
use Rattle.std.proofs.lemmas.Option.{same_Some}
use Rattle.usuba_model.specs.Rounds.{Callees}
use Rattle.usuba_model.specs.Unrolled.{Expression, cells, number, nothing, joined, call, complement, operation, shift, refresh}
use Rattle.usuba_model.specs.Walk.{Signature}
use Rattle.usuba_model.proofs.Sizing.{IsSized}
use Rattle.usuba_model.proofs.Valuing.{AreKnown, AreTotal}
use Rattle.usuba_code.specs.CodeLaw.{Each, HasSizes, AnswersAll}

-- a well-sized expression has the sizes that its code wants
pub has_sizes : (w : ℕ) (signatures : List Signature) (e : Expression) → IsSized w signatures e → HasSizes signatures e
has_sizes w signatures (number value) sized = tt
has_sizes w signatures (cells read) sized = tt
has_sizes w signatures nothing sized = tt
has_sizes w signatures (joined a b) sized = (has_sizes w signatures a sized.0, has_sizes w signatures b sized.1)
has_sizes w signatures (call name args) sized = (has_sizes w signatures args sized.0, sized.1)
has_sizes w signatures (complement a) sized = has_sizes w signatures a sized
has_sizes w signatures (operation op a b) sized =
    (has_sizes w signatures a sized.0, has_sizes w signatures b sized.1, sized.2)
has_sizes w signatures (shift kind k a) sized = (has_sizes w signatures a sized.0, sized.1)
has_sizes w signatures (refresh k a) sized = has_sizes w signatures a sized.0

-- known callees answer whole
pub answers_all : {V : Type 0} (known : List (List ℕ)) (signatures : List Signature) (callees : Callees V) → AreTotal known signatures callees
    → (names : List (List ℕ)) → AreKnown known names → Each (AnswersAll signatures callees) names
answers_all known signatures callees total [] all = tt
answers_all known signatures callees total (name ∷ names) all = (
  λ elements made fits is.
      let answer = total name all.0 elements fits in
      ap length (same_Some made answer.0 (sym is ∙ answer.1)) ∙ answer.2,
  answers_all known signatures callees total names all.1,
)
