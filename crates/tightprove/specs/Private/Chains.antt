-- Steps from classes to their partners that a leak takes one after the other.
use Rattle.std.specs.Prelude.{◌≡◌, ◌⊎◌, ◌++◌, ℕ, List, All, Contains}
use Rattle.span_model.specs.Columns.{Columns}
use Rattle.span_model.specs.Span.{InSpan, SameSpan}
use Rattle.tightprove.specs.Classes.{class_rows, IsPartner}
use Rattle.tightprove.specs.declared.class.Class.{Class}
use Rattle.tightprove.specs.declared.chains.ClassStep.{ClassStep}

-- each of the steps goes from a class to one of its partners
abbrev pub AreClassSteps : List Class → List ClassStep → Type 0
AreClassSteps classes steps = All (λ step. IsPartner classes step.from step.to) steps

-- the span as it was; or the class that the step goes from gives the leak with the span, and the rows of the other are taken
abbrev pub IsTaken : List Class → (leak : Columns ℕ) → ClassStep → (old new : List (Columns ℕ)) → Type 0
IsTaken classes leak step old new =
    (new ≡ old) ⊎ (InSpan (class_rows classes step.from ++ old) leak × SameSpan new (old ++ class_rows classes step.to))

-- where the old steps go from classes to their partners, and the partners are those of class `from`, the new steps do so too
abbrev pub NotesPartners : (from : ℕ) → (partners : List ℕ) → (old new : List ClassStep) → Type 0
NotesPartners from partners old new =
    (classes : List Class) → ((j : ℕ) → Contains partners j → IsPartner classes from j) → AreClassSteps classes old → AreClassSteps classes new
