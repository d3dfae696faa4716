-- The derivation of a leak.
use Rattle.std.specs.Prelude.{◌≡◌, ◌≢◌, ◌<◌, ℕ, List, [], ◌∷◌, length, map, nat_le, if◌then◌else◌, slice_index, slice_index_or, All, Contains}
use Rattle.std.specs.List.Sorted.{IsStrictlyIncreasing}
use Rattle.span_model.specs.Columns.{Columns, empty}
use Rattle.span_model.specs.Span.{InSpan}
use Rattle.span_model.specs.Attack.{Product}
use Rattle.span_model.specs.Closure.{on_left, operand, co_operand, co_operands, Step as ProductStep}
use Rattle.span_select.specs.Selection.{AreLeastNumbers}
use Rattle.attack_model.specs.declared.attack.Step.{Step}
use Rattle.attack_probes.specs.Derivations.{product_step}
use Rattle.attack_model.specs.Derivations.{step_at}
use Rattle.attack_cert.specs.Levels.{listed, AreLevels}

-- the step that is listed at this place
abbrev pub listed_at : List ProductStep → ℕ → ProductStep
listed_at steps place = slice_index_or steps place (record { product = 0; side = on_left })

-- the steps of lower levels than the step that is listed at this place
abbrev pub lower_steps : List (List ProductStep) → ℕ → List ProductStep
lower_steps [] place = []
lower_steps (level ∷ lower) place = if nat_le (length (listed lower)) place then listed lower else lower_steps lower place

-- the places of the steps of these numbers
abbrev pub places_of : (places numbers : List ℕ) → List ℕ
places_of places numbers = map (slice_index places) numbers

-- the root reaches the steps that it uses, and those that a step uses which it reaches
pub data IsReached (steps : List Step) (root : List ℕ) : ℕ → Type 0 where
  by_root : {number : ℕ} → Contains root number → IsReached steps root number
  by_step : {user number : ℕ} → IsReached steps root user → Contains (step_at steps user).uses number → IsReached steps root number

-- the steps and the root's uses are the derivation of the leak
pub record IsDerivation {C : Type 0} (products : List (Product C)) (leak : Columns C) (steps : List Step) (root : List ℕ) : Type 0 where
  pub nonempty : leak ≢ empty
  -- the steps of the least level up to which the co-operands of all steps span the leak, and those of the levels below it
  pub last : List ProductStep
  pub lower : List (List ProductStep)
  pub levels : AreLevels products leak (last ∷ lower)
  pub spanned : InSpan (co_operands products (listed (last ∷ lower))) leak
  pub least : ¬ InSpan (co_operands products (listed lower)) leak
  -- the places of the derivation's steps among the steps up to that level, which are listed in rising order
  pub places : List ℕ
  pub rise : IsStrictlyIncreasing places
  pub below : All (λ place. place < length (listed (last ∷ lower))) places
  pub kept : map product_step steps ≡ map (listed_at (listed (last ∷ lower))) places
  -- the root's uses are the least selection of the steps up to that level whose co-operands span the leak
  pub root_numbers : All (λ number. number < length steps) root
  pub root_uses : AreLeastNumbers [] (map (co_operand products) (listed (last ∷ lower))) leak (places_of places root)
  -- a step's uses are the least selection of the steps of lower levels whose co-operands, with the step's own operand, span the leak
  pub numbers : All (λ step. All (λ number. number < length steps) step.uses) steps
  pub uses : (number : ℕ) → number < length steps
      → AreLeastNumbers (operand products (product_step (step_at steps number)))
      (map (co_operand products) (lower_steps (last ∷ lower) (slice_index places number)))
      leak (places_of places (step_at steps number).uses)
  -- the steps are those that the root reaches
  pub reached : (number : ℕ) → number < length steps → IsReached steps root number
