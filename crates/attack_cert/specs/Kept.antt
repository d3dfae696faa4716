-- What is kept of the steps that the root reaches, and their numbers.
use Rattle.std.specs.Prelude.{◌≡◌, ◌<◌, ◌≤◌, ℕ, List, [], ◌++◌, length, map, take, slice_index_or, All, Contains}
use Rattle.std.specs.List.Sorted.{IsStrictlyIncreasing}
use Rattle.span_model.specs.Columns.{Columns}
use Rattle.span_model.specs.Span.{InSpan}
use Rattle.span_model.specs.Attack.{Product}
use Rattle.span_model.specs.Closure.{operand, co_operand, co_operands}
use Rattle.span_select.specs.Selection.{AreLeastNumbers}
use Rattle.linear_view.specs.declared.operand.Side.TheVariants.{Left}
use Rattle.linear_view.specs.Sides.{step_of}
use Rattle.attack_model.specs.declared.attack.Step.{Step}
use Rattle.attack_probes.specs.Derivations.{product_step}
use Rattle.attack_model.specs.Derivations.{step_at}
use Rattle.attack_cert.specs.Derivation.{places_of}
use Rattle.attack_cert.specs.Levelled.{levelled_steps}
use Rattle.attack_cert.specs.declared.levels.Levelled.{Levelled}
use Rattle.attack_cert.specs.declared.reached.Kept.{Kept}

-- the step that is listed at this place
abbrev pub levelled_at : List Levelled → ℕ → Levelled
levelled_at listed place = slice_index_or listed place (record { operand = record { product = 0; side = Left }; lower = 0 })

-- the co-operands of the listed steps span the leak, and so do those of the steps of lower levels with each step's own operand
pub record AreSupported {C : Type 0} (products : List (Product C)) (leak : Columns C) (listed : List Levelled) : Type 0 where
  pub within : All (λ step. step.operand.product < length products) listed
  pub lower : (place : ℕ) → place < length listed → (levelled_at listed place).lower ≤ place
  pub spanned : (place : ℕ) → place < length listed
      → InSpan (operand products (step_of (levelled_at listed place).operand)
      ++ co_operands products (take (levelled_at listed place).lower (levelled_steps listed))) leak
  pub whole : InSpan (co_operands products (levelled_steps listed)) leak

-- the places of the steps that are kept
abbrev pub kept_places : List Kept → List ℕ
kept_places kept = map (λ step. step.place) kept

-- the place is one that the root reaches
pub data IsPlaceReached (root : List ℕ) (kept : List Kept) : ℕ → Type 0 where
  by_root : {place : ℕ} → Contains root place → IsPlaceReached root kept place
  by_step : {place : ℕ} (user : Kept) → Contains kept user → IsPlaceReached root kept user.place → Contains user.uses place → IsPlaceReached root kept place

-- the uses of the step at this place
abbrev pub HasUses : {C : Type 0} → List (Product C) → Columns C → List Levelled → (place : ℕ) → List ℕ → Type 0
HasUses products leak listed place uses =
    AreLeastNumbers (operand products (step_of (levelled_at listed place).operand))
    (map (co_operand products) (take (levelled_at listed place).lower (levelled_steps listed))) leak uses

-- the steps that the root reaches, in rising order of their places, each with its uses
pub record AreReached {C : Type 0} (products : List (Product C)) (leak : Columns C) (listed : List Levelled) (root : List ℕ) (kept : List Kept) : Type 0 where
  pub rise : IsStrictlyIncreasing (kept_places kept)
  pub below : All (λ place. place < length listed) (kept_places kept)
  pub root_uses : AreLeastNumbers [] (map (co_operand products) (levelled_steps listed)) leak root
  pub uses : All (λ step. HasUses products leak listed step.place step.uses) kept
  pub root_kept : All (Contains (kept_places kept)) root
  pub uses_kept : All (λ step. All (Contains (kept_places kept)) step.uses) kept
  pub reached : All (IsPlaceReached root kept) (kept_places kept)

-- the numbers in place of places: they are numbers of steps that are kept, and stand for these places
pub record StandFor (places numbers uses : List ℕ) : Type 0 where
  pub below : All (λ number. number < length places) numbers
  pub same : places_of places numbers ≡ uses

-- the steps that are kept, with numbers in place of places
pub record AreNumbered (listed : List Levelled) (root : List ℕ) (kept : List Kept) (steps : List Step) (numbers : List ℕ) : Type 0 where
  pub same : map product_step steps ≡ map (λ place. step_of (levelled_at listed place).operand) (kept_places kept)
  pub uses : (number : ℕ) (none : Kept) → number < length kept → StandFor (kept_places kept) (step_at steps number).uses (slice_index_or kept number none).uses
  pub root_uses : StandFor (kept_places kept) numbers root
