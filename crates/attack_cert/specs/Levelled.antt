-- What is kept of the steps while a derivation is made.
use Rattle.std.specs.Bool.{MatchBool}
use Rattle.std.specs.Prelude.{◌≡◌, ◌≤◌, ◌*◌, ℕ, Bool, Option, None, IfSome, slice_index_or, List, [], ◌∷◌, ◌++◌, length, map, replicate}
use Rattle.span_model.specs.Columns.{Columns}
use Rattle.span_model.specs.Span.{InSpan}
use Rattle.span_model.specs.Attack.{Product}
use Rattle.span_model.specs.Closure.{operand, operand as operand_sets, co_operands, Step as ProductStep}
use Rattle.gf2_span.specs.Rows.{IsLast}
use Rattle.linear_view.specs.Sides.{step_of, place_of}
use Rattle.attack_cert.specs.Levels.{AreThose, listed, AreLevels}
use Rattle.linear_view.specs.declared.operand.Operand.{Operand}
use Rattle.attack_cert.specs.declared.levels.Levelled.{Levelled}

-- the steps that take operands
abbrev pub operand_steps : List Operand → List ProductStep
operand_steps operands = map step_of operands

-- the steps that have levels
abbrev pub levelled_steps : List Levelled → List ProductStep
levelled_steps steps = map (λ step. step_of step.operand) steps

-- for each step of levels, the last level first, how many steps have lower levels
abbrev pub lower_counts : List (List ProductStep) → List ℕ
lower_counts [] = []
lower_counts (level ∷ lower) = lower_counts lower ++ replicate (length level) (length (listed lower))

-- the steps of these levels in their order, each with the number of the steps of lower levels
pub record AreListed (levels : List (List ProductStep)) (steps : List Levelled) : Type 0 where
  pub same : levelled_steps steps ≡ listed levels
  pub lower : map (λ step. step.lower) steps ≡ lower_counts levels

-- there is one row, and the column is its greatest
pub record IsOnlyLead (rows : List (Columns ℕ)) (lead : ℕ) : Type 0 where
  pub row : Columns ℕ
  pub only : rows ≡ row ∷ []
  pub last : IsLast row lead

-- what is noted of an operand
abbrev pub noted_of : {X : Type 0} → List (Option X) → Operand → Option X
noted_of notes operand = slice_index_or notes (place_of operand) None

-- what is noted of an operand of these products is the greatest column of its only row
abbrev pub AreLeads : List (Product ℕ) → List (Option ℕ) → Type 0
AreLeads products leads =
    (operand : Operand) → IfSome (noted_of leads operand) (IsOnlyLead (operand_sets products (step_of operand)))

-- the step's operand, with other rows, spans the leak
abbrev pub IsSpanned : {C : Type 0} → List (Product C) → Columns C → List (Columns C) → ProductStep → Type 0
IsSpanned products leak rows step = InSpan (operand products step ++ rows) leak

-- whether an operand of these products spans the leak with other rows
abbrev pub IsTold : List (Product ℕ) → Columns ℕ → List (Columns ℕ) → Operand → Bool → Type 0
IsTold products leak rows operand spans = MatchBool spans
    (InSpan (operand_sets products (step_of operand) ++ rows) leak) (¬ InSpan (operand_sets products (step_of operand) ++ rows) leak)

-- what is noted of an operand is that
abbrev pub AreTold : List (Product ℕ) → Columns ℕ → List (Columns ℕ) → List (Option Bool) → Type 0
AreTold products leak rows told = (operand : Operand) → IfSome (noted_of told operand) (IsTold products leak rows operand)

-- the pending operands that span the leak with other rows, and the rest of them
pub record IsSplit {C : Type 0} (products : List (Product C)) (leak : Columns C) (rows : List (Columns C)) (pending level rest : List Operand) : Type 0 where
  pub spanned : AreThose (IsSpanned products leak rows) (operand_steps pending) (operand_steps level)
  pub others : AreThose (λ step. ¬ IsSpanned products leak rows step) (operand_steps pending) (operand_steps rest)

-- the steps up to the least level up to which the co-operands span the leak
pub record ReachLeak {C : Type 0} (products : List (Product C)) (leak : Columns C) (steps : List Levelled) : Type 0 where
  pub last : List ProductStep
  pub lower : List (List ProductStep)
  pub levels : AreLevels products leak (last ∷ lower)
  pub spanned : InSpan (co_operands products (listed (last ∷ lower))) leak
  pub least : ¬ InSpan (co_operands products (listed lower)) leak
  pub are_listed : AreListed (last ∷ lower) steps
  pub few : length steps ≤ 2 * length products
