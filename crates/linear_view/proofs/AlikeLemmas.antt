-- Tables of operands with the same rows.
use Rattle.std.proofs.Common.{◌≡◌, ◌<◌, ◌⊎◌, inl, inr, ℕ, zero, suc, List, [], ◌∷◌, ◌++◌, length, map, get_or, slice_get, Some, refl, sym, ap, ◌∙◌, subst}
use Rattle.std.proofs.lemmas.List.{get_or-map}
use Rattle.std.proofs.lemmas.Option.{slice_get-get_or}
use Rattle.span_model.specs.Attack.{Product}
use Rattle.span_model.specs.Closure.{operand as operand_sets}
use Rattle.span_model.specs.Columns.{sets_of}
use Rattle.linear_view.specs.Alike.{AreAlike, IsAlike, IsOperand, rows_in}
use Rattle.linear_view.specs.declared.operand.Operand.{Operand}
use Rattle.linear_view.specs.declared.operand.Side.{Side}
use Rattle.linear_view.specs.declared.operand.Side.TheVariants.{Left, Right}
use Rattle.linear_view.specs.Sides.{place_of, step_of}
use Rattle.linear_view.specs.View.{Operands, LinearView, product_of}
use Rattle.linear_view.proofs.PlaceLemmas.{same_place}

-- an entry of a table with one more is one of before, or that one
entry_of : (alike : List Operand) (entry other : Operand) (k : ℕ) → slice_get (alike ++ entry ∷ []) k ≡ Some other
    → (slice_get alike k ≡ Some other) ⊎ ((k ≡ length alike) × (other ≡ entry))
entry_of [] entry other zero e = inr (refl, cc)
entry_of [] entry other (suc k) e = absurd cc
entry_of (x ∷ alike) entry other zero e = inl e
entry_of (x ∷ alike) entry other (suc k) e = elim (entry_of alike entry other k e) [ inl p ↦ inl p | inr p ↦ inr (ap suc p.0, p.1) ]

-- an entry more
pub alike_push : (products : List Operands) (alike new : List Operand) (operand entry : Operand) → length alike ≡ place_of operand
    → new ≡ alike ++ entry ∷ [] → AreAlike products alike → IsAlike products operand entry → AreAlike products new
alike_push products alike new operand entry at en old this o other e =
    elim (entry_of alike entry other (place_of o) (ap (λ (l : List Operand). slice_get l (place_of o)) (sym en) ∙ e)) [
      | inl before ↦ old o other before
      | inr last ↦
          let is : operand ≡ o = same_place operand o (sym at ∙ sym last.0) in
          subst (λ (p : Operand). IsAlike products p other) is (subst (λ (x : Operand). IsAlike products operand x) (sym last.1) this)
    ]

-- the rows of an operand are those of a closure's step
pub operand_has_rows : (products : List Operands) (operand : Operand) → IsOperand products operand
    → operand_sets (map product_of products) (step_of operand) ≡ sets_of (rows_in products operand)
operand_has_rows products operand within = by operand.product operand.side within
  where
    by : (k : ℕ) (side : Side) → k < length products
        → (let o : Operand = record { product = k; side = side } in operand_sets (map product_of products) (step_of o) ≡ sets_of (rows_in products o))
    by k Left h = ap (λ (p : Product ℕ). p.left) (get_or-map product_of products k (record { left = []; right = [] }) (record { left = []; right = [] }) h)
    by k Right h = ap (λ (p : Product ℕ). p.right) (get_or-map product_of products k (record { left = []; right = [] }) (record { left = []; right = [] }) h)

-- operands with the same rows have the same ones in the closure
pub alike_sets : (products : List Operands) (operand other : Operand) → IsOperand products operand → IsAlike products operand other
    → operand_sets (map product_of products) (step_of other) ≡ operand_sets (map product_of products) (step_of operand)
alike_sets products operand other within is =
    operand_has_rows products other is.product ∙ ap sets_of is.rows ∙ sym (operand_has_rows products operand within)

-- what was found at the place of an operand
pub alike_found : (view : LinearView) (products : List Operands) (alike slice : List Operand) (operand other : Operand) (place : ℕ)
    → products ≡ view.products → slice ≡ alike → place ≡ place_of operand → place < length slice → other ≡ get_or slice place other
    → AreAlike products alike → IsAlike view.products operand other
alike_found view products alike slice operand other place ep es at within there are =
    let same : slice_get slice place ≡ slice_get alike (place_of operand)
    = ap (λ (l : List Operand). slice_get l place) es ∙ ap (slice_get alike) at in
    subst (λ (l : List Operands). IsAlike l operand other) ep
    (are operand other (sym same ∙ slice_get-get_or slice place other within ∙ ap Some (sym there)))
