-- The rows of operands of a view's products, and of those that probes show.
use Rattle.std.proofs.Common.{◌≡◌, ◌<◌, ◌+◌, ℕ, List, [], ◌∷◌, ◌++◌, Bool, true, false, cond, eqb, length, map, take, All, get_or, refl, sym, ap, ◌∙◌, subst}
use Rattle.std.proofs.lemmas.List.{append-nil, get_or-map, take_more, map_push, get_or_read}
use Rattle.std.proofs.lemmas.List.Concat.{flat_map-append}
use Rattle.std.proofs.lemmas.List.Elements.{All-append, All-cons, All-nil, All-head, All-tail}
use Rattle.span_model.specs.Columns.{Columns, sets_of}
use Rattle.span_model.specs.Span.{SameSpan}
use Rattle.span_model.specs.Attack.{Product, product_at, shown, seen, IsProbe}
use Rattle.span_model.specs.Closure.{co_operand as plain_co_operand, co_operands as plain_co_operands}
use Rattle.linear_view.specs.View.{LinearView, products_of}
use Rattle.attack_model.specs.declared.attack.Probe.{Probe}
use Rattle.linear_view.specs.declared.operand.Side.{Side}
use Rattle.linear_view.specs.declared.operand.Side.TheVariants.{Left, Right}
use Rattle.attack_model.specs.declared.attack.Step.{Step}
use Rattle.linear_view.specs.declared.operand.Operand.{Operand}
use Rattle.attack_probes.specs.Derivations.{used_steps}
use Rattle.linear_view.specs.Sides.{side_of, other_side, step_of, co_operand}
use Rattle.attack_model.specs.Derivations.{step_at, operand_of}
use Rattle.attack_probes.specs.Listings.{probes_of}
use Rattle.attack_model.specs.Ranges.{probe_of}
use Rattle.attack_probes.proofs.Spanning.{same_append}
use Rattle.attack_probes.specs.Operands.{operand_rows, rows_of, co_operands_of, shown_operands, operands_at}

module _ {C : Type 0} where
  pub rows_of-append : (products : List (Product C)) (a b : List Operand) → rows_of products (a ++ b) ≡ rows_of products a ++ rows_of products b
  rows_of-append products a b = flat_map-append (operand_rows products) a b

  rows_of_one : (products : List (Product C)) (operand : Operand) → rows_of products (operand ∷ []) ≡ operand_rows products operand
  rows_of_one products operand = append-nil (operand_rows products operand)

  pub rows_of_push : (products : List (Product C)) (operands : List Operand) (operand : Operand)
      → rows_of products (operands ++ operand ∷ []) ≡ rows_of products operands ++ operand_rows products operand
  rows_of_push products operands operand =
      rows_of-append products operands (operand ∷ []) ∙ ap (λ x. rows_of products operands ++ x) (rows_of_one products operand)

  co_operand_rows : (products : List (Product C)) (step : Step) (side : Side) → step.side ≡ side
      → operand_rows products (record { product = step.product; side = other_side side })
      ≡ plain_co_operand products (record { product = step.product; side = side_of side })
  co_operand_rows products step Left e = refl
  co_operand_rows products step Right e = refl

  -- the co-operands of used steps
  pub used_rows : (products : List (Product C)) (steps : List Step) (uses : List ℕ)
      → rows_of products (co_operands_of steps uses) ≡ plain_co_operands products (used_steps steps uses)
  used_rows products steps [] = refl
  used_rows products steps (k ∷ uses) =
      let step = step_at steps k in
      ap (λ x. operand_rows products (co_operand (operand_of step)) ++ x) (used_rows products steps uses)
      ∙ ap (λ x. x ++ plain_co_operands products (used_steps steps uses)) (co_operand_rows products step step.side refl)

  shown_if : (products : List (Product C)) (operand : Operand) (b : Bool)
      → rows_of products (cond b (operand ∷ []) []) ≡ cond b (operand_rows products operand) []
  shown_if products operand true = rows_of_one products operand
  shown_if products operand false = refl

  shown_rows : (products : List (Product C)) (probe : Probe) (s : ℕ) → rows_of products (shown_operands probe s) ≡ shown products (probe_of probe) s
  shown_rows products probe s =
      let left : Operand = record { product = probe.product; side = Left } in
      let right : Operand = record { product = probe.product; side = Right } in
      rows_of-append products (cond (eqb probe.left_share s) (left ∷ []) []) (cond (eqb probe.right_share s) (right ∷ []) [])
      ∙ ap (λ x. x ++ rows_of products (cond (eqb probe.right_share s) (right ∷ []) [])) (shown_if products left (eqb probe.left_share s))
      ∙ ap (λ x. cond (eqb probe.left_share s) (product_at products probe.product).left [] ++ x) (shown_if products right (eqb probe.right_share s))

  -- the operands that probes show at a share have the rows that the probes show there
  pub seen_rows : (products : List (Product C)) (probes : List Probe) (s : ℕ) → rows_of products (operands_at probes s) ≡ seen products (probes_of probes) s
  seen_rows products [] s = refl
  seen_rows products (probe ∷ probes) s =
      rows_of-append products (shown_operands probe s) (operands_at probes s)
      ∙ ap (λ x. x ++ rows_of products (operands_at probes s)) (shown_rows products probe s)
      ∙ ap (λ x. shown products (probe_of probe) s ++ x) (seen_rows products probes s)

-- one more use
pub co_operands_more : (steps : List Step) (uses : List ℕ) (index k : ℕ) (step : Step) (operands : List Operand) → index < length uses
    → k ≡ get_or uses index k → k < length steps → step ≡ get_or steps k step → operands ≡ co_operands_of steps (take index uses)
    → operands ++ co_operand (operand_of step) ∷ [] ≡ co_operands_of steps (take (index + 1) uses)
co_operands_more steps uses index k step operands within is below at so_far =
    let step_is : step ≡ step_at steps k = get_or_read steps k step below at (record { product = 0; side = Left; uses = [] }) in
    ap (λ x. x ++ co_operand (operand_of step) ∷ []) so_far
    ∙ ap (λ (x : Step). co_operands_of steps (take index uses) ++ co_operand (operand_of x) ∷ []) step_is
    ∙ sym (map_push (λ j. co_operand (operand_of (step_at steps j))) (take index uses) k)
    ∙ ap (co_operands_of steps) (ap (λ (x : ℕ). take index uses ++ x ∷ []) is ∙ sym (take_more uses index k within))

shown_among : (n product : ℕ) (side : Side) (b : Bool) → product < n
    → All (λ (operand : Operand). operand.product < n) (cond b (record { product = product; side = side } ∷ []) [])
shown_among n product side true lt = All-cons (λ (operand : Operand). operand.product < n) (record { product = product; side = side }) [] lt (All-nil (λ (operand : Operand). operand.product < n))
shown_among n product side false lt = All-nil (λ (operand : Operand). operand.product < n)

pub operands_among : (n t : ℕ) (probes : List Probe) (s : ℕ) → All (λ listed. IsProbe n t (probe_of listed)) probes
    → All (λ (operand : Operand). operand.product < n) (operands_at probes s)
operands_among n t [] s h = All-nil (λ (operand : Operand). operand.product < n)
operands_among n t (probe ∷ probes) s h =
    let first : IsProbe n t (probe_of probe) = All-head (λ listed. IsProbe n t (probe_of listed)) probe probes h in
    All-append (λ (operand : Operand). operand.product < n) (shown_operands probe s) (operands_at probes s)
    (All-append (λ (operand : Operand). operand.product < n) (cond (eqb probe.left_share s) (record { product = probe.product; side = Left } ∷ []) [])
    (cond (eqb probe.right_share s) (record { product = probe.product; side = Right } ∷ []) [])
    (shown_among n probe.product Left (eqb probe.left_share s) first.product) (shown_among n probe.product Right (eqb probe.right_share s) first.product))
    (operands_among n t probes s (All-tail (λ listed. IsProbe n t (probe_of listed)) probe probes h))

pub used_among : (n : ℕ) (steps : List Step) (uses : List ℕ) → All (λ step. step.product < n) steps → All (λ k. k < length steps) uses
    → All (λ (operand : Operand). operand.product < n) (co_operands_of steps uses)
used_among n steps [] among below = All-nil (λ (operand : Operand). operand.product < n)
used_among n steps (k ∷ uses) among below =
    All-cons (λ (operand : Operand). operand.product < n) (co_operand (operand_of (step_at steps k))) (co_operands_of steps uses)
    (among k (record { product = 0; side = Left; uses = [] }) (All-head (λ k. k < length steps) k uses below))
    (used_among n steps uses among (All-tail (λ k. k < length steps) k uses below))

-- the rows of one more operand
pub spanned_more : (view : LinearView) (operands : List Operand) (index : ℕ) (d : Operand) (before now : List (Columns ℕ)) (rows : List (List Bool))
    → index < length operands → sets_of rows ≡ operand_rows (products_of view) (get_or operands index d)
    → SameSpan before (rows_of (products_of view) (take index operands)) → SameSpan now (before ++ sets_of rows)
    → SameSpan now (rows_of (products_of view) (take (index + 1) operands))
spanned_more view operands index d before now rows within are so_far grown =
    let products = products_of view in
    let more : rows_of products (take index operands) ++ sets_of rows ≡ rows_of products (take (index + 1) operands) =
    ap (λ (x : List (Columns ℕ)). rows_of products (take index operands) ++ x) are
    ∙ sym (rows_of_push products (take index operands) (get_or operands index d))
    ∙ ap (rows_of products) (sym (take_more operands index d within)) in
    subst (λ (x : List (Columns ℕ)). SameSpan now x) more (same_append now before (rows_of products (take index operands)) (sets_of rows) so_far grown)
