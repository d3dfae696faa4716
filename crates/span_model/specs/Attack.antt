-- Attacks on a list of products, each given by the rows of its two operands.
use Rattle.std.specs.Prelude.{◌≡◌, ◌≢◌, ◌<◌, ◌≤◌, ◌==◌, ℕ, List, [], ◌∷◌, ◌++◌, length, slice_index_or, All, if◌then◌else◌}
use Rattle.span_model.specs.Columns.{Columns, empty}
use Rattle.span_model.specs.Span.{InSpan}

-- a product: the rows of its left operand and those of its right operand
pub record Product (C : Type 0) : Type 0 where
  pub left : List (Columns C)
  pub right : List (Columns C)

-- a probe: the number of a product, a share of its left operand and a share of its right operand
pub record Probe : Type 0 where
  pub product : ℕ
  pub left_share : ℕ
  pub right_share : ℕ

-- the product of this number; past the end one whose operands have no rows
abbrev pub product_at : {C : Type 0} → List (Product C) → ℕ → Product C
product_at products k = slice_index_or products k (record { left = []; right = [] })

-- the rows that a probe shows at the share s: those of its left operand where its left share is s,
-- and those of its right operand where its right share is s
abbrev pub shown : {C : Type 0} → List (Product C) → Probe → ℕ → List (Columns C)
shown products probe s =
    (if probe.left_share == s then (product_at products probe.product).left else [])
    ++ (if probe.right_share == s then (product_at products probe.product).right else [])

-- the rows that the probes show at the share s
abbrev pub seen : {C : Type 0} → List (Product C) → List Probe → ℕ → List (Columns C)
seen products [] s = []
seen products (probe ∷ probes) s = shown products probe s ++ seen products probes s

-- a probe of one of so many products, with its shares among 0 to t
pub record IsProbe (products t : ℕ) (probe : Probe) : Type 0 where
  pub product : probe.product < products
  pub left_share : probe.left_share ≤ t
  pub right_share : probe.right_share ≤ t

-- the leak with the probes is an attack on the products: there are t probes, each of one of the products and on shares from 0 to t,
-- the leak is not empty, and at each share from 0 to t it is in the span of the rows that the probes show there
pub record IsAttack {C : Type 0} (products : List (Product C)) (t : ℕ) (leak : Columns C) (probes : List Probe) : Type 0 where
  pub count : length probes ≡ t
  pub within : All (IsProbe (length products) t) probes
  pub nonempty : leak ≢ empty
  pub spanned : (s : ℕ) → s ≤ t → InSpan (seen products probes s) leak

-- some probes with this leak are an attack
abbrev pub IsLeak : {C : Type 0} → List (Product C) → Columns C → Type 0
IsLeak products leak = (t : ℕ) × (probes : List Probe) × IsAttack products t leak probes

-- some leak with some probes is an attack
abbrev pub HasAttack : {C : Type 0} → List (Product C) → Type 0
HasAttack {C} products = (leak : Columns C) × IsLeak products leak
