-- Rows and products over columns of another kind.
use Rattle.std.specs.Prelude.{◌≡◌, ◌<◌, ℕ, false, List, map, length, Option}
use Rattle.std.specs.Option.{option_map_or}
use Rattle.span_model.specs.Columns.{Columns}
use Rattle.span_model.specs.Span.{Spans}
use Rattle.span_model.specs.Attack.{Product, Probe, product_at}

-- the columns whose name is in the set, where `name` gives the name of a column or none
abbrev pub named_in : {C D : Type 0} → (D → Option C) → Columns C → Columns D
named_in name v column = option_map_or v (name column) false

-- the product with its rows read by the names of columns
abbrev pub renamed_product : {C D : Type 0} → (D → Option C) → Product C → Product D
renamed_product name product = record { left = map (named_in name) product.left; right = map (named_in name) product.right }

-- the products with their rows read by the names of columns
abbrev pub renamed : {C D : Type 0} → (D → Option C) → List (Product C) → List (Product D)
renamed name products = map (renamed_product name) products

-- the others are the products with other names for their columns, and the other way round
pub record AreRenamed {C D : Type 0} (products : List (Product C)) (others : List (Product D)) : Type 0 where
  pub name : D → Option C
  pub back : C → Option D
  pub there : renamed name products ≡ others
  pub again : renamed back others ≡ products

-- the probe of the product with another number
abbrev pub renumbered : (number : ℕ → ℕ) → Probe → Probe
renumbered number probe =
    record { product = number probe.product; left_share = probe.left_share; right_share = probe.right_share }

-- each of the products has one of a number among the others, whose operands span its rows as they are read by the names
pub record IsCovered {C D : Type 0} (name : D → Option C) (number : ℕ → ℕ) (products : List (Product C))
    (others : List (Product D)) : Type 0 where
  pub there : (k : ℕ) → k < length products → number k < length others
  pub left : (k : ℕ) → k < length products
      → Spans (product_at others (number k)).left (map (named_in name) (product_at products k).left)
  pub right : (k : ℕ) → k < length products
      → Spans (product_at others (number k)).right (map (named_in name) (product_at products k).right)
