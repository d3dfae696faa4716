-- Products whose left operands are refreshed: rows of new columns stand in place of theirs.
use Rattle.std.specs.Prelude.{◌≡◌, ◌<◌, ◌==◌, ◌&&◌, ℕ, suc, Bool, true, false, not, List, [], ◌∷◌, map, length, Option, Some, None, All, if◌then◌else◌}
use Rattle.span_model.specs.Columns.{Columns}
use Rattle.span_model.specs.Attack.{Product, product_at, HasAttack}
use Rattle.span_model.specs.Renaming.{named_in, renamed_product}

-- a column of refreshed products: one that the products had, or the one that the refresh before the product of a number adds for a row of its operand
pub data RefreshedColumn (C : Type 0) : Type 0 where
  kept : C → RefreshedColumn C
  added : (product row : ℕ) → RefreshedColumn C

-- the column of the products that a column of refreshed products was, if it is none that was added
abbrev pub kept_name : {C : Type 0} → RefreshedColumn C → Option C
kept_name (kept column) = Some column
kept_name (added product row) = None

-- the set of the one column that the refresh before product k adds for this row of its operand
abbrev pub added_column : {C : Type 0} → (k row : ℕ) → Columns (RefreshedColumn C)
added_column k row (kept column) = false
added_column k row (added product other) = (product == k) && (other == row)

-- in place of the rows of an operand, from this row on, the columns that the refresh before product k adds for them
abbrev pub added_rows : {C : Type 0} → (k row : ℕ) → List (Columns C) → List (Columns (RefreshedColumn C))
added_rows k row [] = []
added_rows k row (v ∷ rows) = added_column k row ∷ added_rows k (suc row) rows

-- product k, with its left operand refreshed where the flag is set
abbrev pub refreshed_product : {C : Type 0} → Bool → ℕ → Product C → Product (RefreshedColumn C)
refreshed_product true k product = record { left = added_rows k 0 product.left; right = map (named_in kept_name) product.right }
refreshed_product false k product = renamed_product kept_name product

-- the products, of which the first has the number k, with the left operand of each product of the set refreshed
abbrev pub refreshed_from : {C : Type 0} → ℕ → (ℕ → Bool) → List (Product C) → List (Product (RefreshedColumn C))
refreshed_from k set [] = []
refreshed_from k set (product ∷ products) = refreshed_product (set k) k product ∷ refreshed_from (suc k) set products

-- the products, with the left operand of each product of the set refreshed
abbrev pub refreshed : {C : Type 0} → (ℕ → Bool) → List (Product C) → List (Product (RefreshedColumn C))
refreshed set products = refreshed_from 0 set products

-- each product of the set `less` is in the set
abbrev pub IsWithin : (less set : ℕ → Bool) → Type 0
IsWithin less set = (k : ℕ) → less k ≡ true → set k ≡ true

-- the set without product k
abbrev pub without : ℕ → (ℕ → Bool) → ℕ → Bool
without k set j = set j && not (j == k)

-- with the left operands of the set refreshed the products have no attack, and they have one where any product of the set is left out of it
pub record IsRepairSet {C : Type 0} (products : List (Product C)) (set : ℕ → Bool) : Type 0 where
  pub secure : ¬ HasAttack (refreshed set products)
  pub needed : (k : ℕ) → k < length products → set k ≡ true → HasAttack (refreshed (without k set) products)

-- the products, of which the first has the number k, with no rows left of each product of the set
abbrev pub left_out_from : {C : Type 0} → ℕ → (ℕ → Bool) → List (Product C) → List (Product C)
left_out_from k set [] = []
left_out_from k set (product ∷ products) = (if set k then record { left = []; right = [] } else product) ∷ left_out_from (suc k) set products

-- the products without those of the set: each of these has no rows any more, and the others keep their numbers
abbrev pub left_out : {C : Type 0} → (ℕ → Bool) → List (Product C) → List (Product C)
left_out set products = left_out_from 0 set products

-- no row of a right operand holds the column
abbrev pub IsOnLeftAlone : {C : Type 0} → List (Product C) → C → Type 0
IsOnLeftAlone products column = (k : ℕ) → All (λ row. row column ≡ false) (product_at products k).right

-- each column that a row of the left operand of product k holds is on left operands alone
abbrev pub IsLeftFresh : {C : Type 0} → List (Product C) → ℕ → Type 0
IsLeftFresh {C} products k = All (λ row. (column : C) → row column ≡ true → IsOnLeftAlone products column) (product_at products k).left
