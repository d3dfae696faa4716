-- The law of how large the view of a core is.
use Rattle.std.specs.Prelude.{◌≡◌, ◌+◌, ◌*◌, ℕ, length, All}
use Rattle.usuba0.specs.Circuit.{Circuit, IsCore, products_of, refreshes_of}
use Rattle.linear_view.specs.Rows.{core_view}
use Rattle.linear_view.specs.View.{Operands}

-- both operands of a product have so many rows
pub record HaveRows (rows : ℕ) (operands : Operands) : Type 0 where
  pub left : length operands.left ≡ rows
  pub right : length operands.right ≡ rows

-- the view of a core has a column for each bit of an input, a product or a refresh, as many products as the core, and
-- in each operand a row for each bit
pub record CoreViewSize : Type 0 where
  pub columns : (core : Circuit)
      → length (core_view core).columns ≡
      (core.inputs + products_of core.equations + refreshes_of core.equations) * core.width
  pub products : (core : Circuit) → length (core_view core).products ≡ products_of core.equations
  pub rows : (core : Circuit) → IsCore core → All (HaveRows core.width) (core_view core).products
