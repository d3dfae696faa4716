-- Small products whose attacks are known by hand, over the columns 0 and 1 of two inputs x and y.
use Rattle.std.specs.Prelude.{◌==◌, ℕ, true, false, [], ◌∷◌}
use Rattle.span_model.specs.Columns.{Columns, empty, set_of}
use Rattle.span_model.specs.Attack.{Product, Probe, IsAttack, HasAttack}
use Rattle.span_model.specs.Refresh.{refreshed, IsRepairSet}

-- the column of x
abbrev pub x_column : Columns ℕ
x_column = set_of (true ∷ [])

-- the column of y
abbrev pub y_column : Columns ℕ
y_column = set_of (false ∷ true ∷ [])

-- the columns of the exclusive-or of x and y
abbrev pub both_columns : Columns ℕ
both_columns = set_of (true ∷ true ∷ [])

-- the product of x and x
abbrev pub x_and_x : Product ℕ
x_and_x = record { left = x_column ∷ []; right = x_column ∷ [] }

-- the product of x and y
abbrev pub x_and_y : Product ℕ
x_and_y = record { left = x_column ∷ []; right = y_column ∷ [] }

-- the product of x and the exclusive-or of x and y
abbrev pub x_and_both : Product ℕ
x_and_both = record { left = x_column ∷ []; right = both_columns ∷ [] }

-- the product of operands of two rows: x and y on the left, their exclusive-or and an empty row on the right
abbrev pub pair_and_both : Product ℕ
pair_and_both = record { left = x_column ∷ y_column ∷ []; right = both_columns ∷ empty ∷ [] }

-- one probe of the product of this number, on these shares
abbrev pub probe : (product left_share right_share : ℕ) → Probe
probe product left_share right_share = record { product = product; left_share = left_share; right_share = right_share }

-- what is known of them
pub record KnownCases : Type 0 where
  -- one probe shows x at both shares of the product of x and x
  pub one_probe : IsAttack (x_and_x ∷ []) 1 x_column (probe 0 1 0 ∷ [])
  -- with a refresh before it there is no attack
  pub repaired : ¬ HasAttack (refreshed (λ _. true) (x_and_x ∷ []))
  -- the product of x and y has no attack
  pub secure : ¬ HasAttack (x_and_y ∷ [])
  -- the product of x and y, and that of x and their exclusive-or, have one together: on share 0 both right operands make x
  pub two_probes : IsAttack (x_and_y ∷ x_and_both ∷ []) 2 x_column (probe 0 1 0 ∷ probe 1 2 0 ∷ [])
  -- it is none with the second probe's right share moved to share 1, with y as its leak, or with the empty set
  pub share_moved : ¬ IsAttack (x_and_y ∷ x_and_both ∷ []) 2 x_column (probe 0 1 0 ∷ probe 1 2 1 ∷ [])
  pub other_leak : ¬ IsAttack (x_and_y ∷ x_and_both ∷ []) 2 y_column (probe 0 1 0 ∷ probe 1 2 0 ∷ [])
  pub empty_leak : ¬ IsAttack (x_and_y ∷ x_and_both ∷ []) 2 (set_of []) (probe 0 1 0 ∷ probe 1 2 0 ∷ [])
  -- both rows of an operand together make the exclusive-or of x and y, which one probe shows at both shares; x by
  -- itself is not shown at share 0
  pub two_rows : IsAttack (pair_and_both ∷ []) 1 both_columns (probe 0 1 0 ∷ [])
  pub one_row : ¬ IsAttack (pair_and_both ∷ []) 1 x_column (probe 0 1 0 ∷ [])
  -- the product of x and x is repaired by its refresh and not without it, that of x and y without one and not with it
  pub repair : IsRepairSet (x_and_x ∷ []) (λ _. true)
  pub no_repair : ¬ IsRepairSet (x_and_x ∷ []) (λ _. false)
  pub nothing_to_repair : IsRepairSet (x_and_y ∷ []) (λ _. false)
  pub needless_repair : ¬ IsRepairSet (x_and_y ∷ []) (λ _. true)
  -- of the two products with an attack together the second is enough to repair, and both are too many
  pub second_of_two : IsRepairSet (x_and_y ∷ x_and_both ∷ []) (λ k. k == 1)
  pub both_of_two : ¬ IsRepairSet (x_and_y ∷ x_and_both ∷ []) (λ _. true)
