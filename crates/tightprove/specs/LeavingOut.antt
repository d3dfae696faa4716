-- Products that are left out so that the others have no attack.
use Rattle.std.specs.Prelude.{◌≡◌, ◌<◌, ℕ, Bool, true, List, length}
use Rattle.span_model.specs.Attack.{Product, HasAttack}
use Rattle.span_model.specs.Refresh.{left_out, without}

-- without the products of the set there is no attack, and with any one of them put back there is one
pub record IsLeastLeftOut {C : Type 0} (products : List (Product C)) (set : ℕ → Bool) : Type 0 where
  pub secure : ¬ HasAttack (left_out set products)
  pub needed : (k : ℕ) → k < length products → set k ≡ true → HasAttack (left_out (without k set) products)
