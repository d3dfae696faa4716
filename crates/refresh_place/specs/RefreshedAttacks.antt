-- The laws of the attacks on refreshed cores.
use Rattle.std.specs.Prelude.{◌≡◌, ◌<◌, ◌↔◌, ℕ, Bool, true, false}
use Rattle.span_model.specs.Attack.{HasAttack}
use Rattle.span_model.specs.Refresh.{refreshed, left_out, IsWithin}
use Rattle.span_model.specs.Renaming.{AreRenamed}
use Rattle.usuba0.specs.Circuit.{Circuit, IsCore, products_of}
use Rattle.linear_view.specs.Rows.{core_products, core_view}
use Rattle.linear_view.specs.NarrowView.{IsNarrowView}
use Rattle.linear_view.specs.View as view
use Rattle.core_refresh.specs.RefreshedCore.{refreshed_core}
use Rattle.refresh_place.specs.RepairSet.{IsAttackedWith}

-- the products of a refreshed core are those of the core with the left operands of the set refreshed, under other names
-- of their columns
abbrev pub RefreshedCoresAreRefreshed : Type 0
RefreshedCoresAreRefreshed =
    (core : Circuit) (set : ℕ → Bool) → IsCore core
    → AreRenamed (refreshed set (core_products core)) (core_products (refreshed_core core set))

-- with the left operand of each product refreshed a core has no attack; what is attacked with a set refreshed is attacked
-- with each smaller set refreshed; and with none refreshed it is attacked exactly where the core is
pub record AttacksOnRefreshedCores : Type 0 where
  pub all_refreshed : (core : Circuit) (set : ℕ → Bool) → IsCore core
      → ((k : ℕ) → k < products_of core.equations → set k ≡ true) → ¬ IsAttackedWith core set
  pub fewer : (core : Circuit) (less set : ℕ → Bool) → IsCore core → IsWithin less set
      → IsAttackedWith core set → IsAttackedWith core less
  pub none_refreshed : (core : Circuit) → IsCore core
      → IsAttackedWith core (λ _. false) ↔ HasAttack (core_products core)

-- with a set refreshed a core has an attack exactly where the products of its view have one without those of the set,
-- and where those of a narrow view of it have one
pub record LeftOutOfView : Type 0 where
  pub whole : (core : Circuit) (set : ℕ → Bool) → IsCore core
      → IsAttackedWith core set ↔ HasAttack (left_out set (view.products_of (core_view core)))
  pub narrow : (core : Circuit) (set : ℕ → Bool) → IsCore core → (seen : view.LinearView) → IsNarrowView core seen
      → IsAttackedWith core set ↔ HasAttack (left_out set (view.products_of seen))
