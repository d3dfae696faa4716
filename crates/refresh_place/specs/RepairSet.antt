-- Repair sets of a core, and what an answer of `repair` says.
use Rattle.std.specs.Prelude.{◌≡◌, ◌<◌, ◌↔◌, ℕ, Bool, true, false, List, length}
use Rattle.span_model.specs.Attack.{HasAttack}
use Rattle.span_model.specs.Refresh.{IsWithin, without}
use Rattle.usuba0.specs.Circuit.{Circuit, products_of}
use Rattle.linear_view.specs.Rows.{core_products}
use Rattle.core_refresh.specs.RefreshedCore.{marked, refreshed_core}

-- the core with the refreshes of the set has an attack
abbrev pub IsAttackedWith : Circuit → (ℕ → Bool) → Type 0
IsAttackedWith core set = HasAttack (core_products (refreshed_core core set))

-- the refreshed core of the set has no attack, and leaving out any one product of the set gives a core that has one
pub record IsRepairSetOf (core : Circuit) (set : ℕ → Bool) : Type 0 where
  pub secure : ¬ IsAttackedWith core set
  pub needed : (k : ℕ) → k < products_of core.equations → set k ≡ true → IsAttackedWith core (without k set)

-- the set has a mark for each product of the core and is a repair set, and the repaired core is its refreshed core; no
-- proper subset would do, and the set is empty exactly where the core has no attack
pub record IsRepairOf (core repaired : Circuit) (set : List Bool) : Type 0 where
  pub marks : length set ≡ products_of core.equations
  pub refreshed : repaired ≡ refreshed_core core (marked set)
  pub repairs : IsRepairSetOf core (marked set)
  pub least : (less : ℕ → Bool) → IsWithin less (marked set)
      → (k : ℕ) → marked set k ≡ true → less k ≡ false → IsAttackedWith core less
  pub empty : ((k : ℕ) → marked set k ≡ false) ↔ (¬ HasAttack (core_products core))
