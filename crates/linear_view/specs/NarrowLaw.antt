-- The law between a core, its view, and a narrow view of it.
use Rattle.std.specs.Prelude.{◌≡◌, ◌↔◌, ℕ, Bool, List, length, map}
use Rattle.span_model.specs.Columns.{set_of}
use Rattle.span_model.specs.Attack.{Probe, IsAttack, HasAttack}
use Rattle.span_model.specs.Renaming.{named_in, AreRenamed}
use Rattle.usuba0.specs.Circuit.{Circuit, IsCore}
use Rattle.linear_view.specs.Names.{core_columns}
use Rattle.linear_view.specs.Rows.{core_products, core_view}
use Rattle.linear_view.specs.View.{LinearView, products_of}
use Rattle.linear_view.specs.AttackLaw.{set_in, named}
use Rattle.linear_view.specs.NarrowView.{IsNarrowView}

-- a row over the columns of a narrow view, as bits over all columns of the core
abbrev pub widened : Circuit → LinearView → List Bool → List Bool
widened core view row = map (set_in view.columns row) (core_columns core)

-- The products of a narrow view are those of the core, and those of its view, under other names of their columns. So a
-- core has an attack exactly where a narrow view of it has one, and a row is the leak of an attack on the narrow view
-- exactly where the set that it names is one of an attack on the core, with the very same probes.
pub record NarrowViewsKeepAttacks : Type 0 where
  pub core_names : (core : Circuit) → IsCore core → (view : LinearView) → IsNarrowView core view
      → AreRenamed (core_products core) (products_of view)
  pub view_names : (core : Circuit) → IsCore core → (view : LinearView) → IsNarrowView core view
      → (names : AreRenamed (products_of view) (products_of (core_view core)))
      × ((row : List Bool) → length row ≡ length view.columns
      → named_in names.name (set_of row) ≡ set_of (widened core view row))
  pub attack : (core : Circuit) → IsCore core → (view : LinearView) → IsNarrowView core view
      → HasAttack (core_products core) ↔ HasAttack (products_of view)
  pub row_probes : (core : Circuit) → IsCore core → (view : LinearView) → IsNarrowView core view
      → (row : List Bool) → length row ≡ length view.columns → (t : ℕ) (probes : List Probe)
      → IsAttack (core_products core) t (named core (widened core view row)) probes
      ↔ IsAttack (products_of view) t (set_of row) probes
