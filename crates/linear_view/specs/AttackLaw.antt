-- The law between the attacks on a core, over named columns, and those on its view, over numbered ones.
use Rattle.std.specs.Prelude.{◌≡◌, ◌↔◌, ℕ, Bool, true, false, ◌&&◌, ◌||◌, List, [], ◌∷◌, length, map, Contains}
use Rattle.span_model.specs.Columns.{Columns, set_of}
use Rattle.span_model.specs.Attack.{Probe, IsAttack, IsLeak, HasAttack}
use Rattle.usuba0.specs.Circuit.{Circuit, IsCore}
use Rattle.linear_view.specs.declared.column.Column.{Column}
use Rattle.linear_view.specs.Names.{same_column, core_columns}
use Rattle.linear_view.specs.Rows.{core_products, core_view}
use Rattle.linear_view.specs.View.{products_of}

-- the set holds columns of the core only
abbrev pub HoldsCoreColumns : Circuit → Columns Column → Type 0
HoldsCoreColumns core set = (column : Column) → set column ≡ true → Contains (core_columns core) column

-- the set as bits over the columns of the core, and so as a set of numbered columns
abbrev pub numbered : Circuit → Columns Column → Columns ℕ
numbered core set = set_of (map set (core_columns core))

-- the set of those of the columns whose bits are set in a row
abbrev pub set_in : List Column → List Bool → Columns Column
set_in [] row column = false
set_in (name ∷ names) [] column = false
set_in (name ∷ names) (bit ∷ row) column = (bit && same_column name column) || set_in names row column

-- the set of the columns of the core whose bits are set in a row
abbrev pub named : Circuit → List Bool → Columns Column
named core row = set_in (core_columns core) row

-- a core has an attack exactly where its view has one, and a set of its columns is the leak of an attack on the core
-- exactly where its bits are one of an attack on the view, with the very same probes; a row of bits, one for each
-- column, is the bits of a set of columns of the core, so it is the leak of an attack on the view exactly where this
-- set is one of an attack on the core
pub record AttacksAreTheViews : Type 0 where
  pub attack : (core : Circuit) → IsCore core → HasAttack (core_products core) ↔ HasAttack (products_of (core_view core))
  pub leak : (core : Circuit) → IsCore core → (set : Columns Column) → HoldsCoreColumns core set
      → IsLeak (core_products core) set ↔ IsLeak (products_of (core_view core)) (numbered core set)
  pub probes : (core : Circuit) → IsCore core → (set : Columns Column) → HoldsCoreColumns core set → (t : ℕ) (probes : List Probe)
      → IsAttack (core_products core) t set probes ↔ IsAttack (products_of (core_view core)) t (numbered core set) probes
  pub row : (core : Circuit) → IsCore core → (row : List Bool) → length row ≡ length (core_columns core)
      → HoldsCoreColumns core (named core row) × (numbered core (named core row) ≡ set_of row)
  pub row_leak : (core : Circuit) → IsCore core → (row : List Bool) → length row ≡ length (core_columns core)
      → IsLeak (core_products core) (named core row) ↔ IsLeak (products_of (core_view core)) (set_of row)
  pub row_probes : (core : Circuit) → IsCore core → (row : List Bool) → length row ≡ length (core_columns core)
      → (t : ℕ) (probes : List Probe)
      → IsAttack (core_products core) t (named core row) probes
      ↔ IsAttack (products_of (core_view core)) t (set_of row) probes
