-- A circuit's attacks over named columns are those over the numbers of its columns.
use Rattle.std.proofs.Common.{◌≡◌, ℕ, zero, suc, Bool, true, false, ◌&&◌, ◌||◌, List, [], ◌∷◌, length, map, get_or, Option, None, Some, option_map, Contains, refl, sym, ap, ◌∙◌, subst, arith, true≢false, if◌then◌else◌}
use Rattle.std.specs.List.{slice_get, list_any, AllByRecursion}
use Rattle.std.specs.Option.{option_map_or}
use Rattle.std.proofs.lemmas.Map.Keys.{any_passes_from_place}
use Rattle.std.proofs.lemmas.Option.{slice_get-get_or}
use mathlib.Core.Path.{fun_ext}
use Rattle.span_model.specs.Columns.{Columns, set_of, sets_of}
use Rattle.span_model.specs.Attack.{Product, Probe, IsAttack}
use Rattle.span_model.specs.Renaming.{named_in, renamed}
use Rattle.span_model.specs.RefreshLaws.{RenamingKeepsAttacks}
use Rattle.usuba0.specs.Circuit.{Circuit}
use Rattle.linear_view.specs.declared.column.Column.{Column}
use Rattle.linear_view.specs.Names.{same_column, core_columns}
use Rattle.linear_view.specs.Rows.{Rows, rows_over, operands_over, core_products}
use Rattle.linear_view.specs.NarrowView.{HoldsOnly}
use Rattle.linear_view.specs.View as view
use Rattle.linear_view.specs.AttackLaw.{numbered, set_in, named, AttacksAreTheViews}
use Rattle.linear_view.proofs.ListLemmas.{cons_same}
use Rattle.linear_view.proofs.NameLemmas.{same_column-itself, same_column-same}
use Rattle.linear_view.proofs.ColumnLemmas.{IsAbsent}
use Rattle.linear_view.proofs.ApartLemmas.{AreApart, apart_core}
use Rattle.linear_view.proofs.WithinLemmas.{IsWithin, AreWithin, IsOver, within_holds, over_core}

-- ---- names and numbers

-- the number of a name
abbrev pub place_of : List Column → Column → Option ℕ
place_of [] column = None
place_of (name ∷ names) column = if same_column column name then Some 0 else option_map suc (place_of names column)

pub by_number : (names : List Column) (set : Columns Column) → named_in (slice_get names) set ≡ set_of (map set names)
by_number names set = fun_ext (λ c. at names c)
  where
    at : (names : List Column) (c : ℕ) → option_map_or set (slice_get names c) false ≡ get_or (map set names) c false
    at [] c = refl
    at (name ∷ names) zero = refl
    at (name ∷ names) (suc c) = at names c

shifted : (first : Bool) (rest : List Bool) (o : Option ℕ) → option_map_or (set_of (first ∷ rest)) (option_map suc o) false ≡ option_map_or (set_of rest) o false
shifted first rest None = refl
shifted first rest (Some i) = refl

at_place : (names : List Column) (set : Columns Column) (column : Column)
    → option_map_or (set_of (map set names)) (place_of names column) false ≡ (if list_any (same_column column) names then set column else false)
at_place [] set column = refl
at_place (name ∷ names) set column = by (same_column column name) refl (at_place names set column)
  where
    by : (b : Bool) → same_column column name ≡ b
        → option_map_or (set_of (map set names)) (place_of names column) false ≡ (if list_any (same_column column) names then set column else false)
        → option_map_or (set_of (map set (name ∷ names))) (place_of (name ∷ names) column) false ≡ (if list_any (same_column column) (name ∷ names) then set column else false)
    by true e rest =
        ap (λ (b : Bool). option_map_or (set_of (map set (name ∷ names))) (if b then Some 0 else option_map suc (place_of names column)) false) e
        ∙ ap set (sym (same_column-same column name e))
        ∙ sym (ap (λ (b : Bool). if b || list_any (same_column column) names then set column else false) e)
    by false e rest =
        ap (λ (b : Bool). option_map_or (set_of (map set (name ∷ names))) (if b then Some 0 else option_map suc (place_of names column)) false) e
        ∙ shifted (set name) (map set names) (place_of names column)
        ∙ rest
        ∙ sym (ap (λ (b : Bool). if b || list_any (same_column column) names then set column else false) e)

pub by_name : (names : List Column) (set : Columns Column) → IsWithin names set → named_in (place_of names) (set_of (map set names)) ≡ set
by_name names set within = fun_ext (λ column. at_place names set column ∙ cases column (list_any (same_column column) names) refl)
  where
    cases : (column : Column) (b : Bool) → list_any (same_column column) names ≡ b → (if list_any (same_column column) names then set column else false) ≡ set column
    cases column true e = ap (λ (b : Bool). if b then set column else false) e
    cases column false e = ap (λ (b : Bool). if b then set column else false) e ∙ sym (within column e)

numbers_of_rows : (names : List Column) (rows : Rows) → map (named_in (slice_get names)) rows ≡ sets_of (rows_over names rows)
numbers_of_rows names [] = refl
numbers_of_rows names (row ∷ rows) = cons_same (by_number names row) (numbers_of_rows names rows)

names_of_rows : (names : List Column) (rows : Rows) → AreWithin names rows → map (named_in (place_of names)) (sets_of (rows_over names rows)) ≡ rows
names_of_rows names [] within = refl
names_of_rows names (row ∷ rows) within = cons_same (by_name names row within.0) (names_of_rows names rows within.1)

-- the products over the numbers of the names
abbrev pub numbered_products : List Column → List (Product Column) → List (Product ℕ)
numbered_products names products = map view.product_of (map (operands_over names) products)

-- the products by the numbers of their columns
pub numbers_of_products : (names : List Column) (products : List (Product Column)) → renamed (slice_get names) products ≡ numbered_products names products
numbers_of_products names [] = refl
numbers_of_products names (product ∷ products) =
    let both : (l r : List (Columns ℕ)) → List (Product ℕ) = λ l r. record { left = l; right = r } ∷ renamed (slice_get names) products in
    ap (λ (l : List (Columns ℕ)). both l (map (named_in (slice_get names)) product.right)) (numbers_of_rows names product.left)
    ∙ ap (λ (r : List (Columns ℕ)). both (sets_of (rows_over names product.left)) r) (numbers_of_rows names product.right)
    ∙ ap (λ (l : List (Product ℕ)). view.product_of (operands_over names product) ∷ l) (numbers_of_products names products)

-- from the numbers of columns back to their names
pub names_of_products : (names : List Column) (products : List (Product Column)) → AllByRecursion (IsOver names) products
    → renamed (place_of names) (numbered_products names products) ≡ products
names_of_products names [] within = refl
names_of_products names (product ∷ products) within =
    let rest = renamed (place_of names) (numbered_products names products) in
    let both : (l r : Rows) → List (Product Column) = λ l r. record { left = l; right = r } ∷ rest in
    ap (λ (l : Rows). both l (map (named_in (place_of names)) (sets_of (rows_over names product.right)))) (names_of_rows names product.left within.0.0)
    ∙ ap (λ (r : Rows). both product.left r) (names_of_rows names product.right within.0.1)
    ∙ ap (λ (l : List (Product Column)). product ∷ l) (names_of_products names products within.1)

-- ---- rows of bits

-- a column of the set that a row makes is one of the columns
pub in_columns : (names : List Column) (row : List Bool) (column : Column) → set_in names row column ≡ true
    → Contains names column
in_columns [] row column there = absurd (true≢false (sym there))
in_columns (name ∷ names) [] column there = absurd (true≢false (sym there))
in_columns (name ∷ names) (bit ∷ row) column there =
    by bit (same_column name column) refl there (in_columns names row column)
  where
    behind : Contains names column → Contains (name ∷ names) column
    behind more = (suc more.0, omega (arith, more.1), more.2)

    by : (b c : Bool) → same_column name column ≡ c → ((b && c) || set_in names row column) ≡ true
        → (set_in names row column ≡ true → Contains names column) → Contains (name ∷ names) column
    by true true e there rest = (0, omega arith, same_column-same name column e)
    by true false e there rest = behind (rest there)
    by false c e there rest = behind (rest there)

-- a column that is none of the columns is not in the set
not_in : (names : List Column) (row : List Bool) (column : Column) → IsAbsent column names
    → set_in names row column ≡ false
not_in names row column absent = by (set_in names row column) refl
  where
    by : (b : Bool) → set_in names row column ≡ b → set_in names row column ≡ false
    by false e = e
    by true e =
        let there = in_columns names row column e in
        absurd
        (true≢false
        (sym
        (any_passes_from_place (same_column column) names there.0 column
        (slice_get-get_or names there.0 column there.1
        ∙ ap (λ (x : Column). Some x) there.2) (same_column-itself column))
        ∙ absent))

-- a column before the others does not change their bits
bits_behind : (name : Column) (bit : Bool) (row : List Bool) (names more : List Column) → IsAbsent name more
    → map (set_in (name ∷ names) (bit ∷ row)) more ≡ map (set_in names row) more
bits_behind name bit row names [] absent = refl
bits_behind name bit row names (column ∷ more) absent =
    let both = none_of_two (same_column name column) (list_any (same_column name) more) absent in
    cons_same (first bit (same_column name column) both.0) (bits_behind name bit row names more both.1)
  where
    none_of_two : (x y : Bool) → (x || y) ≡ false → (x ≡ false) × (y ≡ false)
    none_of_two true y e = absurd (cc)
    none_of_two false y e = (refl, e)

    first : (b c : Bool) → c ≡ false → ((b && c) || set_in names row column) ≡ set_in names row column
    first true true e = absurd (true≢false e)
    first true false e = refl
    first false c e = refl

-- the bits of the set that a row makes are the row
pub bits_again : (names : List Column) (row : List Bool) → AreApart names → length row ≡ length names
    → map (set_in names row) names ≡ row
bits_again [] [] apart e = refl
bits_again [] (bit ∷ row) apart e = absurd (omega arith)
bits_again (name ∷ names) [] apart e = absurd (omega arith)
bits_again (name ∷ names) (bit ∷ row) apart e =
    cons_same (first bit (same_column name name) (same_column-itself name) (not_in names row name apart.0))
    (bits_behind name bit row names names apart.0 ∙ bits_again names row apart.1 (omega arith))
  where
    first : (b c : Bool) → c ≡ true → set_in names row name ≡ false → ((b && c) || set_in names row name) ≡ b
    first true true e absent = refl
    first true false e absent = absurd (true≢false (sym e))
    first false c e absent = absent

pub row_again : (core : Circuit) (row : List Bool) → length row ≡ length (core_columns core)
    → numbered core (named core row) ≡ set_of row
row_again core row e = ap set_of (bits_again (core_columns core) row (apart_core core) e)

-- ---- attacks

-- by the law of renamed columns, from names to numbers and from numbers to names
module _ (to : RenamingKeepsAttacks Column ℕ) (from : RenamingKeepsAttacks ℕ Column) where
  pub to_numbers : (names : List Column) (products : List (Product Column)) → AllByRecursion (IsOver names) products
      → (t : ℕ) (leak : Columns Column) (probes : List Probe) → IsAttack products t leak probes
      → IsAttack (numbered_products names products) t (set_of (map leak names)) probes
  to_numbers names products over t leak probes attack =
      subst (λ (l : Columns ℕ). IsAttack (numbered_products names products) t l probes) (by_number names leak)
      (to (slice_get names) (place_of names) products (numbered_products names products)
      (numbers_of_products names products) (names_of_products names products over) t leak probes attack)

  pub to_names : (names : List Column) (products : List (Product Column)) → AllByRecursion (IsOver names) products
      → (t : ℕ) (leak : Columns ℕ) (probes : List Probe) → IsAttack (numbered_products names products) t leak probes
      → IsAttack products t (named_in (place_of names) leak) probes
  to_names names products over t leak probes attack =
      from (place_of names) (slice_get names) (numbered_products names products) products
      (names_of_products names products over) (numbers_of_products names products) t leak probes attack

  -- a set of the columns is the leak again that its bits are
  pub to_names_again : (names : List Column) (products : List (Product Column)) → AllByRecursion (IsOver names) products
      → (t : ℕ) (set : Columns Column) (probes : List Probe) → HoldsOnly names set
      → IsAttack (numbered_products names products) t (set_of (map set names)) probes → IsAttack products t set probes
  to_names_again names products over t set probes holds attack =
      subst (λ (l : Columns Column). IsAttack products t l probes) (by_name names set (within_holds names set holds))
      (to_names names products over t (set_of (map set names)) probes attack)

  -- the set that a row makes, and the row
  pub row_to_numbers : (names : List Column) (products : List (Product Column)) → AllByRecursion (IsOver names) products → AreApart names
      → (row : List Bool) → length row ≡ length names → (t : ℕ) (probes : List Probe)
      → IsAttack products t (set_in names row) probes → IsAttack (numbered_products names products) t (set_of row) probes
  row_to_numbers names products over apart row e t probes attack =
      subst (λ (l : List Bool). IsAttack (numbered_products names products) t (set_of l) probes) (bits_again names row apart e)
      (to_numbers names products over t (set_in names row) probes attack)

  pub row_to_names : (names : List Column) (products : List (Product Column)) → AllByRecursion (IsOver names) products → AreApart names
      → (row : List Bool) → length row ≡ length names → (t : ℕ) (probes : List Probe)
      → IsAttack (numbered_products names products) t (set_of row) probes → IsAttack products t (set_in names row) probes
  row_to_names names products over apart row e t probes attack =
      to_names_again names products over t (set_in names row) probes (in_columns names row)
      (subst (λ (l : List Bool). IsAttack (numbered_products names products) t (set_of l) probes) (sym (bits_again names row apart e)) attack)

  -- ---- the law

  pub attacks_are_the_views : AttacksAreTheViews
  attacks_are_the_views =
      record {
        attack =
            λ core is.
            let names = core_columns core in
            let products = core_products core in
            let over = over_core core in (
              λ has. (numbered core has.0, (has.1.0, has.1.1, to_numbers names products over has.1.0 has.0 has.1.1 has.1.2)),
              λ has. (named_in (place_of names) has.0, (has.1.0, has.1.1, to_names names products over has.1.0 has.0 has.1.1 has.1.2)),
            );
        leak =
            λ core is set holds.
            let names = core_columns core in
            let products = core_products core in
            let over = over_core core in (
              λ leak. (leak.0, leak.1, to_numbers names products over leak.0 set leak.1 leak.2),
              λ leak. (leak.0, leak.1, to_names_again names products over leak.0 set leak.1 holds leak.2),
            );
        probes =
            λ core is set holds t probes.
            let names = core_columns core in
            let products = core_products core in
            let over = over_core core in (
              to_numbers names products over t set probes,
              to_names_again names products over t set probes holds,
            );
        row = λ core is row e. (in_columns (core_columns core) row, row_again core row e);
        row_leak =
            λ core is row e.
            let names = core_columns core in
            let products = core_products core in
            let over = over_core core in (
              λ leak. (leak.0, leak.1, row_to_numbers names products over (apart_core core) row e leak.0 leak.1 leak.2),
              λ leak. (leak.0, leak.1, row_to_names names products over (apart_core core) row e leak.0 leak.1 leak.2),
            );
        row_probes =
            λ core is row e t probes.
            let names = core_columns core in
            let products = core_products core in
            let over = over_core core in (
              row_to_numbers names products over (apart_core core) row e t probes,
              row_to_names names products over (apart_core core) row e t probes,
            );
      }
