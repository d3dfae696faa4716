-- The attacks on a circuit and on its view are those on a narrow view of it.
use Rattle.std.proofs.Common.{◌≡◌, ℕ, Bool, true, false, ◌&&◌, ◌||◌, List, [], ◌∷◌, length, map, Option, None, Some, refl, sym, ap, ◌∙◌, subst, true≢false, if◌then◌else◌}
use Rattle.std.specs.List.{slice_get, list_any, AllByRecursion}
use Rattle.std.specs.Option.{option_map_or}
use Rattle.std.proofs.lemmas.List.Elements.{recursion_from_All}
use mathlib.Core.Path.{fun_ext}
use Rattle.span_model.specs.Columns.{Columns, set_of}
use Rattle.span_model.specs.Attack.{Product, IsAttack}
use Rattle.span_model.specs.Renaming.{named_in, renamed, AreRenamed}
use Rattle.span_model.specs.RefreshLaws.{RenamingKeepsAttacks}
use Rattle.usuba0.specs.Circuit.{Circuit}
use Rattle.linear_view.specs.declared.column.Column.{Column}
use Rattle.linear_view.specs.Names.{same_column, core_columns}
use Rattle.linear_view.specs.Rows.{core_products, core_view}
use Rattle.linear_view.specs.View.{LinearView, product_of, products_of}
use Rattle.linear_view.specs.AttackLaw.{set_in, named}
use Rattle.linear_view.specs.NarrowView.{IsProductOver, IsNarrowView}
use Rattle.linear_view.specs.NarrowLaw.{widened, NarrowViewsKeepAttacks}
use Rattle.linear_view.proofs.ListLemmas.{cons_same}
use Rattle.linear_view.proofs.NameLemmas.{same_column-itself, same_column-same}
use Rattle.linear_view.proofs.ApartLemmas.{apart_core}
use Rattle.linear_view.proofs.SomeLemmas.{some_absent, some_apart}
use Rattle.linear_view.proofs.WalkLemmas.{all_weaker}
use Rattle.linear_view.proofs.WithinLemmas.{IsWithin, IsOver, within_holds, over_held, over_core}
use Rattle.linear_view.proofs.AttackLemmas.{place_of, by_number, by_name, numbered_products, numbers_of_products, names_of_products, in_columns, bits_again, to_numbers, to_names, row_to_numbers, row_to_names}

-- ---- one name after another

abbrev through : {C D E : Type 0} → (E → Option D) → (D → Option C) → E → Option C
through first second column = option_map_or second (first column) None

named_through : {C D E : Type 0} (first : E → Option D) (second : D → Option C) (set : Columns C)
    → named_in (through first second) set ≡ named_in first (named_in second set)
named_through {C} {D} {E} first second set = fun_ext (λ column. at (first column))
  where
    at : (o : Option D) → option_map_or set (option_map_or second o None) false ≡ option_map_or (named_in second set) o false
    at None = refl
    at (Some d) = refl

rows_through : {C D E : Type 0} (first : E → Option D) (second : D → Option C) (rows : List (Columns C))
    → map (named_in (through first second)) rows ≡ map (named_in first) (map (named_in second) rows)
rows_through first second [] = refl
rows_through first second (row ∷ rows) = cons_same (named_through first second row) (rows_through first second rows)

renamed_through : {C D E : Type 0} (first : E → Option D) (second : D → Option C) (products : List (Product C))
    → renamed (through first second) products ≡ renamed first (renamed second products)
renamed_through first second [] = refl
renamed_through {C} {D} {E} first second (product ∷ products) =
    cons_same
    (both (rows_through first second product.left) (rows_through first second product.right))
    (renamed_through first second products)
  where
    make : List (Columns E) → List (Columns E) → Product E
    make left right = record { left = left; right = right }

    both : {l m r s : List (Columns E)} → l ≡ m → r ≡ s → make l r ≡ make m s
    both p q = cc

-- ---- the columns of a set

-- the set again that the bits of a set of columns make
set_again : (names : List Column) (set : Columns Column) → IsWithin names set → set_in names (map set names) ≡ set
set_again names set within = fun_ext (λ column. at names column ∙ cases column (list_any (same_column column) names) refl)
  where
    cases : (column : Column) (b : Bool) → list_any (same_column column) names ≡ b → (if list_any (same_column column) names then set column else false) ≡ set column
    cases column true e = ap (λ (b : Bool). if b then set column else false) e
    cases column false e = ap (λ (b : Bool). if b then set column else false) e ∙ sym (within column e)

    or_same : (x b : Bool) → (x || (if b then x else false)) ≡ x
    or_same true b = refl
    or_same false true = refl
    or_same false false = refl

    and_false : (x : Bool) → (x && false) ≡ false
    and_false true = refl
    and_false false = refl

    at : (names : List Column) (column : Column)
        → set_in names (map set names) column ≡ (if list_any (same_column column) names then set column else false)
    at [] column = refl
    at (name ∷ names) column = by (same_column column name) refl (at names column)
      where
        other : (b : Bool) → same_column name column ≡ b → same_column column name ≡ false → same_column name column ≡ false
        other false e differ = e
        other true e differ =
            absurd (true≢false (sym (same_column-itself column) ∙ ap (same_column column) (sym (same_column-same name column e)) ∙ differ))

        by : (b : Bool) → same_column column name ≡ b
            → set_in names (map set names) column ≡ (if list_any (same_column column) names then set column else false)
            → ((set name && same_column name column) || set_in names (map set names) column)
            ≡ (if same_column column name || list_any (same_column column) names then set column else false)
        by true e rest =
            let same : column ≡ name = same_column-same column name e in
            let itself : same_column name column ≡ true = ap (same_column name) same ∙ same_column-itself name in
            ap (λ (n : Column). (set n && same_column name column) || set_in names (map set names) column) (sym same)
            ∙ ap (λ (b : Bool). (set column && b) || set_in names (map set names) column) itself
            ∙ ap (λ (b : Bool). b || set_in names (map set names) column) (and_true (set column))
            ∙ ap (λ (b : Bool). set column || b) rest
            ∙ or_same (set column) (list_any (same_column column) names)
            ∙ sym (ap (λ (b : Bool). if b || list_any (same_column column) names then set column else false) e)
          where
            and_true : (x : Bool) → (x && true) ≡ x
            and_true true = refl
            and_true false = refl
        by false e rest =
            ap (λ (b : Bool). (set name && b) || set_in names (map set names) column) (other (same_column name column) refl e)
            ∙ ap (λ (b : Bool). b || set_in names (map set names) column) (and_false (set name))
            ∙ rest
            ∙ sym (ap (λ (b : Bool). if b || list_any (same_column column) names then set column else false) e)

-- ---- a narrow view

narrow_over : (core : Circuit) (narrow : LinearView) → IsNarrowView core narrow
    → AllByRecursion (IsOver narrow.columns) (core_products core)
narrow_over core narrow is =
    let names = narrow.columns in
    all_weaker (IsProductOver names) (IsOver names) (core_products core) (over_held names)
    (recursion_from_All (IsProductOver names) (core_products core) is.held)

narrow_products : (core : Circuit) (narrow : LinearView) → IsNarrowView core narrow
    → products_of narrow ≡ numbered_products narrow.columns (core_products core)
narrow_products core narrow is = ap (map product_of) is.products

-- the set of a row holds columns of the circuit
row_within : (core : Circuit) (narrow : LinearView) → IsNarrowView core narrow → (row : List Bool)
    → IsWithin (core_columns core) (set_in narrow.columns row)
row_within core narrow is row column absent =
    within_holds narrow.columns (set_in narrow.columns row) (in_columns narrow.columns row) column
    (some_absent column is.columns absent)

abbrev core_names : (core : Circuit) (narrow : LinearView) → IsNarrowView core narrow → AreRenamed (core_products core) (products_of narrow)
core_names core narrow is =
    let names = narrow.columns in
    let products = core_products core in
    record {
      name = slice_get names;
      back = place_of names;
      there = numbers_of_products names products ∙ sym (narrow_products core narrow is);
      again =
          ap (renamed (place_of names)) (narrow_products core narrow is)
          ∙ names_of_products names products (narrow_over core narrow is);
    }

abbrev view_names : (core : Circuit) (narrow : LinearView) → IsNarrowView core narrow → AreRenamed (products_of narrow) (products_of (core_view core))
view_names core narrow is =
    let names = narrow.columns in
    let all = core_columns core in
    let products = core_products core in
    record {
      name = through (slice_get all) (place_of names);
      back = through (slice_get names) (place_of all);
      there =
          renamed_through (slice_get all) (place_of names) (products_of narrow)
          ∙ ap (renamed (slice_get all)) (core_names core narrow is).again
          ∙ numbers_of_products all products;
      again =
          renamed_through (slice_get names) (place_of all) (numbered_products all products)
          ∙ ap (renamed (slice_get names)) (names_of_products all products (over_core core))
          ∙ (core_names core narrow is).there;
    }

view_row : (core : Circuit) (narrow : LinearView) (is : IsNarrowView core narrow) (row : List Bool) → length row ≡ length narrow.columns
    → named_in (view_names core narrow is).name (set_of row) ≡ set_of (widened core narrow row)
view_row core narrow is row e =
    let names = narrow.columns in
    let all = core_columns core in
    let set = set_in names row in
    let apart = some_apart is.columns (apart_core core) in
    named_through (slice_get all) (place_of names) (set_of row)
    ∙ ap (λ (l : List Bool). named_in (slice_get all) (named_in (place_of names) (set_of l))) (sym (bits_again names row apart e))
    ∙ ap (named_in (slice_get all)) (by_name names set (within_holds names set (in_columns names row)))
    ∙ by_number all set

module _ (to : RenamingKeepsAttacks Column ℕ) (from : RenamingKeepsAttacks ℕ Column) where
  pub narrow_views_keep_attacks : NarrowViewsKeepAttacks
  narrow_views_keep_attacks =
      record {
        core_names = λ core is narrow narrow_is. core_names core narrow narrow_is;
        view_names = λ core is narrow narrow_is. (view_names core narrow narrow_is, view_row core narrow narrow_is);
        attack =
            λ core is narrow narrow_is.
            let names = narrow.columns in
            let products = core_products core in
            let over = narrow_over core narrow narrow_is in
            let same = narrow_products core narrow narrow_is in (
              λ has. (
                set_of (map has.0 names),
                (
                  has.1.0,
                  has.1.1,
                  subst (λ (l : List (Product ℕ)). IsAttack l has.1.0 (set_of (map has.0 names)) has.1.1) (sym same)
                      (to_numbers to from names products over has.1.0 has.0 has.1.1 has.1.2),
                ),
              ),
              λ has. (
                named_in (place_of names) has.0,
                (
                  has.1.0,
                  has.1.1,
                  to_names to from names products over has.1.0 has.0 has.1.1
                      (subst (λ (l : List (Product ℕ)). IsAttack l has.1.0 has.0 has.1.1) same has.1.2),
                ),
              ),
            );
        row_probes =
            λ core is narrow narrow_is row e t probes.
            let names = narrow.columns in
            let products = core_products core in
            let over = narrow_over core narrow narrow_is in
            let same = narrow_products core narrow narrow_is in
            let apart = some_apart narrow_is.columns (apart_core core) in
            let set : named core (widened core narrow row) ≡ set_in names row =
            set_again (core_columns core) (set_in names row) (row_within core narrow narrow_is row) in (
              λ attack. subst (λ (l : List (Product ℕ)). IsAttack l t (set_of row) probes) (sym same)
                  (row_to_numbers to from names products over apart row e t probes
                  (subst (λ (l : Columns Column). IsAttack products t l probes) set attack)),
              λ attack. subst (λ (l : Columns Column). IsAttack products t l probes) (sym set)
                  (row_to_names to from names products over apart row e t probes
                  (subst (λ (l : List (Product ℕ)). IsAttack l t (set_of row) probes) same attack)),
            );
      }
