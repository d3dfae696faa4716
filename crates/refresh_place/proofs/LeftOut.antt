-- With products left out a core's products over the numbers of its columns are still its products under other names.
use Rattle.std.proofs.Common.{◌≡◌, ◌↔◌, ℕ, zero, suc, ◌+◌, ◌-◌, ◌%◌, ◌<◌, ◌≤◌, ◌==◌, Bool, true, false, not, ◌||◌, List, [], ◌∷◌, ◌++◌, map, flat_map, get_or, Option, None, Some, option_map, refl, sym, ap, ◌∙◌, subst, arith, true≢false, ◌⊎◌, inl, inr, if◌then◌else◌, nat_lt}
use Rattle.std.specs.Bool.{beq}
use Rattle.std.specs.Int.{bit_at}
use Rattle.std.specs.List.{slice_get, list_any, AllByRecursion, range_with_len}
use Rattle.std.specs.Option.{option_map_or}
use Rattle.std.proofs.lemmas.List.Folds.{list_any-append}
use mathlib.Core.Path.{fun_ext}
use Rattle.span_model.specs.Columns.{Columns, empty, set_of, sets_of, ◌△◌}
use Rattle.span_model.specs.Attack.{Product, HasAttack}
use Rattle.span_model.specs.Refresh.{left_out_from, left_out}
use Rattle.span_model.specs.Renaming.{named_in, renamed, renamed_product, AreRenamed}
use Rattle.span_model.specs.RefreshLaws.{RenamingKeepsAttacks, RefreshedUnderNames, RefreshedIsLeftOut}
use Rattle.usuba0.specs.declared.circuit.Gate.{Gate}
use Rattle.usuba0.specs.declared.circuit.Gate.TheVariants as gate
use Rattle.usuba0.specs.declared.circuit.Reg.{Reg}
use Rattle.usuba0.specs.Circuit.{Circuit, IsCore, products_of, refreshes_of}
use Rattle.linear_view.specs.declared.column.Column.{Column}
use Rattle.linear_view.specs.declared.column.ColumnKind.{ColumnKind}
use Rattle.linear_view.specs.declared.column.ColumnKind.TheVariants as column
use Rattle.linear_view.specs.Names.{same_column, own_columns, input_columns, gate_columns, equation_columns, core_columns}
use Rattle.linear_view.specs.Rows.{Rows, RegisterRows, rows_at, row_at, rows_over, operands_over, only, own_row, gate_row, gate_rows, input_rows, rows_after, core_rows, gate_product, core_products, core_view}
use Rattle.linear_view.specs.NarrowLaw.{NarrowViewsKeepAttacks}
use Rattle.linear_view.specs.View as view
use Rattle.linear_view.proofs.ListLemmas.{each_append, each_range, cons_same}
use Rattle.linear_view.proofs.NameLemmas.{same_column-itself, same_column-same}
use Rattle.linear_view.proofs.ApartLemmas.{IsPresent}
use Rattle.core_refresh.specs.RefreshedCore.{refreshed_core}
use Rattle.refresh_place.specs.RepairSet.{IsAttackedWith}
use Rattle.refresh_place.specs.RefreshedAttacks.{RefreshedCoresAreRefreshed, LeftOutOfView}
use Rattle.linear_view.proofs.AttackLemmas.{place_of, numbers_of_products, names_of_products}
use Rattle.linear_view.proofs.WithinLemmas.{over_core}

-- other names of columns, and products left out
renamed_out : {C D : Type 0} (name : D → Option C) (k : ℕ) (set : ℕ → Bool) (products : List (Product C))
    → renamed name (left_out_from k set products) ≡ left_out_from k set (renamed name products)
renamed_out name k set [] = refl
renamed_out name k set (one ∷ products) =
    cons_same (by (set k)) (renamed_out name (suc k) set products)
  where
    by : (b : Bool) → renamed_product name (if b then record { left = []; right = [] } else one) ≡ (if b then record { left = []; right = [] } else renamed_product name one)
    by true = refl
    by false = refl

-- with a set refreshed a core has an attack exactly where its products under other names have one without those of the set
left_out_under_names : RefreshedCoresAreRefreshed → RefreshedUnderNames Column Column → RefreshedIsLeftOut Column
    → RenamingKeepsAttacks Column ℕ → RenamingKeepsAttacks ℕ Column → (core : Circuit) (set : ℕ → Bool) → IsCore core
    → (others : List (Product ℕ)) → AreRenamed (core_products core) others
    → IsAttackedWith core set ↔ HasAttack (left_out set others)
left_out_under_names law under out to from core set is others names =
    let products = core_products core in
    let there : renamed names.name (left_out set products) ≡ left_out set others =
    renamed_out names.name 0 set products ∙ ap (left_out set) names.there in
    let back : renamed names.back (left_out set others) ≡ left_out set products =
    renamed_out names.back 0 set others ∙ ap (left_out set) names.again in
    let same = under.attack products set (core_products (refreshed_core core set)) (law core set is) in (
      (λ has.
          let x = (out products set).0 (same.1 has) in (
            named_in names.name x.0,
            (
              x.1.0,
              x.1.1,
              to names.name names.back (left_out set products) (left_out set others) there back x.1.0 x.0 x.1.1 x.1.2,
            ),
          )),
      (λ has.
          let y = from names.back names.name (left_out set others) (left_out set products) back there has.1.0 has.0 has.1.1 has.1.2 in
          same.0 ((out products set).1 (named_in names.back has.0, (has.1.0, has.1.1, y)))),
    )

-- a core's products over the numbers of its columns
numbered_names : (core : Circuit) → AreRenamed (core_products core) (view.products_of (core_view core))
numbered_names core =
    let names = core_columns core in
    let products = core_products core in
    record {
      name = slice_get names;
      back = place_of names;
      there = numbers_of_products names products;
      again = names_of_products names products (over_core core);
    }

pub left_out_of_view : RefreshedCoresAreRefreshed → RefreshedUnderNames Column Column → RefreshedIsLeftOut Column
    → RenamingKeepsAttacks Column ℕ → RenamingKeepsAttacks ℕ Column → NarrowViewsKeepAttacks → LeftOutOfView
left_out_of_view law under out to from narrow =
    record {
      whole = λ core set is.
          left_out_under_names law under out to from core set is (view.products_of (core_view core)) (numbered_names core);
      narrow = λ core set is seen has.
          left_out_under_names law under out to from core set is (view.products_of seen) (narrow.core_names core is seen has);
    }
