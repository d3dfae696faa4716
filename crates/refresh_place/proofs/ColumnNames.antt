-- The columns of a refreshed core, and those of refreshed products: two names for the same.
use Rattle.std.proofs.Common.{◌≡◌, ℕ, ◌==◌, ◌&&◌, Bool, true, false, Option, None, Some, refl, sym, ap, ◌∙◌, true≢false}
use Rattle.std.specs.Option.{option_map_or}
use Rattle.std.proofs.lemmas.Bool.{eqb-true, eq-eqb}
use mathlib.Core.Path.{fun_ext}
use Rattle.span_model.specs.Columns.{Columns, empty, ◌△◌}
use Rattle.span_model.specs.Renaming.{named_in}
use Rattle.span_model.specs.Refresh.{RefreshedColumn, kept, added, kept_name, added_column}
use Rattle.span_model.proofs.Carrying.{named_keeps}
use Rattle.linear_view.specs.declared.column.Column.{Column}
use Rattle.linear_view.specs.declared.column.ColumnKind.{ColumnKind}
use Rattle.linear_view.specs.declared.column.ColumnKind.TheVariants.{Input, Product, Refresh}
use Rattle.linear_view.specs.Rows.{own_row}
use Rattle.refresh_place.proofs.Origins.{Origin, was, before, IsNaming}

-- the column of this kind, number and bit
abbrev pub column_of : ColumnKind → ℕ → ℕ → Column
column_of kind number bit = record { kind = kind; number = number; bit = bit }

-- the column of refreshed products that a bit of a refresh is
abbrev pub origin_column : Origin → ℕ → RefreshedColumn Column
origin_column (was i) bit = kept (column_of Refresh i bit)
origin_column (before k) bit = added k bit

-- the column of refreshed products that a column of the refreshed core is
abbrev pub name_of : (ℕ → Origin) → ColumnKind → ℕ → ℕ → Option (RefreshedColumn Column)
name_of from Input number bit = Some (kept (column_of Input number bit))
name_of from Product number bit = Some (kept (column_of Product number bit))
name_of from Refresh number bit = Some (origin_column (from number) bit)

abbrev pub name : (ℕ → Origin) → Column → Option (RefreshedColumn Column)
name from column = name_of from column.kind column.number column.bit

-- the column of the refreshed core that a bit of a refresh with this number is, if it has one
abbrev pub refresh_bit : ℕ → Option ℕ → Option Column
refresh_bit bit None = None
refresh_bit bit (Some j) = Some (column_of Refresh j bit)

-- the column of the refreshed core that a column of refreshed products is
abbrev pub back_of : (Origin → Option ℕ) → ColumnKind → ℕ → ℕ → Option Column
back_of to Input number bit = Some (column_of Input number bit)
back_of to Product number bit = Some (column_of Product number bit)
back_of to Refresh number bit = refresh_bit bit (to (was number))

abbrev pub back : (Origin → Option ℕ) → RefreshedColumn Column → Option Column
back to (kept column) = back_of to column.kind column.number column.bit
back to (added k bit) = refresh_bit bit (to (before k))

-- a row of the core as a row of the refreshed core
abbrev pub carried : (ℕ → Origin) → Columns Column → Columns Column
carried from v = named_in (name from) (named_in kept_name v)

pub carried_empty : (from : ℕ → Origin) → carried from empty ≡ empty
carried_empty from = ap (named_in (name from)) (named_keeps kept_name).at_empty ∙ (named_keeps (name from)).at_empty

pub carried_sum : (from : ℕ → Origin) (v w : Columns Column) → carried from (v △ w) ≡ carried from v △ carried from w
carried_sum from v w =
    ap (named_in (name from)) ((named_keeps kept_name).at_sum v w)
    ∙ (named_keeps (name from)).at_sum (named_in kept_name v) (named_in kept_name w)

-- two tests that each hold where the other does are the same
same_tests : (x y : Bool) → (x ≡ true → y ≡ true) → (y ≡ true → x ≡ true) → x ≡ y
same_tests true y f g = sym (f refl)
same_tests false true f g = absurd (true≢false (sym (g refl)))
same_tests false false f g = refl

never : (x : Bool) → (x ≡ true → ⊥) → x ≡ false
never true f = absurd (f refl)
never false f = refl

some_same : (x y : ℕ) → Some x ≡ Some y → x ≡ y
some_same x y e = cc

was_same : (i j : ℕ) → was i ≡ was j → i ≡ j
was_same i j e = cc

before_same : (i j : ℕ) → before i ≡ before j → i ≡ j
before_same i j e = cc

apart : (i m : ℕ) → was i ≡ before m → ⊥
apart i m e = cc

-- two refreshes that come from one place are one
from_same : (from : ℕ → Origin) (to : Origin → Option ℕ) → IsNaming from to → (i j : ℕ) (o : Origin) → from i ≡ o → from j ≡ o → i ≡ j
from_same from to is i j o e f = some_same i j (sym (is.there i o e) ∙ is.there j o f)

-- ---- rows of the core as rows of the refreshed core

pub input_carried : (from : ℕ → Origin) (number bit : ℕ) → own_row Input number bit ≡ carried from (own_row Input number bit)
input_carried from number bit = fun_ext (λ c. at c.kind c.number c.bit)
  where
    of : (o : Origin) (b : ℕ) → false ≡ option_map_or (own_row Input number bit) (kept_name (origin_column o b)) false
    of (was i) b = refl
    of (before k) b = refl

    at : (kind : ColumnKind) (n b : ℕ) → own_row Input number bit (column_of kind n b) ≡ carried from (own_row Input number bit) (column_of kind n b)
    at Input n b = refl
    at Product n b = refl
    at Refresh n b = of (from n) b

pub product_carried : (from : ℕ → Origin) (number bit : ℕ) → own_row Product number bit ≡ carried from (own_row Product number bit)
product_carried from number bit = fun_ext (λ c. at c.kind c.number c.bit)
  where
    of : (o : Origin) (b : ℕ) → false ≡ option_map_or (own_row Product number bit) (kept_name (origin_column o b)) false
    of (was i) b = refl
    of (before k) b = refl

    at : (kind : ColumnKind) (n b : ℕ) → own_row Product number bit (column_of kind n b) ≡ carried from (own_row Product number bit) (column_of kind n b)
    at Input n b = refl
    at Product n b = refl
    at Refresh n b = of (from n) b

-- a refresh that the core had
pub refresh_carried : (from : ℕ → Origin) (to : Origin → Option ℕ) → IsNaming from to → (f next bit : ℕ) → from next ≡ was f
    → own_row Refresh next bit ≡ carried from (own_row Refresh f bit)
refresh_carried from to is f next bit e = fun_ext (λ c. at c.kind c.number c.bit)
  where
    of : (n b : ℕ) (o : Origin) → from n ≡ o
        → ((next == n) && (bit == b)) ≡ option_map_or (own_row Refresh f bit) (kept_name (origin_column o b)) false
    of n b (was i) h =
        ap (λ (x : Bool). x && (bit == b))
        (same_tests (next == n) (f == i)
        (λ t. eq-eqb f i (was_same f i (sym e ∙ ap from (eqb-true next n t) ∙ h)))
        (λ t. eq-eqb next n (from_same from to is next n (was f) e (h ∙ ap was (sym (eqb-true f i t))))))
    of n b (before k) h =
        ap (λ (x : Bool). x && (bit == b)) (never (next == n) (λ t. apart f k (sym e ∙ ap from (eqb-true next n t) ∙ h)))

    at : (kind : ColumnKind) (n b : ℕ) → own_row Refresh next bit (column_of kind n b) ≡ carried from (own_row Refresh f bit) (column_of kind n b)
    at Input n b = refl
    at Product n b = refl
    at Refresh n b = of n b (from n) refl

-- a refresh that was added before product k
pub added_named : (from : ℕ → Origin) (to : Origin → Option ℕ) → IsNaming from to → (k next bit : ℕ) → from next ≡ before k
    → own_row Refresh next bit ≡ named_in (name from) (added_column k bit)
added_named from to is k next bit e = fun_ext (λ c. at c.kind c.number c.bit)
  where
    turned : (b : ℕ) → (bit == b) ≡ (b == bit)
    turned b = same_tests (bit == b) (b == bit) (λ t. eq-eqb b bit (sym (eqb-true bit b t))) (λ t. eq-eqb bit b (sym (eqb-true b bit t)))

    of : (n b : ℕ) (o : Origin) → from n ≡ o → ((next == n) && (bit == b)) ≡ added_column k bit (origin_column o b)
    of n b (was i) h =
        ap (λ (x : Bool). x && (bit == b)) (never (next == n) (λ t. apart i k (sym h ∙ ap from (sym (eqb-true next n t)) ∙ e)))
    of n b (before m) h =
        ap (λ (x : Bool). x && (bit == b))
        (same_tests (next == n) (m == k)
        (λ t. eq-eqb m k (before_same m k (sym h ∙ ap from (sym (eqb-true next n t)) ∙ e)))
        (λ t. eq-eqb next n (from_same from to is next n (before k) e (h ∙ ap before (eqb-true m k t)))))
        ∙ ap (λ (x : Bool). (m == k) && x) (turned b)

    at : (kind : ColumnKind) (n b : ℕ) → own_row Refresh next bit (column_of kind n b) ≡ named_in (name from) (added_column k bit) (column_of kind n b)
    at Input n b = refl
    at Product n b = refl
    at Refresh n b = of n b (from n) refl

-- ---- and back

-- a row of the core is again the row that it was, among the columns that were kept
pub back_kept : (from : ℕ → Origin) (to : Origin → Option ℕ) → IsNaming from to → (v : Columns Column)
    → named_in (back to) (carried from v) ≡ named_in kept_name v
back_kept from to is v = fun_ext at
  where
    numbered : (i b : ℕ) (o : Option ℕ) → to (was i) ≡ o → option_map_or (carried from v) (refresh_bit b o) false ≡ v (column_of Refresh i b)
    numbered i b None e = let x = is.total i in absurd (none x.0 (sym e ∙ x.1))
      where
        none : (j : ℕ) → (let o : Option ℕ = None in o) ≡ Some j → ⊥
        none j e = cc
    numbered i b (Some j) e = ap (λ (o : Origin). named_in kept_name v (origin_column o b)) (is.again (was i) j e)

    kept_at : (kind : ColumnKind) (n b : ℕ) → named_in (back to) (carried from v) (kept (column_of kind n b)) ≡ v (column_of kind n b)
    kept_at Input n b = refl
    kept_at Product n b = refl
    kept_at Refresh n b = numbered n b (to (was n)) refl

    added_at : (k b : ℕ) (o : Option ℕ) → to (before k) ≡ o → option_map_or (carried from v) (refresh_bit b o) false ≡ false
    added_at k b None e = refl
    added_at k b (Some j) e = ap (λ (o : Origin). named_in kept_name v (origin_column o b)) (is.again (before k) j e)

    at : (c : RefreshedColumn Column) → named_in (back to) (carried from v) c ≡ named_in kept_name v c
    at (kept c) = kept_at c.kind c.number c.bit
    at (added k b) = added_at k b (to (before k)) refl

-- a refresh that was added before product k is the column that is added for it
pub back_added : (from : ℕ → Origin) (to : Origin → Option ℕ) → IsNaming from to → (k next bit : ℕ) → from next ≡ before k
    → named_in (back to) (own_row Refresh next bit) ≡ added_column k bit
back_added from to is k next bit e = fun_ext at
  where
    turned : (b : ℕ) → (bit == b) ≡ (b == bit)
    turned b = same_tests (bit == b) (b == bit) (λ t. eq-eqb b bit (sym (eqb-true bit b t))) (λ t. eq-eqb bit b (sym (eqb-true b bit t)))

    none : (j : ℕ) → (let o : Option ℕ = None in o) ≡ Some j → ⊥
    none j e = cc

    numbered : (i b : ℕ) (o : Option ℕ) → to (was i) ≡ o → option_map_or (own_row Refresh next bit) (refresh_bit b o) false ≡ false
    numbered i b None h = refl
    numbered i b (Some j) h =
        ap (λ (x : Bool). x && (bit == b))
        (never (next == j) (λ t. apart i k (sym (is.again (was i) j h) ∙ ap from (sym (eqb-true next j t)) ∙ e)))

    kept_at : (kind : ColumnKind) (n b : ℕ) → named_in (back to) (own_row Refresh next bit) (kept (column_of kind n b)) ≡ false
    kept_at Input n b = refl
    kept_at Product n b = refl
    kept_at Refresh n b = numbered n b (to (was n)) refl

    added_at : (m b : ℕ) (o : Option ℕ) → to (before m) ≡ o
        → option_map_or (own_row Refresh next bit) (refresh_bit b o) false ≡ ((m == k) && (b == bit))
    added_at m b None h =
        ap (λ (x : Bool). x && (b == bit))
        (sym (never (m == k) (λ t. none next (sym h ∙ is.there next (before m) (e ∙ ap before (sym (eqb-true m k t)))))))
    added_at m b (Some j) h =
        ap (λ (x : Bool). x && (bit == b))
        (same_tests (next == j) (m == k)
        (λ t. eq-eqb m k (before_same m k (sym (is.again (before m) j h) ∙ ap from (sym (eqb-true next j t)) ∙ e)))
        (λ t. eq-eqb next j (from_same from to is next j (before k) e (is.again (before m) j h ∙ ap before (eqb-true m k t)))))
        ∙ ap (λ (x : Bool). (m == k) && x) (turned b)

    at : (c : RefreshedColumn Column) → named_in (back to) (own_row Refresh next bit) c ≡ added_column k bit c
    at (kept c) = kept_at c.kind c.number c.bit
    at (added m b) = added_at m b (to (before m)) refl
