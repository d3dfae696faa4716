-- Names of columns: when two are the same, and where one stands in a list of names.
use Rattle.std.proofs.Common.{◌≡◌, ◌≢◌, ℕ, ◌<◌, ◌⊎◌, ⊎_elim, Bool, true, false, not, ◌&&◌, ◌||◌, eqb, List, [], ◌∷◌, length, map, set, get_or, replicate, Some, position, refl, sym, ap, ◌∙◌, arith, rules, true≢false}
use Rattle.std.proofs.lemmas.List.{same_lists, length-set, length-replicate, length-map, get_or-replicate, get_or-set_same, get_or-set_other, get_or-map}
use Rattle.std.proofs.lemmas.List.Quantifiers.{position-Some}
use Rattle.std.proofs.lemmas.Map.Keys.{any_passes_from_place, apart_from_distinct}
use Rattle.std.proofs.lemmas.Option.{slice_get-get_or, slice_get_within, get_or_from_slice_get}
use Rattle.std.specs.List.{slice_get, list_any, IsDistinct}
use Rattle.linear_view.specs.declared.column.Column.{Column}
use Rattle.linear_view.specs.declared.column.ColumnKind.{ColumnKind}
use Rattle.linear_view.specs.declared.column.ColumnKind.TheVariants.{Input, Product, Refresh}
use Rattle.linear_view.specs.contracts.column.ColumnPartialEq.TheImpl as impl
use Rattle.linear_view.specs.Names.{same_kind, same_column}
use Rattle.linear_view.specs.Walk.{AreOnce}
use Rattle.linear_view.proofs.ListLemmas.{cons_same}

kind_itself : (k : ColumnKind) → same_kind k k ≡ true
kind_itself Input = refl
kind_itself Product = refl
kind_itself Refresh = refl

kind_same : (k l : ColumnKind) → same_kind k l ≡ true → k ≡ l
kind_same Input Input e = refl
kind_same Product Product e = refl
kind_same Refresh Refresh e = refl
kind_same k l e = absurd (cc)

number_itself : (n : ℕ) → eqb n n ≡ true
number_itself n = grind arith

number_same : (m n : ℕ) → eqb m n ≡ true → m ≡ n
number_same m n e = grind arith

and_true : (x y : Bool) → x && y ≡ true → (x ≡ true) × (y ≡ true)
and_true true true e = (refl, refl)
and_true true false e = absurd (cc)
and_true false y e = absurd (cc)

pub same_column-itself : (a : Column) → same_column a a ≡ true
same_column-itself a = rw (kind_itself a.kind, number_itself a.number, number_itself a.bit)

pub same_column-same : (a b : Column) → same_column a b ≡ true → a ≡ b
same_column-same a b e =
    let outer = and_true (same_kind a.kind b.kind && eqb a.number b.number) (eqb a.bit b.bit) e in
    let inner = and_true (same_kind a.kind b.kind) (eqb a.number b.number) outer.0 in
    let make : ColumnKind → ℕ → ℕ → Column = λ k n m. record { kind = k; number = n; bit = m } in
    ap (λ (k : ColumnKind). make k a.number a.bit) (kind_same a.kind b.kind inner.0)
    ∙ ap (λ (n : ℕ). make b.kind n a.bit) (number_same a.number b.number inner.1)
    ∙ ap (λ (m : ℕ). make b.kind b.number m) (number_same a.bit b.bit outer.1)

make : ColumnKind → ℕ → ℕ → Column
make k n m = record { kind = k; number = n; bit = m }

pub eq-itself : (a : Column) → impl.eq-value.it a a ≡ true
eq-itself a = search rules

pub eq-same : (a b : Column) → impl.eq-value.it a b ≡ true → a ≡ b
eq-same a b e = by a.kind b.kind a.number b.number a.bit b.bit e
  where
    by : (k l : ColumnKind) (m n i j : ℕ) → impl.eq-value.it (record { kind = k; number = m; bit = i }) (record { kind = l; number = n; bit = j }) ≡ true
        → (let a : Column = record { kind = k; number = m; bit = i } in let b : Column = record { kind = l; number = n; bit = j } in a ≡ b)
    by Input Input m n i j e = let s : m ≡ n = search rules in let t : i ≡ j = search rules in cc
    by Product Product m n i j e = let s : m ≡ n = search rules in let t : i ≡ j = search rules in cc
    by Refresh Refresh m n i j e = let s : m ≡ n = search rules in let t : i ≡ j = search rules in cc
    by k l m n i j e = absurd (cc)

-- the derived test is that of names
pub eq-same_column : (a b : Column) → impl.eq-value.it a b ≡ same_column a b
eq-same_column a b = by (impl.eq-value.it a b) (same_column a b) refl refl
  where
    by : (x y : Bool) → impl.eq-value.it a b ≡ x → same_column a b ≡ y → impl.eq-value.it a b ≡ same_column a b
    by true true p q = p ∙ sym q
    by false false p q = p ∙ sym q
    by true false p q = absurd (true≢false (sym (same_column-itself a) ∙ ap (same_column a) (eq-same a b p) ∙ q))
    by false true p q = absurd (true≢false (sym (eq-itself a) ∙ ap (impl.eq-value.it a) (same_column-same a b q) ∙ p))

pub any-same_column : (name : Column) (names : List Column) → list_any (impl.eq-value.it name) names ≡ list_any (same_column name) names
any-same_column name [] = refl
any-same_column name (x ∷ xs) =
    ap (λ (b : Bool). b || list_any (impl.eq-value.it name) xs) (eq-same_column name x)
    ∙ ap (λ (b : Bool). same_column name x || b) (any-same_column name xs)

-- ---- places

pub place_found : (names : List Column) (name : Column) (c : ℕ) → Some c ≡ position (impl.eq-value.it name) names → slice_get names c ≡ Some name
place_found names name c e =
    let there = position-Some (impl.eq-value.it name) names c name (sym e) in
    slice_get-get_or names c name there.0 ∙ ap (λ (x : Column). Some x) (sym (eq-same name (get_or names c name) there.1))

pub place_none : (names : List Column) (name : Column) → false ≡ list_any (impl.eq-value.it name) names → (c : ℕ) → slice_get names c ≡ Some name → ⊥
place_none names name e c there = true≢false (sym (any_passes_from_place (impl.eq-value.it name) names c name there (eq-itself name)) ∙ sym e)

pub once_from_distinct : (names : List Column) → IsDistinct impl.eq-value.it names → AreOnce names
once_from_distinct names distinct b c name p q =
    ⊎_elim (λ h. absurd (apart b c h p q)) (λ (h : (c < b) ⊎ (b ≡ c)). ⊎_elim (λ k. absurd (apart c b k q p)) (λ e. e) h) (cases b c)
  where
    cases : (b c : ℕ) → (b < c) ⊎ ((c < b) ⊎ (b ≡ c))
    cases b c = grind arith

    apart : (i j : ℕ) → i < j → slice_get names i ≡ Some name → slice_get names j ≡ Some name → ⊥
    apart i j h p q =
        let within = slice_get_within names j name q in
        true≢false
        (sym (eq-itself name)
        ∙ ap (λ (x : Column). impl.eq-value.it x name) (sym (get_or_from_slice_get names i name name p))
        ∙ ap (λ (x : Column). impl.eq-value.it (get_or names i name) x) (sym (get_or_from_slice_get names j name name q))
        ∙ apart_from_distinct impl.eq-value.it names i j name distinct h within)

-- ---- the row of one column

pub row_of_none : (names : List Column) (name : Column) → false ≡ list_any (impl.eq-value.it name) names → replicate (length names) false ≡ map (same_column name) names
row_of_none [] name e = refl
row_of_none (x ∷ xs) name e =
    let both = none_of_two (impl.eq-value.it name x) (list_any (impl.eq-value.it name) xs) (sym e) in
    cons_same (sym both.0 ∙ eq-same_column name x) (row_of_none xs name (sym both.1))
  where
    none_of_two : (x y : Bool) → (x || y) ≡ false → (x ≡ false) × (y ≡ false)
    none_of_two true y e = absurd (cc)
    none_of_two false y e = (refl, e)

pub row_of_one : (names : List Column) (name : Column) (c : ℕ) → AreOnce names → slice_get names c ≡ Some name
    → set (replicate (length names) false) c (not (get_or (replicate (length names) false) c false)) ≡ map (same_column name) names
row_of_one names name c once there =
    let n = length names in
    let within = slice_get_within names c name there in
    ap (λ (b : Bool). set (replicate n false) c (not b)) (get_or-replicate n c false false within)
    ∙ same_lists (set (replicate n false) c true) (map (same_column name) names)
    (length-set (replicate n false) c true ∙ length-replicate n false ∙ sym (length-map names (same_column name)))
    (λ k d h. each k d (omega (arith, length-set (replicate n false) c true, length-replicate n false)))
  where
    each : (k : ℕ) (d : Bool) → k < length names → get_or (set (replicate (length names) false) c true) k d ≡ get_or (map (same_column name) names) k d
    each k d h = by (same_column name (get_or names k name)) refl
      where
        right : get_or (map (same_column name) names) k d ≡ same_column name (get_or names k name)
        right = get_or-map (same_column name) names k name d h

        by : (b : Bool) → same_column name (get_or names k name) ≡ b → get_or (set (replicate (length names) false) c true) k d ≡ get_or (map (same_column name) names) k d
        by true e =
            let same = same_column-same name (get_or names k name) e in
            let place : k ≡ c = once k c name (slice_get-get_or names k name h ∙ ap (λ (x : Column). Some x) (sym same)) there in
            ap (λ (i : ℕ). get_or (set (replicate (length names) false) c true) i d) place
            ∙ get_or-set_same (replicate (length names) false) c true d (omega (arith, length-replicate (length names) false, h, place))
            ∙ sym e ∙ sym right
        by false e =
            let other : k ≢ c = λ place. true≢false
            (sym (same_column-itself name)
            ∙ ap (same_column name) (sym (get_or_from_slice_get names k name name (ap (slice_get names) place ∙ there))) ∙ e) in
            get_or-set_other (replicate (length names) false) c k true d other
            ∙ get_or-replicate (length names) k false d h
            ∙ sym e ∙ sym right
