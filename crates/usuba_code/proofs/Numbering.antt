-- The numbers of declared cells: each is below the number of all elements, no two cells have one, and the cells of variables
-- that stand together have the numbers in a row.
use Rattle.std.proofs.Common.{◌≡◌, ◌<◌, ◌+◌, ℕ, zero, suc, Bool, true, false, ◌||◌, ◌==◌, nat_lt, if◌then◌else◌, List, [], ◌∷◌, ◌++◌, map, bytes_eq, refl, sym, ap, ◌∙◌, subst, arith, eqb-true, eq-eqb, ltb-true, lt-ltb, append_assoc}
use Rattle.std.specs.List.{range_with_len}
use Rattle.std.proofs.lemmas.Bool.{le-ltb}
use Rattle.std.proofs.lemmas.List.{map-append}
use Rattle.std.proofs.lemmas.List.Folds.{list_any-append}
use Rattle.std.proofs.lemmas.Slice.Eq.{bytes_eq-Decides}
use Rattle.usuba_trees.specs.declared.Decl.{Decl}
use Rattle.usuba_trees.specs.declared.Node.{Node}
use Rattle.usuba_model.specs.Cells.{Cell, same_cell, is_among, cells_of, declared_cells}
use Rattle.usuba_model.specs.Names.{is_name_among, names_of, repeated_declarations}
use Rattle.usuba_model.specs.Numbers.{cell_number, is_declared, AreDistinct}
use Rattle.usuba_model.specs.Shapes.{elements, all_elements}
use Rattle.usuba_model.specs.Unrolled.{declarations}
use Rattle.usuba_model.proofs.CellLemmas.{false_true, same_cells, same_cell_itself}
use Rattle.usuba_model.proofs.Knowing.{NoneHold}

-- each of some cells is declared
abbrev pub AreDeclared : List Decl → List Cell → Type 0
AreDeclared declared [] = Unit {0}
AreDeclared declared (c ∷ cs) = (is_declared declared c ≡ true) × AreDeclared declared cs

-- the cells of one declared variable
abbrev row : Decl → List Cell
row d = cells_of d.name.text (range_with_len 0 (elements d))

-- BOOLEANS AND NAMES

bools_same : (x y : Bool) → (x ≡ true → y ≡ true) → (y ≡ true → x ≡ true) → x ≡ y
bools_same true y f g = sym (f refl)
bools_same false true f g = g refl
bools_same false false f g = refl

or_cases {ℓ} : {A : Type ℓ} → (a b : Bool) → (a || b) ≡ true → (a ≡ true → A) → (b ≡ true → A) → A
or_cases true b e first second = first refl
or_cases false b e first second = second e

or_second : (a b : Bool) → b ≡ true → (a || b) ≡ true
or_second true b e = refl
or_second false b e = e

nor : (a b : Bool) → a ≡ false → b ≡ false → (a || b) ≡ false
nor true b e f = false_true (sym e)
nor false b e f = f

neither : (a b : Bool) → (a || b) ≡ false → (a ≡ false) × (b ≡ false)
neither true b e = false_true (sym e)
neither false b e = (refl, e)

same_names : (a b : List ℕ) → bytes_eq a b ≡ true → a ≡ b
same_names a b e = (bytes_eq-Decides a b).0 e

name_itself : (a : List ℕ) → bytes_eq a a ≡ true
name_itself a = (bytes_eq-Decides a a).1 refl

names_other : (a b : List ℕ) → bytes_eq a b ≡ false → bytes_eq b a ≡ false
names_other a b e = of_it (bytes_eq b a) refl
  where
    of_it : (t : Bool) → bytes_eq b a ≡ t → bytes_eq b a ≡ false
    of_it false is = is
    of_it true is = false_true (sym e ∙ (bytes_eq-Decides a b).1 (sym (same_names b a is)))

cell_of : (a b : Cell) → a.name ≡ b.name → a.element ≡ b.element → a ≡ b
cell_of a b names numbers =
    ap (λ (name : List ℕ). record { name = name; element = a.element }) names
    ∙ ap (λ (element : ℕ). record { name = b.name; element = element }) numbers

-- a name that is among some is another than one that is not
name_apart : (names : List (List ℕ)) (a b : List ℕ) → is_name_among names a ≡ false → is_name_among names b ≡ true → bytes_eq a b ≡ false
name_apart names a b out among = of_it (bytes_eq a b) refl
  where
    of_it : (t : Bool) → bytes_eq a b ≡ t → bytes_eq a b ≡ false
    of_it false is = is
    of_it true is = false_true (sym out ∙ ap (is_name_among names) (same_names a b is) ∙ among)

-- names are distinct where no declaration is found to repeat one
pub distinct_names : (taken : List (List ℕ)) (declared : List Decl) → NoneHold (repeated_declarations taken declared)
    → ((name : List ℕ) → is_name_among taken name ≡ true → is_name_among (names_of declared) name ≡ false) × AreDistinct declared
distinct_names taken [] none = (λ name among. refl, tt)
distinct_names taken (d ∷ rest) none =
    let later = distinct_names (d.name.text ∷ taken) rest none.1 in (
      λ name among. of_it name among (bytes_eq name d.name.text) refl
          (later.0 name (or_second (bytes_eq name d.name.text) (is_name_among taken name) among)),
      (later.0 d.name.text (ap (λ (b : Bool). b || is_name_among taken d.name.text) (name_itself d.name.text)), later.1),
    )
  where
    of_it : (name : List ℕ) → is_name_among taken name ≡ true → (t : Bool) → bytes_eq name d.name.text ≡ t
        → is_name_among (names_of rest) name ≡ false → (bytes_eq name d.name.text || is_name_among (names_of rest) name) ≡ false
    of_it name among false is out = ap (λ (b : Bool). b || is_name_among (names_of rest) name) is ∙ out
    of_it name among true is out =
        false_true (sym none.0 ∙ ap (is_name_among taken) (sym (same_names name d.name.text is)) ∙ among)

not_first : (a b : List Decl) (name : List ℕ) → is_name_among (names_of (a ++ b)) name ≡ false → is_name_among (names_of a) name ≡ false
not_first [] b name out = refl
not_first (d ∷ a) b name out =
    let parts = neither (bytes_eq name d.name.text) (is_name_among (names_of (a ++ b)) name) out in
    nor (bytes_eq name d.name.text) (is_name_among (names_of a) name) parts.0 (not_first a b name parts.1)

not_second : (a b : List Decl) (name : List ℕ) → is_name_among (names_of (a ++ b)) name ≡ false → is_name_among (names_of b) name ≡ false
not_second [] b name out = out
not_second (d ∷ a) b name out =
    not_second a b name (neither (bytes_eq name d.name.text) (is_name_among (names_of (a ++ b)) name) out).1

-- of distinct names, those of the first variables are distinct
pub distinct_first : (a b : List Decl) → AreDistinct (a ++ b) → AreDistinct a
distinct_first [] b distinct = tt
distinct_first (d ∷ a) b distinct = (not_first a b d.name.text distinct.0, distinct_first a b distinct.1)

-- so are those of the later ones
pub distinct_second : (a b : List Decl) → AreDistinct (a ++ b) → AreDistinct b
distinct_second [] b distinct = distinct
distinct_second (d ∷ a) b distinct = distinct_second a b distinct.1

-- and a name of the later ones is none of the first
pub distinct_apart : (a b : List Decl) → AreDistinct (a ++ b) → (name : List ℕ) → is_name_among (names_of b) name ≡ true
    → is_name_among (names_of a) name ≡ false
distinct_apart [] b distinct name among = refl
distinct_apart (d ∷ a) b distinct name among =
    let other = name_apart (names_of b) d.name.text name (not_second a b d.name.text distinct.0) among in
    nor (bytes_eq name d.name.text) (is_name_among (names_of a) name) (names_other d.name.text name other)
    (distinct_apart a b distinct.1 name among)

-- NUMBERS OF CELLS

-- the number of a declared cell is below the number of all elements
pub number_below : (declared : List Decl) (c : Cell) → is_declared declared c ≡ true → cell_number declared c < all_elements declared
number_below [] c h = false_true h
number_below (d ∷ rest) c h = at_first (bytes_eq d.name.text c.name) h (number_below rest c)
  where
    at_first : (t : Bool) → (if t then nat_lt c.element (elements d) else is_declared rest c) ≡ true
        → (is_declared rest c ≡ true → cell_number rest c < all_elements rest)
        → (if t then c.element else elements d + cell_number rest c) < elements d + all_elements rest
    at_first true h later = let lt : c.element < elements d = ltb-true c.element (elements d) h in omega (arith, lt)
    at_first false h later = let lt : cell_number rest c < all_elements rest = later h in omega (arith, lt)

-- two declared cells with one number are one cell
pub number_injective : (declared : List Decl) (a b : Cell) → is_declared declared a ≡ true → is_declared declared b ≡ true
    → cell_number declared a ≡ cell_number declared b → a ≡ b
number_injective [] a b ha hb e = false_true ha
number_injective (d ∷ rest) a b ha hb e =
    at_first (bytes_eq d.name.text a.name) (bytes_eq d.name.text b.name) refl refl ha hb e (number_injective rest a b)
  where
    at_first : (s t : Bool) → bytes_eq d.name.text a.name ≡ s → bytes_eq d.name.text b.name ≡ t
        → (if s then nat_lt a.element (elements d) else is_declared rest a) ≡ true
        → (if t then nat_lt b.element (elements d) else is_declared rest b) ≡ true
        → (if s then a.element else elements d + cell_number rest a) ≡ (if t then b.element else elements d + cell_number rest b)
        → (is_declared rest a ≡ true → is_declared rest b ≡ true → cell_number rest a ≡ cell_number rest b → a ≡ b) → a ≡ b
    at_first true true sa sb ha hb e later =
        cell_of a b (sym (same_names d.name.text a.name sa) ∙ same_names d.name.text b.name sb) e
    at_first true false sa sb ha hb e later =
        let lt : a.element < elements d = ltb-true a.element (elements d) ha in absurd (omega (arith, lt, e))
    at_first false true sa sb ha hb e later =
        let lt : b.element < elements d = ltb-true b.element (elements d) hb in absurd (omega (arith, lt, e))
    at_first false false sa sb ha hb e later = later ha hb (omega (arith, e))

-- so whether two declared cells are one shows in their numbers
pub same_number : (declared : List Decl) (a b : Cell) → is_declared declared a ≡ true → is_declared declared b ≡ true
    → same_cell a b ≡ (cell_number declared a == cell_number declared b)
same_number declared a b ha hb =
    bools_same (same_cell a b) (cell_number declared a == cell_number declared b)
    (λ e. eq-eqb (cell_number declared a) (cell_number declared b) (ap (cell_number declared) (same_cells a b e)))
    (λ e. subst (λ (c : Cell). same_cell a c ≡ true)
    (number_injective declared a b ha hb (eqb-true (cell_number declared a) (cell_number declared b) e)) (same_cell_itself a))

-- a cell of a name that is not declared before is numbered past what is declared before
pub number_past : (before rest : List Decl) (c : Cell) → is_name_among (names_of before) c.name ≡ false
    → cell_number (before ++ rest) c ≡ all_elements before + cell_number rest c
number_past [] rest c out = omega arith
number_past (d ∷ before) rest c out =
    let apart = neither (bytes_eq c.name d.name.text) (is_name_among (names_of before) c.name) out in
    let later = number_past before rest c apart.1 in
    ap (λ (t : Bool). if t then c.element else elements d + cell_number (before ++ rest) c) (names_other c.name d.name.text apart.0)
    ∙ omega (arith, later)

-- whether a declared cell is one of the first variables shows in its number
pub number_within : (first rest : List Decl) (c : Cell) → is_declared (first ++ rest) c ≡ true
    → nat_lt (cell_number (first ++ rest) c) (all_elements first) ≡ is_declared first c
number_within [] rest c h = le-ltb (cell_number rest c) 0 (omega arith)
number_within (d ∷ first) rest c h = at_first (bytes_eq d.name.text c.name) h (number_within first rest c)
  where
    at_first : (t : Bool) → (if t then nat_lt c.element (elements d) else is_declared (first ++ rest) c) ≡ true
        → (is_declared (first ++ rest) c ≡ true → nat_lt (cell_number (first ++ rest) c) (all_elements first) ≡ is_declared first c)
        → nat_lt (if t then c.element else elements d + cell_number (first ++ rest) c) (elements d + all_elements first)
        ≡ (if t then nat_lt c.element (elements d) else is_declared first c)
    at_first true h later =
        let lt : c.element < elements d = ltb-true c.element (elements d) h in
        lt-ltb c.element (elements d + all_elements first) (omega (arith, lt)) ∙ sym h
    at_first false h later =
        bools_same (nat_lt (elements d + cell_number (first ++ rest) c) (elements d + all_elements first)) (is_declared first c)
        (λ e.
        let lt : elements d + cell_number (first ++ rest) c < elements d + all_elements first
        = ltb-true (elements d + cell_number (first ++ rest) c) (elements d + all_elements first) e in
        sym (later h) ∙ lt-ltb (cell_number (first ++ rest) c) (all_elements first) (omega (arith, lt)))
        (λ e.
        let lt : cell_number (first ++ rest) c < all_elements first
        = ltb-true (cell_number (first ++ rest) c) (all_elements first) (later h ∙ e) in
        lt-ltb (elements d + cell_number (first ++ rest) c) (elements d + all_elements first) (omega (arith, lt)))

-- CELLS OF DECLARATIONS

range_join : (from a b : ℕ) → range_with_len from (a + b) ≡ range_with_len from a ++ range_with_len (from + a) b
range_join from zero b =
    let none : zero + b ≡ b = omega arith in
    let same : from ≡ from + zero = omega arith in
    ap (range_with_len from) none ∙ ap (λ n. range_with_len n b) same
range_join from (suc a) b =
    let more : suc a + b ≡ suc (a + b) = omega arith in
    let same : from + 1 + a ≡ from + suc a = omega arith in
    ap (range_with_len from) more
    ∙ ap (λ ns. from ∷ ns) (range_join (from + 1) a b ∙ ap (λ n. range_with_len (from + 1) a ++ range_with_len n b) same)

-- elements of one variable that are numbered in a row
row_of : (number : Cell → ℕ) (name : List ℕ) (base from count : ℕ)
    → ((e : ℕ) → number (record { name = name; element = e }) ≡ base + e)
    → map number (cells_of name (range_with_len from count)) ≡ range_with_len (base + from) count
row_of number name base from zero is = refl
row_of number name base from (suc count) is =
    let same : base + (from + 1) ≡ base + from + 1 = omega arith in
    ap (λ n. n ∷ map number (cells_of name (range_with_len (from + 1) count))) (is from)
    ∙ ap (λ ns. (base + from) ∷ ns) (row_of number name base (from + 1) count is ∙ ap (λ n. range_with_len n count) same)

-- cells of variables that stand together, numbered from a base on
row_of_all : (number : Cell → ℕ) (base : ℕ) (here after : List Decl) → AreDistinct here
    → ((c : Cell) → is_name_among (names_of here) c.name ≡ true → number c ≡ base + cell_number (here ++ after) c)
    → map number (declared_cells here) ≡ range_with_len base (all_elements here)
row_of_all number base [] after distinct is = refl
row_of_all number base (d ∷ rest) after distinct is =
    let start : base + 0 ≡ base = omega arith in
    let one : (e : ℕ) → number (record { name = d.name.text; element = e }) ≡ base + e
    = λ e.
    is (record { name = d.name.text; element = e }) (ap (λ (b : Bool). b || is_name_among (names_of rest) d.name.text) (name_itself d.name.text))
    ∙ ap (λ (b : Bool). base + (if b then e else elements d + cell_number (rest ++ after) (record { name = d.name.text; element = e })))
    (name_itself d.name.text) in
    let first : map number (row d) ≡ range_with_len base (elements d)
    = row_of number d.name.text base 0 (elements d) one ∙ ap (λ n. range_with_len n (elements d)) start in
    let others : (c : Cell) → is_name_among (names_of rest) c.name ≡ true → number c ≡ base + elements d + cell_number (rest ++ after) c
    = λ c among.
    let apart : bytes_eq d.name.text c.name ≡ false = name_apart (names_of rest) d.name.text c.name distinct.0 among in
    let sum : base + (elements d + cell_number (rest ++ after) c) ≡ base + elements d + cell_number (rest ++ after) c = omega arith in
    is c (or_second (bytes_eq c.name d.name.text) (is_name_among (names_of rest) c.name) among)
    ∙ ap (λ (b : Bool). base + (if b then c.element else elements d + cell_number (rest ++ after) c)) apart ∙ sum in
    map-append number (row d) (declared_cells rest)
    ∙ ap (λ ns. ns ++ map number (declared_cells rest)) first
    ∙ ap (λ ns. range_with_len base (elements d) ++ ns) (row_of_all number (base + elements d) rest after distinct.1 others)
    ∙ sym (range_join base (elements d) (all_elements rest))

-- the cells of variables have the numbers that follow on those of the variables before
pub declared_numbers : (before here after : List Decl) → AreDistinct here
    → ((c : Cell) → is_name_among (names_of here) c.name ≡ true → is_name_among (names_of before) c.name ≡ false)
    → map (cell_number (before ++ (here ++ after))) (declared_cells here) ≡ range_with_len (all_elements before) (all_elements here)
declared_numbers before here after distinct apart =
    row_of_all (cell_number (before ++ (here ++ after))) (all_elements before) here after distinct
    (λ c among. number_past before (here ++ after) c (apart c among))

-- a cell of a row of elements
row_element : (name : List ℕ) (from count : ℕ) (c : Cell) → is_among (cells_of name (range_with_len from count)) c ≡ true
    → (c.name ≡ name) × (c.element < from + count)
row_element name from zero c m = false_true m
row_element name from (suc count) c m =
    or_cases (same_cell c (record { name = name; element = from })) (is_among (cells_of name (range_with_len (from + 1) count)) c) m
    (λ e.
    let same = same_cells c (record { name = name; element = from }) e in
    let here : c.element ≡ from = ap (λ (x : Cell). x.element) same in
    (ap (λ (x : Cell). x.name) same, omega (arith, here)))
    (λ e.
    let later = row_element name (from + 1) count c e in
    let lt = later.1 in
    (later.0, omega (arith, lt)))

-- a cell of declarations has a declared name
pub cell_named : (declared : List Decl) (c : Cell) → is_among (declared_cells declared) c ≡ true → is_name_among (names_of declared) c.name ≡ true
cell_named [] c m = false_true m
cell_named (d ∷ rest) c m =
    or_cases (is_among (row d) c) (is_among (declared_cells rest) c) (sym (list_any-append (same_cell c) (row d) (declared_cells rest)) ∙ m)
    (λ e.
    let named = (row_element d.name.text 0 (elements d) c e).0 in
    ap (λ (name : List ℕ). bytes_eq name d.name.text || is_name_among (names_of rest) name) named
    ∙ ap (λ (b : Bool). b || is_name_among (names_of rest) d.name.text) (name_itself d.name.text))
    (λ e. or_second (bytes_eq c.name d.name.text) (is_name_among (names_of rest) c.name) (cell_named rest c e))

-- a cell of declarations of distinct names is declared
pub cell_declared : (declared : List Decl) → AreDistinct declared → (c : Cell) → is_among (declared_cells declared) c ≡ true
    → is_declared declared c ≡ true
cell_declared [] distinct c m = false_true m
cell_declared (d ∷ rest) distinct c m =
    or_cases (is_among (row d) c) (is_among (declared_cells rest) c) (sym (list_any-append (same_cell c) (row d) (declared_cells rest)) ∙ m)
    (λ e.
    let row = row_element d.name.text 0 (elements d) c e in
    let lt = row.1 in
    let here : bytes_eq d.name.text c.name ≡ true = (bytes_eq-Decides d.name.text c.name).1 (sym row.0) in
    ap (λ (b : Bool). if b then nat_lt c.element (elements d) else is_declared rest c) here
    ∙ lt-ltb c.element (elements d) (omega (arith, lt)))
    (λ e.
    let apart : bytes_eq d.name.text c.name ≡ false
    = name_apart (names_of rest) d.name.text c.name distinct.0 (cell_named rest c e) in
    ap (λ (b : Bool). if b then nat_lt c.element (elements d) else is_declared rest c) apart ∙ cell_declared rest distinct.1 c e)

-- a row of elements holds each of them
row_holds : (name : List ℕ) (from count k : ℕ) → k < count
    → is_among (cells_of name (range_with_len from count)) (record { name = name; element = from + k }) ≡ true
row_holds name from zero k within = absurd (omega (arith, within))
row_holds name from (suc count) zero within =
    let at : ℕ → Cell = λ n. record { name = name; element = n } in
    let same : from + zero ≡ from = omega arith in
    ap (λ (b : Bool). b || is_among (cells_of name (range_with_len (from + 1) count)) (at (from + zero)))
    (ap (λ (n : ℕ). same_cell (at n) (at from)) same ∙ same_cell_itself (at from))
row_holds name from (suc count) (suc k) within =
    let at : ℕ → Cell = λ n. record { name = name; element = n } in
    let same : from + 1 + k ≡ from + suc k = omega arith in
    let later : is_among (cells_of name (range_with_len (from + 1) count)) (at (from + 1 + k)) ≡ true
    = row_holds name (from + 1) count k (omega (arith, within)) in
    or_second (same_cell (at (from + suc k)) (at from)) (is_among (cells_of name (range_with_len (from + 1) count)) (at (from + suc k)))
    (subst (λ (n : ℕ). is_among (cells_of name (range_with_len (from + 1) count)) (at n) ≡ true) same later)

-- a declared cell is a cell of the declarations
pub declared_cell : (declared : List Decl) (c : Cell) → is_declared declared c ≡ true → is_among (declared_cells declared) c ≡ true
declared_cell [] c h = false_true h
declared_cell (d ∷ rest) c h = at_first (bytes_eq d.name.text c.name) refl h (declared_cell rest c)
  where
    joined : is_among (declared_cells (d ∷ rest)) c ≡ (is_among (row d) c || is_among (declared_cells rest) c)
    joined = list_any-append (same_cell c) (row d) (declared_cells rest)

    at_first : (t : Bool) → bytes_eq d.name.text c.name ≡ t → (if t then nat_lt c.element (elements d) else is_declared rest c) ≡ true
        → (is_declared rest c ≡ true → is_among (declared_cells rest) c ≡ true) → is_among (declared_cells (d ∷ rest)) c ≡ true
    at_first true is h later =
        let within : c.element < elements d = ltb-true c.element (elements d) h in
        let same : 0 + c.element ≡ c.element = omega arith in
        let here : record { name = d.name.text; element = 0 + c.element } ≡ c
        = cell_of (record { name = d.name.text; element = 0 + c.element }) c (same_names d.name.text c.name is) same in
        joined
        ∙ ap (λ (b : Bool). b || is_among (declared_cells rest) c)
        (subst (λ (x : Cell). is_among (row d) x ≡ true) here (row_holds d.name.text 0 (elements d) c.element within))
    at_first false is h later = joined ∙ or_second (is_among (row d) c) (is_among (declared_cells rest) c) (later h)

-- NODES

-- the cells of a node's inputs have the first numbers
pub input_numbers : (node : Node) → AreDistinct (declarations node)
    → map (cell_number (declarations node)) (declared_cells node.inputs) ≡ range_with_len 0 (all_elements node.inputs)
input_numbers node distinct =
    let numbers : List Decl → List ℕ = λ declared. map (cell_number declared) (declared_cells node.inputs) in
    ap numbers (append_assoc node.inputs node.outputs node.locals)
    ∙ declared_numbers [] node.inputs (node.outputs ++ node.locals)
    (distinct_first node.inputs node.outputs (distinct_first (node.inputs ++ node.outputs) node.locals distinct)) (λ c among. refl)

-- and those of its outputs the next ones
pub output_numbers : (node : Node) → AreDistinct (declarations node)
    → map (cell_number (declarations node)) (declared_cells node.outputs)
    ≡ range_with_len (all_elements node.inputs) (all_elements node.outputs)
output_numbers node distinct =
    let numbers : List Decl → List ℕ = λ declared. map (cell_number declared) (declared_cells node.outputs) in
    let first = distinct_first (node.inputs ++ node.outputs) node.locals distinct in
    ap numbers (append_assoc node.inputs node.outputs node.locals)
    ∙ declared_numbers node.inputs node.outputs node.locals (distinct_second node.inputs node.outputs first)
    (λ c among. distinct_apart node.inputs node.outputs first c.name among)
