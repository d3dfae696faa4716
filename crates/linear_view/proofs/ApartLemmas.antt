-- The names of a core's columns differ.
use Rattle.std.proofs.Common.{◌≡◌, ℕ, zero, suc, ◌+◌, ◌≤◌, ◌⊎◌, inl, inr, ⊎_elim, Bool, true, false, ◌||◌, List, [], ◌∷◌, ◌++◌, map, flat_map, refl, sym, ap, ◌∙◌, arith, true≢false, Some}
use Rattle.std.specs.Bool.{⊤}
use Rattle.std.specs.List.{slice_get, list_any, range_with_len}
use Rattle.std.proofs.lemmas.List.Folds.{list_any-append}
use Rattle.std.proofs.lemmas.Map.Keys.{any_passes_from_place}
use Rattle.usuba0.specs.declared.circuit.Gate.{Gate}
use Rattle.usuba0.specs.declared.circuit.Gate.TheVariants as gate
use Rattle.usuba0.specs.Circuit.{Circuit, products_of, refreshes_of}
use Rattle.linear_view.specs.declared.column.Column.{Column}
use Rattle.linear_view.specs.declared.column.ColumnKind.{ColumnKind}
use Rattle.linear_view.specs.declared.column.ColumnKind.TheVariants.{Input, Product, Refresh}
use Rattle.linear_view.specs.Names.{same_column, own_columns, input_columns, gate_columns, equation_columns, core_columns}
use Rattle.linear_view.specs.Walk.{AreOnce}
use Rattle.linear_view.proofs.NameLemmas.{same_column-itself, same_column-same}
use Rattle.linear_view.proofs.ColumnLemmas.{IsAbsent, absent-append}

-- a name is among the names
abbrev pub IsPresent : Column → List Column → Type 0
IsPresent name names = list_any (same_column name) names ≡ true

-- no name stands again behind itself
abbrev pub AreApart : List Column → Type 0
AreApart [] = ⊤
AreApart (name ∷ names) = IsAbsent name names × AreApart names

absent_from : (name : Column) (names : List Column) → (IsPresent name names → ⊥) → IsAbsent name names
absent_from name names not_there = by (list_any (same_column name) names) refl
  where
    by : (b : Bool) → list_any (same_column name) names ≡ b → IsAbsent name names
    by false e = e
    by true e = absurd (not_there e)

-- a name that is among two lists is in one of them
present-append : (name : Column) (xs ys : List Column) → IsPresent name (xs ++ ys)
    → IsPresent name xs ⊎ IsPresent name ys
present-append name xs ys there = by (list_any (same_column name) xs) refl
  where
    by : (b : Bool) → list_any (same_column name) xs ≡ b → IsPresent name xs ⊎ IsPresent name ys
    by true e = inl e
    by false e = inr (sym (list_any-append (same_column name) xs ys
        ∙ ap (λ (c : Bool). c || list_any (same_column name) ys) e) ∙ there)

-- a name that is in one of two lists is among both
pub present_left : (name : Column) (xs ys : List Column) → IsPresent name xs → IsPresent name (xs ++ ys)
present_left name xs ys h =
    list_any-append (same_column name) xs ys ∙ ap (λ (b : Bool). b || list_any (same_column name) ys) h

pub present_right : (name : Column) (xs ys : List Column) → IsPresent name ys → IsPresent name (xs ++ ys)
present_right name xs ys h =
    list_any-append (same_column name) xs ys ∙ ap (λ (b : Bool). list_any (same_column name) xs || b) h ∙ or_true (list_any (same_column name) xs)
  where
    or_true : (b : Bool) → (b || true) ≡ true
    or_true true = refl
    or_true false = refl

-- two lists that have no name in common
apart-append : (xs ys : List Column) → AreApart xs → AreApart ys → ((name : Column) → IsPresent name xs
    → IsPresent name ys → ⊥) → AreApart (xs ++ ys)
apart-append [] ys p q other = q
apart-append (x ∷ xs) ys p q other = (
  absent-append x xs ys p.0 (absent_from x ys (λ there. other x (ap (λ (b : Bool). b || list_any
      (same_column x) xs) (same_column-itself x)) there)),
  apart-append xs ys p.1 q (λ name first second. other name (behind name (same_column name x) first) second),
)
  where
    behind : (name : Column) (b : Bool) → IsPresent name xs → (b || list_any (same_column name) xs) ≡ true
    behind name true there = refl
    behind name false there = there

-- a name among those that are made of numbers is made of one of these
present_made : (name : Column) (f : ℕ → Column) (a n : ℕ) → IsPresent name (map f (range_with_len a n))
    → (k : ℕ) × (a ≤ k) × (name ≡ f k)
present_made name f a zero there = absurd (true≢false (sym there))
present_made name f a (suc n) there = by (same_column name (f a)) refl there (present_made name f (a + 1) n)
  where
    rest : List Column
    rest = map f (range_with_len (a + 1) n)

    by : (b : Bool) → same_column name (f a) ≡ b → (b || list_any (same_column name) rest) ≡ true
        → (IsPresent name rest → (k : ℕ) × (a + 1 ≤ k) × (name ≡ f k)) → (k : ℕ) × (a ≤ k) × (name ≡ f k)
    by true e there later = (a, omega arith, same_column-same name (f a) e)
    by false e there later = let more = later there in (more.0, omega (arith, more.1), more.2)

-- names made of different numbers differ
apart_made : (f : ℕ → Column) (a n : ℕ) → ((i j : ℕ) → f i ≡ f j → i ≡ j) → AreApart (map f (range_with_len a n))
apart_made f a zero differ = tt
apart_made f a (suc n) differ = (
  absent_from (f a) (map f (range_with_len (a + 1) n))
      (λ there. let found = present_made (f a) f (a + 1) n there in absurd (later a found.0 found.1
      (differ a found.0 found.2))),
  apart_made f (a + 1) n differ,
)
  where
    later : (a k : ℕ) → a + 1 ≤ k → a ≡ k → ⊥
    later a k h e = omega arith

apart_own : (w : ℕ) (kind : ColumnKind) (number : ℕ) → AreApart (own_columns w kind number)
apart_own w kind number =
    apart_made (λ bit. record { kind = kind; number = number; bit = bit }) 0 w (λ i j e. ap (λ (c : Column). c.bit) e)

-- the kind and the number of a name among the columns of one thing
own_name : (name : Column) (w : ℕ) (kind : ColumnKind) (number : ℕ) → IsPresent name (own_columns w kind number)
    → (name.kind ≡ kind) × (name.number ≡ number)
own_name name w kind number there =
    let found = present_made name (λ bit. record { kind = kind; number = number; bit = bit }) 0 w there in
    (ap (λ (c : Column). c.kind) found.2, ap (λ (c : Column). c.number) found.2)

input_name : (name : Column) (w a n : ℕ) → IsPresent name (flat_map (own_columns w Input) (range_with_len a n))
    → (name.kind ≡ Input) × (a ≤ name.number)
input_name name w a zero there = absurd (true≢false (sym there))
input_name name w a (suc n) there =
    ⊎_elim (λ first. let own = own_name name w Input a first in (own.0, omega (arith, own.1)))
    (λ second. let more = input_name name w (a + 1) n second in (more.0, omega (arith, more.1)))
    (present-append name (own_columns w Input a) (flat_map (own_columns w Input) (range_with_len (a + 1) n)) there)

apart_inputs : (w a n : ℕ) → AreApart (flat_map (own_columns w Input) (range_with_len a n))
apart_inputs w a zero = tt
apart_inputs w a (suc n) =
    apart-append (own_columns w Input a) (flat_map (own_columns w Input) (range_with_len (a + 1) n))
    (apart_own w Input a) (apart_inputs w (a + 1) n)
    (λ name first second. later name.number (own_name name w Input a first).1 (input_name name w (a + 1) n second).1)
  where
    later : (k : ℕ) → k ≡ a → a + 1 ≤ k → ⊥
    later k e h = omega arith

-- a column of a product from number p on, or of a refresh from number f on
abbrev IsLater : (p f : ℕ) → Column → Type 0
IsLater p f name = ((name.kind ≡ Product) × (p ≤ name.number)) ⊎ ((name.kind ≡ Refresh) × (f ≤ name.number))

later_still : (p f more_p more_f : ℕ) (name : Column) → IsLater (p + more_p) (f + more_f) name → IsLater p f name
later_still p f more_p more_f name (inl h) = inl (h.0, omega (arith, h.1))
later_still p f more_p more_f name (inr h) = inr (h.0, omega (arith, h.1))

gate_name : (name : Column) (w p f : ℕ) (g : Gate) → IsPresent name (gate_columns w p f g) → IsLater p f name
gate_name name w p f (gate.Const c) there = absurd (true≢false (sym there))
gate_name name w p f (gate.Xor a b) there = absurd (true≢false (sym there))
gate_name name w p f (gate.Not a) there = absurd (true≢false (sym there))
gate_name name w p f (gate.Mask c a) there = absurd (true≢false (sym there))
gate_name name w p f (gate.And a b) there = let own = own_name name w Product p there in inl (
  own.0,
  omega
      (arith, own.1),
)
gate_name name w p f (gate.Shl k a) there = absurd (true≢false (sym there))
gate_name name w p f (gate.Shr k a) there = absurd (true≢false (sym there))
gate_name name w p f (gate.Rotl k a) there = absurd (true≢false (sym there))
gate_name name w p f (gate.Refresh a) there = let own = own_name name w Refresh f there in inr (
  own.0,
  omega
      (arith, own.1),
)

equation_name : (name : Column) (w p f : ℕ) (gs : List Gate) → IsPresent name (equation_columns w p f gs)
    → IsLater p f name
equation_name name w p f [] there = absurd (true≢false (sym there))
equation_name name w p f (g ∷ gs) there =
    let p1 : ℕ = p + products_of (g ∷ []) in
    let f1 : ℕ = f + refreshes_of (g ∷ []) in
    ⊎_elim (λ first. gate_name name w p f g first)
    (λ second. later_still p f (products_of (g ∷ [])) (refreshes_of (g ∷ [])) name
    (equation_name name w p1 f1 gs second))
    (present-append name (gate_columns w p f g) (equation_columns w p1 f1 gs) there)

product≢refresh : Product ≡ Refresh → ⊥
product≢refresh e = cc

input≢product : Input ≡ Product → ⊥
input≢product e = cc

input≢refresh : Input ≡ Refresh → ⊥
input≢refresh e = cc

not_later_product : (name : Column) (p f : ℕ) → (name.kind ≡ Product) × (name.number ≡ p) → IsLater (p + 1) f name → ⊥
not_later_product name p f own (inl h) = omega (arith, own.1, h.1)
not_later_product name p f own (inr h) = product≢refresh (sym own.0 ∙ h.0)

not_later_refresh : (name : Column) (p f : ℕ) → (name.kind ≡ Refresh) × (name.number ≡ f) → IsLater p (f + 1) name → ⊥
not_later_refresh name p f own (inl h) = product≢refresh (sym h.0 ∙ own.0)
not_later_refresh name p f own (inr h) = omega (arith, own.1, h.1)

apart_equations : (w p f : ℕ) (gs : List Gate) → AreApart (equation_columns w p f gs)
apart_equations w p f [] = tt
apart_equations w p f (gate.Const c ∷ gs) = apart_equations w (p + 0) (f + 0) gs
apart_equations w p f (gate.Xor a b ∷ gs) = apart_equations w (p + 0) (f + 0) gs
apart_equations w p f (gate.Not a ∷ gs) = apart_equations w (p + 0) (f + 0) gs
apart_equations w p f (gate.Mask c a ∷ gs) = apart_equations w (p + 0) (f + 0) gs
apart_equations w p f (gate.And a b ∷ gs) =
    apart-append (own_columns w Product p) (equation_columns w (p + 1) (f + 0) gs) (apart_own w Product p)
    (apart_equations w (p + 1) (f + 0) gs)
    (λ name first second. not_later_product name p (f + 0) (own_name name w Product p first) (equation_name name w
    (p + 1) (f + 0) gs second))
apart_equations w p f (gate.Shl k a ∷ gs) = apart_equations w (p + 0) (f + 0) gs
apart_equations w p f (gate.Shr k a ∷ gs) = apart_equations w (p + 0) (f + 0) gs
apart_equations w p f (gate.Rotl k a ∷ gs) = apart_equations w (p + 0) (f + 0) gs
apart_equations w p f (gate.Refresh a ∷ gs) =
    apart-append (own_columns w Refresh f) (equation_columns w (p + 0) (f + 1) gs) (apart_own w Refresh f)
    (apart_equations w (p + 0) (f + 1) gs)
    (λ name first second. not_later_refresh name (p + 0) f (own_name name w Refresh f first) (equation_name name w
    (p + 0) (f + 1) gs second))

not_later_input : (name : Column) (p f : ℕ) → name.kind ≡ Input → IsLater p f name → ⊥
not_later_input name p f own (inl h) = input≢product (sym own ∙ h.0)
not_later_input name p f own (inr h) = input≢refresh (sym own ∙ h.0)

-- no name stands twice among the columns of a core
pub apart_core : (core : Circuit) → AreApart (core_columns core)
apart_core core =
    let w = core.width in
    apart-append (input_columns w core.inputs) (equation_columns w 0 0 core.equations)
    (apart_inputs w 0 core.inputs) (apart_equations w 0 0 core.equations)
    (λ name first second. not_later_input name 0 0 (input_name name w 0 core.inputs first).0
    (equation_name name w 0 0 core.equations second))

again : (x : Column) (xs : List Column) (c : ℕ) (name : Column) → IsAbsent x xs → Some x ≡ Some name
    → slice_get xs c ≡ Some name → ⊥
again x xs c name absent p q =
    let same : x ≡ name = cc in
    true≢false (sym (any_passes_from_place (same_column x) xs c name q (ap (λ (n : Column). same_column x n)
    (sym same) ∙ same_column-itself x)) ∙ absent)

-- so each name has one place
pub once_from_apart : (names : List Column) → AreApart names → AreOnce names
once_from_apart [] apart b c name p q = absurd (cc)
once_from_apart (x ∷ xs) apart zero zero name p q = refl
once_from_apart (x ∷ xs) apart zero (suc c) name p q = absurd (again x xs c name apart.0 p q)
once_from_apart (x ∷ xs) apart (suc b) zero name p q = absurd (again x xs b name apart.0 q p)
once_from_apart (x ∷ xs) apart (suc b) (suc c) name p q = ap suc (once_from_apart xs apart.1 b c name p q)
