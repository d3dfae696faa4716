-- Rows as bits over names: copies, sums, and the rows of one equation.
use Rattle.std.proofs.Common.{◌≡◌, ◌≢◌, ℕ, zero, suc, ◌+◌, ◌<◌, ◌≤◌, ◌^◌, ◌/◌, Bool, true, false, not, eqb, ltb, ◌==◌, if◌then◌else◌, List, [], ◌∷◌, ◌++◌, length, map, get_or, replicate, None, Some, bit_and, refl, sym, ap, ◌∙◌, subst, arith, inl, inr}
use Rattle.std.specs.Bool.{beq}
use Rattle.std.specs.Int.{bit_at}
use Rattle.std.specs.List.{slice_get, AllByRecursion}
use Rattle.std.proofs.lemmas.List.{same_lists, length-map, get_or-map, get_or_default, get_or_past, map-append}
use Rattle.std.proofs.lemmas.List.FromFn.{map-range_with_len_more}
use Rattle.std.proofs.lemmas.Option.{get_or_from_slice_get, slice_get_cases, none-some}
use Rattle.std.proofs.lemmas.Nat.Bits.{shr_and_one}
use mathlib.Core.Path.{fun_ext}
use Rattle.span_model.specs.Columns.{Columns, empty, set_of, ◌△◌}
use Rattle.usuba0.specs.declared.circuit.Gate.{Gate}
use Rattle.usuba0.specs.declared.circuit.Reg.{Reg}
use Rattle.linear_view.specs.declared.column.Column.{Column}
use Rattle.linear_view.specs.declared.column.ColumnKind.TheVariants as column
use Rattle.linear_view.specs.Names.{bits}
use Rattle.linear_view.specs.Rows.{RegisterRows, rows_at, row_at, rows_over}
use Rattle.linear_view.specs.Walk.{needs, HoldsNeeds}

pub get_or_of_map : {X Y : Type 0} (f : X → Y) (xs : List X) (i : ℕ) (d : X) → get_or (map f xs) i (f d) ≡ f (get_or xs i d)
get_or_of_map f [] i d = refl
get_or_of_map f (x ∷ xs) zero d = refl
get_or_of_map f (x ∷ xs) (suc i) d = get_or_of_map f xs i d

pub empty_over : (names : List Column) → replicate (length names) false ≡ map empty names
empty_over [] = refl
empty_over (x ∷ xs) = ap (λ (bs : List Bool). false ∷ bs) (empty_over xs)

-- the bits of a sum
pub sum_over : (names : List Column) (v w : Columns Column) (row other new : List Bool) → row ≡ map v names → other ≡ map w names → length new ≡ length row
    → set_of new ≡ set_of row △ set_of other → new ≡ map (v △ w) names
sum_over names v w row other new er eo el es =
    let long : length new ≡ length names = el ∙ ap length er ∙ length-map names v in
    same_lists new (map (v △ w) names) (long ∙ sym (length-map names (v △ w))) (λ k d h. each k d (omega (arith, long, h)) h)
  where
    first : Column
    first = record { kind = column.Input; number = 0; bit = 0 }

    each : (k : ℕ) (d : Bool) → k < length names → k < length new → get_or new k d ≡ get_or (map (v △ w) names) k d
    each k d h inside =
        get_or_default new k d false inside
        ∙ ap (λ (set : Columns ℕ). set k) es
        ∙ ap (λ (b : Bool). not (beq b (get_or other k false))) (ap (λ (bs : List Bool). get_or bs k false) er ∙ get_or-map v names k first false h)
        ∙ ap (λ (b : Bool). not (beq (v (get_or names k first)) b)) (ap (λ (bs : List Bool). get_or bs k false) eo ∙ get_or-map w names k first false h)
        ∙ sym (get_or-map (v △ w) names k first d h)

-- ---- what is held of the registers that an equation reads

-- the rows of a register are held
abbrev pub IsHeld : List Column → RegisterRows → List (List (List Bool)) → Reg → Type 0
IsHeld names all held a = get_or held a.0 [] ≡ rows_over names (rows_at all a)

pub held_first : (names : List Column) (all : RegisterRows) (held : List (List (List Bool))) (g : Gate) (a : Reg) (rest : List Reg) → needs g ≡ a ∷ rest
    → HoldsNeeds names all held g → IsHeld names all held a
held_first names all held g a rest e h = (subst (λ (rs : List Reg). AllByRecursion (IsHeld names all held) rs) e h).0

pub held_second : (names : List Column) (all : RegisterRows) (held : List (List (List Bool))) (g : Gate) (a b : Reg) → needs g ≡ a ∷ b ∷ []
    → HoldsNeeds names all held g → IsHeld names all held b
held_second names all held g a b e h = (subst (λ (rs : List Reg). AllByRecursion (IsHeld names all held) rs) e h).1.0

-- a copy of the row of a bit
pub copied_row : (names : List Column) (all : RegisterRows) (held : List (List (List Bool))) (set : Columns Column) (a : Reg) (from n : ℕ) (row : List Bool) → n ≡ length names
    → IsHeld names all held a → row_at all a from ≡ set → row ≡ get_or (get_or held a.0 []) from (replicate n false) → row ≡ map set names
copied_row names all held set a from n row en h same e =
    e ∙ ap (λ (m : ℕ). get_or (get_or held a.0 []) from (replicate m false)) en
    ∙ ap (λ (rows : List (List Bool)). get_or rows from (replicate (length names) false)) h
    ∙ ap (λ (bs : List Bool). get_or (rows_over names (rows_at all a)) from bs) (empty_over names)
    ∙ get_or_of_map (λ (set : Columns Column). map set names) (rows_at all a) from empty
    ∙ ap (λ (set : Columns Column). map set names) same

-- an empty row
pub empty_row : (names : List Column) (set : Columns Column) (n : ℕ) (row : List Bool) → n ≡ length names → empty ≡ set → row ≡ replicate n false → row ≡ map set names
empty_row names set n row en same e =
    e ∙ ap (λ (m : ℕ). replicate m false) en ∙ empty_over names ∙ ap (λ (set : Columns Column). map set names) same

-- the row of a bit, where there is one
pub read_row : (names : List Column) (all : RegisterRows) (held : List (List (List Bool))) (a : Reg) (from : ℕ) (row : List Bool)
    → IsHeld names all held a → Some row ≡ slice_get (get_or held a.0 []) from → row ≡ map (row_at all a from) names
read_row names all held a from row h e =
    copied_row names all held (row_at all a from) a from (length names) row refl h refl
    (sym (get_or_from_slice_get (get_or held a.0 []) from row (replicate (length names) false) (sym e)))

-- past the last bit
pub past_row : (names : List Column) (all : RegisterRows) (held : List (List (List Bool))) (a : Reg) (from : ℕ)
    → IsHeld names all held a → None ≡ slice_get (get_or held a.0 []) from → row_at all a from ≡ empty
past_row names all held a from h e =
    elim (slice_get_cases (get_or held a.0 []) from).1 as (λ _. row_at all a from ≡ empty) [
      | inl there ↦ absurd (none-some there.0 (e ∙ there.2))
      | inr past ↦
          get_or_past (rows_at all a) from empty
          (omega (arith, past.0, ap length h, length-map (rows_at all a) (λ (set : Columns Column). map set names)))
    ]

△-empty : (v : Columns Column) → v △ empty ≡ v
△-empty v = fun_ext (λ c. by (v c))
  where
    by : (b : Bool) → not (beq b false) ≡ b
    by true = refl
    by false = refl

-- the rows of two registers added, where the second has a row there
pub added_row : (names : List Column) (all : RegisterRows) (held : List (List (List Bool))) (set : Columns Column) (a b : Reg) (bit n : ℕ) (row other new : List Bool) → n ≡ length names
    → IsHeld names all held a → IsHeld names all held b → row_at all a bit △ row_at all b bit ≡ set
    → row ≡ get_or (get_or held a.0 []) bit (replicate n false) → Some other ≡ slice_get (get_or held b.0 []) bit
    → length new ≡ length row → set_of new ≡ set_of row △ set_of other → new ≡ map set names
added_row names all held set a b bit n row other new en ha hb same er eo el es =
    sum_over names (row_at all a bit) (row_at all b bit) row other new
    (copied_row names all held (row_at all a bit) a bit n row en ha refl er) (read_row names all held b bit other hb eo) el es
    ∙ ap (λ (set : Columns Column). map set names) same

-- and where it has none
pub alone_row : (names : List Column) (all : RegisterRows) (held : List (List (List Bool))) (set : Columns Column) (a b : Reg) (bit n : ℕ) (row : List Bool) → n ≡ length names
    → IsHeld names all held a → IsHeld names all held b → row_at all a bit △ row_at all b bit ≡ set
    → row ≡ get_or (get_or held a.0 []) bit (replicate n false) → None ≡ slice_get (get_or held b.0 []) bit → row ≡ map set names
alone_row names all held set a b bit n row en ha hb same er eo =
    copied_row names all held set a bit n row en ha
    (sym (△-empty (row_at all a bit)) ∙ ap (λ (w : Columns Column). row_at all a bit △ w) (sym (past_row names all held b bit hb eo)) ∙ same) er

-- the rows that are added are equally long
pub same_columns : (names : List Column) (all : RegisterRows) (held : List (List (List Bool))) (a b : Reg) (bit n : ℕ) (row other : List Bool) → n ≡ length names
    → IsHeld names all held a → IsHeld names all held b
    → row ≡ get_or (get_or held a.0 []) bit (replicate n false) → Some other ≡ slice_get (get_or held b.0 []) bit → length row ≡ length other
same_columns names all held a b bit n row other en ha hb er eo =
    ap length (copied_row names all held (row_at all a bit) a bit n row en ha refl er)
    ∙ length-map names (row_at all a bit)
    ∙ sym (length-map names (row_at all b bit))
    ∙ sym (ap length (read_row names all held b bit other hb eo))

-- ---- masks and shifts

pub mask_on : (c bit : ℕ) (x y : Columns Column) → bit_and (c / 2 ^ bit) 1 ≡ 1 → x ≡ (if bit_at c bit == 1 then x else y)
mask_on c bit x y e = sym (ap (λ (n : ℕ). if n == 1 then x else y) (sym (shr_and_one c bit) ∙ e))

pub mask_off : (c bit : ℕ) (x y : Columns Column) → bit_and (c / 2 ^ bit) 1 ≢ 1 → y ≡ (if bit_at c bit == 1 then x else y)
mask_off c bit x y e = by (bit_at c bit) (λ p. e (shr_and_one c bit ∙ p))
  where
    by : (n : ℕ) → n ≢ 1 → y ≡ (if n == 1 then x else y)
    by n differ = ap (λ (b : Bool). if b then x else y) (sym (unequal n differ))
      where
        unequal : (n : ℕ) → n ≢ 1 → eqb n 1 ≡ false
        unequal n differ = grind arith

pub shifted_in : (bit k : ℕ) (x y : Columns Column) → bit < k → x ≡ (if ltb bit k then x else y)
shifted_in bit k x y h = ap (λ (b : Bool). if b then x else y) (sym (below bit k h))
  where
    below : (a b : ℕ) → a < b → ltb a b ≡ true
    below a b h = grind arith

pub shifted_on : (bit k : ℕ) (x y : Columns Column) → k ≤ bit → y ≡ (if ltb bit k then x else y)
shifted_on bit k x y h = ap (λ (b : Bool). if b then x else y) (sym (above bit k h))
  where
    above : (a b : ℕ) → b ≤ a → ltb a b ≡ false
    above a b h = grind arith

-- ---- the rows of one bit after another

pub rows_more : (names : List Column) (f : ℕ → Columns Column) (b : ℕ) (rows new : List (List Bool)) (row : List Bool) → rows ≡ rows_over names (map f (bits b))
    → row ≡ map (f b) names → new ≡ rows ++ row ∷ [] → new ≡ rows_over names (map f (bits (b + 1)))
rows_more names f b rows new row er e en =
    let over : Columns Column → List Bool = λ set. map set names in
    en ∙ ap (λ (l : List (List Bool)). l ++ row ∷ []) er
    ∙ ap (λ (r : List Bool). map over (map f (bits b)) ++ r ∷ []) e
    ∙ sym (map-append over (map f (bits b)) (f b ∷ []))
    ∙ ap (map over) (sym (map-range_with_len_more f 0 b b (omega arith)))
