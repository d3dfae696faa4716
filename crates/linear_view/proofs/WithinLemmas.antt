-- Rows and products that hold columns of a list only.
use Rattle.std.proofs.Common.{◌≡◌, ℕ, zero, suc, ◌+◌, ◌-◌, ◌%◌, ◌<◌, ◌≤◌, ◌==◌, Bool, true, false, not, ◌||◌, List, [], ◌∷◌, ◌++◌, map, flat_map, get_or, Some, Contains, refl, sym, ap, ◌∙◌, subst, arith, true≢false, ◌⊎◌, inl, inr, if◌then◌else◌, nat_lt}
use Rattle.std.specs.Bool.{beq}
use Rattle.std.specs.Int.{bit_at}
use Rattle.std.specs.List.{slice_get, list_any, AllByRecursion, range_with_len}
use Rattle.std.proofs.lemmas.List.Elements.{recursion_from_All}
use Rattle.std.proofs.lemmas.Map.Keys.{any_passes_from_place}
use Rattle.std.proofs.lemmas.Option.{slice_get-get_or}
use Rattle.span_model.specs.Columns.{Columns, empty, ◌△◌}
use Rattle.span_model.specs.Attack.{Product}
use Rattle.usuba0.specs.declared.circuit.Gate.{Gate}
use Rattle.usuba0.specs.declared.circuit.Gate.TheVariants as gate
use Rattle.usuba0.specs.declared.circuit.Reg.{Reg}
use Rattle.usuba0.specs.Circuit.{Circuit, products_of, refreshes_of}
use Rattle.linear_view.specs.declared.column.Column.{Column}
use Rattle.linear_view.specs.declared.column.ColumnKind.{ColumnKind}
use Rattle.linear_view.specs.declared.column.ColumnKind.TheVariants as column
use Rattle.linear_view.specs.Names.{same_column, own_columns, input_columns, gate_columns, equation_columns, core_columns}
use Rattle.linear_view.specs.NarrowView.{HoldsOnly, IsProductOver}
use Rattle.linear_view.specs.Rows.{Rows, RegisterRows, rows_at, row_at, only, own_row, gate_row, gate_rows, input_rows, rows_after, core_rows, gate_product, core_products}
use Rattle.linear_view.specs.Walk.{needs, operands, AreAmong}
use Rattle.linear_view.proofs.ListLemmas.{all_from_each, each_append, each_item, each_range}
use Rattle.linear_view.proofs.NameLemmas.{same_column-itself, same_column-same}
use Rattle.linear_view.proofs.ApartLemmas.{IsPresent, present_left, present_right}
use Rattle.linear_view.proofs.WalkLemmas.{all_weaker}

-- a set holds named columns only
abbrev pub IsWithin : List Column → Columns Column → Type 0
IsWithin names set = (column : Column) → list_any (same_column column) names ≡ false → set column ≡ false

pub within_empty : (names : List Column) → IsWithin names empty
within_empty names column absent = refl

within_sum : (names : List Column) (v w : Columns Column) → IsWithin names v → IsWithin names w → IsWithin names (v △ w)
within_sum names v w hv hw column absent =
    ap (λ (b : Bool). not (beq b (w column))) (hv column absent) ∙ ap (λ (b : Bool). not (beq false b)) (hw column absent)

pub within_only : (names : List Column) (name : Column) → IsPresent name names → IsWithin names (only name)
within_only names name present column absent = by (same_column name column) refl
  where
    by : (b : Bool) → same_column name column ≡ b → same_column name column ≡ false
    by false e = e
    by true e =
        absurd
        (true≢false
        (sym present ∙ ap (λ (n : Column). list_any (same_column n) names) (same_column-same name column e) ∙ absent))

within_if : (names : List Column) (b : Bool) (v w : Columns Column) → IsWithin names v → IsWithin names w → IsWithin names (if b then v else w)
within_if names true v w hv hw = hv
within_if names false v w hv hw = hw

-- each row of a register
abbrev pub AreWithin : List Column → Rows → Type 0
AreWithin names rows = AllByRecursion (IsWithin names) rows

within_at : (names : List Column) (rows : Rows) (b : ℕ) → AreWithin names rows → IsWithin names (get_or rows b empty)
within_at names [] b h = within_empty names
within_at names (row ∷ rows) zero h = h.0
within_at names (row ∷ rows) (suc b) h = within_at names rows b h.1

register_at : (names : List Column) (rs : RegisterRows) (r : ℕ) → AllByRecursion (AreWithin names) rs → AreWithin names (get_or rs r [])
register_at names [] r h = tt
register_at names (rows ∷ rs) zero h = h.0
register_at names (rows ∷ rs) (suc r) h = register_at names rs r h.1

within_row : (names : List Column) (rs : RegisterRows) (a : Reg) (b : ℕ) → AreWithin names (rows_at rs a) → IsWithin names (row_at rs a b)
within_row names rs a b h = within_at names (rows_at rs a) b h

-- ---- the rows of a circuit hold its columns only

present_in_range : (name : Column) (f : ℕ → Column) (a n k : ℕ) → a ≤ k → k < a + n → f k ≡ name → IsPresent name (map f (range_with_len a n))
present_in_range name f a zero k low high e = absurd (omega arith)
present_in_range name f a (suc n) k low high e =
    by (same_column name (f a)) refl (λ more. present_in_range name f (a + 1) n k more (omega arith) e)
  where
    step : (a k : ℕ) → a ≤ k → (a ≡ k → ⊥) → a + 1 ≤ k
    step a k h differ = grind arith

    by : (b : Bool) → same_column name (f a) ≡ b → (a + 1 ≤ k → IsPresent name (map f (range_with_len (a + 1) n))) → IsPresent name (map f (range_with_len a (suc n)))
    by true p rest = ap (λ (b : Bool). b || list_any (same_column name) (map f (range_with_len (a + 1) n))) p
    by false p rest =
        ap (λ (b : Bool). b || list_any (same_column name) (map f (range_with_len (a + 1) n))) p
        ∙ rest (step a k low (λ same. true≢false (sym (same_column-itself name) ∙ ap (same_column name) (sym e ∙ ap f (sym same)) ∙ p)))

present_own : (w : ℕ) (kind : ColumnKind) (number bit : ℕ) → bit < w → IsPresent (record { kind = kind; number = number; bit = bit }) (own_columns w kind number)
present_own w kind number bit h =
    present_in_range (record { kind = kind; number = number; bit = bit }) (λ b. record { kind = kind; number = number; bit = b }) 0 w bit (omega arith) (omega arith) refl

pub present_input : (w a n number bit : ℕ) → a ≤ number → number < a + n → bit < w
    → IsPresent (record { kind = column.Input; number = number; bit = bit }) (flat_map (own_columns w column.Input) (range_with_len a n))
present_input w a zero number bit low high h = absurd (omega arith)
present_input w a (suc n) number bit low high h =
    by (cases a number low) (λ more. present_input w (a + 1) n number bit more (omega arith) h)
  where
    cases : (a k : ℕ) → a ≤ k → (a ≡ k) ⊎ (a + 1 ≤ k)
    cases a k h = grind arith

    by : (a ≡ number) ⊎ (a + 1 ≤ number)
        → (a + 1 ≤ number → IsPresent (record { kind = column.Input; number = number; bit = bit }) (flat_map (own_columns w column.Input) (range_with_len (a + 1) n)))
        → IsPresent (record { kind = column.Input; number = number; bit = bit }) (own_columns w column.Input a ++ flat_map (own_columns w column.Input) (range_with_len (a + 1) n))
    by (inl same) rest =
        present_left (record { kind = column.Input; number = number; bit = bit }) (own_columns w column.Input a) (flat_map (own_columns w column.Input) (range_with_len (a + 1) n))
        (subst (λ (m : ℕ). IsPresent (record { kind = column.Input; number = number; bit = bit }) (own_columns w column.Input m)) (sym same) (present_own w column.Input number bit h))
    by (inr more) rest =
        present_right (record { kind = column.Input; number = number; bit = bit }) (own_columns w column.Input a) (flat_map (own_columns w column.Input) (range_with_len (a + 1) n)) (rest more)

-- the rows of a register that an equation makes of others
pub within_gate : (names : List Column) (w p f : ℕ) (rs : RegisterRows) (g : Gate) (b : ℕ) → b < w
    → AllByRecursion (λ (a : Reg). AreWithin names (rows_at rs a)) (needs g) → AreAmong (gate_columns w p f g) names
    → IsWithin names (gate_row w p f rs g b)
within_gate names w p f rs (gate.Const c) b h rows own = within_empty names
within_gate names w p f rs (gate.Xor x y) b h rows own =
    within_sum names (row_at rs x b) (row_at rs y b) (within_row names rs x b rows.0) (within_row names rs y b rows.1.0)
within_gate names w p f rs (gate.Not x) b h rows own = within_row names rs x b rows.0
within_gate names w p f rs (gate.Mask c x) b h rows own =
    within_if names (bit_at c b == 1) (row_at rs x b) empty (within_row names rs x b rows.0) (within_empty names)
within_gate names w p f rs (gate.And x y) b h rows own =
    within_only names (record { kind = column.Product; number = p; bit = b }) (own (record { kind = column.Product; number = p; bit = b }) (present_own w column.Product p b h))
within_gate names w p f rs (gate.Shl k x) b h rows own =
    within_if names (nat_lt b k) empty (row_at rs x (b - k)) (within_empty names) (within_row names rs x (b - k) rows.0)
within_gate names w p f rs (gate.Shr k x) b h rows own = within_row names rs x (b + k) rows.0
within_gate names w p f rs (gate.Rotl k x) b h rows own = within_row names rs x ((b + (w - k)) % w) rows.0
within_gate names w p f rs (gate.Refresh x) b h rows own =
    within_only names (record { kind = column.Refresh; number = f; bit = b }) (own (record { kind = column.Refresh; number = f; bit = b }) (present_own w column.Refresh f b h))

within_after : (names : List Column) (w p f : ℕ) (rs : RegisterRows) (gs : List Gate) → AllByRecursion (AreWithin names) rs → AreAmong (equation_columns w p f gs) names
    → AllByRecursion (AreWithin names) (rows_after w p f rs gs)
within_after names w p f rs [] rows own = rows
within_after names w p f rs (g ∷ gs) rows own =
    let made = gate_rows w p f rs g in
    let p1 = p + products_of (g ∷ []) in
    let f1 = f + refreshes_of (g ∷ []) in
    within_after names w p1 f1 (rs ++ made ∷ []) gs
    (each_append (AreWithin names) rs (made ∷ []) rows (
      each_range (IsWithin names) (gate_row w p f rs g) 0 w
          (λ b h. within_gate names w p f rs g b (omega arith)
          (each_item (λ (a : Reg). AreWithin names (rows_at rs a)) (needs g) (λ a. register_at names rs a.0 rows))
          (λ name present. own name (present_left name (gate_columns w p f g) (equation_columns w p1 f1 gs) present))),
      tt,
    ))
    (λ name present. own name (present_right name (gate_columns w p f g) (equation_columns w p1 f1 gs) present))

-- the rows of an input
pub within_input : (names : List Column) (w n i : ℕ) → i < n → AreAmong (input_columns w n) names → AreWithin names (input_rows w i)
within_input names w n i h own =
    each_range (IsWithin names) (own_row column.Input i) 0 w
    (λ b below. within_only names (record { kind = column.Input; number = i; bit = b })
    (own (record { kind = column.Input; number = i; bit = b }) (present_input w 0 n i b (omega arith) (omega arith) (omega arith))))

-- the rows of a core hold its columns only
pub within_core : (core : Circuit) → AllByRecursion (AreWithin (core_columns core)) (core_rows core)
within_core core =
    let w = core.width in
    let names = core_columns core in
    let own = input_columns w core.inputs in
    let rest = equation_columns w 0 0 core.equations in
    within_after names w 0 0 (map (input_rows w) (range_with_len 0 core.inputs)) core.equations
    (each_range (AreWithin names) (input_rows w) 0 core.inputs
    (λ i h. within_input names w core.inputs i (omega arith) (λ name present. present_left name own rest present)))
    (λ name present. present_right name own rest present)

-- both operands of a product hold named columns only
abbrev pub IsOver : List Column → Product Column → Type 0
IsOver names product = AreWithin names product.left × AreWithin names product.right

-- so do the rows of the operands of an equation that is a product
over_gate : (names : List Column) (rs : RegisterRows) (g : Gate) → AllByRecursion (λ (a : Reg). AreWithin names (rows_at rs a)) (operands g)
    → AllByRecursion (IsOver names) (gate_product rs g)
over_gate names rs (gate.Const c) rows = tt
over_gate names rs (gate.Xor a b) rows = tt
over_gate names rs (gate.Not a) rows = tt
over_gate names rs (gate.Mask c a) rows = tt
over_gate names rs (gate.And a b) rows = ((rows.0, rows.1.0), tt)
over_gate names rs (gate.Shl k a) rows = tt
over_gate names rs (gate.Shr k a) rows = tt
over_gate names rs (gate.Rotl k a) rows = tt
over_gate names rs (gate.Refresh a) rows = tt

-- and of all products
pub over_products : (names : List Column) (rs : RegisterRows) (gs : List Gate)
    → ((k : ℕ) (g : Gate) → slice_get gs k ≡ Some g → AllByRecursion (λ (a : Reg). AreWithin names (rows_at rs a)) (operands g))
    → AllByRecursion (IsOver names) (flat_map (gate_product rs) gs)
over_products names rs [] rows = tt
over_products names rs (g ∷ gs) rows =
    each_append (IsOver names) (gate_product rs g) (flat_map (gate_product rs) gs) (over_gate names rs g (rows 0 g refl))
    (over_products names rs gs (λ k f there. rows (suc k) f there))

-- those of a core hold its columns
pub over_core : (core : Circuit) → AllByRecursion (IsOver (core_columns core)) (core_products core)
over_core core =
    let names = core_columns core in
    let rs = core_rows core in
    over_products names rs core.equations
    (λ k g there. each_item (λ (a : Reg). AreWithin names (rows_at rs a)) (operands g)
    (λ a. register_at names rs a.0 (within_core core)))

-- ---- sets by their members

pub within_holds : (names : List Column) (set : Columns Column) → HoldsOnly names set → IsWithin names set
within_holds names set holds column absent = by (set column) refl
  where
    by : (b : Bool) → set column ≡ b → set column ≡ false
    by false e = e
    by true e =
        let there = holds column e in
        absurd
        (true≢false
        (sym
        (any_passes_from_place (same_column column) names there.0 column
        (slice_get-get_or names there.0 column there.1 ∙ ap (λ (x : Column). Some x) there.2) (same_column-itself column))
        ∙ absent))

present_contains : (column : Column) (names : List Column) → IsPresent column names → Contains names column
present_contains column [] present = absurd (true≢false (sym present))
present_contains column (name ∷ names) present = by (same_column column name) refl present (present_contains column names)
  where
    by : (b : Bool) → same_column column name ≡ b → (b || list_any (same_column column) names) ≡ true
        → (IsPresent column names → Contains names column) → Contains (name ∷ names) column
    by true e present rest = (0, omega arith, sym (same_column-same column name e))
    by false e present rest = let more = rest present in (suc more.0, omega (arith, more.1), more.2)

pub holds_within : (names : List Column) (set : Columns Column) → IsWithin names set → HoldsOnly names set
holds_within names set within column e = by (list_any (same_column column) names) refl
  where
    by : (b : Bool) → list_any (same_column column) names ≡ b → Contains names column
    by true there = present_contains column names there
    by false absent = absurd (true≢false (sym e ∙ within column absent))

pub over_held : (names : List Column) (product : Product Column) → IsProductOver names product → IsOver names product
over_held names product held = (
  all_weaker (HoldsOnly names) (IsWithin names) product.left (within_holds names) (recursion_from_All (HoldsOnly names) product.left held.left),
  all_weaker (HoldsOnly names) (IsWithin names) product.right (within_holds names) (recursion_from_All (HoldsOnly names) product.right held.right),
)

pub held_over : (names : List Column) (product : Product Column) → IsOver names product → IsProductOver names product
held_over names product over = record {
  left = all_from_each (HoldsOnly names) product.left (all_weaker (IsWithin names) (HoldsOnly names) product.left (holds_within names) over.0);
  right = all_from_each (HoldsOnly names) product.right (all_weaker (IsWithin names) (HoldsOnly names) product.right (holds_within names) over.1);
}
