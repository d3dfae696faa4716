-- What holds of a narrow view of a circuit within the limits.
use Rattle.std.proofs.Common.{◌≡◌, ℕ, zero, suc, ◌+◌, ◌*◌, ◌<◌, ◌≤◌, ◌⊎◌, inl, inr, ⊎_elim, List, [], ◌∷◌, length, map, flat_map, nat_lt, ◌-◌, take, get_or, sym, subst, arith, true≢false}
use Rattle.std.specs.List.{AllByRecursion}
use Rattle.std.proofs.lemmas.List.Elements.{recursion_from_All}
use Rattle.std.proofs.lemmas.Option.{slice_get-get_or, slice_get_within, get_or_from_slice_get}
use Rattle.usuba0.specs.declared.circuit.Gate.{Gate}
use Rattle.usuba0.specs.declared.circuit.Gate.TheVariants as gate
use Rattle.usuba0.specs.declared.circuit.Reg.{Reg}
use Rattle.usuba0.specs.Circuit.{Circuit, IsCore, AreEquations, products_of, refreshes_of}
use Rattle.usuba0.proofs.CircuitLemmas.{equation_at}
use Rattle.linear_view.specs.declared.column.Column.{Column}
use Rattle.linear_view.specs.declared.column.ColumnKind.TheVariants as column
use Rattle.linear_view.specs.Names.{core_columns}
use Rattle.linear_view.specs.NarrowView.{IsProductOver, IsNarrowView}
use Rattle.linear_view.specs.Rows.{rows_at, gate_row, gate_product, core_rows, core_products, operands_over}
use Rattle.linear_view.specs.View.{Operands, LinearView, IsSmallName, AreOperands, IsView}
use Rattle.linear_view.specs.Walk.{operands, takes, TellsLastReads, HoldsNeeded}
use Rattle.linear_view.proofs.ListLemmas.{all_from_each, each_range}
use Rattle.linear_view.proofs.ApartLemmas.{IsPresent, apart_core, once_from_apart}
use Rattle.linear_view.proofs.SomeLemmas.{some_apart, some_each, some_length}
use Rattle.linear_view.proofs.WalkLemmas.{all_weaker, takes_earlier, takes_operands, takes_needs}
use Rattle.linear_view.proofs.CoreLemmas.{all_rows, all_rows-input, all_rows-made, both_all, below_is}
use Rattle.linear_view.proofs.WithinLemmas.{IsWithin, AreWithin, IsOver, within_gate, within_input, present_input, over_products, held_over}
use Rattle.linear_view.proofs.ViewLemmas.{le_mul, length-core_columns, products_are, products_many, small_core}

-- ---- the rows that are read later hold the columns that were gathered

module _ (names : List Column) (w n : ℕ) (gs : List Gate) (last : List ℕ) (are : AreEquations w n gs)
    (told : TellsLastReads n gs last) (needed : HoldsNeeded w n gs last names) where
  -- what holds of the registers of earlier equations that are read by this one or later, holds of all that it takes
  taken : (k : ℕ) → k < length gs
      → ((a : ℕ) → a < n + k → k ≤ get_or last a 0 → AreWithin names (get_or (all_rows w n gs) a []))
      → (let is_read = nat_lt k (get_or last (n + k) 0) in
      AllByRecursion (λ (a : Reg). AreWithin names (rows_at (all_rows w n gs) a)) (takes is_read (get_or gs k (gate.Const 0))))
  taken k h each =
      let g = get_or gs k (gate.Const 0) in
      let is_read = nat_lt k (get_or last (n + k) 0) in
      both_all (λ (a : Reg). a.0 < n + k) (λ (a : Reg). k ≤ get_or last a.0 0)
      (λ (a : Reg). AreWithin names (rows_at (all_rows w n gs) a)) (takes is_read g)
      (λ a below late. each a.0 below late)
      (takes_earlier w (n + k) is_read g (equation_at w n gs k (gate.Const 0) are h))
      (told.late k g (slice_get-get_or gs k (gate.Const 0) h))

  within_made : (k : ℕ) → k < length gs → k < get_or last (n + k) 0
      → ((a : ℕ) → a < n + k → k ≤ get_or last a 0 → AreWithin names (get_or (all_rows w n gs) a []))
      → AreWithin names (get_or (all_rows w n gs) (n + k) [])
  within_made k h read each =
      let g = get_or gs k (gate.Const 0) in
      let all = all_rows w n gs in
      let p = products_of (take k gs) in
      let f = refreshes_of (take k gs) in
      let rows = takes_needs (λ (a : Reg). AreWithin names (rows_at all a)) (nat_lt k (get_or last (n + k) 0)) g
      (below_is k (get_or last (n + k) 0) read) (taken k h each) in
      subst (AreWithin names) (sym (all_rows-made w n gs k (gate.Const 0) h (equation_at w n gs k (gate.Const 0) are h)))
      (each_range (IsWithin names) (gate_row w p f all g) 0 w
      (λ b below. within_gate names w p f all g b (omega arith) rows (needed.own k g (slice_get-get_or gs k (gate.Const 0) h) read)))

  within_register : (bound r : ℕ) → r < bound → r < n + length gs → ((k : ℕ) → r ≡ n + k → k < get_or last r 0)
      → AreWithin names (get_or (all_rows w n gs) r [])
  within_register zero r h inside read = absurd (omega arith)
  within_register (suc bound) r h inside read =
      ⊎_elim
      (λ (input : r < n). subst (AreWithin names) (sym (all_rows-input w n gs r input)) (within_input names w n r input needed.all_inputs))
      (λ (made : (k : ℕ) × (r ≡ n + k)).
      subst (λ (m : ℕ). AreWithin names (get_or (all_rows w n gs) m [])) (sym made.1)
      (within_made made.0 (omega (arith, made.1, inside))
      (subst (λ (m : ℕ). made.0 < get_or last m 0) made.1 (read made.0 made.1))
      (λ a below late. within_register bound a (omega (arith, h, made.1, below)) (omega (arith, inside, made.1, below))
      (λ j e. omega (arith, e, below, late)))))
      (cases r n)
    where
      cases : (r n : ℕ) → (r < n) ⊎ ((k : ℕ) × (r ≡ n + k))
      cases r n = ⊎_elim (λ (h : r < n). inl h) (λ (h : n ≤ r). inr (r - n, omega (arith, h))) (split r n)
        where
          split : (r n : ℕ) → (r < n) ⊎ (n ≤ r)
          split r n = grind arith

  over_needed : AllByRecursion (IsOver names) (flat_map (gate_product (all_rows w n gs)) gs)
  over_needed =
      over_products names (all_rows w n gs) gs
      (λ k g there.
      let h : k < length gs = slice_get_within gs k g there in
      let is : get_or gs k (gate.Const 0) ≡ g = get_or_from_slice_get gs k g (gate.Const 0) there in
      subst (λ (x : Gate). AllByRecursion (λ (a : Reg). AreWithin names (rows_at (all_rows w n gs) a)) (operands x)) is
      (takes_operands (λ (a : Reg). AreWithin names (rows_at (all_rows w n gs) a)) (nat_lt k (get_or last (n + k) 0))
      (get_or gs k (gate.Const 0))
      (taken k h (λ a below late. within_register (n + length gs) a (omega (arith, h, below)) (omega (arith, h, below))
      (λ j e. omega (arith, e, below, late))))))

-- ---- the view

-- what was gathered along the parts of a circuit was gathered along the circuit
pub needed_core : (core : Circuit) (w n : ℕ) (gs : List Gate) (last : List ℕ) (names : List Column)
    → w ≡ core.width → n ≡ core.inputs → gs ≡ core.equations
    → HoldsNeeded w n gs last names → HoldsNeeded core.width core.inputs core.equations last names
needed_core core w n gs last names ew en eg needed =
    subst (λ (m : ℕ). HoldsNeeded m core.inputs core.equations last names) ew
    (subst (λ (m : ℕ). HoldsNeeded w m core.equations last names) en
    (subst (λ (l : List Gate). HoldsNeeded w n l last names) eg needed))

pub told_core : (core : Circuit) (n : ℕ) (gs : List Gate) (last : List ℕ) → n ≡ core.inputs → gs ≡ core.equations
    → TellsLastReads n gs last → TellsLastReads core.inputs core.equations last
told_core core n gs last en eg told =
    subst (λ (m : ℕ). TellsLastReads m core.equations last) en (subst (λ (l : List Gate). TellsLastReads n l last) eg told)

pub narrow_few : (core : Circuit) (last : List ℕ) (names : List Column) → HoldsNeeded core.width core.inputs core.equations last names
    → (core.inputs + products_of core.equations + refreshes_of core.equations) * core.width ≤ 32768 → length names ≤ 32768
narrow_few core last names needed few = omega (arith, some_length needed.some, length-core_columns core, few)

some_from_present : (name : Column) (names : List Column) → IsPresent name names → 0 < length names
some_from_present name [] there = absurd (true≢false (sym there))
some_from_present name (x ∷ xs) there = omega arith

pub narrow_is : (core : Circuit) (last : List ℕ) (names : List Column) (products : List Operands) → IsCore core
    → (core.inputs + products_of core.equations + refreshes_of core.equations) * core.width ≤ 32768
    → HoldsNeeded core.width core.inputs core.equations last names
    → products ≡ map (operands_over names) (core_products core)
    → IsView (record { columns = names; products = products })
narrow_is core last names products is few needed ep =
    let w = core.width in
    let first : Column = record { kind = column.Input; number = 0; bit = 0 } in
    let count : ℕ = core.inputs + products_of core.equations + refreshes_of core.equations in
    let least : count ≤ count * w = le_mul count w is.some_width in
    subst (λ (p : List Operands). IsView (record { columns = names; products = p })) (sym ep)
    (record {
      some_column =
          some_from_present first names
          (needed.all_inputs first (present_input w 0 core.inputs 0 0 (omega arith) (omega (arith, is.some_input)) is.some_width));
      columns_fit = narrow_few core last names needed few;
      products_fit = omega (arith, products_many names (core_rows core) core.equations, least, few);
      small_names =
          all_from_each IsSmallName names
          (some_each IsSmallName needed.some
          (recursion_from_All IsSmallName (core_columns core) (small_core core is.width_fits (omega (arith, least, few)))));
      names_differ = once_from_apart names (some_apart needed.some (apart_core core));
      operands = all_from_each (AreOperands (length names)) (map (operands_over names) (core_products core)) (products_are names core is);
    })

pub narrow_value : (core : Circuit) (last : List ℕ) (names : List Column) (products : List Operands) (view : LinearView) → IsCore core
    → TellsLastReads core.inputs core.equations last
    → HoldsNeeded core.width core.inputs core.equations last names
    → products ≡ map (operands_over names) (core_products core)
    → view ≡ record { columns = names; products = products } → IsNarrowView core view
narrow_value core last names products view is told needed ep ev =
    let over = over_needed names core.width core.inputs core.equations last is.equations told needed in
    subst (IsNarrowView core) (sym ev)
    (record {
      columns = needed.some;
      products = ep;
      held =
          all_from_each (IsProductOver names) (core_products core)
          (all_weaker (IsOver names) (IsProductOver names) (core_products core) (held_over names) over);
    })
