-- What holds of the view of a circuit within the limits.
use Rattle.std.proofs.Common.{◌≡◌, ℕ, zero, suc, ◌+◌, ◌*◌, ◌^◌, ◌<◌, ◌≤◌, Bool, List, [], ◌∷◌, ◌++◌, length, map, flat_map, take, get_or, All, Option, refl, sym, ap, ◌∙◌, subst, arith}
use Rattle.std.specs.List.{AllByRecursion, range_with_len}
use Rattle.std.specs.Option.{option_to_list}
use Rattle.std.proofs.lemmas.List.{length-append, length-map, map-append, take_all, take_more, flat_map_more}
use Rattle.std.proofs.lemmas.List.FromFn.{length-map-range_with_len}
use Rattle.span_model.specs.Columns.{Columns}
use Rattle.usuba0.specs.declared.circuit.Gate.{Gate}
use Rattle.usuba0.specs.declared.circuit.Gate.TheVariants as gate
use Rattle.usuba0.specs.declared.circuit.Reg.{Reg}
use Rattle.usuba0.specs.Circuit.{Circuit, IsCore, AreEquations, products_of, refreshes_of}
use Rattle.linear_view.specs.declared.column.Column.{Column}
use Rattle.linear_view.specs.declared.column.ColumnKind.{ColumnKind}
use Rattle.linear_view.specs.declared.column.ColumnKind.TheVariants as column
use Rattle.linear_view.specs.Names.{own_columns, input_columns, gate_columns, equation_columns, core_columns}
use Rattle.linear_view.specs.Rows.{Rows, RegisterRows, rows_at, rows_over, operands_over, gate_rows, gate_row, input_rows, rows_after, core_rows, gate_product, core_products, core_view}
use Rattle.linear_view.specs.CoreViewLaw.{HaveRows, CoreViewSize}
use Rattle.linear_view.specs.View.{Operands, LinearView, AreOperands, IsSmallName, IsView}
use Rattle.linear_view.proofs.ListLemmas.{all_from_each, each_append, each_map, each_range}
use Rattle.linear_view.proofs.ApartLemmas.{apart_core, once_from_apart}
use Rattle.linear_view.proofs.ColumnLemmas.{products_of-cons, refreshes_of-cons}
use Rattle.linear_view.proofs.CoreLemmas.{all_rows, input_registers, length-all_rows}

-- ---- counts

pub le_mul : (a w : ℕ) → 0 < w → a ≤ a * w
le_mul a zero h = absurd (omega arith)
le_mul a (suc v) h = omega arith

length-own : (w : ℕ) (kind : ColumnKind) (number : ℕ) → length (own_columns w kind number) ≡ w
length-own w kind number = length-map-range_with_len (λ bit. record { kind = kind; number = number; bit = bit }) 0 w

length-inputs : (w a n : ℕ) → length (flat_map (own_columns w column.Input) (range_with_len a n)) ≡ n * w
length-inputs w a zero = omega arith
length-inputs w a (suc n) =
    let own = own_columns w column.Input a in
    let rest = flat_map (own_columns w column.Input) (range_with_len (a + 1) n) in
    omega (arith, length-append own rest, length-own w column.Input a, length-inputs w (a + 1) n)

length-gate : (w p f : ℕ) (g : Gate) → length (gate_columns w p f g) ≡ (products_of (g ∷ []) + refreshes_of (g ∷ [])) * w
length-gate w p f (gate.Const c) = omega arith
length-gate w p f (gate.Xor a b) = omega arith
length-gate w p f (gate.Not a) = omega arith
length-gate w p f (gate.Mask c a) = omega arith
length-gate w p f (gate.And a b) = omega (arith, length-own w column.Product p)
length-gate w p f (gate.Shl k a) = omega arith
length-gate w p f (gate.Shr k a) = omega arith
length-gate w p f (gate.Rotl k a) = omega arith
length-gate w p f (gate.Refresh a) = omega (arith, length-own w column.Refresh f)

length-equations : (w p f : ℕ) (gs : List Gate) → length (equation_columns w p f gs) ≡ (products_of gs + refreshes_of gs) * w
length-equations w p f [] = omega arith
length-equations w p f (g ∷ gs) =
    let rest = equation_columns w (p + products_of (g ∷ [])) (f + refreshes_of (g ∷ [])) gs in
    let one : ℕ = products_of (g ∷ []) + refreshes_of (g ∷ []) in
    let more : ℕ = products_of gs + refreshes_of gs in
    let sum : products_of (g ∷ gs) + refreshes_of (g ∷ gs) ≡ one + more = omega (arith, products_of-cons g gs, refreshes_of-cons g gs) in
    length-append (gate_columns w p f g) rest
    ∙ ap (λ (n : ℕ). n + length rest) (length-gate w p f g)
    ∙ ap (λ (n : ℕ). one * w + n) (length-equations w (p + products_of (g ∷ [])) (f + refreshes_of (g ∷ [])) gs)
    ∙ sum_times one more w
    ∙ ap (λ (n : ℕ). n * w) (sym sum)
  where
    sum_times : (a b w : ℕ) → a * w + b * w ≡ (a + b) * w
    sum_times a b w = omega arith

-- how many columns a circuit has
pub length-core_columns : (core : Circuit) → length (core_columns core) ≡ (core.inputs + products_of core.equations + refreshes_of core.equations) * core.width
length-core_columns core =
    let w = core.width in
    let own = input_columns w core.inputs in
    let rest = equation_columns w 0 0 core.equations in
    length-append own rest
    ∙ ap (λ (n : ℕ). n + length rest) (length-inputs w 0 core.inputs)
    ∙ ap (λ (n : ℕ). core.inputs * w + n) (length-equations w 0 0 core.equations)
    ∙ sum_times core.inputs (products_of core.equations) (refreshes_of core.equations) w
  where
    sum_times : (a b c w : ℕ) → a * w + (b + c) * w ≡ (a + b + c) * w
    sum_times a b c w = omega arith

-- ---- the operands

abbrev HasWidth : ℕ → Rows → Type 0
HasWidth w rows = length rows ≡ w

rows_after-width : (w p f : ℕ) (rs : RegisterRows) (gs : List Gate) → AllByRecursion (HasWidth w) rs → AllByRecursion (HasWidth w) (rows_after w p f rs gs)
rows_after-width w p f rs [] h = h
rows_after-width w p f rs (g ∷ gs) h =
    let made = gate_rows w p f rs g in
    rows_after-width w (p + products_of (g ∷ [])) (f + refreshes_of (g ∷ [])) (rs ++ made ∷ []) gs
    (each_append (HasWidth w) rs (made ∷ []) h (length-map-range_with_len (gate_row w p f rs g) 0 w, tt))

-- each register has a row for each bit
pub all_rows-width : (w n : ℕ) (gs : List Gate) (r : ℕ) → r < n + length gs → length (get_or (all_rows w n gs) r []) ≡ w
all_rows-width w n gs r h =
    all_from_each (HasWidth w) (all_rows w n gs)
    (rows_after-width w 0 0 (input_registers w n) gs (each_map (HasWidth w) (input_rows w) (range_with_len 0 n) (λ i. length-map-range_with_len (λ b. _) 0 w)))
    r [] (omega (arith, length-all_rows w n gs, h))

all_columns : (names : List Column) (rows : Rows) → All (λ row. length row ≡ length names) (rows_over names rows)
all_columns names rows =
    all_from_each (λ (row : List Bool). length row ≡ length names) (rows_over names rows)
    (each_map (λ (row : List Bool). length row ≡ length names) (λ (set : Columns Column). map set names) rows (λ set. length-map names set))

operands_are : (names : List Column) (w : ℕ) (left right : Rows) → 0 < w → length left ≡ w → length right ≡ w
    → AreOperands (length names) (operands_over names (record { left = left; right = right }))
operands_are names w left right some el er =
    let over : Columns Column → List Bool = λ set. map set names in
    record {
      some_row = omega (arith, length-map left over, el, some);
      same_rows = length-map right over ∙ er ∙ sym el ∙ sym (length-map left over);
      left_columns = all_columns names left;
      right_columns = all_columns names right;
    }

-- what holds of the operands of each product whose registers there are holds of all the products
each_product : (P : Operands → Type 0) (names : List Column) (w m : ℕ) (all : RegisterRows) (gs : List Gate)
    → ((a b : Reg) → a.0 < m + length gs → b.0 < m + length gs
    → P (operands_over names (record { left = rows_at all a; right = rows_at all b })))
    → AreEquations w m gs → AllByRecursion P (map (operands_over names) (flat_map (gate_product all) gs))
each_product P names w m all [] each are = tt
each_product P names w m all (gate.Const c ∷ gs) each are = each_product P names w (suc m) all gs
    (λ a b h k. each a b (omega arith) (omega arith)) are.1
each_product P names w m all (gate.Xor x y ∷ gs) each are = each_product P names w (suc m) all gs
    (λ a b h k. each a b (omega arith) (omega arith)) are.1
each_product P names w m all (gate.Not x ∷ gs) each are = each_product P names w (suc m) all gs
    (λ a b h k. each a b (omega arith) (omega arith)) are.1
each_product P names w m all (gate.Mask c x ∷ gs) each are = each_product P names w (suc m) all gs
    (λ a b h k. each a b (omega arith) (omega arith)) are.1
each_product P names w m all (gate.And x y ∷ gs) each are = (
  each x y (omega (arith, are.0.0)) (omega (arith, are.0.1)),
  each_product P names w (suc m) all gs (λ a b h k. each a b (omega arith) (omega arith)) are.1,
)
each_product P names w m all (gate.Shl k x ∷ gs) each are = each_product P names w (suc m) all gs
    (λ a b h k. each a b (omega arith) (omega arith)) are.1
each_product P names w m all (gate.Shr k x ∷ gs) each are = each_product P names w (suc m) all gs
    (λ a b h k. each a b (omega arith) (omega arith)) are.1
each_product P names w m all (gate.Rotl k x ∷ gs) each are = each_product P names w (suc m) all gs
    (λ a b h k. each a b (omega arith) (omega arith)) are.1
each_product P names w m all (gate.Refresh x ∷ gs) each are = each_product P names w (suc m) all gs
    (λ a b h k. each a b (omega arith) (omega arith)) are.1

pub products_are : (names : List Column) (core : Circuit) → IsCore core
    → AllByRecursion (AreOperands (length names)) (map (operands_over names) (core_products core))
products_are names core is =
    let all = core_rows core in
    let wide = all_rows-width core.width core.inputs core.equations in
    each_product (AreOperands (length names)) names core.width core.inputs all core.equations
    (λ a b h k. operands_are names core.width (rows_at all a) (rows_at all b) is.some_width (wide a.0 h)
    (wide b.0 k)) is.equations

pub products_many : (names : List Column) (all : RegisterRows) (gs : List Gate) → length (map (operands_over names) (flat_map (gate_product all) gs)) ≡ products_of gs
products_many names all [] = refl
products_many names all (gate.Const c ∷ gs) = products_many names all gs
products_many names all (gate.Xor a b ∷ gs) = products_many names all gs
products_many names all (gate.Not a ∷ gs) = products_many names all gs
products_many names all (gate.Mask c a ∷ gs) = products_many names all gs
products_many names all (gate.And a b ∷ gs) = let h = products_many names all gs in omega arith
products_many names all (gate.Shl k a ∷ gs) = products_many names all gs
products_many names all (gate.Shr k a ∷ gs) = products_many names all gs
products_many names all (gate.Rotl k a ∷ gs) = products_many names all gs
products_many names all (gate.Refresh a ∷ gs) = products_many names all gs

-- how large the view of a core is
pub core_view_size : CoreViewSize
core_view_size =
    record {
      columns = length-core_columns;
      products = λ core. products_many (core_columns core) (core_rows core) core.equations;
      rows = λ core is. all_from_each (HaveRows core.width) (core_view core).products (rows_are
          (core_columns core) core is);
    }
  where
    rows_are : (names : List Column) (core : Circuit) → IsCore core
        → AllByRecursion (HaveRows core.width) (map (operands_over names) (core_products core))
    rows_are names core is =
        let all = core_rows core in
        let over : Columns Column → List Bool = λ set. map set names in
        let wide = all_rows-width core.width core.inputs core.equations in
        each_product (HaveRows core.width) names core.width core.inputs all core.equations
        (λ a b h k.
        record {
          left = length-map (rows_at all a) over ∙ wide a.0 h;
          right = length-map (rows_at all b) over
              ∙ wide b.0 k;
        })
        is.equations

-- ---- the names

small_own : (w : ℕ) (kind : ColumnKind) (number : ℕ) → w ≤ 64 → number < 2 ^ 32 → AllByRecursion IsSmallName (own_columns w kind number)
small_own w kind number wide h = each_range IsSmallName (λ bit. record { kind = kind; number = number; bit = bit }) 0 w (λ bit below. (h, omega arith))

small_inputs : (w a n : ℕ) → w ≤ 64 → a + n ≤ 2 ^ 32 → AllByRecursion IsSmallName (flat_map (own_columns w column.Input) (range_with_len a n))
small_inputs w a zero wide h = tt
small_inputs w a (suc n) wide h =
    each_append IsSmallName (own_columns w column.Input a) (flat_map (own_columns w column.Input) (range_with_len (a + 1) n))
    (small_own w column.Input a wide (omega arith)) (small_inputs w (a + 1) n wide (omega arith))

small_gate : (w p f : ℕ) (g : Gate) → w ≤ 64 → p + products_of (g ∷ []) ≤ 2 ^ 32 → f + refreshes_of (g ∷ []) ≤ 2 ^ 32 → AllByRecursion IsSmallName (gate_columns w p f g)
small_gate w p f (gate.Const c) wide hp hf = tt
small_gate w p f (gate.Xor a b) wide hp hf = tt
small_gate w p f (gate.Not a) wide hp hf = tt
small_gate w p f (gate.Mask c a) wide hp hf = tt
small_gate w p f (gate.And a b) wide hp hf = small_own w column.Product p wide (omega arith)
small_gate w p f (gate.Shl k a) wide hp hf = tt
small_gate w p f (gate.Shr k a) wide hp hf = tt
small_gate w p f (gate.Rotl k a) wide hp hf = tt
small_gate w p f (gate.Refresh a) wide hp hf = small_own w column.Refresh f wide (omega arith)

small_equations : (w p f : ℕ) (gs : List Gate) → w ≤ 64 → p + products_of gs ≤ 2 ^ 32 → f + refreshes_of gs ≤ 2 ^ 32 → AllByRecursion IsSmallName (equation_columns w p f gs)
small_equations w p f [] wide hp hf = tt
small_equations w p f (g ∷ gs) wide hp hf =
    let p1 : ℕ = p + products_of (g ∷ []) in
    let f1 : ℕ = f + refreshes_of (g ∷ []) in
    each_append IsSmallName (gate_columns w p f g) (equation_columns w p1 f1 gs)
    (small_gate w p f g wide (omega (arith, products_of-cons g gs, hp)) (omega (arith, refreshes_of-cons g gs, hf)))
    (small_equations w p1 f1 gs wide (omega (arith, products_of-cons g gs, hp)) (omega (arith, refreshes_of-cons g gs, hf)))

pub small_core : (core : Circuit) → core.width ≤ 64 → core.inputs + products_of core.equations + refreshes_of core.equations ≤ 32768 → All IsSmallName (core_columns core)
small_core core wide few =
    let w = core.width in
    all_from_each IsSmallName (core_columns core)
    (each_append IsSmallName (input_columns w core.inputs) (equation_columns w 0 0 core.equations)
    (small_inputs w 0 core.inputs wide (omega arith)) (small_equations w 0 0 core.equations wide (omega arith) (omega arith)))

-- the view of a circuit within the limits is one
pub core_view_is : (core : Circuit) → IsCore core
    → (core.inputs + products_of core.equations + refreshes_of core.equations) * core.width ≤ 32768
    → IsView (core_view core)
core_view_is core is few =
    let w = core.width in
    let names = core_columns core in
    let all = core_rows core in
    let count : ℕ = core.inputs + products_of core.equations + refreshes_of core.equations in
    let least : count ≤ count * w = le_mul count w is.some_width in
    record {
      some_column = omega (arith, length-core_columns core, least, is.some_input);
      columns_fit = omega (arith, length-core_columns core, few);
      products_fit = omega (arith, products_many names all core.equations, least, few);
      small_names = small_core core is.width_fits (omega (arith, least, few));
      names_differ = once_from_apart names (apart_core core);
      operands =
          all_from_each (AreOperands (length names)) (core_view core).products
          (products_are names core is);
    }

pub view_is : (core : Circuit) (columns : List Column) (products : List Operands) → IsCore core
    → (core.inputs + products_of core.equations + refreshes_of core.equations) * core.width ≤ 32768
    → columns ≡ core_columns core → products ≡ (core_view core).products
    → IsView (record { columns = columns; products = products })
view_is core columns products is few ec ep =
    let same : (let view : LinearView = record { columns = columns; products = products } in view ≡ core_view core) =
    ap (λ (c : List Column). let view : LinearView = record { columns = c; products = products } in view) ec
    ∙ ap (λ (p : List Operands). let view : LinearView = record { columns = core_columns core; products = p } in view) ep in
    subst (λ (view : LinearView). IsView view) (sym same) (core_view_is core is few)

-- ---- the products in order

pub products_more : (names : List Column) (all : RegisterRows) (gs : List Gate) (i : ℕ) (d : Gate) → i < length gs
    → map (operands_over names) (flat_map (gate_product all) (take (i + 1) gs))
    ≡ map (operands_over names) (flat_map (gate_product all) (take i gs)) ++ map (operands_over names) (gate_product all (get_or gs i d))
products_more names all gs i d h =
    ap (λ (l : List Gate). map (operands_over names) (flat_map (gate_product all) l)) (take_more gs i d h)
    ∙ ap (map (operands_over names)) (sym (flat_map_more (gate_product all) [] (take i gs) (get_or gs i d)))
    ∙ map-append (operands_over names) (flat_map (gate_product all) (take i gs)) (gate_product all (get_or gs i d))

pub products_all : (core : Circuit) (names : List Column) (w n : ℕ) (gs : List Gate) (i : ℕ) (products : List Operands) → length gs ≤ i
    → names ≡ core_columns core → w ≡ core.width → n ≡ core.inputs → gs ≡ core.equations
    → products ≡ map (operands_over names) (flat_map (gate_product (all_rows w n gs)) (take i gs)) → products ≡ (core_view core).products
products_all core names w n gs i products h en ew ei eg e =
    e ∙ ap (λ (l : List Gate). map (operands_over names) (flat_map (gate_product (all_rows w n gs)) l)) (take_all i gs h)
    ∙ ap (λ (l : List Column). map (operands_over l) (flat_map (gate_product (all_rows w n gs)) gs)) en
    ∙ ap (λ (m : ℕ). map (operands_over (core_columns core)) (flat_map (gate_product (all_rows m n gs)) gs)) ew
    ∙ ap (λ (m : ℕ). map (operands_over (core_columns core)) (flat_map (gate_product (all_rows core.width m gs)) gs)) ei
    ∙ ap (λ (l : List Gate). map (operands_over (core_columns core)) (flat_map (gate_product (all_rows core.width core.inputs l)) l)) eg

pub products_step : (names : List Column) (all : RegisterRows) (gs : List Gate) (i : ℕ) (d : Gate) (old new : List Operands) (found : Option Operands) → i < length gs
    → old ≡ map (operands_over names) (flat_map (gate_product all) (take i gs)) → new ≡ old ++ option_to_list found
    → option_to_list found ≡ map (operands_over names) (gate_product all (get_or gs i d))
    → new ≡ map (operands_over names) (flat_map (gate_product all) (take (i + 1) gs))
products_step names all gs i d old new found h eo en ef =
    en ∙ ap (λ (l : List Operands). l ++ option_to_list found) eo
    ∙ ap (λ (l : List Operands). map (operands_over names) (flat_map (gate_product all) (take i gs)) ++ l) ef
    ∙ sym (products_more names all gs i d h)

pub names_of_core : (core : Circuit) (w n : ℕ) (gs : List Gate) (names : List Column) → names ≡ input_columns w n ++ equation_columns w 0 0 gs
    → w ≡ core.width → n ≡ core.inputs → gs ≡ core.equations → names ≡ core_columns core
names_of_core core w n gs names e ew en eg =
    e ∙ ap (λ (m : ℕ). input_columns m n ++ equation_columns m 0 0 gs) ew
    ∙ ap (λ (m : ℕ). input_columns core.width m ++ equation_columns core.width 0 0 gs) en
    ∙ ap (λ (l : List Gate). input_columns core.width core.inputs ++ equation_columns core.width 0 0 l) eg
