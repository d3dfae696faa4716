-- The rows of all registers of a circuit, and how far a walk over its equations has them.
use Rattle.std.proofs.Common.{◌≡◌, ℕ, suc, ◌+◌, ◌-◌, ◌%◌, ◌<◌, ◌≤◌, ◌==◌, ◌⊎◌, Bool, List, [], ◌∷◌, ◌++◌, length, map, take, drop, get_or, refl, sym, ap, ◌∙◌, subst, arith, ⊎_elim, drop-cons, if◌then◌else◌, nat_lt, true}
use Rattle.std.specs.Int.{bit_at}
use Rattle.std.specs.List.{AllByRecursion, range_with_len}
use Rattle.std.proofs.lemmas.List.{get_or_append_left, get_or_push, length_push, take-append-drop, length-take-le}
use Rattle.std.proofs.lemmas.Option.{slice_get-get_or}
use Rattle.std.proofs.lemmas.List.FromFn.{get_or-map-range_with_len, length-map-range_with_len}
use mathlib.Core.Path.{fun_ext}
use Rattle.span_model.specs.Columns.{Columns, empty, ◌△◌}
use Rattle.usuba0.specs.declared.circuit.Gate.{Gate}
use Rattle.usuba0.specs.declared.circuit.Gate.TheVariants as gate
use Rattle.usuba0.specs.declared.circuit.Reg.{Reg}
use Rattle.usuba0.specs.Circuit.{Circuit, IsCore, IsEquation, AreEquations, products_of, refreshes_of}
use Rattle.usuba0.proofs.CircuitLemmas.{counts_le, equation_at}
use Rattle.linear_view.specs.declared.column.Column.{Column}
use Rattle.linear_view.specs.declared.walk.Stage.{Stage}
use Rattle.linear_view.specs.Names.{bits}
use Rattle.linear_view.specs.Rows.{Rows, RegisterRows, rows_at, row_at, rows_over, gate_row, gate_rows, input_rows, rows_after, core_rows}
use Rattle.linear_view.specs.Walk.{reads, needs, operands, HoldsOperands, HoldsNeeds, IsReadAfter, AreTakenLate, TellsLastReads, KeepsLater}
use Rattle.linear_view.proofs.ColumnLemmas.{products_of-cons, refreshes_of-cons, products_of-more, refreshes_of-more}
use Rattle.linear_view.proofs.WalkLemmas.{reads_earlier, takes_earlier, takes_operands, takes_needs, all_weaker}

-- ---- rows that stay

pub length-rows_after : (w p f : ℕ) (rs : RegisterRows) (gs : List Gate) → length (rows_after w p f rs gs) ≡ length rs + length gs
length-rows_after w p f rs [] = omega arith
length-rows_after w p f rs (g ∷ gs) =
    let made = gate_rows w p f rs g in
    omega (arith, length-rows_after w (p + products_of (g ∷ [])) (f + refreshes_of (g ∷ [])) (rs ++ made ∷ []) gs, length_push rs made)

pub rows_after-old : (w p f : ℕ) (rs : RegisterRows) (gs : List Gate) (r : ℕ) → r < length rs → get_or (rows_after w p f rs gs) r [] ≡ get_or rs r []
rows_after-old w p f rs [] r h = refl
rows_after-old w p f rs (g ∷ gs) r h =
    let made = gate_rows w p f rs g in
    rows_after-old w (p + products_of (g ∷ [])) (f + refreshes_of (g ∷ [])) (rs ++ made ∷ []) gs r (omega (arith, length_push rs made))
    ∙ get_or_append_left rs (made ∷ []) [] r h

rows_after-append : (w p f : ℕ) (rs : RegisterRows) (gs hs : List Gate)
    → rows_after w p f rs (gs ++ hs) ≡ rows_after w (p + products_of gs) (f + refreshes_of gs) (rows_after w p f rs gs) hs
rows_after-append w p f rs [] hs =
    ap (λ (m : ℕ). rows_after w m f rs hs) (omega arith) ∙ ap (λ (m : ℕ). rows_after w (p + 0) m rs hs) (omega arith)
rows_after-append w p f rs (g ∷ gs) hs =
    let made = gate_rows w p f rs g in
    let p1 = p + products_of (g ∷ []) in
    let f1 = f + refreshes_of (g ∷ []) in
    let ep : p1 + products_of gs ≡ p + products_of (g ∷ gs) = omega (arith, products_of-cons g gs) in
    let ef : f1 + refreshes_of gs ≡ f + refreshes_of (g ∷ gs) = omega (arith, refreshes_of-cons g gs) in
    let after = rows_after w p1 f1 (rs ++ made ∷ []) gs in
    rows_after-append w p1 f1 (rs ++ made ∷ []) gs hs
    ∙ ap (λ (m : ℕ). rows_after w m (f1 + refreshes_of gs) after hs) ep
    ∙ ap (λ (m : ℕ). rows_after w (p + products_of (g ∷ gs)) m after hs) ef

-- the rows of an equation depend on those that it reads
gate_row-same : (w p f : ℕ) (r s : RegisterRows) (g : Gate) (b : ℕ) → AllByRecursion (λ (a : Reg). rows_at r a ≡ rows_at s a) (reads g)
    → gate_row w p f r g b ≡ gate_row w p f s g b
gate_row-same w p f r s (gate.Const c) b h = refl
gate_row-same w p f r s (gate.Xor x y) b h =
    ap (λ (rows : Rows). get_or rows b empty △ row_at r y b) h.0 ∙ ap (λ (rows : Rows). row_at s x b △ get_or rows b empty) h.1.0
gate_row-same w p f r s (gate.Not x) b h = ap (λ (rows : Rows). get_or rows b empty) h.0
gate_row-same w p f r s (gate.Mask c x) b h = ap (λ (rows : Rows). if bit_at c b == 1 then get_or rows b empty else empty) h.0
gate_row-same w p f r s (gate.And x y) b h = refl
gate_row-same w p f r s (gate.Shl k x) b h = ap (λ (rows : Rows). if nat_lt b k then empty else get_or rows (b - k) empty) h.0
gate_row-same w p f r s (gate.Shr k x) b h = ap (λ (rows : Rows). get_or rows (b + k) empty) h.0
gate_row-same w p f r s (gate.Rotl k x) b h = ap (λ (rows : Rows). get_or rows ((b + (w - k)) % w) empty) h.0
gate_row-same w p f r s (gate.Refresh x) b h = refl

gate_rows-same : (w p f : ℕ) (r s : RegisterRows) (g : Gate) → AllByRecursion (λ (a : Reg). rows_at r a ≡ rows_at s a) (reads g)
    → gate_rows w p f r g ≡ gate_rows w p f s g
gate_rows-same w p f r s g h =
    let same : gate_row w p f r g ≡ gate_row w p f s g = fun_ext (λ b. gate_row-same w p f r s g b h) in
    ap (λ (row : ℕ → Columns Column). map row (bits w)) same

-- the rows of the inputs
abbrev pub input_registers : ℕ → ℕ → RegisterRows
input_registers w n = map (input_rows w) (range_with_len 0 n)

pub length-input_registers : (w n : ℕ) → length (input_registers w n) ≡ n
length-input_registers w n = length-map-range_with_len (input_rows w) 0 n

-- the rows of all registers
abbrev pub all_rows : ℕ → ℕ → List Gate → RegisterRows
all_rows w n gs = rows_after w 0 0 (input_registers w n) gs

pub length-all_rows : (w n : ℕ) (gs : List Gate) → length (all_rows w n gs) ≡ n + length gs
length-all_rows w n gs = omega (arith, length-rows_after w 0 0 (input_registers w n) gs, length-input_registers w n)

pub all_rows-input : (w n : ℕ) (gs : List Gate) (i : ℕ) → i < n → get_or (all_rows w n gs) i [] ≡ input_rows w i
all_rows-input w n gs i h =
    rows_after-old w 0 0 (input_registers w n) gs i (omega (arith, length-input_registers w n))
    ∙ get_or-map-range_with_len (input_rows w) 0 n i i [] h (omega arith)

-- the rows of the register that equation k makes
pub all_rows-made : (w n : ℕ) (gs : List Gate) (k : ℕ) (d : Gate) → k < length gs → IsEquation w (n + k) (get_or gs k d)
    → get_or (all_rows w n gs) (n + k) [] ≡ gate_rows w (products_of (take k gs)) (refreshes_of (take k gs)) (all_rows w n gs) (get_or gs k d)
all_rows-made w n gs k d h is =
    let g = get_or gs k d in
    let p = products_of (take k gs) in
    let f = refreshes_of (take k gs) in
    let before = all_rows w n (take k gs) in
    let rest = drop (suc k) gs in
    let made = gate_rows w p f before g in
    let p1 = p + products_of (g ∷ []) in
    let f1 = f + refreshes_of (g ∷ []) in
    let len : length before ≡ n + k = length-all_rows w n (take k gs) ∙ ap (λ (m : ℕ). n + m) (length-take-le k gs (omega arith)) in
    let zp : 0 + p ≡ p = omega arith in
    let zf : 0 + f ≡ f = omega arith in
    let split : all_rows w n gs ≡ rows_after w p1 f1 (before ++ made ∷ []) rest =
    ap (rows_after w 0 0 (input_registers w n)) (sym (take-append-drop k gs) ∙ ap (λ (l : List Gate). take k gs ++ l) (drop-cons gs k d h))
    ∙ rows_after-append w 0 0 (input_registers w n) (take k gs) (g ∷ rest)
    ∙ ap (λ (m : ℕ). rows_after w m (0 + f) before (g ∷ rest)) zp ∙ ap (λ (m : ℕ). rows_after w p m before (g ∷ rest)) zf in
    let at : get_or (all_rows w n gs) (n + k) [] ≡ made =
    ap (λ (l : RegisterRows). get_or l (n + k) []) split
    ∙ rows_after-old w p1 f1 (before ++ made ∷ []) rest (n + k) (omega (arith, length_push before made, len))
    ∙ get_or_push before made [] (n + k) len in
    let old : (r : ℕ) → r < n + k → get_or before r [] ≡ get_or (all_rows w n gs) r [] =
    λ r below. sym
    (ap (λ (l : RegisterRows). get_or l r []) split
    ∙ rows_after-old w p1 f1 (before ++ made ∷ []) rest r (omega (arith, length_push before made, len))
    ∙ get_or_append_left before (made ∷ []) [] r (omega (arith, len))) in
    at
    ∙ gate_rows-same w p f before (all_rows w n gs) g
    (all_weaker (λ (a : Reg). a.0 < n + k) (λ (a : Reg). rows_at before a ≡ rows_at (all_rows w n gs) a) (reads g) (λ a below. old a.0 below) (reads_earlier w (n + k) g is))

-- ---- how far a walk is

-- before equation k: the rows are held, as bits over the names, of each register that is read by this equation or a later one
pub record HoldsLater (names : List Column) (all : RegisterRows) (n k : ℕ) (last : List ℕ) (held : List (List (List Bool))) : Type 0 where
  pub count : length held ≡ n + k
  pub later : (r : ℕ) → r < n + k → k ≤ get_or last r 0 → get_or held r [] ≡ rows_over names (get_or all r [])

pub holds_first : (names : List Column) (w n : ℕ) (gs : List Gate) (last : List ℕ) (held : List (List (List Bool)))
    → held ≡ map (λ i. rows_over names (input_rows w i)) (range_with_len 0 n) → HoldsLater names (all_rows w n gs) n 0 last held
holds_first names w n gs last held e =
    record {
      count = ap length e ∙ length-map-range_with_len (λ i. rows_over names (input_rows w i)) 0 n ∙ (omega arith);
      later =
          λ r below _.
          let within : r < n = omega arith in
          ap (λ (l : List (List (List Bool))). get_or l r []) e
          ∙ get_or-map-range_with_len (λ i. rows_over names (input_rows w i)) 0 n r r [] within (omega arith)
          ∙ ap (rows_over names) (sym (all_rows-input w n gs r within));
    }

-- two facts of each item give a third
pub both_all : {X : Type 0} (P Q R : X → Type 0) (xs : List X) → ((x : X) → P x → Q x → R x) → AllByRecursion P xs → AllByRecursion Q xs → AllByRecursion R xs
both_all P Q R [] f p q = tt
both_all P Q R (x ∷ xs) f p q = (f x p.0 q.0, both_all P Q R xs f p.1 q.1)

-- of registers that this equation takes
holds_each : (names : List Column) (all : RegisterRows) (n k : ℕ) (last : List ℕ) (held : List (List (List Bool))) (rs : List Reg)
    → HoldsLater names all n k last held → AllByRecursion (λ (a : Reg). a.0 < n + k) rs
    → AllByRecursion (λ (a : Reg). k ≤ get_or last a.0 0) rs
    → AllByRecursion (λ (a : Reg). get_or held a.0 [] ≡ rows_over names (rows_at all a)) rs
holds_each names all n k last held rs holds earlier late =
    both_all (λ (a : Reg). a.0 < n + k) (λ (a : Reg). k ≤ get_or last a.0 0)
    (λ (a : Reg). get_or held a.0 [] ≡ rows_over names (rows_at all a)) rs
    (λ a below later. holds.later a.0 below later) earlier late

pub holds_next : (names : List Column) (w n k p f : ℕ) (gs : List Gate) (d : Gate) (last : List ℕ) (held new : List (List (List Bool)))
    → k < length gs → IsEquation w (n + k) (get_or gs k d) → p ≡ products_of (take k gs) → f ≡ refreshes_of (take k gs)
    → HoldsLater names (all_rows w n gs) n k last held
    → KeepsLater last k (held ++ rows_over names (gate_rows w p f (all_rows w n gs) (get_or gs k d)) ∷ []) new
    → HoldsLater names (all_rows w n gs) n (k + 1) last new
holds_next names w n k p f gs d last held new h is ep ef holds keeps =
    let g = get_or gs k d in
    let all = all_rows w n gs in
    let made = rows_over names (gate_rows w p f all g) in
    let same : made ≡ rows_over names (get_or all (n + k) []) =
    ap (rows_over names)
    (ap (λ (m : ℕ). gate_rows w m f all g) ep ∙ ap (λ (m : ℕ). gate_rows w (products_of (take k gs)) m all g) ef ∙ sym (all_rows-made w n gs k d h is)) in
    record {
      count = omega (arith, keeps.count, length_push held made, holds.count);
      later =
          λ r below later.
          keeps.later r (omega arith)
          ∙ ⊎_elim
          (λ (old : r < n + k). get_or_append_left held (made ∷ []) [] r (omega (arith, holds.count)) ∙ holds.later r old (omega arith))
          (λ (new : r ≡ n + k).
          ap (λ (m : ℕ). get_or (held ++ made ∷ []) m []) new ∙ get_or_push held made [] (n + k) holds.count ∙ same
          ∙ ap (λ (m : ℕ). rows_over names (get_or all m [])) (sym new))
          (cases r (n + k) (omega arith));
    }
  where
    cases : (r m : ℕ) → r < m + 1 → (r < m) ⊎ (r ≡ m)
    cases r m h = grind arith

-- before equation k, where so many equations, products and refreshes came
pub record IsUnderWay (names : List Column) (w n : ℕ) (gs : List Gate) (k : ℕ) (stage : Stage) (last : List ℕ) (held : List (List (List Bool))) : Type 0 where
  pub holds : HoldsLater names (all_rows w n gs) n k last held
  pub width : stage.width ≡ w
  pub equations : stage.equations ≡ k
  pub products : stage.products ≡ products_of (take k gs)
  pub refreshes : stage.refreshes ≡ refreshes_of (take k gs)

pub under_way_first : (names : List Column) (w n : ℕ) (gs : List Gate) (stage : Stage) (last : List ℕ) (held : List (List (List Bool)))
    → held ≡ map (λ i. rows_over names (input_rows w i)) (range_with_len 0 n) → stage ≡ record { width = w; equations = 0; products = 0; refreshes = 0 }
    → IsUnderWay names w n gs 0 stage last held
under_way_first names w n gs stage last held e es =
    record {
      holds = holds_first names w n gs last held e;
      width = ap (λ (s : Stage). s.width) es;
      equations = ap (λ (s : Stage). s.equations) es;
      products = ap (λ (s : Stage). s.products) es;
      refreshes = ap (λ (s : Stage). s.refreshes) es;
    }

pub under_way_next : (names : List Column) (w n : ℕ) (gs : List Gate) (k : ℕ) (d : Gate) (stage next : Stage) (last : List ℕ) (held new : List (List (List Bool)))
    → k < length gs → AreEquations w n gs → IsUnderWay names w n gs k stage last held
    → (let made = rows_over names (gate_rows stage.width stage.products stage.refreshes (all_rows w n gs) (get_or gs k d)) in KeepsLater last stage.equations (held ++ made ∷ []) new)
    → next ≡ record { width = stage.width; equations = stage.equations + 1; products = stage.products + products_of (get_or gs k d ∷ []); refreshes = stage.refreshes + refreshes_of (get_or gs k d ∷ []) }
    → IsUnderWay names w n gs (k + 1) next last new
under_way_next names w n gs k d stage next last held new h are way keeps en =
    let g = get_or gs k d in
    let all = all_rows w n gs in
    let at_width : KeepsLater last stage.equations (held ++ rows_over names (gate_rows w stage.products stage.refreshes all g) ∷ []) new =
    subst (λ (m : ℕ). KeepsLater last stage.equations (held ++ rows_over names (gate_rows m stage.products stage.refreshes all g) ∷ []) new) way.width keeps in
    let at_place : KeepsLater last k (held ++ rows_over names (gate_rows w stage.products stage.refreshes all g) ∷ []) new =
    subst (λ (m : ℕ). KeepsLater last m (held ++ rows_over names (gate_rows w stage.products stage.refreshes all g) ∷ []) new) way.equations at_width in
    record {
      holds = holds_next names w n k stage.products stage.refreshes gs d last held new h (equation_at w n gs k d are h) way.products way.refreshes way.holds at_place;
      width = ap (λ (s : Stage). s.width) en ∙ way.width;
      equations = ap (λ (s : Stage). s.equations) en ∙ ap (λ (m : ℕ). m + 1) way.equations;
      products = ap (λ (s : Stage). s.products) en ∙ ap (λ (m : ℕ). m + products_of (g ∷ [])) way.products ∙ sym (products_of-more gs k d h);
      refreshes = ap (λ (s : Stage). s.refreshes) en ∙ ap (λ (m : ℕ). m + refreshes_of (g ∷ [])) way.refreshes ∙ sym (refreshes_of-more gs k d h);
    }

-- what the calls at equation k ask for
pub under_way_equation : (names : List Column) (w n : ℕ) (gs : List Gate) (k many : ℕ) (d : Gate) (stage : Stage) (last : List ℕ) (held : List (List (List Bool)))
    → k < length gs → AreEquations w n gs → IsUnderWay names w n gs k stage last held → many ≡ length held → IsEquation stage.width many (get_or gs k d)
under_way_equation names w n gs k many d stage last held h are way e =
    subst (λ (m : ℕ). IsEquation stage.width m (get_or gs k d)) (sym (e ∙ way.holds.count))
    (subst (λ (m : ℕ). IsEquation m (n + k) (get_or gs k d)) (sym way.width) (equation_at w n gs k d are h))

-- what the numbers of last reads tell of the equation of number k
pub taken_late : (inputs n k : ℕ) (gs : List Gate) (d : Gate) (last : List ℕ) → n ≡ inputs → TellsLastReads inputs gs last → k < length gs
    → AreTakenLate last (n + k) k (get_or gs k d)
taken_late inputs n k gs d last e told h =
    subst (λ (m : ℕ). AreTakenLate last (m + k) k (get_or gs k d)) (sym e)
    (told.late k (get_or gs k d) (slice_get-get_or gs k d h))

pub under_way_operands : (names : List Column) (w n : ℕ) (gs : List Gate) (k : ℕ) (d : Gate) (stage : Stage) (last : List ℕ) (held : List (List (List Bool)))
    → k < length gs → AreEquations w n gs → AreTakenLate last (n + k) k (get_or gs k d) → IsUnderWay names w n gs k stage last held
    → HoldsOperands names (all_rows w n gs) held (get_or gs k d)
under_way_operands names w n gs k d stage last held h are late way =
    let g = get_or gs k d in
    let is_read = nat_lt k (get_or last (n + k) 0) in
    holds_each names (all_rows w n gs) n k last held (operands g) way.holds
    (takes_operands (λ (a : Reg). a.0 < n + k) is_read g (takes_earlier w (n + k) is_read g (equation_at w n gs k d are h)))
    (takes_operands (λ (a : Reg). k ≤ get_or last a.0 0) is_read g late)

-- the test of a number that is below another
pub below_is : (a b : ℕ) → a < b → nat_lt a b ≡ true
below_is a b h = grind arith

pub under_way_needs : (names : List Column) (w n : ℕ) (gs : List Gate) (k many : ℕ) (d : Gate) (stage : Stage) (last : List ℕ) (held : List (List (List Bool)))
    → k < length gs → AreEquations w n gs → AreTakenLate last (n + k) k (get_or gs k d) → IsUnderWay names w n gs k stage last held
    → many ≡ length held → IsReadAfter last many stage.equations
    → HoldsNeeds names (all_rows w n gs) held (get_or gs k d)
under_way_needs names w n gs k many d stage last held h are late way e read =
    let g = get_or gs k d in
    let is_read = nat_lt k (get_or last (n + k) 0) in
    let read_here : k < get_or last (n + k) 0 =
    subst (λ (m : ℕ). k < get_or last m 0) (e ∙ way.holds.count)
    (subst (λ (m : ℕ). m < get_or last many 0) way.equations read) in
    let is : is_read ≡ true = below_is k (get_or last (n + k) 0) read_here in
    holds_each names (all_rows w n gs) n k last held (needs g) way.holds
    (takes_needs (λ (a : Reg). a.0 < n + k) is_read g is (takes_earlier w (n + k) is_read g (equation_at w n gs k d are h)))
    (takes_needs (λ (a : Reg). k ≤ get_or last a.0 0) is_read g is late)

pub under_way_counts : (names : List Column) (w n : ℕ) (gs : List Gate) (k : ℕ) (stage : Stage) (last : List ℕ) (held : List (List (List Bool)))
    → k < length gs → IsUnderWay names w n gs k stage last held → (stage.products ≤ k) × (stage.refreshes ≤ k)
under_way_counts names w n gs k stage last held h way =
    let few = counts_le (take k gs) in
    let long = length-take-le k gs (omega arith) in
    (omega (arith, way.products, few, long), omega (arith, way.refreshes, few, long))

-- the rows of a circuit's registers, by its parts
pub all_rows-core : (core : Circuit) (w n : ℕ) (gs : List Gate) → w ≡ core.width → n ≡ core.inputs → gs ≡ core.equations → all_rows w n gs ≡ core_rows core
all_rows-core core w n gs ew en eg =
    ap (λ (m : ℕ). all_rows m n gs) ew ∙ ap (λ (m : ℕ). all_rows core.width m gs) en ∙ ap (λ (l : List Gate). all_rows core.width core.inputs l) eg

-- a core's equations, by its parts
pub core_equations : (core : Circuit) (w n : ℕ) (gs : List Gate) → IsCore core → w ≡ core.width → n ≡ core.inputs → gs ≡ core.equations → AreEquations w n gs
core_equations core w n gs is ew en eg =
    subst (λ (m : ℕ). AreEquations m n gs) (sym ew)
    (subst (λ (m : ℕ). AreEquations core.width m gs) (sym en) (subst (λ (l : List Gate). AreEquations core.width core.inputs l) (sym eg) is.equations))
