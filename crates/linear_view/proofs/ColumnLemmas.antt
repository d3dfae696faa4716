-- The columns of a circuit: one equation more, and that each name is new when it comes.
use Rattle.std.proofs.Common.{◌≡◌, ℕ, zero, suc, ◌+◌, ◌<◌, ◌≤◌, Bool, true, false, ◌&&◌, ◌||◌, eqb, List, [], ◌∷◌, ◌++◌, length, map, take, get_or, flat_map, refl, sym, ap, ◌∙◌, arith, add-one, append_assoc, if◌then◌else◌}
use Rattle.std.proofs.lemmas.List.{append-nil, take_more, flat_map_more}
use Rattle.std.proofs.lemmas.List.Folds.{list_any-append}
use Rattle.std.proofs.lemmas.List.FromFn.{map-range_with_len_more}
use Rattle.std.specs.List.{list_any, range_with_len}
use Rattle.usuba0.specs.declared.circuit.Gate.{Gate}
use Rattle.usuba0.specs.declared.circuit.Gate.TheVariants as gate
use Rattle.usuba0.specs.Circuit.{products_of, refreshes_of}
use Rattle.linear_view.specs.declared.column.Column.{Column}
use Rattle.linear_view.specs.declared.column.ColumnKind.{ColumnKind}
use Rattle.linear_view.specs.declared.column.ColumnKind.TheVariants.{Input, Product, Refresh}
use Rattle.linear_view.specs.contracts.column.ColumnPartialEq.TheImpl as impl
use Rattle.linear_view.specs.Walk.{IsNewName}
use Rattle.linear_view.proofs.NameLemmas.{any-same_column}
use Rattle.linear_view.specs.Names.{same_kind, same_column, own_columns, input_columns, gate_columns, equation_columns}

-- ---- counts

pub products_of-append : (gs hs : List Gate) → products_of (gs ++ hs) ≡ products_of gs + products_of hs
products_of-append [] hs = omega arith
products_of-append (gate.Const c ∷ gs) hs = products_of-append gs hs
products_of-append (gate.Xor a b ∷ gs) hs = products_of-append gs hs
products_of-append (gate.Not a ∷ gs) hs = products_of-append gs hs
products_of-append (gate.Mask c a ∷ gs) hs = products_of-append gs hs
products_of-append (gate.And a b ∷ gs) hs = let h = products_of-append gs hs in omega arith
products_of-append (gate.Shl k a ∷ gs) hs = products_of-append gs hs
products_of-append (gate.Shr k a ∷ gs) hs = products_of-append gs hs
products_of-append (gate.Rotl k a ∷ gs) hs = products_of-append gs hs
products_of-append (gate.Refresh a ∷ gs) hs = products_of-append gs hs

pub refreshes_of-append : (gs hs : List Gate) → refreshes_of (gs ++ hs) ≡ refreshes_of gs + refreshes_of hs
refreshes_of-append [] hs = omega arith
refreshes_of-append (gate.Const c ∷ gs) hs = refreshes_of-append gs hs
refreshes_of-append (gate.Xor a b ∷ gs) hs = refreshes_of-append gs hs
refreshes_of-append (gate.Not a ∷ gs) hs = refreshes_of-append gs hs
refreshes_of-append (gate.Mask c a ∷ gs) hs = refreshes_of-append gs hs
refreshes_of-append (gate.And a b ∷ gs) hs = refreshes_of-append gs hs
refreshes_of-append (gate.Shl k a ∷ gs) hs = refreshes_of-append gs hs
refreshes_of-append (gate.Shr k a ∷ gs) hs = refreshes_of-append gs hs
refreshes_of-append (gate.Rotl k a ∷ gs) hs = refreshes_of-append gs hs
refreshes_of-append (gate.Refresh a ∷ gs) hs = let h = refreshes_of-append gs hs in omega arith

pub products_of-cons : (g : Gate) (gs : List Gate) → products_of (g ∷ gs) ≡ products_of (g ∷ []) + products_of gs
products_of-cons g gs = products_of-append (g ∷ []) gs

pub refreshes_of-cons : (g : Gate) (gs : List Gate) → refreshes_of (g ∷ gs) ≡ refreshes_of (g ∷ []) + refreshes_of gs
refreshes_of-cons g gs = refreshes_of-append (g ∷ []) gs

pub products_of-more : (gs : List Gate) (i : ℕ) (d : Gate) → i < length gs → products_of (take (i + 1) gs) ≡ products_of (take i gs) + products_of (get_or gs i d ∷ [])
products_of-more gs i d h = ap products_of (take_more gs i d h) ∙ products_of-append (take i gs) (get_or gs i d ∷ [])

pub refreshes_of-more : (gs : List Gate) (i : ℕ) (d : Gate) → i < length gs → refreshes_of (take (i + 1) gs) ≡ refreshes_of (take i gs) + refreshes_of (get_or gs i d ∷ [])
refreshes_of-more gs i d h = ap refreshes_of (take_more gs i d h) ∙ refreshes_of-append (take i gs) (get_or gs i d ∷ [])

-- ---- one more

pub own_columns-more : (kind : ColumnKind) (number bit : ℕ) → own_columns (bit + 1) kind number ≡ own_columns bit kind number ++ record { kind = kind; number = number; bit = bit } ∷ []
own_columns-more kind number bit = map-range_with_len_more (λ b. record { kind = kind; number = number; bit = b }) 0 bit bit (omega arith)

pub equation_columns-append : (w p f : ℕ) (gs hs : List Gate)
    → equation_columns w p f (gs ++ hs) ≡ equation_columns w p f gs ++ equation_columns w (p + products_of gs) (f + refreshes_of gs) hs
equation_columns-append w p f [] hs =
    ap (λ (m : ℕ). equation_columns w m f hs) (omega arith) ∙ ap (λ (m : ℕ). equation_columns w (p + 0) m hs) (omega arith)
equation_columns-append w p f (g ∷ gs) hs =
    let p1 = p + products_of (g ∷ []) in
    let f1 = f + refreshes_of (g ∷ []) in
    let ep : p1 + products_of gs ≡ p + products_of (g ∷ gs) = omega (arith, products_of-cons g gs) in
    let ef : f1 + refreshes_of gs ≡ f + refreshes_of (g ∷ gs) = omega (arith, refreshes_of-cons g gs) in
    ap (λ (l : List Column). gate_columns w p f g ++ l)
    (equation_columns-append w p1 f1 gs hs
    ∙ ap (λ (m : ℕ). equation_columns w p1 f1 gs ++ equation_columns w m (f1 + refreshes_of gs) hs) ep
    ∙ ap (λ (m : ℕ). equation_columns w p1 f1 gs ++ equation_columns w (p + products_of (g ∷ gs)) m hs) ef)
    ∙ sym (append_assoc (gate_columns w p f g) (equation_columns w p1 f1 gs) (equation_columns w (p + products_of (g ∷ gs)) (f + refreshes_of (g ∷ gs)) hs))

pub equation_columns-more : (w : ℕ) (gs : List Gate) (i : ℕ) (d : Gate) → i < length gs
    → equation_columns w 0 0 (take (i + 1) gs) ≡ equation_columns w 0 0 (take i gs) ++ gate_columns w (products_of (take i gs)) (refreshes_of (take i gs)) (get_or gs i d)
equation_columns-more w gs i d h =
    let g = get_or gs i d in
    let before = take i gs in
    ap (equation_columns w 0 0) (take_more gs i d h)
    ∙ equation_columns-append w 0 0 before (g ∷ [])
    ∙ ap (λ (m : ℕ). equation_columns w 0 0 before ++ equation_columns w m (0 + refreshes_of before) (g ∷ [])) (omega arith)
    ∙ ap (λ (m : ℕ). equation_columns w 0 0 before ++ equation_columns w (products_of before) m (g ∷ [])) (omega arith)
    ∙ ap (λ (l : List Column). equation_columns w 0 0 before ++ l) (append-nil (gate_columns w (products_of before) (refreshes_of before) g))

range-more : (a n : ℕ) → range_with_len a (suc n) ≡ range_with_len a n ++ (a + n) ∷ []
range-more a zero = ap (λ (m : ℕ). m ∷ []) (omega arith)
range-more a (suc n) =
    let place : (a + 1) + n ≡ a + suc n = omega arith in
    ap (λ (l : List ℕ). a ∷ l) (range-more (a + 1) n ∙ ap (λ (m : ℕ). range_with_len (a + 1) n ++ m ∷ []) place)

pub input_columns-more : (w number : ℕ) (keys new : List Column) → keys ≡ input_columns w number → new ≡ keys ++ own_columns w Input number
    → new ≡ input_columns w (number + 1)
input_columns-more w number keys new before added =
    let own = own_columns w Input in
    added ∙ ap (λ (l : List Column). l ++ own number) before
    ∙ flat_map_more own [] (range_with_len 0 number) number
    ∙ ap (λ (m : ℕ). flat_map own (range_with_len 0 number ++ m ∷ [])) (omega arith)
    ∙ ap (flat_map own) (sym (range-more 0 number))
    ∙ ap (λ (m : ℕ). input_columns w m) (sym (add-one number))

pub columns_step : (w n : ℕ) (gs : List Gate) (i : ℕ) (d : Gate) (keys new : List Column) (sw sp sf : ℕ) → i < length gs
    → keys ≡ input_columns w n ++ equation_columns w 0 0 (take i gs) → sw ≡ w → sp ≡ products_of (take i gs) → sf ≡ refreshes_of (take i gs)
    → new ≡ keys ++ gate_columns sw sp sf (get_or gs i d) → new ≡ input_columns w n ++ equation_columns w 0 0 (take (i + 1) gs)
columns_step w n gs i d keys new sw sp sf h ek ew ep ef en =
    let g = get_or gs i d in
    let own : gate_columns sw sp sf g ≡ gate_columns w (products_of (take i gs)) (refreshes_of (take i gs)) g =
    ap (λ (m : ℕ). gate_columns m sp sf g) ew ∙ ap (λ (m : ℕ). gate_columns w m sf g) ep ∙ ap (λ (m : ℕ). gate_columns w (products_of (take i gs)) m g) ef in
    en ∙ ap (λ (l : List Column). l ++ gate_columns sw sp sf g) ek
    ∙ ap (λ (l : List Column). (input_columns w n ++ equation_columns w 0 0 (take i gs)) ++ l) own
    ∙ append_assoc (input_columns w n) (equation_columns w 0 0 (take i gs)) (gate_columns w (products_of (take i gs)) (refreshes_of (take i gs)) g)
    ∙ ap (λ (l : List Column). input_columns w n ++ l) (sym (equation_columns-more w gs i d h))

pub no_columns : (w p f : ℕ) (g : Gate) → ((a b : _) → g ≡ gate.And a b → ⊥) → ((a : _) → g ≡ gate.Refresh a → ⊥) → gate_columns w p f g ≡ []
no_columns w p f (gate.Const c) product refresh = refl
no_columns w p f (gate.Xor a b) product refresh = refl
no_columns w p f (gate.Not a) product refresh = refl
no_columns w p f (gate.Mask c a) product refresh = refl
no_columns w p f (gate.And a b) product refresh = absurd (product a b refl)
no_columns w p f (gate.Shl k a) product refresh = refl
no_columns w p f (gate.Shr k a) product refresh = refl
no_columns w p f (gate.Rotl k a) product refresh = refl
no_columns w p f (gate.Refresh a) product refresh = absurd (refresh a refl)

-- ---- new names

-- no column of the list has this name
abbrev pub IsAbsent : Column → List Column → Type 0
IsAbsent name names = list_any (same_column name) names ≡ false

pub absent-append : (name : Column) (xs ys : List Column) → IsAbsent name xs → IsAbsent name ys → IsAbsent name (xs ++ ys)
absent-append name xs ys p q =
    list_any-append (same_column name) xs ys
    ∙ ap (λ (b : Bool). b || list_any (same_column name) ys) p ∙ q

other_number : (kind : ColumnKind) (m n i j : ℕ) → n < m → same_column (record { kind = kind; number = m; bit = i }) (record { kind = kind; number = n; bit = j }) ≡ false
other_number kind m n i j h = by (same_kind kind kind) (eqb m n) (eqb i j) (grind arith)
  where
    by : (x y z : Bool) → y ≡ false → (x && y) && z ≡ false
    by true true z e = absurd (cc)
    by true false z e = refl
    by false y z e = refl

other_bit : (kind : ColumnKind) (n i j : ℕ) → j < i → same_column (record { kind = kind; number = n; bit = i }) (record { kind = kind; number = n; bit = j }) ≡ false
other_bit kind n i j h = by (same_kind kind kind) (eqb n n) (eqb i j) (grind arith)
  where
    by : (x y z : Bool) → z ≡ false → (x && y) && z ≡ false
    by x y true e = absurd (cc)
    by true true false e = refl
    by true false false e = refl
    by false y false e = refl

other_kind : (a b : Column) → same_kind a.kind b.kind ≡ false → same_column a b ≡ false
other_kind a b e = by (same_kind a.kind b.kind) (eqb a.number b.number) (eqb a.bit b.bit) e
  where
    by : (x y z : Bool) → x ≡ false → (x && y) && z ≡ false
    by true y z e = absurd (cc)
    by false y z e = refl

-- a name that differs from each of a list made of numbers
absent_from_each : (name : Column) (f : ℕ → Column) (a n : ℕ) → ((k : ℕ) → k < a + n → same_column name (f k) ≡ false) → IsAbsent name (map f (range_with_len a n))
absent_from_each name f a zero differ = refl
absent_from_each name f a (suc n) differ =
    ap (λ (b : Bool). b || list_any (same_column name) (map f (range_with_len (a + 1) n))) (differ a (omega arith))
    ∙ absent_from_each name f (a + 1) n (λ k h. differ k (omega arith))

pub absent_bit : (kind : ColumnKind) (number bit : ℕ) → IsAbsent (record { kind = kind; number = number; bit = bit }) (own_columns bit kind number)
absent_bit kind number bit =
    absent_from_each (record { kind = kind; number = number; bit = bit }) (λ b. record { kind = kind; number = number; bit = b }) 0 bit
    (λ k h. other_bit kind number bit k (omega arith))

-- the names after one was inserted that was not among them
pub columns_next : (old keys new : List Column) (kind : ColumnKind) (number bit : ℕ) → keys ≡ old ++ own_columns bit kind number
    → IsNewName kind number old
    → (let name : Column = record { kind = kind; number = number; bit = bit } in new ≡ (if list_any (impl.eq-value.it name) keys then keys else keys ++ name ∷ []))
    → new ≡ old ++ own_columns (bit + 1) kind number
columns_next old keys new kind number bit ek fresh en =
    let name : Column = record { kind = kind; number = number; bit = bit } in
    let absent : list_any (impl.eq-value.it name) keys ≡ false =
    any-same_column name keys ∙ ap (list_any (same_column name)) ek ∙ absent-append name old (own_columns bit kind number) (fresh bit) (absent_bit kind number bit) in
    en ∙ ap (λ (b : Bool). if b then keys else keys ++ name ∷ []) absent
    ∙ ap (λ (l : List Column). l ++ name ∷ []) ek
    ∙ append_assoc old (own_columns bit kind number) (name ∷ [])
    ∙ ap (λ (l : List Column). old ++ l) (sym (own_columns-more kind number bit))

absent_number : (kind : ColumnKind) (w m n bit : ℕ) → n < m → IsAbsent (record { kind = kind; number = m; bit = bit }) (own_columns w kind n)
absent_number kind w m n bit h =
    absent_from_each (record { kind = kind; number = m; bit = bit }) (λ b. record { kind = kind; number = n; bit = b }) 0 w
    (λ k within. other_number kind m n bit k h)

absent_kind : (name : Column) (w : ℕ) (kind : ColumnKind) (n : ℕ) → same_kind name.kind kind ≡ false → IsAbsent name (own_columns w kind n)
absent_kind name w kind n e =
    absent_from_each name (λ b. record { kind = kind; number = n; bit = b }) 0 w (λ k within. other_kind name (record { kind = kind; number = n; bit = k }) e)

absent_from_lists : (name : Column) (f : ℕ → List Column) (a n : ℕ) → ((k : ℕ) → k < a + n → IsAbsent name (f k)) → IsAbsent name (flat_map f (range_with_len a n))
absent_from_lists name f a zero absent = refl
absent_from_lists name f a (suc n) absent =
    absent-append name (f a) (flat_map f (range_with_len (a + 1) n)) (absent a (omega arith))
    (absent_from_lists name f (a + 1) n (λ k h. absent k (omega arith)))

pub new_input : (w number bit : ℕ) → IsAbsent (record { kind = Input; number = number; bit = bit }) (input_columns w number)
new_input w number bit =
    absent_from_lists (record { kind = Input; number = number; bit = bit }) (own_columns w Input) 0 number
    (λ k h. absent_number Input w number k bit (omega arith))

pub no_input : (name : Column) (w inputs : ℕ) → same_kind name.kind Input ≡ false → IsAbsent name (input_columns w inputs)
no_input name w inputs e = absent_from_lists name (own_columns w Input) 0 inputs (λ k h. absent_kind name w Input k e)

pub new_product : (w p f number bit : ℕ) (gs : List Gate) → p + products_of gs ≤ number → IsAbsent (record { kind = Product; number = number; bit = bit }) (equation_columns w p f gs)
new_product w p f number bit [] h = refl
new_product w p f number bit (g ∷ gs) h =
    let name : Column = record { kind = Product; number = number; bit = bit } in
    absent-append name (gate_columns w p f g) (equation_columns w (p + products_of (g ∷ [])) (f + refreshes_of (g ∷ [])) gs)
    (by g (omega (arith, products_of-cons g gs)))
    (new_product w (p + products_of (g ∷ [])) (f + refreshes_of (g ∷ [])) number bit gs (omega (arith, products_of-cons g gs)))
  where
    by : (g : Gate) → p + products_of (g ∷ []) ≤ number → IsAbsent (record { kind = Product; number = number; bit = bit }) (gate_columns w p f g)
    by (gate.Const c) h = refl
    by (gate.Xor a b) h = refl
    by (gate.Not a) h = refl
    by (gate.Mask c a) h = refl
    by (gate.And a b) h = absent_number Product w number p bit (omega arith)
    by (gate.Shl k a) h = refl
    by (gate.Shr k a) h = refl
    by (gate.Rotl k a) h = refl
    by (gate.Refresh a) h = absent_kind (record { kind = Product; number = number; bit = bit }) w Refresh f refl

pub new_refresh : (w p f number bit : ℕ) (gs : List Gate) → f + refreshes_of gs ≤ number → IsAbsent (record { kind = Refresh; number = number; bit = bit }) (equation_columns w p f gs)
new_refresh w p f number bit [] h = refl
new_refresh w p f number bit (g ∷ gs) h =
    let name : Column = record { kind = Refresh; number = number; bit = bit } in
    absent-append name (gate_columns w p f g) (equation_columns w (p + products_of (g ∷ [])) (f + refreshes_of (g ∷ [])) gs)
    (by g (omega (arith, refreshes_of-cons g gs)))
    (new_refresh w (p + products_of (g ∷ [])) (f + refreshes_of (g ∷ [])) number bit gs (omega (arith, refreshes_of-cons g gs)))
  where
    by : (g : Gate) → f + refreshes_of (g ∷ []) ≤ number → IsAbsent (record { kind = Refresh; number = number; bit = bit }) (gate_columns w p f g)
    by (gate.Const c) h = refl
    by (gate.Xor a b) h = refl
    by (gate.Not a) h = refl
    by (gate.Mask c a) h = refl
    by (gate.And a b) h = absent_kind (record { kind = Refresh; number = number; bit = bit }) w Product p refl
    by (gate.Shl k a) h = refl
    by (gate.Shr k a) h = refl
    by (gate.Rotl k a) h = refl
    by (gate.Refresh a) h = absent_number Refresh w number f bit (omega arith)
