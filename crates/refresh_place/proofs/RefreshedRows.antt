-- The rows of the registers of a refreshed core, along its equations.
use Rattle.std.proofs.Common.{◌≡◌, ℕ, zero, suc, ◌+◌, ◌-◌, ◌%◌, ◌<◌, ◌≤◌, ◌==◌, nat_lt, Bool, true, false, cond, List, [], ◌∷◌, ◌++◌, length, map, get_or, Option, refl, sym, ap, ◌∙◌, subst, arith, inl, inr, if◌then◌else◌, length-append}
use Rattle.std.specs.Int.{bit_at}
use Rattle.std.specs.List.{range_with_len}
use Rattle.std.proofs.lemmas.List.{get_or_push, get_or_append_left, length_push, length-map, append-nil}
use Rattle.span_model.specs.Columns.{Columns, empty, ◌△◌}
use Rattle.usuba0.specs.declared.circuit.Gate.{Gate}
use Rattle.usuba0.specs.declared.circuit.Gate.TheVariants as gate
use Rattle.usuba0.specs.declared.circuit.Reg.{Reg}
use Rattle.usuba0.specs.Circuit.{IsEquation, products_of, refreshes_of}
use Rattle.linear_view.specs.declared.column.Column.{Column}
use Rattle.linear_view.specs.Names.{bits}
use Rattle.linear_view.specs.Rows.{Rows, RegisterRows, rows_at, row_at, gate_row, gate_rows}
use Rattle.core_refresh.specs.RefreshedCore.{takes_refresh, renumbered, refreshed_product, refreshed_gate}
use Rattle.core_refresh.proofs.Numbering.{IsOfKind, product, plain, kind_of, cases_lt_eq}
use Rattle.refresh_place.proofs.Origins.{Origin, was, before, was_plus, was_more, origin, origin_step, IsNaming, IsNamedFrom}
use Rattle.refresh_place.proofs.ColumnNames.{carried, carried_empty, carried_sum, product_carried, refresh_carried}

-- an equation stands for itself, or it is a product that takes a refresh
pub data StandsFor (new : Reg → Reg) (set : ℕ → Bool) (k next : ℕ) : Gate → Type 0 where
  itself : (g : Gate) → takes_refresh set k g ≡ false → refreshed_gate new set k next g ≡ renumbered new g ∷ [] → StandsFor new set k next g
  a_refresh : (a b : Reg) → set k ≡ true → StandsFor new set k next (gate.And a b)

product_stands : (new : Reg → Reg) (set : ℕ → Bool) (k next : ℕ) (a b : Reg) (mark : Bool) → set k ≡ mark → StandsFor new set k next (gate.And a b)
product_stands new set k next a b true e = a_refresh a b e
product_stands new set k next a b false e =
    itself (gate.And a b) e (ap (λ (x : Bool). cond x (refreshed_product next (new a) (new b)) (gate.And (new a) (new b) ∷ [])) e)

stands_of : (new : Reg → Reg) (set : ℕ → Bool) (k next : ℕ) (g : Gate) → IsOfKind g → StandsFor new set k next g
stands_of new set k next g (product a b) = product_stands new set k next a b (set k) refl
stands_of new set k next g (plain x p) = itself x (p.takes set k) (p.stands new set k next)

pub stands_for : (new : Reg → Reg) (set : ℕ → Bool) (k next : ℕ) (g : Gate) → StandsFor new set k next g
stands_for new set k next g = stands_of new set k next g (kind_of g)

-- ---- lists

pub map_same : {X Y Z : Type 0} (f : X → Y) (h : Y → Z) (g : X → Z) (xs : List X) → ((x : X) → g x ≡ h (f x)) → map g xs ≡ map h (map f xs)
map_same f h g [] e = refl
map_same f h g (x ∷ xs) e = ap (λ y. y ∷ map g xs) (e x) ∙ ap (λ l. h (f x) ∷ l) (map_same f h g xs e)

mapped_at : {X : Type 0} (h : X → X) (d : X) → h d ≡ d → (xs : List X) (i : ℕ) → get_or (map h xs) i d ≡ h (get_or xs i d)
mapped_at h d e [] i = sym e
mapped_at h d e (x ∷ xs) zero = refl
mapped_at h d e (x ∷ xs) (suc i) = mapped_at h d e xs i

pub length-bits : (w : ℕ) → length (bits w) ≡ w
length-bits w = ranged 0 w
  where
    ranged : (a n : ℕ) → length (range_with_len a n) ≡ n
    ranged a zero = refl
    ranged a (suc n) = ap suc (ranged (a + 1) n)

-- ---- one more register

-- the registers below n have rows of w bits, and the rows of the refreshed core's under their new numbers
pub record AreSameRows (from : ℕ → Origin) (rename : Reg → Reg) (w n next : ℕ) (old new : RegisterRows) : Type 0 where
  pub old_count : length old ≡ n
  pub new_count : length new ≡ next
  pub wide : (r : Reg) → r.0 < n → length (rows_at old r) ≡ w
  pub same : (r : Reg) → r.0 < n → rows_at new (rename r) ≡ map (carried from) (rows_at old r)

pub rows_more : (from : ℕ → Origin) (rename : Reg → Reg) (w n next : ℕ) (old new : RegisterRows) (x y : Rows) (more : RegisterRows)
    → AreSameRows from rename w n next old new → ((r : Reg) → r.0 < n → (rename r).0 < next)
    → (rename (record { 0 = n + 0 })).0 ≡ next + length more → length y ≡ w → x ≡ map (carried from) y
    → AreSameRows from rename w (suc n) (next + suc (length more)) (old ++ y ∷ []) ((new ++ more) ++ x ∷ [])
rows_more from rename w n next old new x y more is earlier own wide e =
    let many = length-append new more in
    let old_count = is.old_count in
    let new_count = is.new_count in
    record {
      old_count = let h = length_push old y in omega arith;
      new_count = let h = length_push (new ++ more) x in omega arith;
      wide = λ r h.
          elim (cases_lt_eq r.0 n h) [
            | inl below ↦
                let back : r.0 < length old = omega arith in
                ap length (get_or_append_left old (y ∷ []) [] r.0 back) ∙ is.wide r below
            | inr at ↦
                let back : length old ≡ r.0 = omega arith in
                ap length (get_or_push old y [] r.0 back) ∙ wide
          ];
      same = λ r h.
          elim (cases_lt_eq r.0 n h) [
            | inl below ↦
                let first = earlier r below in
                let inside : (rename r).0 < length (new ++ more) = omega arith in
                let front : (rename r).0 < length new = omega arith in
                let back : r.0 < length old = omega arith in
                get_or_append_left (new ++ more) (x ∷ []) [] (rename r).0 inside
                ∙ get_or_append_left new more [] (rename r).0 front
                ∙ is.same r below
                ∙ sym (ap (map (carried from)) (get_or_append_left old (y ∷ []) [] r.0 back))
            | inr at ↦
                let here : r.0 ≡ n + 0 = omega arith in
                let last : (rename r).0 ≡ (rename (record { 0 = n + 0 })).0 = ap (λ (z : ℕ). (rename (record { 0 = z })).0) here in
                let there : length (new ++ more) ≡ (rename r).0 = omega arith in
                let back : length old ≡ r.0 = omega arith in
                get_or_push (new ++ more) x [] (rename r).0 there ∙ e ∙ sym (ap (map (carried from)) (get_or_push old y [] r.0 back))
          ];
    }

pub rows_next : (from : ℕ → Origin) (rename : Reg → Reg) (w n next : ℕ) (old new : RegisterRows) (x y : Rows)
    → AreSameRows from rename w n next old new → ((r : Reg) → r.0 < n → (rename r).0 < next)
    → (rename (record { 0 = n + 0 })).0 ≡ next + 0 → length y ≡ w → x ≡ map (carried from) y
    → AreSameRows from rename w (suc n) (next + 1) (old ++ y ∷ []) (new ++ x ∷ [])
rows_next from rename w n next old new x y is earlier own wide e =
    subst (λ (l : RegisterRows). AreSameRows from rename w (suc n) (next + 1) (old ++ y ∷ []) (l ++ x ∷ []))
    (append-nil new) (rows_more from rename w n next old new x y [] is earlier own wide e)

-- ---- the rows that an equation makes

-- a row of a register
pub same_row : (from : ℕ → Origin) (rename : Reg → Reg) (old new : RegisterRows) (a : Reg) (b : ℕ)
    → rows_at new (rename a) ≡ map (carried from) (rows_at old a) → row_at new (rename a) b ≡ carried from (row_at old a b)
same_row from rename old new a b e =
    ap (λ (l : Rows). get_or l b empty) e ∙ mapped_at (carried from) empty (carried_empty from) (rows_at old a) b

if_carried : (from : ℕ → Origin) (b : Bool) (x y v w : Columns Column) → x ≡ carried from v → y ≡ carried from w
    → (if b then x else y) ≡ carried from (if b then v else w)
if_carried from true x y v w e h = e
if_carried from false x y v w e h = h

-- the refreshes of the core that an equation makes have their numbers
abbrev pub IsOwn : (from : ℕ → Origin) (f next : ℕ) → Gate → Type 0
IsOwn from f next g = refreshes_of (g ∷ []) ≡ 1 → from next ≡ was f

pub same_gate_row : (from : ℕ → Origin) (to : Origin → Option ℕ) → IsNaming from to → (rename : Reg → Reg) (w n p f next : ℕ)
    (old new : RegisterRows) (g : Gate) → IsEquation w n g → IsOwn from f next g
    → ((r : Reg) → r.0 < n → rows_at new (rename r) ≡ map (carried from) (rows_at old r))
    → (b : ℕ) → gate_row w p next new (renumbered rename g) b ≡ carried from (gate_row w p f old g b)
same_gate_row from to is rename w n p f next old new (gate.Const c) at own h b = sym (carried_empty from)
same_gate_row from to is rename w n p f next old new (gate.Xor x y) at own h b =
    ap (λ (v : Columns Column). v △ row_at new (rename y) b) (same_row from rename old new x b (h x at.0))
    ∙ ap (λ (v : Columns Column). carried from (row_at old x b) △ v) (same_row from rename old new y b (h y at.1))
    ∙ sym (carried_sum from (row_at old x b) (row_at old y b))
same_gate_row from to is rename w n p f next old new (gate.Not x) at own h b = same_row from rename old new x b (h x at)
same_gate_row from to is rename w n p f next old new (gate.Mask c x) at own h b =
    if_carried from (bit_at c b == 1) (row_at new (rename x) b) empty (row_at old x b) empty
    (same_row from rename old new x b (h x at.1)) (sym (carried_empty from))
same_gate_row from to is rename w n p f next old new (gate.And x y) at own h b = product_carried from p b
same_gate_row from to is rename w n p f next old new (gate.Shl m x) at own h b =
    if_carried from (nat_lt b m) empty (row_at new (rename x) (b - m)) empty (row_at old x (b - m))
    (sym (carried_empty from)) (same_row from rename old new x (b - m) (h x at.2))
same_gate_row from to is rename w n p f next old new (gate.Shr m x) at own h b = same_row from rename old new x (b + m) (h x at.2)
same_gate_row from to is rename w n p f next old new (gate.Rotl m x) at own h b =
    same_row from rename old new x ((b + (w - m)) % w) (h x at.2)
same_gate_row from to is rename w n p f next old new (gate.Refresh x) at own h b = refresh_carried from to is f next b (own refl)

-- the rows of an equation that stands for itself
pub same_gate_rows : (from : ℕ → Origin) (to : Origin → Option ℕ) → IsNaming from to → (rename : Reg → Reg) (w n p q f next : ℕ)
    (old new : RegisterRows) (g : Gate) → IsEquation w n g → IsOwn from f next g → q ≡ p
    → ((r : Reg) → r.0 < n → rows_at new (rename r) ≡ map (carried from) (rows_at old r))
    → gate_rows w q next new (renumbered rename g) ≡ map (carried from) (gate_rows w p f old g)
same_gate_rows from to is rename w n p q f next old new g at own e h =
    ap (λ (x : ℕ). gate_rows w x next new (renumbered rename g)) e
    ∙ map_same (gate_row w p f old g) (carried from) (gate_row w p next new (renumbered rename g)) (bits w)
    (same_gate_row from to is rename w n p f next old new g at own h)

pub gate_rows_wide : (w p f : ℕ) (rs : RegisterRows) (g : Gate) → length (gate_rows w p f rs g) ≡ w
gate_rows_wide w p f rs g = length-map (bits w) (gate_row w p f rs g) ∙ length-bits w

-- ---- the numbers of refreshes

one_refresh : (g : Gate) → refreshes_of (g ∷ []) ≤ 1
one_refresh (gate.Const c) = omega arith
one_refresh (gate.Xor a b) = omega arith
one_refresh (gate.Not a) = omega arith
one_refresh (gate.Mask c a) = omega arith
one_refresh (gate.And a b) = omega arith
one_refresh (gate.Shl m a) = omega arith
one_refresh (gate.Shr m a) = omega arith
one_refresh (gate.Rotl m a) = omega arith
one_refresh (gate.Refresh a) = omega arith

plus_more : (f : ℕ) (o : Origin) → was_plus f (was_more o) ≡ was_plus (f + 1) o
plus_more f (was i) = let e : f + suc i ≡ f + 1 + i = omega arith in ap was e
plus_more f (before k) = refl

named_itself : (from : ℕ → Origin) (takes : Bool) (r k f next : ℕ) (rest : ℕ → Origin) → takes ≡ false → r ≤ 1
    → ((j : ℕ) → from (next + j) ≡ was_plus f (origin_step takes r k rest j)) → (j : ℕ) → from (next + r + j) ≡ was_plus (f + r) (rest j)
named_itself from true r k f next rest e few h j = absurd (true≢false e)
  where
    true≢false : true ≡ false → ⊥
    true≢false e = cc
named_itself from false zero k f next rest e few h j =
    let same : next + 0 + j ≡ next + j = omega arith in
    let none : f ≡ f + 0 = omega arith in
    ap from same ∙ h j ∙ ap (λ (x : ℕ). was_plus x (rest j)) none
named_itself from false (suc zero) k f next rest e few h j =
    let same : next + 1 + j ≡ next + suc j = omega arith in
    ap from same ∙ h (suc j) ∙ plus_more f (rest j)
named_itself from false (suc (suc r)) k f next rest e few h j = absurd (omega arith)

-- the refreshes behind an equation that stands for itself
pub named_more : (from : ℕ → Origin) (set : ℕ → Bool) (k f next : ℕ) (g : Gate) (gs : List Gate) → takes_refresh set k g ≡ false
    → IsNamedFrom from set k f next (g ∷ gs)
    → IsNamedFrom from set (k + products_of (g ∷ [])) (f + refreshes_of (g ∷ [])) (next + refreshes_of (g ∷ [])) gs
named_more from set k f next g gs e h =
    named_itself from (takes_refresh set k g) (refreshes_of (g ∷ [])) k f next (origin set (k + products_of (g ∷ [])) gs) e (one_refresh g) h

own_itself : (from : ℕ → Origin) (takes : Bool) (r k f next : ℕ) (rest : ℕ → Origin) → takes ≡ false → r ≡ 1
    → ((j : ℕ) → from (next + j) ≡ was_plus f (origin_step takes r k rest j)) → from next ≡ was f
own_itself from takes r k f next rest e one h =
    let same : next ≡ next + 0 = omega arith in
    let none : f + 0 ≡ f = omega arith in
    ap from same ∙ h 0
    ∙ ap (λ (b : Bool). was_plus f (origin_step b r k rest 0)) e
    ∙ ap (λ (x : ℕ). was_plus f (origin_step false x k rest 0)) one
    ∙ ap was none

-- its own refresh
pub own_refresh : (from : ℕ → Origin) (set : ℕ → Bool) (k f next : ℕ) (g : Gate) (gs : List Gate) → takes_refresh set k g ≡ false
    → IsNamedFrom from set k f next (g ∷ gs) → IsOwn from f next g
own_refresh from set k f next g gs e h one =
    own_itself from (takes_refresh set k g) (refreshes_of (g ∷ [])) k f next (origin set (k + products_of (g ∷ [])) gs) e one h

-- the refresh that is added before a product
pub added_refresh : (from : ℕ → Origin) (set : ℕ → Bool) (k f next : ℕ) (a b : Reg) (gs : List Gate) → set k ≡ true
    → IsNamedFrom from set k f next (gate.And a b ∷ gs) → from next ≡ before k
added_refresh from set k f next a b gs e h =
    let same : next ≡ next + 0 = omega arith in
    ap from same ∙ h 0 ∙ ap (λ (x : Bool). was_plus f (origin_step x 0 k (origin set (k + 1) gs) 0)) e

-- the refreshes behind it
pub named_added : (from : ℕ → Origin) (set : ℕ → Bool) (k f next : ℕ) (a b : Reg) (gs : List Gate) → set k ≡ true
    → IsNamedFrom from set k f next (gate.And a b ∷ gs) → IsNamedFrom from set (k + 1) (f + 0) (next + 1 + 0) gs
named_added from set k f next a b gs e h j =
    let same : next + 1 + 0 + j ≡ next + suc j = omega arith in
    let none : f ≡ f + 0 = omega arith in
    ap from same ∙ h (suc j) ∙ ap (λ (x : Bool). was_plus f (origin_step x 0 k (origin set (k + 1) gs) (suc j))) e
    ∙ ap (λ (x : ℕ). was_plus x (origin set (k + 1) gs j)) none
