-- The products of a refreshed core are refreshed products under other names.
use Rattle.std.proofs.Common.{◌≡◌, ℕ, zero, suc, ◌+◌, ◌<◌, Bool, true, false, cond, List, [], ◌∷◌, ◌++◌, length, map, flat_map, get_or, Option, refl, sym, ap, ◌∙◌, subst, arith}
use Rattle.std.specs.List.{range_with_len}
use Rattle.std.proofs.lemmas.List.{get_or_append_left, get_or_push, length_push, length-map}
use Rattle.span_model.specs.Columns.{Columns}
use Rattle.span_model.specs.Attack as attack
use Rattle.span_model.specs.Refresh.{RefreshedColumn, kept_name, added_column, added_rows, refreshed_from, refreshed}
use Rattle.span_model.specs.Refresh as refresh
use Rattle.span_model.specs.Renaming.{named_in, renamed_product}
use Rattle.usuba0.specs.declared.circuit.Gate.{Gate}
use Rattle.usuba0.specs.declared.circuit.Gate.TheVariants as gate
use Rattle.usuba0.specs.declared.circuit.Reg.{Reg}
use Rattle.usuba0.specs.Circuit.{Circuit, AreEquations, products_of, refreshes_of}
use Rattle.linear_view.specs.declared.column.Column.{Column}
use Rattle.linear_view.specs.declared.column.ColumnKind.TheVariants as column
use Rattle.linear_view.specs.Names.{bits}
use Rattle.linear_view.specs.Rows.{Rows, RegisterRows, rows_at, own_row, gate_rows, input_rows, rows_after, core_rows, gate_product}
use Rattle.core_refresh.specs.RefreshedCore.{takes_refresh, new_register, renumbered, refreshed_product, refreshed_gate, refreshed_equations, refreshed_core}
use Rattle.core_refresh.specs.State.Copying.{IsNumbering}
use Rattle.core_refresh.proofs.Numbering.{one_if, IsOfKind, product, plain, kind_of, numbering_more, numbering_start, new_of_input}
use Rattle.core_refresh.proofs.Sizes.{renumbered_products, renumbered_refreshes}
use Rattle.refresh_place.specs.RefreshedAttacks.{RefreshedCoresAreRefreshed}
use Rattle.refresh_place.proofs.Origins.{Origin, was, before, was_plus, origin, place, naming, IsNaming, IsNamedFrom}
use Rattle.refresh_place.proofs.ColumnNames.{name, back, carried, input_carried, product_carried, added_named, back_kept, back_added}
use Rattle.refresh_place.proofs.RefreshedRows.{StandsFor, itself, a_refresh, stands_for, map_same, length-bits, AreSameRows, rows_more, rows_next, same_gate_rows, gate_rows_wide, named_more, own_refresh, added_refresh, named_added}

-- ---- the rows of all registers

-- a register's rows have w bits, and are those of the refreshed core under its new number
abbrev pub IsCarried : (from : ℕ → Origin) (rename : Reg → Reg) (w : ℕ) (old new : RegisterRows) → Reg → Type 0
IsCarried from rename w old new r = (length (rows_at old r) ≡ w) × (rows_at new (rename r) ≡ map (carried from) (rows_at old r))

-- so it is with a register wherever equations begin that make it, or come after it
abbrev pub CarriedBy : (from : ℕ → Origin) (rename : Reg → Reg) (set : ℕ → Bool) (w : ℕ) → List Gate → Reg → Type 0
CarriedBy from rename set w gs r =
    (k n next p q f j : ℕ) (old new : RegisterRows) → IsNumbering rename set k n next gs → AreEquations w n gs
    → AreSameRows from rename w n next old new → p ≡ k → q ≡ k → IsNamedFrom from set k f j gs → r.0 < n + length gs
    → IsCarried from rename w (rows_after w p f old gs) (rows_after w q j new (refreshed_equations rename set k next gs)) r

carried_step : (from : ℕ → Origin) (to : Origin → Option ℕ) → IsNaming from to → (rename : Reg → Reg) (set : ℕ → Bool) (w : ℕ) (g : Gate) (gs : List Gate) (r : Reg)
    → CarriedBy from rename set w gs r
    → (k n next p q f j : ℕ) (old new : RegisterRows) → StandsFor rename set k next g → IsNumbering rename set k n next (g ∷ gs) → AreEquations w n (g ∷ gs)
    → AreSameRows from rename w n next old new → p ≡ k → q ≡ k → IsNamedFrom from set k f j (g ∷ gs) → r.0 < n + length (g ∷ gs)
    → IsCarried from rename w (rows_after w p f old (g ∷ gs)) (rows_after w q j new (refreshed_equations rename set k next (g ∷ gs))) r
carried_step from to is rename set w g gs r rest k n next p q f j old new (itself x none stands) numbering at same e1 e2 named h =
    let With : List Gate → Type 0 = λ here.
    IsNumbering rename set (k + products_of (x ∷ [])) (suc n) (next + length here) gs
    → IsCarried from rename w (rows_after w p f old (x ∷ gs))
    (rows_after w q j new (here ++ refreshed_equations rename set (k + products_of (x ∷ [])) (next + length here) gs)) r in
    let first = numbering.later 0 (omega arith) in
    let zero_refreshes : one_if (takes_refresh set k x) ≡ 0 = ap one_if none in
    let own : (rename (record { 0 = n + 0 })).0 ≡ next + 0 = omega arith in
    let more : AreSameRows from rename w (suc n) (next + 1) (old ++ gate_rows w p f old x ∷ []) (new ++ gate_rows w q j new (renumbered rename x) ∷ []) =
    rows_next from rename w n next old new (gate_rows w q j new (renumbered rename x)) (gate_rows w p f old x) same numbering.earlier own
    (gate_rows_wide w p f old x)
    (same_gate_rows from to is rename w n p q f j old new x at.0 (own_refresh from set k f j x gs none named) (e2 ∙ sym e1) same.same) in
    let with : With (renumbered rename x ∷ []) = λ tail.
    rest (k + products_of (x ∷ [])) (suc n) (next + 1) (p + products_of (x ∷ [])) (q + products_of (renumbered rename x ∷ []))
    (f + refreshes_of (x ∷ [])) (j + refreshes_of (renumbered rename x ∷ [])) _ _ tail at.1 more
    (ap (λ (y : ℕ). y + products_of (x ∷ [])) e1)
    (ap (λ (y : ℕ). y + products_of (renumbered rename x ∷ [])) e2 ∙ ap (λ (y : ℕ). k + y) (renumbered_products rename x))
    (subst (λ (y : ℕ). IsNamedFrom from set (k + products_of (x ∷ [])) (f + refreshes_of (x ∷ [])) (j + y) gs) (sym (renumbered_refreshes rename x))
    (named_more from set k f j x gs none named)) (omega arith) in
    subst With (sym stands) with (numbering_more rename set k n next x gs numbering)
carried_step from to is rename set w g gs r rest k n next p q f j old new (a_refresh a b mark) numbering at same e1 e2 named h =
    let With : List Gate → Type 0 = λ here.
    IsNumbering rename set (k + products_of (gate.And a b ∷ [])) (suc n) (next + length here) gs
    → IsCarried from rename w (rows_after w p f old (gate.And a b ∷ gs))
    (rows_after w q j new (here ++ refreshed_equations rename set (k + products_of (gate.And a b ∷ [])) (next + length here) gs)) r in
    let first = numbering.later 0 (omega arith) in
    let one : one_if (set k) ≡ 1 = ap one_if mark in
    let own : (rename (record { 0 = n + 0 })).0 ≡ next + 1 = omega arith in
    let fresh = gate_rows w q j new (gate.Refresh (rename a)) in
    let new1 = new ++ fresh ∷ [] in
    let made = gate_rows w (q + 0) (j + 1) new1 (gate.And (record { 0 = next }) (rename b)) in
    let counted : q + 0 ≡ p = omega arith in
    let same_made : made ≡ map (carried from) (gate_rows w p f old (gate.And a b)) =
    map_same (own_row column.Product p) (carried from) (own_row column.Product (q + 0)) (bits w)
    (λ bit. ap (λ (y : ℕ). own_row column.Product y bit) counted ∙ product_carried from p bit) in
    let more : AreSameRows from rename w (suc n) (next + 2) (old ++ gate_rows w p f old (gate.And a b) ∷ []) (new1 ++ made ∷ []) =
    rows_more from rename w n next old new made (gate_rows w p f old (gate.And a b)) (fresh ∷ []) same numbering.earlier own
    (gate_rows_wide w p f old (gate.And a b)) same_made in
    let with : With (refreshed_product next (rename a) (rename b)) = λ tail.
    rest (k + 1) (suc n) (next + 2) (p + 1) (q + 0 + 1) (f + 0) (j + 1 + 0) _ _ tail at.1 more
    (omega arith) (omega arith) (named_added from set k f j a b gs mark named) (omega arith) in
    let stands : refreshed_gate rename set k next (gate.And a b) ≡ refreshed_product next (rename a) (rename b) =
    ap (λ (x : Bool). cond x (refreshed_product next (rename a) (rename b)) (gate.And (rename a) (rename b) ∷ [])) mark in
    subst With (sym stands) with (numbering_more rename set k n next (gate.And a b) gs numbering)

-- so it is with the registers of all the equations
pub all_carried : (from : ℕ → Origin) (to : Origin → Option ℕ) → IsNaming from to → (rename : Reg → Reg) (set : ℕ → Bool)
    → (w : ℕ) (gs : List Gate) (r : Reg) → CarriedBy from rename set w gs r
all_carried from to is rename set w [] r k n next p q f j old new numbering at same e1 e2 named h =
    let below : r.0 < n = omega arith in (same.wide r below, same.same r below)
all_carried from to is rename set w (g ∷ gs) r k n next p q f j old new numbering at same e1 e2 named h =
    carried_step from to is rename set w g gs r (all_carried from to is rename set w gs r) k n next p q f j old new (stands_for rename set k next g) numbering at same e1 e2 named h

-- the registers so far keep their rows
pub rows_kept : (w p f : ℕ) (rs : RegisterRows) (gs : List Gate) (r : Reg) → r.0 < length rs → rows_at (rows_after w p f rs gs) r ≡ rows_at rs r
rows_kept w p f rs [] r h = refl
rows_kept w p f rs (g ∷ gs) r h =
    let many = length_push rs (gate_rows w p f rs g) in
    rows_kept w (p + products_of (g ∷ [])) (f + refreshes_of (g ∷ [])) (rs ++ gate_rows w p f rs g ∷ []) gs r (omega arith)
    ∙ get_or_append_left rs (gate_rows w p f rs g ∷ []) [] r.0 h

-- ---- the products

-- the rows of an added refresh are the columns that are added
pub added_there : (from : ℕ → Origin) (to : Origin → Option ℕ) → IsNaming from to → (k j : ℕ) → from j ≡ before k → (i : ℕ) (rows : Rows)
    → map (named_in (name from)) (added_rows k i rows) ≡ map (own_row column.Refresh j) (range_with_len i (length rows))
added_there from to is k j e i [] = refl
added_there from to is k j e i (v ∷ rows) =
    let next : suc i ≡ i + 1 = omega arith in
    ap (λ (x : Columns Column). x ∷ map (named_in (name from)) (added_rows k (suc i) rows)) (sym (added_named from to is k j i e))
    ∙ ap (λ (l : Rows). own_row column.Refresh j i ∷ l)
    (added_there from to is k j e (suc i) rows ∙ ap (λ (x : ℕ). map (own_row column.Refresh j) (range_with_len x (length rows))) next)

pub added_again : (from : ℕ → Origin) (to : Origin → Option ℕ) → IsNaming from to → (k j : ℕ) → from j ≡ before k → (i : ℕ) (rows : Rows)
    → map (named_in (back to)) (map (own_row column.Refresh j) (range_with_len i (length rows))) ≡ added_rows k i rows
added_again from to is k j e i [] = refl
added_again from to is k j e i (v ∷ rows) =
    let next : i + 1 ≡ suc i = omega arith in
    ap (λ (x : Columns (RefreshedColumn Column)). x ∷ map (named_in (back to)) (map (own_row column.Refresh j) (range_with_len (i + 1) (length rows)))) (back_added from to is k j i e)
    ∙ ap (λ (l : List (Columns (RefreshedColumn Column))). added_column k i ∷ l)
    (ap (λ (x : ℕ). map (named_in (back to)) (map (own_row column.Refresh j) (range_with_len x (length rows)))) next ∙ added_again from to is k j e (suc i) rows)

-- a product by its two sides
abbrev sides : {C : Type 0} → (left right : List (Columns C)) → attack.Product C
sides left right = record { left = left; right = right }

-- rows of the core, there and back
pub rows_there : (from : ℕ → Origin) (rows new : Rows) → new ≡ map (carried from) rows
    → map (named_in (name from)) (map (named_in kept_name) rows) ≡ new
rows_there from rows new e = sym (map_same (named_in kept_name) (named_in (name from)) (carried from) rows (λ v. refl)) ∙ sym e

pub rows_back : (from : ℕ → Origin) (to : Origin → Option ℕ) → IsNaming from to → (rows new : Rows) → new ≡ map (carried from) rows
    → map (named_in (back to)) new ≡ map (named_in kept_name) rows
rows_back from to is rows new e =
    ap (map (named_in (back to))) e
    ∙ sym (map_same (carried from) (named_in (back to)) (named_in kept_name) rows (λ v. sym (back_kept from to is v)))

-- the products of the refreshed core are refreshed products, and the other way round
abbrev AreOthers : (from : ℕ → Origin) (to : Origin → Option ℕ) (set : ℕ → Bool) (k : ℕ) → List (attack.Product Column) → List (attack.Product Column) → Type 0
AreOthers from to set k products others =
    (map (renamed_product (name from)) (refreshed_from k set products) ≡ others)
    × (map (renamed_product (back to)) others ≡ refreshed_from k set products)

others_more : (from : ℕ → Origin) (to : Origin → Option ℕ) (set : ℕ → Bool) (k : ℕ) (one other : attack.Product Column) (products others : List (attack.Product Column))
    → renamed_product (name from) (refresh.refreshed_product (set k) k one) ≡ other
    → renamed_product (back to) other ≡ refresh.refreshed_product (set k) k one
    → AreOthers from to set (k + 1) products others → AreOthers from to set k (one ∷ products) (other ∷ others)
others_more from to set k one other products others e h rest =
    let next : k + 1 ≡ suc k = omega arith in
    let tail : AreOthers from to set (suc k) products others = subst (λ (x : ℕ). AreOthers from to set x products others) next rest in (
      ap (λ (p : attack.Product Column). p ∷ map (renamed_product (name from)) (refreshed_from (suc k) set products)) e
          ∙ ap (λ (l : List (attack.Product Column)). other ∷ l) tail.0,
      ap (λ (p : attack.Product (RefreshedColumn Column)). p ∷ map (renamed_product (back to)) others) h
          ∙ ap (λ (l : List (attack.Product (RefreshedColumn Column))). refresh.refreshed_product (set k) k one ∷ l) tail.1,
    )

-- a product that is not refreshed
plain_there : (from : ℕ → Origin) (k : ℕ) (left right new_left new_right : Rows) (mark : Bool) → mark ≡ false
    → new_left ≡ map (carried from) left → new_right ≡ map (carried from) right
    → renamed_product (name from) (refresh.refreshed_product mark k (sides left right)) ≡ sides new_left new_right
plain_there from k left right new_left new_right mark e l r =
    ap (λ (b : Bool). renamed_product (name from) (refresh.refreshed_product b k (sides left right))) e
    ∙ ap (λ (x : Rows). sides x (map (named_in (name from)) (map (named_in kept_name) right))) (rows_there from left new_left l)
    ∙ ap (λ (x : Rows). sides new_left x) (rows_there from right new_right r)

plain_back : (from : ℕ → Origin) (to : Origin → Option ℕ) → IsNaming from to → (k : ℕ) (left right new_left new_right : Rows) (mark : Bool) → mark ≡ false
    → new_left ≡ map (carried from) left → new_right ≡ map (carried from) right
    → renamed_product (back to) (sides new_left new_right) ≡ refresh.refreshed_product mark k (sides left right)
plain_back from to is k left right new_left new_right mark e l r =
    ap (λ (x : List (Columns (RefreshedColumn Column))). sides x (map (named_in (back to)) new_right)) (rows_back from to is left new_left l)
    ∙ ap (λ (x : List (Columns (RefreshedColumn Column))). sides (map (named_in kept_name) left) x) (rows_back from to is right new_right r)
    ∙ ap (λ (b : Bool). refresh.refreshed_product b k (sides left right)) (sym e)

-- a product that is refreshed
fresh_there : (from : ℕ → Origin) (to : Origin → Option ℕ) → IsNaming from to → (k j w : ℕ) (left right new_left new_right : Rows) (mark : Bool) → mark ≡ true
    → from j ≡ before k → length left ≡ w → new_left ≡ map (own_row column.Refresh j) (bits w) → new_right ≡ map (carried from) right
    → renamed_product (name from) (refresh.refreshed_product mark k (sides left right)) ≡ sides new_left new_right
fresh_there from to is k j w left right new_left new_right mark e named wide l r =
    ap (λ (b : Bool). renamed_product (name from) (refresh.refreshed_product b k (sides left right))) e
    ∙ ap (λ (x : Rows). sides x (map (named_in (name from)) (map (named_in kept_name) right)))
    (added_there from to is k j named 0 left ∙ ap (λ (n : ℕ). map (own_row column.Refresh j) (bits n)) wide ∙ sym l)
    ∙ ap (λ (x : Rows). sides new_left x) (rows_there from right new_right r)

fresh_back : (from : ℕ → Origin) (to : Origin → Option ℕ) → IsNaming from to → (k j w : ℕ) (left right new_left new_right : Rows) (mark : Bool) → mark ≡ true
    → from j ≡ before k → length left ≡ w → new_left ≡ map (own_row column.Refresh j) (bits w) → new_right ≡ map (carried from) right
    → renamed_product (back to) (sides new_left new_right) ≡ refresh.refreshed_product mark k (sides left right)
fresh_back from to is k j w left right new_left new_right mark e named wide l r =
    ap (λ (x : List (Columns (RefreshedColumn Column))). sides x (map (named_in (back to)) new_right))
    (ap (map (named_in (back to))) (l ∙ ap (λ (n : ℕ). map (own_row column.Refresh j) (bits n)) (sym wide)) ∙ added_again from to is k j named 0 left)
    ∙ ap (λ (x : List (Columns (RefreshedColumn Column))). sides (added_rows k 0 left) x) (rows_back from to is right new_right r)
    ∙ ap (λ (b : Bool). refresh.refreshed_product b k (sides left right)) (sym e)

-- an equation that is no product gives none
gives_none : (rs : RegisterRows) (g : Gate) → products_of (g ∷ []) ≡ 0 → gate_product rs g ≡ []
gives_none rs (gate.Const c) e = refl
gives_none rs (gate.Xor a b) e = refl
gives_none rs (gate.Not a) e = refl
gives_none rs (gate.Mask c a) e = refl
gives_none rs (gate.And a b) e = absurd (omega arith)
gives_none rs (gate.Shl m a) e = refl
gives_none rs (gate.Shr m a) e = refl
gives_none rs (gate.Rotl m a) e = refl
gives_none rs (gate.Refresh a) e = refl

-- the products of equations, wherever they begin, where the rows of all registers are given
abbrev pub OthersBy : (from : ℕ → Origin) (to : Origin → Option ℕ) (rename : Reg → Reg) (set : ℕ → Bool) (w many : ℕ) → List Gate → (old new : RegisterRows) → Type 0
OthersBy from to rename set w many gs old new =
    (k n next q f j : ℕ) (now : RegisterRows) → new ≡ rows_after w q j now (refreshed_equations rename set k next gs)
    → length now ≡ next → n + length gs ≡ many → AreEquations w n gs → IsNamedFrom from set k f j gs
    → AreOthers from to set k (flat_map (gate_product old) gs) (flat_map (gate_product new) (refreshed_equations rename set k next gs))

product_step : (from : ℕ → Origin) (to : Origin → Option ℕ) → IsNaming from to → (rename : Reg → Reg) (set : ℕ → Bool) (w many : ℕ) (gs : List Gate)
    → (old new : RegisterRows) → ((r : Reg) → r.0 < many → IsCarried from rename w old new r) → OthersBy from to rename set w many gs old new
    → (k n next q f j : ℕ) (now : RegisterRows) (a b : Reg) (mark : Bool) → set k ≡ mark
    → new ≡ rows_after w q j now (refreshed_equations rename set k next (gate.And a b ∷ gs))
    → length now ≡ next → n + length (gate.And a b ∷ gs) ≡ many → AreEquations w n (gate.And a b ∷ gs) → IsNamedFrom from set k f j (gate.And a b ∷ gs)
    → AreOthers from to set k (flat_map (gate_product old) (gate.And a b ∷ gs)) (flat_map (gate_product new) (refreshed_equations rename set k next (gate.And a b ∷ gs)))
product_step from to is rename set w many gs old new all rest k n next q f j now a b false mark rows count total at named =
    let With : List Gate → Type 0 = λ here.
    new ≡ rows_after w q j now (here ++ refreshed_equations rename set (k + products_of (gate.And a b ∷ [])) (next + length here) gs)
    → AreOthers from to set k (flat_map (gate_product old) (gate.And a b ∷ gs))
    (flat_map (gate_product new) (here ++ refreshed_equations rename set (k + products_of (gate.And a b ∷ [])) (next + length here) gs)) in
    let left = (all a (let h = at.0.0 in omega arith)).1 in
    let right = (all b (let h = at.0.1 in omega arith)).1 in
    let made = gate_rows w q j now (gate.And (rename a) (rename b)) in
    let more : length (now ++ made ∷ []) ≡ next + 1 = length_push now made ∙ ap (λ (x : ℕ). x + 1) count in
    let with : With (gate.And (rename a) (rename b) ∷ []) = λ tail.
    others_more from to set k _ _ _ _
    (plain_there from k (rows_at old a) (rows_at old b) (rows_at new (rename a)) (rows_at new (rename b)) (set k) mark left right)
    (plain_back from to is k (rows_at old a) (rows_at old b) (rows_at new (rename a)) (rows_at new (rename b)) (set k) mark left right)
    (rest (k + 1) (suc n) (next + 1) (q + 1) (f + 0) (j + 0) (now ++ made ∷ []) tail more (omega arith) at.1
    (named_more from set k f j (gate.And a b) gs mark named)) in
    let stands : refreshed_gate rename set k next (gate.And a b) ≡ gate.And (rename a) (rename b) ∷ [] =
    ap (λ (x : Bool). cond x (refreshed_product next (rename a) (rename b)) (gate.And (rename a) (rename b) ∷ [])) mark in
    subst With (sym stands) with rows
product_step from to is rename set w many gs old new all rest k n next q f j now a b true mark rows count total at named =
    let With : List Gate → Type 0 = λ here.
    new ≡ rows_after w q j now (here ++ refreshed_equations rename set (k + products_of (gate.And a b ∷ [])) (next + length here) gs)
    → AreOthers from to set k (flat_map (gate_product old) (gate.And a b ∷ gs))
    (flat_map (gate_product new) (here ++ refreshed_equations rename set (k + products_of (gate.And a b ∷ [])) (next + length here) gs)) in
    let carried_left = all a (let h = at.0.0 in omega arith) in
    let right = (all b (let h = at.0.1 in omega arith)).1 in
    let fresh = gate_rows w q j now (gate.Refresh (rename a)) in
    let now1 = now ++ fresh ∷ [] in
    let made = gate_rows w (q + 0) (j + 1) now1 (gate.And (record { 0 = next }) (rename b)) in
    let first : length now1 ≡ next + 1 = length_push now fresh ∙ ap (λ (x : ℕ). x + 1) count in
    let second : length (now1 ++ made ∷ []) ≡ next + 2 = let h = length_push now1 made in omega arith in
    let with : With (refreshed_product next (rename a) (rename b)) = λ tail.
    let own : rows_at new (record { 0 = next }) ≡ map (own_row column.Refresh j) (bits w) =
    ap (λ (l : RegisterRows). get_or l next []) tail
    ∙ rows_kept w (q + 0 + 1) (j + 1 + 0) (now1 ++ made ∷ []) (refreshed_equations rename set (k + 1) (next + 2) gs) (record { 0 = next }) (omega arith)
    ∙ get_or_append_left now1 (made ∷ []) [] next (omega arith)
    ∙ get_or_push now fresh [] next count in
    others_more from to set k _ _ _ _
    (fresh_there from to is k j w (rows_at old a) (rows_at old b) (rows_at new (record { 0 = next })) (rows_at new (rename b)) (set k) mark
    (added_refresh from set k f j a b gs mark named) carried_left.0 own right)
    (fresh_back from to is k j w (rows_at old a) (rows_at old b) (rows_at new (record { 0 = next })) (rows_at new (rename b)) (set k) mark
    (added_refresh from set k f j a b gs mark named) carried_left.0 own right)
    (rest (k + 1) (suc n) (next + 2) (q + 0 + 1) (f + 0) (j + 1 + 0) (now1 ++ made ∷ []) tail second (omega arith) at.1
    (named_added from set k f j a b gs mark named)) in
    let stands : refreshed_gate rename set k next (gate.And a b) ≡ refreshed_product next (rename a) (rename b) =
    ap (λ (x : Bool). cond x (refreshed_product next (rename a) (rename b)) (gate.And (rename a) (rename b) ∷ [])) mark in
    subst With (sym stands) with rows

others_step : (from : ℕ → Origin) (to : Origin → Option ℕ) → IsNaming from to → (rename : Reg → Reg) (set : ℕ → Bool) (w many : ℕ) (gs : List Gate)
    → (old new : RegisterRows) → ((r : Reg) → r.0 < many → IsCarried from rename w old new r) → OthersBy from to rename set w many gs old new
    → (k n next q f j : ℕ) (now : RegisterRows) (g : Gate) → IsOfKind g
    → new ≡ rows_after w q j now (refreshed_equations rename set k next (g ∷ gs))
    → length now ≡ next → n + length (g ∷ gs) ≡ many → AreEquations w n (g ∷ gs) → IsNamedFrom from set k f j (g ∷ gs)
    → AreOthers from to set k (flat_map (gate_product old) (g ∷ gs)) (flat_map (gate_product new) (refreshed_equations rename set k next (g ∷ gs)))
others_step from to is rename set w many gs old new all rest k n next q f j now g (product a b) rows count total at named =
    product_step from to is rename set w many gs old new all rest k n next q f j now a b (set k) refl rows count total at named
others_step from to is rename set w many gs old new all rest k n next q f j now g (plain x p) rows count total at named =
    let With : List Gate → Type 0 = λ here.
    new ≡ rows_after w q j now (here ++ refreshed_equations rename set (k + products_of (x ∷ [])) (next + length here) gs)
    → AreOthers from to set k (flat_map (gate_product old) (x ∷ gs))
    (flat_map (gate_product new) (here ++ refreshed_equations rename set (k + products_of (x ∷ [])) (next + length here) gs)) in
    let none = p.products in
    let made = gate_rows w q j now (renumbered rename x) in
    let more : length (now ++ made ∷ []) ≡ next + 1 = length_push now made ∙ ap (λ (y : ℕ). y + 1) count in
    let same_k : k + products_of (x ∷ []) ≡ k = omega arith in
    let none_made : products_of (renumbered rename x ∷ []) ≡ 0 = renumbered_products rename x ∙ none in
    let with : With (renumbered rename x ∷ []) = λ tail.
    let others : AreOthers from to set k (flat_map (gate_product old) gs) (flat_map (gate_product new) (refreshed_equations rename set (k + products_of (x ∷ [])) (next + 1) gs)) =
    subst (λ (y : ℕ). AreOthers from to set y (flat_map (gate_product old) gs) (flat_map (gate_product new) (refreshed_equations rename set (k + products_of (x ∷ [])) (next + 1) gs))) same_k
    (rest (k + products_of (x ∷ [])) (suc n) (next + 1) (q + products_of (renumbered rename x ∷ [])) (f + refreshes_of (x ∷ []))
    (j + refreshes_of (renumbered rename x ∷ [])) (now ++ made ∷ []) tail more (omega arith) at.1
    (subst (λ (y : ℕ). IsNamedFrom from set (k + products_of (x ∷ [])) (f + refreshes_of (x ∷ [])) (j + y) gs) (sym (renumbered_refreshes rename x))
    (named_more from set k f j x gs (p.takes set k) named))) in
    subst (λ (l : List (attack.Product Column)). AreOthers from to set k (l ++ flat_map (gate_product old) gs)
    (gate_product new (renumbered rename x) ++ flat_map (gate_product new) (refreshed_equations rename set (k + products_of (x ∷ [])) (next + 1) gs)))
    (sym (gives_none old x none))
    (subst (λ (l : List (attack.Product Column)). AreOthers from to set k (flat_map (gate_product old) gs)
    (l ++ flat_map (gate_product new) (refreshed_equations rename set (k + products_of (x ∷ [])) (next + 1) gs)))
    (sym (gives_none new (renumbered rename x) none_made)) others) in
    subst With (sym (p.stands rename set k next)) with rows

-- the products of all the equations
pub products_others : (from : ℕ → Origin) (to : Origin → Option ℕ) → IsNaming from to → (rename : Reg → Reg) (set : ℕ → Bool) (w many : ℕ) (gs : List Gate)
    → (old new : RegisterRows) → ((r : Reg) → r.0 < many → IsCarried from rename w old new r) → OthersBy from to rename set w many gs old new
products_others from to is rename set w many [] old new all k n next q f j now rows count total at named = (refl, refl)
products_others from to is rename set w many (g ∷ gs) old new all k n next q f j now rows count total at named =
    others_step from to is rename set w many gs old new all (products_others from to is rename set w many gs old new all) k n next q f j now g (kind_of g) rows count total at named

-- ---- a whole core

at_range : (f : ℕ → Rows) (a n i : ℕ) → i < n → get_or (map f (range_with_len a n)) i [] ≡ f (a + i)
at_range f a zero i h = absurd (omega arith)
at_range f a (suc n) zero h = let e : a ≡ a + 0 = omega arith in ap f e
at_range f a (suc n) (suc i) h =
    let e : a + 1 + i ≡ a + suc i = omega arith in
    at_range f (a + 1) n i (omega arith) ∙ ap f e

-- the rows of the inputs
inputs_same : (from : ℕ → Origin) (core : Circuit) (set : ℕ → Bool)
    → AreSameRows from (new_register core set) core.width core.inputs core.inputs
    (map (input_rows core.width) (range_with_len 0 core.inputs)) (map (input_rows core.width) (range_with_len 0 core.inputs))
inputs_same from core set =
    let w = core.width in
    let many : length (map (input_rows w) (range_with_len 0 core.inputs)) ≡ core.inputs = length-map (range_with_len 0 core.inputs) (input_rows w) ∙ length-bits core.inputs in
    let own : (r : Reg) → r.0 < core.inputs → rows_at (map (input_rows w) (range_with_len 0 core.inputs)) r ≡ input_rows w r.0 =
    λ r h. let e : 0 + r.0 ≡ r.0 = omega arith in at_range (input_rows w) 0 core.inputs r.0 h ∙ ap (input_rows w) e in
    record {
      old_count = many;
      new_count = many;
      wide = λ r h. ap length (own r h) ∙ length-map (bits w) (own_row column.Input r.0) ∙ length-bits w;
      same = λ r h.
          ap (λ (x : ℕ). get_or (map (input_rows w) (range_with_len 0 core.inputs)) x []) (new_of_input core set r h)
          ∙ own r h
          ∙ map_same (own_row column.Input r.0) (carried from) (own_row column.Input r.0) (bits w) (input_carried from r.0)
          ∙ sym (ap (map (carried from)) (own r h));
    }

from_start : (o : Origin) → o ≡ was_plus 0 o
from_start (was i) = let e : i ≡ 0 + i = omega arith in ap was e
from_start (before k) = refl

-- the refreshes are counted from the start
named_start : (set : ℕ → Bool) (gs : List Gate) → IsNamedFrom (origin set 0 gs) set 0 0 0 gs
named_start set gs j = let e : 0 + j ≡ j = omega arith in ap (origin set 0 gs) e ∙ from_start (origin set 0 gs j)

-- the law
pub refreshed_cores_are_refreshed : RefreshedCoresAreRefreshed
refreshed_cores_are_refreshed core set is =
    let from = origin set 0 core.equations in
    let to = place set 0 core.equations in
    let names = naming set core.equations in
    let rename = new_register core set in
    let inputs = map (input_rows core.width) (range_with_len 0 core.inputs) in
    let many : length inputs ≡ core.inputs = (inputs_same from core set).old_count in
    let all : (r : Reg) → r.0 < core.inputs + length core.equations → IsCarried from rename core.width (core_rows core) (core_rows (refreshed_core core set)) r =
    λ r h. all_carried from to names rename set core.width core.equations r 0 core.inputs core.inputs 0 0 0 0 inputs inputs
    (numbering_start core set) is.equations (inputs_same from core set) refl refl (named_start set core.equations) h in
    let both = products_others from to names rename set core.width (core.inputs + length core.equations) core.equations
    (core_rows core) (core_rows (refreshed_core core set)) all 0 core.inputs core.inputs 0 0 0 inputs refl many refl is.equations (named_start set core.equations) in
    record { name = name from; back = back to; there = both.0; again = both.1 }
