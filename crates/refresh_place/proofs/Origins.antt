-- Which refresh of a refreshed core is which: one that the core had, or the one that was added before a product.
use Rattle.std.proofs.Common.{◌≡◌, ℕ, zero, suc, ◌+◌, ◌≤◌, ◌==◌, Bool, true, false, cond, List, [], ◌∷◌, Option, None, Some, option_map, refl, sym, ap, ◌∙◌, subst, arith, if◌then◌else◌}
use Rattle.std.proofs.lemmas.Bool.{eqb-true, eq-eqb, ne_eqb}
use Rattle.usuba0.specs.declared.circuit.Gate.{Gate}
use Rattle.usuba0.specs.declared.circuit.Gate.TheVariants as gate
use Rattle.usuba0.specs.Circuit.{products_of, refreshes_of}
use Rattle.core_refresh.specs.RefreshedCore.{takes_refresh}

-- a refresh of a refreshed core: the refresh of this number of the core, or the one added before product k
pub data Origin : Type 0 where
  was : ℕ → Origin
  before : ℕ → Origin

-- counted from one refresh of the core later
abbrev pub was_more : Origin → Origin
was_more (was i) = was (suc i)
was_more (before k) = before k

-- counted from so many refreshes of the core later
abbrev pub was_plus : ℕ → Origin → Origin
was_plus f (was i) = was (f + i)
was_plus f (before k) = before k

-- where the refresh of this number comes from, by an equation and by what follows it
abbrev pub origin_step : (takes : Bool) (refreshes k : ℕ) → (ℕ → Origin) → ℕ → Origin
origin_step true r k rest zero = before k
origin_step true r k rest (suc j) = rest j
origin_step false zero k rest j = rest j
origin_step false (suc r) k rest zero = was 0
origin_step false (suc r) k rest (suc j) = was_more (rest j)

-- where the refresh of this number comes from, along the equations; behind them the count of the core's refreshes goes on
abbrev pub origin : (ℕ → Bool) → ℕ → List Gate → ℕ → Origin
origin set k [] j = was j
origin set k (g ∷ gs) j = origin_step (takes_refresh set k g) (refreshes_of (g ∷ [])) k (origin set (k + products_of (g ∷ [])) gs) j

-- the number of the refresh that comes from there
abbrev pub place_step : (takes : Bool) (refreshes k : ℕ) → (Origin → Option ℕ) → Origin → Option ℕ
place_step true r k rest (was i) = option_map suc (rest (was i))
place_step true r k rest (before m) = if m == k then Some 0 else option_map suc (rest (before m))
place_step false zero k rest o = rest o
place_step false (suc r) k rest (was zero) = Some 0
place_step false (suc r) k rest (was (suc i)) = option_map suc (rest (was i))
place_step false (suc r) k rest (before m) = option_map suc (rest (before m))

-- likewise along the equations
abbrev pub place : (ℕ → Bool) → ℕ → List Gate → Origin → Option ℕ
place set k [] (was i) = Some i
place set k [] (before m) = None
place set k (g ∷ gs) o = place_step (takes_refresh set k g) (refreshes_of (g ∷ [])) k (place set (k + products_of (g ∷ [])) gs) o

-- the two are each other's inverse
pub record IsNaming (from : ℕ → Origin) (to : Origin → Option ℕ) : Type 0 where
  pub there : (j : ℕ) (o : Origin) → from j ≡ o → to o ≡ Some j
  pub again : (o : Origin) (j : ℕ) → to o ≡ Some j → from j ≡ o
  pub total : (i : ℕ) → (j : ℕ) × (to (was i) ≡ Some j)

was_more_before : (o : Origin) (m : ℕ) → was_more o ≡ before m → o ≡ before m
was_more_before (was i) m e = absurd (differs e)
  where
    differs : was (suc i) ≡ before m → ⊥
    differs e = cc
was_more_before (before k) m e = e

same_before : (k m : ℕ) → before k ≡ before m → k ≡ m
same_before k m e = cc

apart : (i m : ℕ) → was i ≡ before m → ⊥
apart i m e = cc

late_step : (takes : Bool) (r k p : ℕ) (rest : ℕ → Origin) → ((j m : ℕ) → rest j ≡ before m → k + p ≤ m)
    → (j m : ℕ) → origin_step takes r k rest j ≡ before m → k ≤ m
late_step true r k p rest h zero m e = let same = same_before k m e in omega arith
late_step true r k p rest h (suc j) m e = let le = h j m e in omega arith
late_step false zero k p rest h j m e = let le = h j m e in omega arith
late_step false (suc r) k p rest h zero m e = absurd (apart 0 m e)
late_step false (suc r) k p rest h (suc j) m e = let le = h j m (was_more_before (rest j) m e) in omega arith

-- the refreshes that come along the equations are before their products
pub late : (set : ℕ → Bool) (k : ℕ) (gs : List Gate) (j m : ℕ) → origin set k gs j ≡ before m → k ≤ m
late set k [] j m e = absurd (apart j m e)
late set k (g ∷ gs) j m e =
    late_step (takes_refresh set k g) (refreshes_of (g ∷ [])) k (products_of (g ∷ [])) (origin set (k + products_of (g ∷ [])) gs)
    (late set (k + products_of (g ∷ [])) gs) j m e

-- an equation that takes a refresh is a product
takes_product : (set : ℕ → Bool) (k : ℕ) (g : Gate) → takes_refresh set k g ≡ true → products_of (g ∷ []) ≡ 1
takes_product set k (gate.Const c) e = cc
takes_product set k (gate.Xor a b) e = cc
takes_product set k (gate.Not a) e = cc
takes_product set k (gate.Mask c a) e = cc
takes_product set k (gate.And a b) e = refl
takes_product set k (gate.Shl m a) e = cc
takes_product set k (gate.Shr m a) e = cc
takes_product set k (gate.Rotl m a) e = cc
takes_product set k (gate.Refresh a) e = cc

place_true_before : (r k m : ℕ) (to : Origin → Option ℕ) (b : Bool) → (m == k) ≡ b
    → place_step true r k to (before m) ≡ cond b (Some 0) (option_map suc (to (before m)))
place_true_before r k m to b e = ap (λ (x : Bool). cond x (Some 0) (option_map suc (to (before m)))) e

there_true : (r k j : ℕ) (o : Origin) (to : Origin → Option ℕ) → ((m : ℕ) → o ≡ before m → k + 1 ≤ m) → to o ≡ Some j
    → place_step true r k to o ≡ Some (suc j)
there_true r k j (was i) to h e = ap (option_map suc) e
there_true r k j (before m) to h e =
    let below = h m refl in
    place_true_before r k m to false (ne_eqb m k (λ same. let x : m ≡ k = same in omega arith)) ∙ ap (option_map suc) e

there_more : (r k j : ℕ) (o : Origin) (to : Origin → Option ℕ) → to o ≡ Some j → place_step false (suc r) k to (was_more o) ≡ Some (suc j)
there_more r k j (was i) to e = ap (option_map suc) e
there_more r k j (before m) to e = ap (option_map suc) e

there_step : (takes : Bool) (r k : ℕ) (from : ℕ → Origin) (to : Origin → Option ℕ)
    → (takes ≡ true → (j m : ℕ) → from j ≡ before m → k + 1 ≤ m) → ((j : ℕ) (o : Origin) → from j ≡ o → to o ≡ Some j)
    → (j : ℕ) (o : Origin) → origin_step takes r k from j ≡ o → place_step takes r k to o ≡ Some j
there_step true r k from to late h zero o e =
    subst (λ (x : Origin). place_step true r k to x ≡ Some 0) e (place_true_before r k k to true (eq-eqb k k refl))
there_step true r k from to late h (suc j) o e = there_true r k j o to (λ m same. late refl j m (e ∙ same)) (h j o e)
there_step false zero k from to late h j o e = h j o e
there_step false (suc r) k from to late h zero o e = subst (λ (x : Origin). place_step false (suc r) k to x ≡ Some 0) e refl
there_step false (suc r) k from to late h (suc j) o e =
    subst (λ (x : Origin). place_step false (suc r) k to x ≡ Some (suc j)) e (there_more r k j (from j) to (h j (from j) refl))

-- a refresh has its number
pub there : (set : ℕ → Bool) (k : ℕ) (gs : List Gate) (j : ℕ) (o : Origin) → origin set k gs j ≡ o → place set k gs o ≡ Some j
there set k [] j o e = subst (λ (x : Origin). place set k [] x ≡ Some j) e refl
there set k (g ∷ gs) j o e =
    there_step (takes_refresh set k g) (refreshes_of (g ∷ [])) k (origin set (k + products_of (g ∷ [])) gs) (place set (k + products_of (g ∷ [])) gs)
    (λ takes i m same.
    let one = takes_product set k g takes in
    let le = late set (k + products_of (g ∷ [])) gs i m same in
    omega arith)
    (there set (k + products_of (g ∷ [])) gs) j o e

-- the number of a refresh that is not the first
one_less : (o : Option ℕ) (j : ℕ) → option_map suc o ≡ Some j → (i : ℕ) × (o ≡ Some i) × (suc i ≡ j)
one_less None j e = absurd (differs e)
  where
    differs : (let none : Option ℕ = None in none) ≡ Some j → ⊥
    differs e = cc
one_less (Some i) j e = (i, refl, some_same (suc i) j e)
  where
    some_same : (x y : ℕ) → Some x ≡ Some y → x ≡ y
    some_same x y e = cc

some_same : (x y : ℕ) → Some x ≡ Some y → x ≡ y
some_same x y e = cc

again_first : (r k j : ℕ) (from : ℕ → Origin) (to : Origin → Option ℕ) (m : ℕ) (b : Bool) → (m == k) ≡ b
    → ((o : Origin) (i : ℕ) → to o ≡ Some i → from i ≡ o) → cond b (Some 0) (option_map suc (to (before m))) ≡ Some j
    → origin_step true r k from j ≡ before m
again_first r k j from to m true is h e =
    subst (λ (x : ℕ). origin_step true r k from x ≡ before m) (some_same 0 j e) (ap before (sym (eqb-true m k is)))
again_first r k j from to m false is h e =
    let x = one_less (to (before m)) j e in
    subst (λ (y : ℕ). origin_step true r k from y ≡ before m) x.2 (h (before m) x.0 x.1)

again_step : (takes : Bool) (r k : ℕ) (from : ℕ → Origin) (to : Origin → Option ℕ) → ((o : Origin) (j : ℕ) → to o ≡ Some j → from j ≡ o)
    → (o : Origin) (j : ℕ) → place_step takes r k to o ≡ Some j → origin_step takes r k from j ≡ o
again_step true r k from to h (was i) j e =
    let x = one_less (to (was i)) j e in
    subst (λ (y : ℕ). origin_step true r k from y ≡ was i) x.2 (h (was i) x.0 x.1)
again_step true r k from to h (before m) j e = again_first r k j from to m (m == k) refl h e
again_step false zero k from to h o j e = h o j e
again_step false (suc r) k from to h (was zero) j e =
    subst (λ (y : ℕ). origin_step false (suc r) k from y ≡ was 0) (some_same 0 j e) refl
again_step false (suc r) k from to h (was (suc i)) j e =
    let x = one_less (to (was i)) j e in
    subst (λ (y : ℕ). origin_step false (suc r) k from y ≡ was (suc i)) x.2 (ap was_more (h (was i) x.0 x.1))
again_step false (suc r) k from to h (before m) j e =
    let x = one_less (to (before m)) j e in
    subst (λ (y : ℕ). origin_step false (suc r) k from y ≡ before m) x.2 (ap was_more (h (before m) x.0 x.1))

-- a number is that of the refresh it belongs to
pub again : (set : ℕ → Bool) (k : ℕ) (gs : List Gate) (o : Origin) (j : ℕ) → place set k gs o ≡ Some j → origin set k gs j ≡ o
again set k [] (was i) j e = ap was (sym (some_same i j e))
again set k [] (before m) j e = absurd (differs e)
  where
    differs : (let none : Option ℕ = None in none) ≡ Some j → ⊥
    differs e = cc
again set k (g ∷ gs) o j e =
    again_step (takes_refresh set k g) (refreshes_of (g ∷ [])) k (origin set (k + products_of (g ∷ [])) gs) (place set (k + products_of (g ∷ [])) gs)
    (again set (k + products_of (g ∷ [])) gs) o j e

total_step : (takes : Bool) (r k : ℕ) (to : Origin → Option ℕ) → ((i : ℕ) → (j : ℕ) × (to (was i) ≡ Some j))
    → (i : ℕ) → (j : ℕ) × (place_step takes r k to (was i) ≡ Some j)
total_step true r k to h i = let x = h i in (suc x.0, ap (option_map suc) x.1)
total_step false zero k to h i = h i
total_step false (suc r) k to h zero = (0, refl)
total_step false (suc r) k to h (suc i) = let x = h i in (suc x.0, ap (option_map suc) x.1)

-- each refresh of the core has a number
pub total : (set : ℕ → Bool) (k : ℕ) (gs : List Gate) (i : ℕ) → (j : ℕ) × (place set k gs (was i) ≡ Some j)
total set k [] i = (i, refl)
total set k (g ∷ gs) i =
    total_step (takes_refresh set k g) (refreshes_of (g ∷ [])) k (place set (k + products_of (g ∷ [])) gs) (total set (k + products_of (g ∷ [])) gs) i

-- so the two are each other's inverse
pub naming : (set : ℕ → Bool) (gs : List Gate) → IsNaming (origin set 0 gs) (place set 0 gs)
naming set gs = record { there = there set 0 gs; again = again set 0 gs; total = total set 0 gs }

-- from a point of the equations on, after f refreshes of the core and `next` of the refreshed core, the refreshes come from there
abbrev pub IsNamedFrom : (from : ℕ → Origin) (set : ℕ → Bool) (k f next : ℕ) → List Gate → Type 0
IsNamedFrom from set k f next gs = (j : ℕ) → from (next + j) ≡ was_plus f (origin set k gs j)
