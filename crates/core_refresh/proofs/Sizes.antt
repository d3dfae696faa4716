-- A refreshed core is a core, and how many equations, products and refreshes it has.
use Rattle.std.proofs.Common.{◌≡◌, ℕ, suc, ◌+◌, ◌<◌, ◌≤◌, Bool, true, false, List, [], ◌∷◌, ◌++◌, length, map, get_or, All, ap, ◌∙◌, arith, subst, refl, length-append}
use Rattle.std.proofs.lemmas.List.{get_or-map, length-map}
use Rattle.usuba0.specs.declared.circuit.Gate.{Gate}
use Rattle.usuba0.specs.declared.circuit.Gate.TheVariants as gate
use Rattle.usuba0.specs.declared.circuit.Reg.{Reg}
use Rattle.usuba0.specs.Circuit.{Circuit, IsCore, IsEquation, AreEquations, registers, products_of, refreshes_of}
use Rattle.core_refresh.specs.RefreshedCore.{new_register, renumbered, refreshed_gate, refreshed_equations, refreshed_core}
use Rattle.core_refresh.specs.RefreshedLaws.{RefreshedCoreSize}
use Rattle.core_refresh.specs.State.Copying.{IsNumbering}
use Rattle.core_refresh.proofs.Numbering.{IsOfKind, product, plain, kind_of, numbering_more, numbering_start}

-- an equation with new numbers reads earlier registers only, where these numbers are below the next one
pub renumbered_fits : (w n next : ℕ) (new : Reg → Reg) (g : Gate) → ((r : Reg) → r.0 < n → (new r).0 < next)
    → IsEquation w n g → IsEquation w next (renumbered new g)
renumbered_fits w n next new (gate.Const c) h is = is
renumbered_fits w n next new (gate.Xor a b) h is = (h a is.0, h b is.1)
renumbered_fits w n next new (gate.Not a) h is = h a is
renumbered_fits w n next new (gate.Mask c a) h is = (is.0, h a is.1)
renumbered_fits w n next new (gate.And a b) h is = (h a is.0, h b is.1)
renumbered_fits w n next new (gate.Shl m a) h is = (is.0, is.1, h a is.2)
renumbered_fits w n next new (gate.Shr m a) h is = (is.0, is.1, h a is.2)
renumbered_fits w n next new (gate.Rotl m a) h is = (is.0, is.1, h a is.2)
renumbered_fits w n next new (gate.Refresh a) h is = h a is

-- equations and then others that go on with the registers
pub equations_append : (w n : ℕ) (xs ys : List Gate) → AreEquations w n xs → AreEquations w (n + length xs) ys → AreEquations w n (xs ++ ys)
equations_append w n [] ys h is = let e : n + 0 ≡ n = omega arith in subst (λ (m : ℕ). AreEquations w m ys) e is
equations_append w n (x ∷ xs) ys h is =
    let e : n + suc (length xs) ≡ suc n + length xs = omega arith in
    (h.0, equations_append w (suc n) xs ys h.1 (subst (λ (m : ℕ). AreEquations w m ys) e is))

product_fits : (w n next : ℕ) (new : Reg → Reg) (set : ℕ → Bool) (k : ℕ) (a b : Reg) (mark : Bool) → set k ≡ mark
    → ((r : Reg) → r.0 < n → (new r).0 < next) → IsEquation w n (gate.And a b)
    → AreEquations w next (refreshed_gate new set k next (gate.And a b))
product_fits w n next new set k a b true e h is =
    let first = h a is.0 in
    let second = h b is.1 in
    rw e (first, ((omega arith, omega arith), tt))
product_fits w n next new set k a b false e h is = rw e ((h a is.0, h b is.1), tt)

gate_fits_of : (w n next : ℕ) (new : Reg → Reg) (set : ℕ → Bool) (k : ℕ) (g : Gate) → IsOfKind g
    → ((r : Reg) → r.0 < n → (new r).0 < next) → IsEquation w n g → AreEquations w next (refreshed_gate new set k next g)
gate_fits_of w n next new set k g (product a b) h is = product_fits w n next new set k a b (set k) refl h is
gate_fits_of w n next new set k g (plain x p) h is = rw (p.stands new set k next) (renumbered_fits w n next new x h is, tt)

-- the equations that stand for one read earlier registers only
pub gate_fits : (w n next : ℕ) (new : Reg → Reg) (set : ℕ → Bool) (k : ℕ) (g : Gate)
    → ((r : Reg) → r.0 < n → (new r).0 < next) → IsEquation w n g → AreEquations w next (refreshed_gate new set k next g)
gate_fits w n next new set k g h is = gate_fits_of w n next new set k g (kind_of g) h is

-- so do all the equations
pub equations_fit : (w : ℕ) (new : Reg → Reg) (set : ℕ → Bool) (k n next : ℕ) (gs : List Gate) → IsNumbering new set k n next gs
    → AreEquations w n gs → AreEquations w next (refreshed_equations new set k next gs)
equations_fit w new set k n next [] is h = tt
equations_fit w new set k n next (g ∷ gs) is h =
    equations_append w next (refreshed_gate new set k next g) _ (gate_fits w n next new set k g is.earlier h.0)
    (equations_fit w new set (k + products_of (g ∷ [])) (suc n) (next + length (refreshed_gate new set k next g)) gs
    (numbering_more new set k n next g gs is) h.1)

-- each register has a new number that is one of the refreshed core's
pub registers_fit : (new : Reg → Reg) (set : ℕ → Bool) (k n next : ℕ) (gs : List Gate) → IsNumbering new set k n next gs
    → (r : Reg) → r.0 < n + length gs → (new r).0 < next + length (refreshed_equations new set k next gs)
registers_fit new set k n next [] is r h = let e = is.earlier r (omega arith) in omega arith
registers_fit new set k n next (g ∷ gs) is r h =
    let rest = refreshed_equations new set (k + products_of (g ∷ [])) (next + length (refreshed_gate new set k next g)) gs in
    let e = registers_fit new set (k + products_of (g ∷ [])) (suc n) (next + length (refreshed_gate new set k next g)) gs
    (numbering_more new set k n next g gs is) r (omega arith) in
    let many = length-append (refreshed_gate new set k next g) rest in
    omega (arith, many, e)

-- with new numbers for its outputs, each a register
pub outputs_fit : (new : Reg → Reg) (m n : ℕ) (rs : List Reg) → ((r : Reg) → r.0 < m → (new r).0 < n)
    → All (λ r. r.0 < m) rs → All (λ r. r.0 < n) (map new rs)
outputs_fit new m n rs h all k d below =
    let many : length (map new rs) ≡ length rs = length-map rs new in
    let inside : k < length rs = omega arith in
    rw (get_or-map new rs k (record { 0 = 0 }) d) (h (get_or rs k (record { 0 = 0 })) (all k (record { 0 = 0 }) inside))

-- a refreshed core is a core
pub refreshed_is_core : (core : Circuit) (set : ℕ → Bool) → IsCore core → IsCore (refreshed_core core set)
refreshed_is_core core set is =
    let start = numbering_start core set in
    record {
      some_width = is.some_width;
      width_fits = is.width_fits;
      some_input = is.some_input;
      some_output = let e = length-map core.outputs (new_register core set) in let h = is.some_output in omega arith;
      equations = equations_fit core.width (new_register core set) set 0 core.inputs core.inputs core.equations start is.equations;
      outputs = outputs_fit (new_register core set) (registers core) _ core.outputs
          (registers_fit (new_register core set) set 0 core.inputs core.inputs core.equations start) is.outputs;
    }

-- the products of one equation and then of others
pub products_more : (g : Gate) (gs : List Gate) → products_of (g ∷ gs) ≡ products_of (g ∷ []) + products_of gs
products_more (gate.Const c) gs = omega arith
products_more (gate.Xor a b) gs = omega arith
products_more (gate.Not a) gs = omega arith
products_more (gate.Mask c a) gs = omega arith
products_more (gate.And a b) gs = omega arith
products_more (gate.Shl m a) gs = omega arith
products_more (gate.Shr m a) gs = omega arith
products_more (gate.Rotl m a) gs = omega arith
products_more (gate.Refresh a) gs = omega arith

-- likewise the refreshes
pub refreshes_more : (g : Gate) (gs : List Gate) → refreshes_of (g ∷ gs) ≡ refreshes_of (g ∷ []) + refreshes_of gs
refreshes_more (gate.Const c) gs = omega arith
refreshes_more (gate.Xor a b) gs = omega arith
refreshes_more (gate.Not a) gs = omega arith
refreshes_more (gate.Mask c a) gs = omega arith
refreshes_more (gate.And a b) gs = omega arith
refreshes_more (gate.Shl m a) gs = omega arith
refreshes_more (gate.Shr m a) gs = omega arith
refreshes_more (gate.Rotl m a) gs = omega arith
refreshes_more (gate.Refresh a) gs = omega arith

-- the counts of two lists of equations together
pub products-append : (xs ys : List Gate) → products_of (xs ++ ys) ≡ products_of xs + products_of ys
products-append [] ys = omega arith
products-append (x ∷ xs) ys = let e = products-append xs ys in let h = products_more x (xs ++ ys) in let i = products_more x xs in omega arith

pub refreshes-append : (xs ys : List Gate) → refreshes_of (xs ++ ys) ≡ refreshes_of xs + refreshes_of ys
refreshes-append [] ys = omega arith
refreshes-append (x ∷ xs) ys = let e = refreshes-append xs ys in let h = refreshes_more x (xs ++ ys) in let i = refreshes_more x xs in omega arith

-- new numbers change no count
pub renumbered_products : (new : Reg → Reg) (g : Gate) → products_of (renumbered new g ∷ []) ≡ products_of (g ∷ [])
renumbered_products new (gate.Const c) = refl
renumbered_products new (gate.Xor a b) = refl
renumbered_products new (gate.Not a) = refl
renumbered_products new (gate.Mask c a) = refl
renumbered_products new (gate.And a b) = refl
renumbered_products new (gate.Shl m a) = refl
renumbered_products new (gate.Shr m a) = refl
renumbered_products new (gate.Rotl m a) = refl
renumbered_products new (gate.Refresh a) = refl

pub renumbered_refreshes : (new : Reg → Reg) (g : Gate) → refreshes_of (renumbered new g ∷ []) ≡ refreshes_of (g ∷ [])
renumbered_refreshes new (gate.Const c) = refl
renumbered_refreshes new (gate.Xor a b) = refl
renumbered_refreshes new (gate.Not a) = refl
renumbered_refreshes new (gate.Mask c a) = refl
renumbered_refreshes new (gate.And a b) = refl
renumbered_refreshes new (gate.Shl m a) = refl
renumbered_refreshes new (gate.Shr m a) = refl
renumbered_refreshes new (gate.Rotl m a) = refl
renumbered_refreshes new (gate.Refresh a) = refl

product_products : (new : Reg → Reg) (set : ℕ → Bool) (k next : ℕ) (a b : Reg) (mark : Bool) → set k ≡ mark
    → products_of (refreshed_gate new set k next (gate.And a b)) ≡ 1
product_products new set k next a b true e = rw e refl
product_products new set k next a b false e = rw e refl

gate_products_of : (new : Reg → Reg) (set : ℕ → Bool) (k next : ℕ) (g : Gate) → IsOfKind g
    → products_of (refreshed_gate new set k next g) ≡ products_of (g ∷ [])
gate_products_of new set k next g (product a b) = product_products new set k next a b (set k) refl
gate_products_of new set k next g (plain x p) = ap products_of (p.stands new set k next) ∙ renumbered_products new x

-- the equations that stand for one have as many products
pub gate_products : (new : Reg → Reg) (set : ℕ → Bool) (k next : ℕ) (g : Gate)
    → products_of (refreshed_gate new set k next g) ≡ products_of (g ∷ [])
gate_products new set k next g = gate_products_of new set k next g (kind_of g)

product_refreshes : (new : Reg → Reg) (set : ℕ → Bool) (k next : ℕ) (a b : Reg) (mark : Bool) → set k ≡ mark
    → refreshes_of (refreshed_gate new set k next (gate.And a b)) ≤ 1
product_refreshes new set k next a b true e = rw e (omega arith)
product_refreshes new set k next a b false e = rw e (omega arith)

gate_refreshes_of : (new : Reg → Reg) (set : ℕ → Bool) (k next : ℕ) (g : Gate) → IsOfKind g
    → refreshes_of (refreshed_gate new set k next g) ≤ refreshes_of (g ∷ []) + products_of (g ∷ [])
gate_refreshes_of new set k next g (product a b) = product_refreshes new set k next a b (set k) refl
gate_refreshes_of new set k next g (plain x p) =
    let e : refreshes_of (refreshed_gate new set k next x) ≡ refreshes_of (x ∷ []) = ap refreshes_of (p.stands new set k next) ∙ renumbered_refreshes new x in
    omega arith

-- and at most one refresh more, where they are a product
pub gate_refreshes : (new : Reg → Reg) (set : ℕ → Bool) (k next : ℕ) (g : Gate)
    → refreshes_of (refreshed_gate new set k next g) ≤ refreshes_of (g ∷ []) + products_of (g ∷ [])
gate_refreshes new set k next g = gate_refreshes_of new set k next g (kind_of g)

product_many : (new : Reg → Reg) (set : ℕ → Bool) (k next : ℕ) (a b : Reg) (mark : Bool) → set k ≡ mark
    → length (refreshed_gate new set k next (gate.And a b)) ≤ 2
product_many new set k next a b true e = rw e (omega arith)
product_many new set k next a b false e = rw e (omega arith)

gate_many_of : (new : Reg → Reg) (set : ℕ → Bool) (k next : ℕ) (g : Gate) → IsOfKind g
    → length (refreshed_gate new set k next g) ≤ 1 + products_of (g ∷ [])
gate_many_of new set k next g (product a b) = product_many new set k next a b (set k) refl
gate_many_of new set k next g (plain x p) =
    let e : length (refreshed_gate new set k next x) ≡ 1 = ap length (p.stands new set k next) in
    omega arith

-- and at most one equation more
pub gate_many : (new : Reg → Reg) (set : ℕ → Bool) (k next : ℕ) (g : Gate)
    → length (refreshed_gate new set k next g) ≤ 1 + products_of (g ∷ [])
gate_many new set k next g = gate_many_of new set k next g (kind_of g)

-- so it is with all the equations
pub equations_products : (new : Reg → Reg) (set : ℕ → Bool) (k next : ℕ) (gs : List Gate)
    → products_of (refreshed_equations new set k next gs) ≡ products_of gs
equations_products new set k next [] = refl
equations_products new set k next (g ∷ gs) =
    let here = refreshed_gate new set k next g in
    let rest = refreshed_equations new set (k + products_of (g ∷ [])) (next + length here) gs in
    let both = products-append here rest in
    let first = gate_products new set k next g in
    let second = equations_products new set (k + products_of (g ∷ [])) (next + length here) gs in
    let sum = products_more g gs in
    both ∙ omega (arith, first, second, sum)

pub equations_refreshes : (new : Reg → Reg) (set : ℕ → Bool) (k next : ℕ) (gs : List Gate)
    → refreshes_of (refreshed_equations new set k next gs) ≤ refreshes_of gs + products_of gs
equations_refreshes new set k next [] = omega arith
equations_refreshes new set k next (g ∷ gs) =
    let here = refreshed_gate new set k next g in
    let rest = refreshed_equations new set (k + products_of (g ∷ [])) (next + length here) gs in
    let both = refreshes-append here rest in
    let first = gate_refreshes new set k next g in
    let second = equations_refreshes new set (k + products_of (g ∷ [])) (next + length here) gs in
    let sum = products_more g gs in
    let others = refreshes_more g gs in
    omega (arith, both, first, second, sum, others)

pub equations_many : (new : Reg → Reg) (set : ℕ → Bool) (k next : ℕ) (gs : List Gate)
    → length (refreshed_equations new set k next gs) ≤ length gs + products_of gs
equations_many new set k next [] = omega arith
equations_many new set k next (g ∷ gs) =
    let here = refreshed_gate new set k next g in
    let rest = refreshed_equations new set (k + products_of (g ∷ [])) (next + length here) gs in
    let both = length-append here rest in
    let first = gate_many new set k next g in
    let second = equations_many new set (k + products_of (g ∷ [])) (next + length here) gs in
    let sum = products_more g gs in
    omega (arith, both, first, second, sum)

-- the law of how large a refreshed core is
pub refreshed_core_size : RefreshedCoreSize
refreshed_core_size =
    record {
      core = refreshed_is_core;
      products = λ core set. equations_products (new_register core set) set 0 core.inputs core.equations;
      refreshes = λ core set. equations_refreshes (new_register core set) set 0 core.inputs core.equations;
      equations = λ core set. equations_many (new_register core set) set 0 core.inputs core.equations;
    }
