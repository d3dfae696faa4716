-- The kinds of equations that a refreshed core tells apart, and the new numbers of registers along the equations.
use Rattle.std.proofs.Common.{◌≡◌, ℕ, suc, ◌+◌, ◌-◌, ◌<◌, Bool, true, false, List, [], ◌∷◌, length, ap, ◌∙◌, arith, subst, refl, inl, inr, ◌⊎◌, ⊎_elim, cond}
use Rattle.std.proofs.lemmas.Bool.{cases_lt}
use Rattle.usuba0.specs.declared.circuit.Gate.{Gate}
use Rattle.usuba0.specs.declared.circuit.Gate.TheVariants as gate
use Rattle.usuba0.specs.declared.circuit.Reg.{Reg}
use Rattle.usuba0.specs.Circuit.{Circuit, products_of}
use Rattle.core_refresh.specs.RefreshedCore.{takes_refresh, added, new_register, renumbered, refreshed_gate}
use Rattle.core_refresh.specs.State.Copying.{IsNumbering}

-- how many refreshes stand before an equation
abbrev pub one_if : Bool → ℕ
one_if b = cond b 1 0

-- an equation that is no product: it makes no product, takes no refresh, and stands for itself
pub record IsPlain (g : Gate) : Type 0 where
  pub products : products_of (g ∷ []) ≡ 0
  pub takes : (set : ℕ → Bool) (k : ℕ) → takes_refresh set k g ≡ false
  pub stands : (new : Reg → Reg) (set : ℕ → Bool) (k next : ℕ) → refreshed_gate new set k next g ≡ renumbered new g ∷ []

-- an equation is a product, or it is plain
pub data IsOfKind : Gate → Type 0 where
  product : (a b : Reg) → IsOfKind (gate.And a b)
  plain : (g : Gate) → IsPlain g → IsOfKind g

-- each equation is of one of the two kinds
pub kind_of : (g : Gate) → IsOfKind g
kind_of (gate.Const c) = plain (gate.Const c) (record { products = refl; takes = λ set k. refl; stands = λ new set k next. refl })
kind_of (gate.Xor a b) = plain (gate.Xor a b) (record { products = refl; takes = λ set k. refl; stands = λ new set k next. refl })
kind_of (gate.Not a) = plain (gate.Not a) (record { products = refl; takes = λ set k. refl; stands = λ new set k next. refl })
kind_of (gate.Mask c a) = plain (gate.Mask c a) (record { products = refl; takes = λ set k. refl; stands = λ new set k next. refl })
kind_of (gate.And a b) = product a b
kind_of (gate.Shl m a) = plain (gate.Shl m a) (record { products = refl; takes = λ set k. refl; stands = λ new set k next. refl })
kind_of (gate.Shr m a) = plain (gate.Shr m a) (record { products = refl; takes = λ set k. refl; stands = λ new set k next. refl })
kind_of (gate.Rotl m a) = plain (gate.Rotl m a) (record { products = refl; takes = λ set k. refl; stands = λ new set k next. refl })
kind_of (gate.Refresh a) = plain (gate.Refresh a) (record { products = refl; takes = λ set k. refl; stands = λ new set k next. refl })

-- how many equations stand for a product
product_length : (new : Reg → Reg) (set : ℕ → Bool) (k next : ℕ) (a b : Reg) (mark : Bool) → set k ≡ mark
    → length (refreshed_gate new set k next (gate.And a b)) ≡ suc (one_if (set k))
product_length new set k next a b true e = rw e refl
product_length new set k next a b false e = rw e refl

gate_length_of : (new : Reg → Reg) (set : ℕ → Bool) (k next : ℕ) (g : Gate) → IsOfKind g
    → length (refreshed_gate new set k next g) ≡ suc (one_if (takes_refresh set k g))
gate_length_of new set k next g (product a b) = product_length new set k next a b (set k) refl
gate_length_of new set k next g (plain h is) = rw (is.stands new set k next) (rw (is.takes set k) refl)

-- how many equations stand for one
pub gate_length : (new : Reg → Reg) (set : ℕ → Bool) (k next : ℕ) (g : Gate)
    → length (refreshed_gate new set k next g) ≡ suc (one_if (takes_refresh set k g))
gate_length new set k next g = gate_length_of new set k next g (kind_of g)

-- a number below the next one is below, or equal
pub cases_lt_eq : (m n : ℕ) → m < suc n → (m < n) ⊎ (m ≡ n)
cases_lt_eq m n h = elim (cases_lt m n) [ inl l ↦ inl l | inr g ↦ inr (omega arith) ]

earlier_more : (new : Reg → Reg) (n next many m : ℕ) (r : Reg) → many ≡ suc m → (new (record { 0 = n + 0 })).0 ≡ next + 0 + (m + 0)
    → ((s : Reg) → s.0 < n → (new s).0 < next) → r.0 < suc n → (new r).0 < next + many
earlier_more new n next many m r count own earlier h =
    ⊎_elim (λ below. let e = earlier r below in omega arith)
    (λ (e : r.0 ≡ n). let at : r.0 ≡ n + 0 = omega arith in let same : (new r).0 ≡ (new (record { 0 = n + 0 })).0 = ap (λ (x : ℕ). (new (record { 0 = x })).0) at in omega arith)
    (cases_lt_eq r.0 n h)

-- the new numbers are those of the equations that are left after one
pub numbering_more : (new : Reg → Reg) (set : ℕ → Bool) (k n next : ℕ) (g : Gate) (gs : List Gate)
    → IsNumbering new set k n next (g ∷ gs)
    → IsNumbering new set (k + products_of (g ∷ [])) (suc n) (next + length (refreshed_gate new set k next g)) gs
numbering_more new set k n next g gs is =
    let m = one_if (takes_refresh set k g) in
    let count = gate_length new set k next g in
    let own : (new (record { 0 = n + 0 })).0 ≡ next + 0 + (m + 0) = is.later 0 (omega arith) in
    record {
      earlier = λ r h. earlier_more new n next _ m r count own is.earlier h;
      later = λ j h.
          let at : (new (record { 0 = n + suc j })).0 ≡ next + suc j + (m + added set (k + products_of (g ∷ [])) (suc j) gs) = is.later (suc j) (omega arith) in
          subst (λ (x : ℕ). (new (record { 0 = x })).0 ≡ next + length (refreshed_gate new set k next g) + j + added set (k + products_of (g ∷ [])) (suc j) gs)
          (omega arith) (at ∙ omega (arith, count));
    }

-- an input keeps its number
pub new_of_input : (core : Circuit) (set : ℕ → Bool) (r : Reg) → r.0 < core.inputs → (new_register core set r).0 ≡ r.0
new_of_input core set r h =
    let none : r.0 + 1 - core.inputs ≡ 0 = omega arith in
    let e : added set 0 (r.0 + 1 - core.inputs) core.equations ≡ added set 0 0 core.equations = ap (λ (x : ℕ). added set 0 x core.equations) none in
    omega arith

-- the new numbers of the registers of a core are those of its equations
pub numbering_start : (core : Circuit) (set : ℕ → Bool) → IsNumbering (new_register core set) set 0 core.inputs core.inputs core.equations
numbering_start core set =
    record {
      earlier = λ r h. let e : (new_register core set r).0 ≡ r.0 = new_of_input core set r h in omega arith;
      later = λ j h.
          let many : core.inputs + j + 1 - core.inputs ≡ suc j = omega arith in
          ap (λ (x : ℕ). core.inputs + j + added set 0 x core.equations) many;
    }
