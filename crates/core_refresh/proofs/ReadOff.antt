-- The set is read off a refreshed core.
use Rattle.std.proofs.Common.{◌≡◌, ℕ, ◌+◌, ◌<◌, ◌≤◌, Bool, true, false, cond, List, [], ◌∷◌, ◌++◌, length, refl, sym, ap, ◌∙◌, arith, inl, inr}
use Rattle.std.proofs.lemmas.Bool.{cases_eq}
use Rattle.usuba0.specs.declared.circuit.Gate.{Gate}
use Rattle.usuba0.specs.declared.circuit.Gate.TheVariants as gate
use Rattle.usuba0.specs.declared.circuit.Reg.{Reg}
use Rattle.usuba0.specs.Circuit.{Circuit, products_of}
use Rattle.core_refresh.specs.RefreshedCore.{new_register, renumbered, refreshed_product, refreshed_gate, refreshed_equations}
use Rattle.core_refresh.specs.RefreshedLaws.{SetIsReadOff}
use Rattle.core_refresh.proofs.Numbering.{IsOfKind, product, plain, kind_of}
use Rattle.core_refresh.proofs.Sizes.{products_more}

-- the equations behind the first one
tails : (a b : Gate) (xs ys : List Gate) → a ∷ xs ≡ b ∷ ys → xs ≡ ys
tails a b xs ys e = cc

-- a refresh is no product
apart : (x a b : Reg) (xs ys : List Gate) → gate.Refresh x ∷ xs ≡ gate.And a b ∷ ys → ⊥
apart x a b xs ys e = cc

-- the equations that stand for a product
stands : (new : Reg → Reg) (set : ℕ → Bool) (k next : ℕ) (a b : Reg) (mark : Bool) → set k ≡ mark
    → refreshed_gate new set k next (gate.And a b) ≡ cond mark (refreshed_product next (new a) (new b)) (gate.And (new a) (new b) ∷ [])
stands new set k next a b mark e = ap (λ (x : Bool). cond x (refreshed_product next (new a) (new b)) (gate.And (new a) (new b) ∷ [])) e

-- the first of the equations decides whether a product is in the set, and the others are the same
product_read : (new old : Reg → Reg) (set other : ℕ → Bool) (k next then : ℕ) (a b : Reg) (xs ys : List Gate) (mark second : Bool)
    → set k ≡ mark → other k ≡ second
    → refreshed_gate new set k next (gate.And a b) ++ xs ≡ refreshed_gate old other k then (gate.And a b) ++ ys
    → (set k ≡ other k) × (xs ≡ ys)
product_read new old set other k next then a b xs ys mark second e f same =
    by mark second e f
    (ap (λ (l : List Gate). l ++ xs) (sym (stands new set k next a b mark e)) ∙ same ∙ ap (λ (l : List Gate). l ++ ys) (stands old other k then a b second f))
  where
    by : (mark second : Bool) → set k ≡ mark → other k ≡ second
        → cond mark (refreshed_product next (new a) (new b)) (gate.And (new a) (new b) ∷ []) ++ xs
        ≡ cond second (refreshed_product then (old a) (old b)) (gate.And (old a) (old b) ∷ []) ++ ys
        → (set k ≡ other k) × (xs ≡ ys)
    by true true e f s = (e ∙ sym f, tails _ _ xs ys (tails _ _ (_ ∷ xs) (_ ∷ ys) s))
    by true false e f s = absurd (apart _ _ _ _ _ s)
    by false true e f s = absurd (apart _ _ _ _ _ (sym s))
    by false false e f s = (e ∙ sym f, tails _ _ xs ys s)

-- the products of equations, from number k on
abbrev ReadFrom : (set other : ℕ → Bool) → ℕ → List Gate → Type 0
ReadFrom set other k gs = (j : ℕ) → k ≤ j → j < k + products_of gs → set j ≡ other j

read_step : (new old : Reg → Reg) (set other : ℕ → Bool) (k next then : ℕ) (g : Gate) (gs : List Gate) → IsOfKind g
    → ((next then : ℕ) → refreshed_equations new set (k + products_of (g ∷ [])) next gs ≡ refreshed_equations old other (k + products_of (g ∷ [])) then gs
    → ReadFrom set other (k + products_of (g ∷ [])) gs)
    → refreshed_equations new set k next (g ∷ gs) ≡ refreshed_equations old other k then (g ∷ gs) → ReadFrom set other k (g ∷ gs)
read_step new old set other k next then g gs (product a b) rest same j low high =
    let read = product_read new old set other k next then a b _ _ (set k) (other k) refl refl same in
    let count = products_more (gate.And a b) gs in
    elim (cases_eq j k) [
      | inl here ↦ ap set here ∙ read.0 ∙ sym (ap other here)
      | inr later ↦ rest _ _ read.1 j (let differ : j ≡ k → ⊥ = later in omega arith) (omega arith)
    ]
read_step new old set other k next then g gs (plain x p) rest same j low high =
    let count = products_more x gs in
    let none = p.products in
    let one = tails (renumbered new x) (renumbered old x) _ _
    (ap (λ (l : List Gate). l ++ refreshed_equations new set (k + products_of (x ∷ [])) (next + length (refreshed_gate new set k next x)) gs) (sym (p.stands new set k next))
    ∙ same
    ∙ ap (λ (l : List Gate). l ++ refreshed_equations old other (k + products_of (x ∷ [])) (then + length (refreshed_gate old other k then x)) gs) (p.stands old other k then)) in
    rest _ _ one j (omega arith) (omega arith)

-- equal equations with refreshes have equal sets
pub equations_read : (new old : Reg → Reg) (set other : ℕ → Bool) (k next then : ℕ) (gs : List Gate)
    → refreshed_equations new set k next gs ≡ refreshed_equations old other k then gs → ReadFrom set other k gs
equations_read new old set other k next then [] same j low high = absurd (omega arith)
equations_read new old set other k next then (g ∷ gs) same j low high =
    read_step new old set other k next then g gs (kind_of g)
    (λ more after e. equations_read new old set other (k + products_of (g ∷ [])) more after gs e) same j low high

-- the law
pub set_is_read_off : SetIsReadOff
set_is_read_off core set other same k h =
    equations_read (new_register core set) (new_register core other) set other 0 core.inputs core.inputs core.equations
    (ap (λ (c : Circuit). c.equations) same) k (omega arith) (omega arith)
