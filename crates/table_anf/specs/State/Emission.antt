-- The terms that are made on the way to a table's terms.
use Rattle.std.specs.Prelude.{◌≡◌, ℕ, ◌+◌, All, map, Bool, List, [], ◌∷◌, flat_map, fold, Option, Some, None, if◌then◌else◌}
use Rattle.usuba0.specs.declared.circuit.Reg.{Reg}
use Rattle.usuba0.specs.Term.{Term, xor_term, and_term}
use Rattle.usuba0.specs.Builder.{Held, Holds, term_of}

-- the registers of a list are held, and stand for these terms
pub record StandFor (builder : Held) (registers : List Reg) (ts : List Term) : Type 0 where
  pub held : All (Holds builder) registers
  pub terms : map (term_of builder) registers ≡ ts

-- a monomial, and its product with one more argument
abbrev pub with_and_without : Term → Term → List Term
with_and_without factor product = product ∷ and_term product factor ∷ []

-- the monomials over one more argument, from those without it
abbrev pub with_factor : Term → List Term → List Term
with_factor factor products = factor ∷ flat_map (with_and_without factor) products

-- of terms that are numbered from k on, those whose number passes
abbrev pub chosen : (ℕ → Bool) → ℕ → List Term → List Term
chosen test k [] = []
chosen test k (t ∷ ts) = if test k then t ∷ chosen test (k + 1) ts else chosen test (k + 1) ts

-- a term added to a sum, which may have none so far
abbrev pub added_to : Option Term → Term → Term
added_to None t = t
added_to (Some sum) t = xor_term sum t

-- the sum of terms, where there are some
abbrev pub sum_of : List Term → Option Term
sum_of [] = None
sum_of (t ∷ ts) = Some (fold xor_term t ts)
