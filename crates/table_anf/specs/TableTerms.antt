-- The terms of a table.
use Rattle.std.specs.Prelude.{ℕ, ◌-◌, ◌^◌, Bool, ◌==◌, List, [], ◌∷◌, length, map, filter, fold, if◌then◌else◌}
use Rattle.std.specs.Int.{bit_at}
use Rattle.std.specs.List.{range_with_len}
use Rattle.usuba0.specs.Term.{Term, Const, xor_term, and_term, not_term}
use Rattle.table_anf.specs.Coefficients.{coefficient}

-- of the input elements those of monomial u, in rising element number: element 0 is the most significant bit of u
abbrev pub factors : {V : Type 0} → List V → ℕ → List V
factors [] u = []
factors (element ∷ rest) u = if bit_at u (length rest) == 1 then element ∷ factors rest u else factors rest u

-- the left fold of terms, and `Const(0)` where there is none
abbrev pub left_fold : (Term → Term → Term) → List Term → Term
left_fold join [] = Const 0
left_fold join (t ∷ ts) = fold join t ts

-- monomial u: the left fold of `&` over its argument elements
abbrev pub monomial : List Term → ℕ → Term
monomial args u = left_fold and_term (factors args u)

-- whether the coefficient of monomial u is 1 for output element j
abbrev pub is_present : ℕ → ℕ → List ℕ → ℕ → ℕ → Bool
is_present n m entries j u = coefficient n m entries j u == 1

-- the monomials of output element j, from 1 upwards
abbrev pub monomials_of : ℕ → ℕ → List ℕ → ℕ → List ℕ
monomials_of n m entries j = filter (is_present n m entries j) (range_with_len 1 (2 ^ n - 1))

-- a term with `~` last where that is asked for, at width w
abbrev pub complemented : ℕ → Bool → Term → Term
complemented w last t = if last then not_term w t else t

-- the term of output element j of a table of m output elements, at width w: the left fold of `^` over the monomials from
-- 1 upwards whose coefficient is 1, with `~` last where the coefficient of 0 is 1
abbrev pub table_term : ℕ → ℕ → List ℕ → List Term → ℕ → Term
table_term w m entries args j =
    let n = length args in
    complemented w (is_present n m entries j 0) (left_fold xor_term (map (monomial args) (monomials_of n m entries j)))

-- the terms of all output elements
abbrev pub table_terms : ℕ → ℕ → List ℕ → List Term → List Term
table_terms w m entries args = map (table_term w m entries args) (range_with_len 0 m)
