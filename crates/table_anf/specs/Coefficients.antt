-- A table as contracts see it, and the coefficients of its normal form.
use Rattle.std.specs.Prelude.{ℕ, zero, suc, ◌-◌, ◌^◌, Bool, ◌==◌, List, refl, if◌then◌else◌, slice_index, bit_and, bit_xor}
use Rattle.std.specs.Coded.{Coded, code_by, coded×, coded_ℕ, coded_list}
use Rattle.std.specs.Int.{bit_at}

-- a table: how many elements its inputs and its outputs have, and the entry of each index
pub record Table : Type 0 where
  pub inputs : ℕ
  pub outputs : ℕ
  pub entries : List ℕ

-- a code, since a value that contracts see must have one
abbrev pub table_code : Coded Table
table_code =
    code_by (ℕ × (ℕ × List ℕ)) (coded× coded_ℕ (coded× coded_ℕ (coded_list coded_ℕ)))
    (λ t. (t.inputs, (t.outputs, t.entries))) (λ p. record { inputs = p.0; outputs = p.1.0; entries = p.1.1 })
    (λ _. refl)

-- whether an index is contained in monomial u: each bit of the index is one of u
abbrev pub contains : ℕ → ℕ → Bool
contains u index = bit_and index u == index

-- the exclusive-or of what is given for each number below n
abbrev pub xor_below : (ℕ → ℕ) → ℕ → ℕ
xor_below f zero = 0
xor_below f (suc n) = bit_xor (xor_below f n) (f n)

-- what is given for an index that is contained in u, and 0 for another
abbrev pub contained : (ℕ → ℕ) → ℕ → ℕ → ℕ
contained f u index = if contains u index then f index else 0

-- the exclusive-or of what is given, over all indexes of n bits that are contained in u
abbrev pub xor_contained : ℕ → (ℕ → ℕ) → ℕ → ℕ
xor_contained n f u = xor_below (contained f u) (2 ^ n)

-- output element j of the entry of an index, in a table of m output elements: element 0 is the most significant bit
abbrev pub output_bit : ℕ → List ℕ → ℕ → ℕ → ℕ
output_bit m entries j index = bit_at (slice_index entries index) (m - 1 - j)

-- the coefficient of monomial u for output element j, in a table of n input elements and m output elements: the
-- exclusive-or of output j over all indexes contained in u
abbrev pub coefficient : ℕ → ℕ → List ℕ → ℕ → ℕ → ℕ
coefficient n m entries j u = xor_contained n (output_bit m entries j) u
