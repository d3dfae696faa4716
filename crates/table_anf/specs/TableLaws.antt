-- The statements of the laws about tables.
use Rattle.std.specs.Prelude.{◌≡◌, ℕ, ◌*◌, ◌<◌, ◌≤◌, ◌^◌, false, List, [], ◌∷◌, All, length, map, IfSome}
use Rattle.usuba0.specs.Term.{Term, Input, Const, Xor, Not, And, constant, value, bits_of_width}
use Rattle.usuba_model.specs.Entries.{is_bad_table}
use Rattle.usuba_model.specs.Meaning.{number_of_bits, looked_up_word}
use Rattle.table_anf.specs.Coefficients.{xor_below, output_bit, coefficient}
use Rattle.table_anf.specs.TableTerms.{factors, table_term, table_terms}

-- a bit, as a number
abbrev pub IsBit : ℕ → Type 0
IsBit bit = bit < 2

-- the product of bits: 1 where each of them is 1
abbrev pub bit_product : List ℕ → ℕ
bit_product [] = 1
bit_product (bit ∷ rest) = bit * bit_product rest

-- monomial u of the polynomial of output element j, at the bits of the inputs: its coefficient times the product of its
-- bits
abbrev pub monomial_value : ℕ → List ℕ → ℕ → List ℕ → ℕ → ℕ
monomial_value m entries j bits u = coefficient (length bits) m entries j u * bit_product (factors bits u)

-- the polynomial of output element j, at the bits of the inputs: the exclusive-or of all its monomials
abbrev pub polynomial_value : ℕ → List ℕ → ℕ → List ℕ → ℕ
polynomial_value m entries j bits = xor_below (monomial_value m entries j bits) (2 ^ length bits)

-- the polynomials of a table are the table: at the bits of each index they give the bits of its entry
abbrev pub PolynomialIsTable : Type 0
PolynomialIsTable = (m : ℕ) (entries : List ℕ) (j : ℕ) (bits : List ℕ) → All IsBit bits
    → polynomial_value m entries j bits ≡ output_bit m entries j (number_of_bits 0 bits)

-- the value of a term, in the word bits of width w
abbrev pub word_of : ℕ → List ℕ → Term → ℕ
word_of w inputs t = value w (bits_of_width w) inputs t

-- a term that fits width w: for these inputs its value is a word, and where it is a constant, that has w bits
pub record FitsWidth (w : ℕ) (inputs : List ℕ) (t : Term) : Type 0 where
  pub word : word_of w inputs t < 2 ^ bits_of_width w
  pub number : IfSome (constant t) (λ c. c < 2 ^ w)

-- a table's term of arguments that fit the width fits it, and its value is the look-up of their values
pub record IsLookUp (w m : ℕ) (entries inputs : List ℕ) (args : List Term) (j : ℕ) : Type 0 where
  pub fits : FitsWidth w inputs (table_term w m entries args j)
  pub same : word_of w inputs (table_term w m entries args j)
      ≡ looked_up_word (bits_of_width w) m entries (map (word_of w inputs) args) j

-- the terms of each table are the look-up at each bit position
abbrev pub TermsAreLookUps : Type 0
TermsAreLookUps = (w m : ℕ) (entries inputs : List ℕ) (args : List Term) (j : ℕ)
    → All (FitsWidth w inputs) args → IsLookUp w m entries inputs args j

-- a table that judging accepts is one of which a normal form may be asked: at most 8 inputs and 64 outputs, and an entry
-- for each index
abbrev pub AcceptedTablesFit : Type 0
AcceptedTablesFit = (n m : ℕ) (entries : List ℕ)
    → is_bad_table n m entries ≡ false → (n ≤ 8) × (m ≤ 64) × (length entries ≡ 2 ^ n)

-- tables worked by hand, on the inputs 0 and 1
pub record KnownTables : Type 0 where
  -- one output, the `or` of both inputs: the sum of both, and their product
  pub either : table_terms 1 1 (0 ∷ 1 ∷ 1 ∷ 1 ∷ []) (Input 0 ∷ Input 1 ∷ [])
      ≡ Xor (Xor (Input 1) (Input 0)) (And (Input 0) (Input 1)) ∷ []
  -- two outputs: the same, as the most significant bit of the entries, and the complement of input 0
  pub two_outputs : table_terms 1 2 (1 ∷ 3 ∷ 2 ∷ 2 ∷ []) (Input 0 ∷ Input 1 ∷ [])
      ≡ Xor (Xor (Input 1) (Input 0)) (And (Input 0) (Input 1)) ∷ Not (Input 0) ∷ []
  -- constants, at 8 bits
  pub constants : table_terms 8 2 (1 ∷ 1 ∷ []) (Input 0 ∷ []) ≡ Const 0 ∷ Const 255 ∷ []
