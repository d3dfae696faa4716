-- A builder as contracts see it: the terms that it holds, by number.
use Rattle.std.specs.Prelude.{◌≡◌, ℕ, zero, suc, ◌<◌, ◌≤◌, List, [], ◌∷◌, ◌++◌, Some, All, Contains, length, slice_get, slice_index_or, refl}
use Rattle.std.specs.Coded.{Coded, code_by, coded×, coded_ℕ, coded_list}
use Rattle.usuba0.specs.declared.circuit.Reg.{Reg}
use Rattle.usuba0.specs.Term.{Term, Input}
use Rattle.usuba0.specs.State.TermCode.{term_code}

-- the width, how many inputs there are, and each term at its number
pub record Held : Type 0 where
  pub width : ℕ
  pub inputs : ℕ
  pub terms : List Term

-- a code, since a value that contracts see must have one
abbrev pub held_code : Coded Held
held_code =
    code_by (ℕ × (ℕ × List Term)) (coded× coded_ℕ (coded× coded_ℕ (coded_list term_code)))
    (λ h. (h.width, (h.inputs, h.terms))) (λ p. record { width = p.0; inputs = p.1.0; terms = p.1.1 }) (λ _. refl)

-- the terms of a new builder: its n inputs
abbrev pub input_terms : ℕ → List Term
input_terms zero = []
input_terms (suc k) = input_terms k ++ Input k ∷ []

-- a register is a term of the builder where its number is below the count of terms
abbrev pub Holds : Held → Reg → Type 0
Holds held r = r.0 < length held.terms

-- the term that a register of the builder stands for
abbrev pub term_of : Held → Reg → Term
term_of held r = slice_index_or held.terms r.0 (Input 0)

-- the register is the number of this term
abbrev pub Names : Held → Reg → Term → Type 0
Names held r t = slice_get held.terms r.0 ≡ Some t

-- no term has two numbers
abbrev pub IsOnceEach : List Term → Type 0
IsOnceEach ts = (i j : ℕ) (t : Term) → slice_get ts i ≡ Some t → slice_get ts j ≡ Some t → i ≡ j

-- the width and the inputs are as before, the terms held before keep their numbers, each term that was added is one of
-- those that were to be made, and each term stands once
pub record Grows (makes : List Term) (old new : Held) : Type 0 where
  pub width : new.width ≡ old.width
  pub inputs : new.inputs ≡ old.inputs
  pub added : List Term
  pub terms : new.terms ≡ old.terms ++ added
  pub made : All (Contains makes) added
  pub few : length added ≤ length makes
  pub once : IsOnceEach new.terms
