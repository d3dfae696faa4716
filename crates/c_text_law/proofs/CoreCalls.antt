-- The calls of a core are read.
use Rattle.std.proofs.Common.{◌≡◌, ℕ, suc, ◌+◌, ◌-◌, ◌<◌, ◌≤◌, ◌^◌, Bool, true, false, List, [], ◌∷◌, ◌++◌, length, slice_index, refl, All, arith}
use Rattle.std.specs.Prelude.{nat_lt, if◌then◌else◌}
use Rattle.c_tree.specs.declared.CArg.{CArg}
use Rattle.c_tree.specs.declared.CArg.TheVariants as arg
use Rattle.c_tree.specs.declared.CCall.{CCall}
use Rattle.usuba0.specs.declared.circuit.Gate.{Gate}
use Rattle.usuba0.specs.declared.circuit.Gate.TheVariants as gate
use Rattle.usuba0.specs.declared.circuit.Reg.{Reg}
use Rattle.usuba0.specs.Circuit.{IsEquation, AreEquations}
use Rattle.usuba0.specs.Term.{ones}
use Rattle.c_form.specs.MaskedForm.{row_of, equation_call, equation_calls, output_calls}
use Rattle.c_text_law.proofs.Calls.{FitsArg, fits_out, fits_in, fits_slot, fits_number, FitsArgs, one_arg, another_arg, FitsCall, fits_call, FitsCalls, no_calls, more_calls}
use Rattle.c_text_law.proofs.Templates.{name_const, name_xor, name_not, name_mask, name_shl, name_shr, name_rotl, name_and, name_refresh, name_copy}

-- the slots of the equations below m are below 2 ^ 64
abbrev pub SlotsFit : List ℕ → ℕ → Type 0
SlotsFit slots m = (k : ℕ) → k < m → slice_index slots k < 2 ^ 64

row_case : (t : Bool) (n slot : ℕ) → (t ≡ true → n < 2 ^ 64) → (t ≡ false → slot < 2 ^ 64)
    → FitsArg (if t then arg.Input n else arg.Slot slot)
row_case true n slot h1 h2 = fits_in (h1 refl)
row_case false n slot h1 h2 = fits_slot (h2 refl)

lt_of : (a b : ℕ) → nat_lt a b ≡ true → a < b
lt_of a b h = grind (arith, h)

ge_of : (a b : ℕ) → nat_lt a b ≡ false → b ≤ a
ge_of a b h = grind (arith, h)

pub row_fits : (inputs m : ℕ) (slots : List ℕ) (r : Reg) → inputs < 2 ^ 64 → SlotsFit slots m → r.0 < inputs + m
    → FitsArg (row_of inputs slots r)
row_fits inputs m slots r few fit below =
    row_case (nat_lt r.0 inputs) r.0 (slice_index slots (r.0 - inputs))
    (λ h. let less = lt_of r.0 inputs h in omega (arith, less, few))
    (λ h. let more = ge_of r.0 inputs h in fit (r.0 - inputs) (omega (arith, more, below)))

word_case : (t : Bool) (a b : ℕ) → a < 2 ^ 64 → b < 2 ^ 64 → (if t then a else b) < 2 ^ 64
word_case true a b h1 h2 = h1
word_case false a b h1 h2 = h2

two_args : (x y : CArg) → FitsArg x → FitsArg y → FitsArgs (x ∷ y ∷ [])
two_args x y h1 h2 = another_arg h1 (one_arg h2)

three_args : (x y z : CArg) → FitsArg x → FitsArg y → FitsArg z → FitsArgs (x ∷ y ∷ z ∷ [])
three_args x y z h1 h2 h3 = another_arg h1 (two_args y z h2 h3)

module _ (w B inputs : ℕ) (slots : List ℕ) (m : ℕ) (width : 2 ^ w ≤ 2 ^ 64) (small : w < 2 ^ 64) (mask : ones B < 2 ^ 64)
    (few : inputs < 2 ^ 64) (fit : SlotsFit slots m) where
  row : (n : ℕ) (r : Reg) → n ≤ inputs + m → r.0 < n → FitsArg (row_of inputs slots r)
  row n r most below = row_fits inputs m slots r few fit (omega (arith, most, below))

  equation_fits : (n slot : ℕ) (g : Gate) → slot < 2 ^ 64 → n ≤ inputs + m → IsEquation w n g
      → FitsCall (equation_call w B (row_of inputs slots) slot g)
  equation_fits n slot (gate.Const c) s most is =
      fits_call name_const (two_args _ _ (fits_slot s) (fits_number (word_case _ _ c mask (omega (arith, is, width)))))
  equation_fits n slot (gate.Xor a b) s most is =
      fits_call name_xor (three_args _ _ _ (fits_slot s) (row n a most is.0) (row n b most is.1))
  equation_fits n slot (gate.Not a) s most is = fits_call name_not (two_args _ _ (fits_slot s) (row n a most is))
  equation_fits n slot (gate.Mask c a) s most is =
      let h = is.0 in
      fits_call name_mask (three_args _ _ _ (fits_slot s) (row n a most is.1)
      (fits_number (word_case _ _ c mask (omega (arith, h, width)))))
  equation_fits n slot (gate.And a b) s most is =
      fits_call name_and (three_args _ _ _ (fits_slot s) (row n a most is.0) (row n b most is.1))
  equation_fits n slot (gate.Shl k a) s most is =
      let h = is.1 in
      fits_call name_shl (three_args _ _ _ (fits_slot s) (row n a most is.2) (fits_number (omega (arith, h, small))))
  equation_fits n slot (gate.Shr k a) s most is =
      let h = is.1 in
      fits_call name_shr (three_args _ _ _ (fits_slot s) (row n a most is.2) (fits_number (omega (arith, h, small))))
  equation_fits n slot (gate.Rotl k a) s most is =
      let h = is.1 in
      fits_call name_rotl (three_args _ _ _ (fits_slot s) (row n a most is.2) (fits_number (omega (arith, h, small))))
  equation_fits n slot (gate.Refresh a) s most is = fits_call name_refresh (two_args _ _ (fits_slot s) (row n a most is))

  pub outputs_fit : (k : ℕ) (rs : List Reg) → k + length rs ≤ 2 ^ 64 → All (λ r. r.0 < inputs + m) rs
      → FitsCalls (output_calls inputs slots k rs)
  outputs_fit k [] most all = no_calls
  outputs_fit k (r ∷ rs) most all =
      more_calls (fits_call name_copy (two_args _ _ (fits_out (omega (arith, most)))
      (row (inputs + m) r (omega arith) (all 0 r (omega arith)))))
      (outputs_fit (suc k) rs (omega (arith, most)) (λ j d l. all (suc j) d (omega (arith, l))))

  pub equations_fit : (k n : ℕ) (gs : List Gate) (others : List CCall) → n ≡ inputs + k → k + length gs ≡ m
      → AreEquations w n gs → FitsCalls others → FitsCalls (equation_calls w B inputs slots k gs ++ others)
  equations_fit k n [] others from many are rest = rest
  equations_fit k n (g ∷ gs) others from many are rest =
      more_calls (equation_fits n (slice_index slots k) g (fit k (omega (arith, many))) (omega (arith, from, many)) are.0)
      (equations_fit (suc k) (suc n) gs others (omega (arith, from)) (omega (arith, many)) are.1 rest)
