-- Each name of a masked form is right where it stands.
use Rattle.std.proofs.Common.{◌≡◌, ℕ, suc, ◌-◌, Bool, true, false, List, [], ◌∷◌, ◌++◌, slice_index, refl, sym, subst}
use Rattle.std.proofs.Common.{map}
use Rattle.std.specs.Prelude.{codes, if◌then◌else◌, nat_lt}
use Rattle.c_tree.specs.declared.CArg.{CArg}
use Rattle.c_tree.specs.declared.CArg.TheVariants as arg
use Rattle.c_tree.specs.declared.CCall.{CCall}
use Rattle.c_tree.specs.declared.CFile.{CFile}
use Rattle.c_tree.specs.declared.CFun.{CFun}
use Rattle.c_tree.specs.declared.CParam.{CParam}
use Rattle.c_tree.specs.declared.CParam.TheVariants as parameter
use Rattle.usuba0.specs.declared.circuit.Gate.{Gate}
use Rattle.usuba0.specs.declared.circuit.Gate.TheVariants as gate
use Rattle.usuba0.specs.declared.circuit.Reg.{Reg}
use Rattle.usuba0.specs.Circuit.{Circuit}
use Rattle.usuba0.specs.Term.{ones, word_of_constant}
use Rattle.c_form.specs.MaskedForm.{IsMaskedForm, calls_of, row_of, equation_call, equation_calls, output_calls}
use Rattle.c_form.specs.Template.{template, unary_parameters, binary_parameters, constant_parameters}
use Rattle.c_names.specs.Names.{call_is_right, gadgets_names, names_of, take_all, takes}
use Rattle.c_text_law.proofs.NameRules.{AreRight, all_right, more_right}
use Rattle.c_text_law.proofs.TemplateNames.{gadgets_right}

-- each of these calls is right, where these gadgets stand before it
record CallsRight (gadgets : List CFun) (calls : List CCall) : Type 0 where
  names : AreRight (map (call_is_right gadgets) calls)

next_call_right : (gadgets : List CFun) (call : CCall) (calls : List CCall) → call_is_right gadgets call ≡ true
    → CallsRight gadgets calls → CallsRight gadgets (call ∷ calls)
next_call_right gadgets call calls first others =
    record { names = more_right (call_is_right gadgets call) (map (call_is_right gadgets) calls) first others.names }

row_taken : (t : Bool) (name : List ℕ) (n slot : ℕ)
    → takes (parameter.Array name) (if t then arg.Input n else arg.Slot slot) ≡ true
row_taken true name n slot = refl
row_taken false name n slot = refl

taken_more : (p : CParam) (ps : List CParam) (x : CArg) (xs : List CArg) → takes p x ≡ true
    → take_all ps xs ≡ true → take_all (p ∷ ps) (x ∷ xs) ≡ true
taken_more p ps x xs first others =
    subst (λ (t : Bool). (if t then take_all ps xs else false) ≡ true) (sym first) others

module _ (mask bits inputs : ℕ) (slots : List ℕ) where
  abbrev row : Reg → CArg
  row = row_of inputs slots

  -- a register's row is taken by an array
  taken : (name : List ℕ) (r : Reg) → takes (parameter.Array name) (row r) ≡ true
  taken name r = row_taken (nat_lt r.0 inputs) name r.0 (slice_index slots (r.0 - inputs))

  -- an array and others take a register's row and others
  row_more : (name : List ℕ) (ps : List CParam) (r : Reg) (xs : List CArg) → take_all ps xs ≡ true
      → take_all (parameter.Array name ∷ ps) (row r ∷ xs) ≡ true
  row_more name ps r xs others = taken_more (parameter.Array name) ps (row r) xs (taken name r) others

  -- the array `c` takes what a call writes, and `a` a row
  unary : (x : CArg) (a : Reg) → takes (parameter.Array (codes "c")) x ≡ true
      → take_all unary_parameters (x ∷ row a ∷ []) ≡ true
  unary x a first =
      taken_more (parameter.Array (codes "c")) (parameter.Array (codes "a") ∷ []) x (row a ∷ []) first
      (row_more (codes "a") [] a [] refl)

  -- .. and `b` another
  binary : (slot : ℕ) (a b : Reg) → take_all binary_parameters (arg.Slot slot ∷ row a ∷ row b ∷ []) ≡ true
  binary slot a b =
      row_more (codes "a") (parameter.Array (codes "b") ∷ []) a (row b ∷ []) (row_more (codes "b") [] b [] refl)

  -- .. and the word `k` a number
  constant : (slot n : ℕ) (a : Reg) → take_all constant_parameters (arg.Slot slot ∷ row a ∷ arg.Number n ∷ []) ≡ true
  constant slot n a = row_more (codes "a") (parameter.Word (codes "k") ∷ []) a (arg.Number n ∷ []) refl

  equation_right : (w B slot : ℕ) (g : Gate)
      → call_is_right (template mask bits) (equation_call w B row slot g) ≡ true
  equation_right w B slot (gate.Const c) = refl
  equation_right w B slot (gate.Xor a b) = binary slot a b
  equation_right w B slot (gate.Not a) = unary (arg.Slot slot) a refl
  equation_right w B slot (gate.Mask c a) = constant slot (word_of_constant w B c) a
  equation_right w B slot (gate.And a b) = binary slot a b
  equation_right w B slot (gate.Shl k a) = constant slot k a
  equation_right w B slot (gate.Shr k a) = constant slot k a
  equation_right w B slot (gate.Rotl k a) = constant slot k a
  equation_right w B slot (gate.Refresh a) = unary (arg.Slot slot) a refl

  outputs_right : (k : ℕ) (rs : List Reg) → CallsRight (template mask bits) (output_calls inputs slots k rs)
  outputs_right k [] = record { names = refl }
  outputs_right k (r ∷ rs) = next_call_right _ _ _ (unary (arg.Out k) r refl) (outputs_right (suc k) rs)

  equations_right : (w B k : ℕ) (gs : List Gate) (others : List CCall) → CallsRight (template mask bits) others
      → CallsRight (template mask bits) (equation_calls w B inputs slots k gs ++ others)
  equations_right w B k [] others rest = rest
  equations_right w B k (g ∷ gs) others rest =
      next_call_right _ _ _ (equation_right w B (slice_index slots k) g) (equations_right w B (suc k) gs others rest)

-- each name of a masked form is right where it stands
pub names_right : (core : Circuit) (B : ℕ) (form : CFile) → IsMaskedForm core B form → AreRight (names_of form)
names_right core B form made =
    let gadgets = template (ones B) B in
    let calls : CallsRight gadgets (calls_of core B made.places)
    = equations_right (ones B) B core.inputs made.places core.width B 0 core.equations _
    (outputs_right (ones B) B core.inputs made.places 0 core.outputs) in
    let all : AreRight (gadgets_names [] gadgets ++ map (call_is_right gadgets) (calls_of core B made.places))
    = all_right (gadgets_names [] gadgets) _ (gadgets_right (ones B) B).names calls.names in
    subst (λ (gs : List CFun). AreRight (gadgets_names [] gs ++ map (call_is_right gs) form.calls)) (sym made.gadgets)
    (subst (λ (cs : List CCall). AreRight (gadgets_names [] gadgets ++ map (call_is_right gadgets) cs))
    (sym made.calls) all)
