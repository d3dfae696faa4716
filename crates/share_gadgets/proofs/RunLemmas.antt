-- A masked run goes along with the plain run of the values, equation by equation.
use Rattle.std.proofs.Common.{◌≡◌, ℕ, suc, ◌+◌, ◌-◌, ◌^◌, ◌<◌, ◌≤◌, ◌⊎◌, List, [], ◌∷◌, ◌++◌, length, get_or, map, replicate, All, bit_and, bit_xor, refl, sym, ap, ◌∙◌, ⊎_elim, arith, subst, mod-lt}
use Rattle.std.proofs.lemmas.Bool.{cond-true, cond-false, eq-eqb, ne_eqb, cases_eq, cases_lt}
use Rattle.std.proofs.lemmas.List.{length-map, get_or-map, get_or_past, length_push, map_push, get_or_push, get_or_append_left}
use Rattle.std.proofs.lemmas.Nat.{pow_pos, and_le_r, shr_le}
use lib.Bits.{and_zero_r}
use Rattle.usuba0.specs.declared.circuit.Gate.{Gate}
use Rattle.usuba0.specs.declared.circuit.Gate.TheVariants as gate
use Rattle.usuba0.specs.declared.circuit.Reg.{Reg}
use Rattle.usuba0.specs.Circuit.{Circuit, IsEquation, AreEquations, registers}
use Rattle.usuba0.specs.PlainRun.{word_at, word_of_equation, run_equations, plain_run}
use Rattle.usuba0.specs.Term.{ones, word_of_constant, shifted_left, shifted_right, rotated_left, bits_of_width}
use Rattle.share_gadgets.specs.Sharing.{sharing_value, IsSharing}
use Rattle.share_gadgets.specs.Gadgets.{constant_shares, not_shares}
use Rattle.share_gadgets.specs.MaskedRun.{draws, drawn_word, sharing_at, sharing_of_equation, run_shared, masked_run}
use Rattle.share_gadgets.specs.RunLaw.{AreWordBits, IsMaskedInput}
use Rattle.share_gadgets.specs.Private.WordLaws.{and_xor, xor_assoc, xor_comm, xor_zero_r, shl_xor, shr_xor}
use Rattle.share_gadgets.proofs.ValueLemmas.{value_cons, value_zeros}
use Rattle.share_gadgets.proofs.ProductValues.{product_value, refreshed_value, xor_value}
use Rattle.share_gadgets.proofs.Shared.{ones_below, constant_below, map_value, map_value_below, shl_zero, shr_zero, rotl_xor, rotl_zero, rotl_below, constant_shared, not_shared, map_shared, xor_shared, product_shared, refreshed_shared}

-- the value of a constant is its word
constant_value : (d c : ℕ) → sharing_value (constant_shares d c) ≡ c
constant_value d c = value_cons c (replicate (d - 1) 0) ∙ ap (bit_xor c) (value_zeros (d - 1)) ∙ xor_zero_r c

-- a word that is exclusive-ored into share 0 is exclusive-ored into the value
not_value : (d m : ℕ) (a : List ℕ) → 0 < d → length a ≡ d → sharing_value (not_shares m a) ≡ bit_xor (sharing_value a) m
not_value d m [] h e = absurd (omega arith)
not_value d m (x ∷ xs) h e =
    value_cons (bit_xor x m) xs
    ∙ xor_assoc x m (sharing_value xs) ∙ ap (bit_xor x) (xor_comm m (sharing_value xs)) ∙ sym (xor_assoc x (sharing_value xs) m)
    ∙ ap (λ (n : ℕ). bit_xor n m) (sym (value_cons x xs))

-- the value of a register's sharing is the word among the values
value_at : (rows : List (List ℕ)) (r : Reg) → sharing_value (sharing_at rows r) ≡ word_at (map sharing_value rows) r
value_at rows r =
    ⊎_elim (λ (l : r.0 < length rows). sym (get_or-map sharing_value rows r.0 [] 0 l))
    (λ (l : length rows ≤ r.0). ap (λ (xs : List ℕ). sharing_value xs) (get_or_past rows r.0 [] l)
    ∙ sym (get_or_past (map sharing_value rows) r.0 0 (omega (arith, length-map rows sharing_value))))
    (cases_lt r.0 (length rows))

module _ (w B d : ℕ) (fits : w ≤ B) (some : 0 < d) where
  -- what an equation makes is a sharing, of the word that the plain run makes
  pub record Follows (random : ℕ → ℕ) (rows : List (List ℕ)) (g : Gate) : Type 0 where
    pub value : sharing_value (sharing_of_equation w B d random rows g) ≡ word_of_equation w B (map sharing_value rows) g
    pub shared : IsSharing B d (sharing_of_equation w B d random rows g)

  module _ (random : ℕ → ℕ) (rows : List (List ℕ)) (small : (n : ℕ) → random n < 2 ^ B) (all : All (IsSharing B d) rows) where
    row : (r : Reg) → r.0 < length rows → IsSharing B d (sharing_at rows r)
    row r h = all r.0 [] h

    pub follows : (g : Gate) → IsEquation w (length rows) g → Follows random rows g
    follows (gate.Const c) h = record {
      value = constant_value d (word_of_constant w B c);
      shared = constant_shared B d (word_of_constant w B c) some (constant_below w B c fits h);
    }
    follows (gate.Xor a b) h = record {
      value = xor_value d (sharing_at rows a) (sharing_at rows b) (row a h.0).count (row b h.1).count ∙ (λ i. bit_xor (value_at rows a i) (value_at rows b i));
      shared = xor_shared B d (sharing_at rows a) (sharing_at rows b) (row a h.0) (row b h.1);
    }
    follows (gate.Not a) h = record {
      value = not_value d (ones B) (sharing_at rows a) some (row a h).count ∙ ap (λ (x : ℕ). bit_xor x (ones B)) (value_at rows a);
      shared = not_shared B d (ones B) (sharing_at rows a) (ones_below B) (row a h);
    }
    follows (gate.Mask c a) h = record {
      value = map_value (bit_and (word_of_constant w B c)) (sharing_at rows a) (and_zero_r _) (and_xor (word_of_constant w B c))
          ∙ ap (bit_and (word_of_constant w B c)) (value_at rows a);
      shared = map_shared B d (bit_and (word_of_constant w B c)) (sharing_at rows a) (λ x l. omega (arith, and_le_r (word_of_constant w B c) x)) (row a h.1);
    }
    follows (gate.And a b) h = record {
      value = product_value d (sharing_at rows a) (sharing_at rows b) random (row a h.0).count (row b h.1).count ∙ (λ i. bit_and (value_at rows a i) (value_at rows b i));
      shared = product_shared B d (sharing_at rows a) (sharing_at rows b) random small (row a h.0) (row b h.1);
    }
    follows (gate.Shl k a) h = record {
      value = map_value (shifted_left B k) (sharing_at rows a) (shl_zero B k) (λ x y. shl_xor B x y k) ∙ ap (shifted_left B k) (value_at rows a);
      shared = map_shared B d (shifted_left B k) (sharing_at rows a) (λ x l. mod-lt _ (pow_pos B)) (row a h.2);
    }
    follows (gate.Shr k a) h = record {
      value = map_value (shifted_right k) (sharing_at rows a) (shr_zero k) (λ x y. shr_xor x y k) ∙ ap (shifted_right k) (value_at rows a);
      shared = map_shared B d (shifted_right k) (sharing_at rows a) (λ x l. omega (arith, shr_le x k)) (row a h.2);
    }
    follows (gate.Rotl k a) h = record {
      value = map_value_below B (rotated_left B k) (sharing_at rows a) (rotl_zero B k (omega arith)) (λ x y l m. rotl_xor B k x y (omega arith) l m) (row a h.2).words
          ∙ ap (rotated_left B k) (value_at rows a);
      shared = map_shared B d (rotated_left B k) (sharing_at rows a) (rotl_below B k) (row a h.2);
    }
    follows (gate.Refresh a) h = record {
      value = refreshed_value d (sharing_at rows a) random (row a h).count ∙ value_at rows a;
      shared = refreshed_shared B d (sharing_at rows a) random small (row a h);
    }

  pub all_push : (rows : List (List ℕ)) (x : List ℕ) → All (IsSharing B d) rows → IsSharing B d x → All (IsSharing B d) (rows ++ x ∷ [])
  all_push rows x a s k e h =
      ⊎_elim (λ (l : k < length rows). subst (IsSharing B d) (sym (get_or_append_left rows (x ∷ []) e k l)) (a k e l))
      (λ (l : length rows ≤ k). let m : length rows ≡ k = omega (arith, length_push rows x) in
      subst (IsSharing B d) (sym (get_or_push rows x e k m)) s)
      (cases_lt k (length rows))

  -- what a run of the rest leaves
  pub record Runs (words : List ℕ) (q : ℕ) (rows : List (List ℕ)) (gs : List Gate) : Type 0 where
    pub values : map sharing_value (run_shared w B d words q rows gs) ≡ run_equations w B (map sharing_value rows) gs
    pub shared : All (IsSharing B d) (run_shared w B d words q rows gs)
    pub many : length (run_shared w B d words q rows gs) ≡ length rows + length gs

  pub runs : (words : List ℕ) (q : ℕ) (rows : List (List ℕ)) (gs : List Gate) → AreEquations w (length rows) gs → All (IsSharing B d) rows → Runs words q rows gs
  runs words q rows [] e a = record { values = refl; shared = a; many = omega arith }
  runs words q rows (g ∷ gs) e a =
      let random = drawn_word B d words q in
      let x = sharing_of_equation w B d random rows g in
      let here = follows random rows (λ n. mod-lt _ (pow_pos B)) a g e.0 in
      let n : suc (length rows) ≡ length (rows ++ x ∷ []) = omega (arith, length_push rows x) in
      let next = runs words (q + draws g) (rows ++ x ∷ []) gs (subst (λ (m : ℕ). AreEquations w m gs) n e.1) (all_push rows x a here.shared) in
      record {
        values = next.values ∙ ap (λ (ws : List ℕ). run_equations w B ws gs)
            (map_push sharing_value rows x ∙ ap (λ (v : ℕ). map sharing_value rows ++ v ∷ []) here.value);
        shared = next.shared;
        many = next.many ∙ omega arith;
      }

-- a width is within its word bits
pub width_fits : (w B : ℕ) → AreWordBits w B → w ≤ B
width_fits w B h =
    ⊎_elim (λ (e : B ≡ bits_of_width w). ⊎_elim
    (λ (one : w ≡ 1). let f : bits_of_width w ≡ 32 = cond-true _ _ _ (eq-eqb w 1 one) in omega arith)
    (λ (more : w ≡ 1 → ⊥). let f : bits_of_width w ≡ w = cond-false _ _ _ (ne_eqb w 1 more) in omega arith)
    (cases_eq w 1))
    (λ (p : (w ≡ 1) × ((B ≡ 8) ⊎ (B ≡ 16) ⊎ (B ≡ 32) ⊎ (B ≡ 64))). ⊎_elim (λ (e : B ≡ 8). omega (arith, p.0))
    (⊎_elim (λ (e : B ≡ 16). omega (arith, p.0)) (⊎_elim (λ (e : B ≡ 32). omega (arith, p.0)) (λ (e : B ≡ 64). omega (arith, p.0)))) p.1) h

outputs_values : (rows : List (List ℕ)) (rs : List Reg) → map sharing_value (map (sharing_at rows) rs) ≡ map (word_at (map sharing_value rows)) rs
outputs_values rows [] = refl
outputs_values rows (r ∷ rs) = λ i. value_at rows r i ∷ outputs_values rows rs i

core_runs : (B d : ℕ) (core : Circuit) (inputs : List (List ℕ)) (words : List ℕ) (given : IsMaskedInput B d core inputs)
    → Runs core.width B d (width_fits core.width B given.bits) given.some words 0 inputs core.equations
core_runs B d core inputs words given =
    runs core.width B d (width_fits core.width B given.bits) given.some words 0 inputs core.equations
    (subst (λ (n : ℕ). AreEquations core.width n core.equations) (sym given.count) given.is_core.equations) given.shared

-- the values of the outputs are the plain run of the values of the inputs
pub masked_values : (B d : ℕ) (core : Circuit) (inputs : List (List ℕ)) (words : List ℕ) → IsMaskedInput B d core inputs
    → map sharing_value (masked_run B d core inputs words) ≡ plain_run B core (map sharing_value inputs)
masked_values B d core inputs words given =
    let rows = run_shared core.width B d words 0 inputs core.equations in
    outputs_values rows core.outputs
    ∙ ap (λ (ws : List ℕ). map (word_at ws) core.outputs) (core_runs B d core inputs words given).values

-- each output is a sharing
pub masked_shared : (B d : ℕ) (core : Circuit) (inputs : List (List ℕ)) (words : List ℕ) → IsMaskedInput B d core inputs
    → All (IsSharing B d) (masked_run B d core inputs words)
masked_shared B d core inputs words given k e h =
    let rows = run_shared core.width B d words 0 inputs core.equations in
    let done = core_runs B d core inputs words given in
    let zero_reg : Reg = record { 0 = 0 } in
    let m : k < length core.outputs = omega (arith, length-map core.outputs (sharing_at rows)) in
    let r : Reg = get_or core.outputs k zero_reg in
    let in_core : r.0 < registers core = given.is_core.outputs k zero_reg m in
    let within : r.0 < length rows = omega (arith, done.many, given.count) in
    subst (IsSharing B d) (sym (get_or-map (sharing_at rows) core.outputs k zero_reg e m)) (done.shared r.0 [] within)
