-- The plain run of a refreshed core.
use Rattle.std.proofs.Common.{◌≡◌, ℕ, suc, ◌+◌, ◌<◌, Bool, true, false, List, [], ◌∷◌, ◌++◌, length, map, get_or, All, sym, ap, ◌∙◌, arith, subst, refl, inl, inr, bit_and, bit_xor, length-append}
use Rattle.std.proofs.lemmas.List.{get_or_push, get_or_append_left, length_push, append-nil}
use Rattle.usuba0.specs.declared.circuit.Gate.{Gate}
use Rattle.usuba0.specs.declared.circuit.Gate.TheVariants as gate
use Rattle.usuba0.specs.declared.circuit.Reg.{Reg}
use Rattle.usuba0.specs.Circuit.{Circuit, IsEquation, AreEquations, registers, products_of}
use Rattle.usuba0.specs.Term.{word_of_constant, shifted_left, shifted_right, rotated_left, ones}
use Rattle.usuba0.specs.PlainRun.{word_at, word_of_equation, run_equations}
use Rattle.core_refresh.specs.RefreshedCore.{takes_refresh, new_register, renumbered, refreshed_gate, refreshed_equations}
use Rattle.core_refresh.specs.RefreshedLaws.{RunsTheSame}
use Rattle.core_refresh.specs.State.Copying.{IsNumbering}
use Rattle.core_refresh.proofs.Numbering.{one_if, IsOfKind, product, plain, kind_of, cases_lt_eq, numbering_more, numbering_start, new_of_input}

-- the registers below n have the same words under their new numbers
pub record AreSameWords (rename : Reg → Reg) (n next : ℕ) (old new : List ℕ) : Type 0 where
  pub old_count : length old ≡ n
  pub new_count : length new ≡ next
  pub same : (r : Reg) → r.0 < n → word_at new (rename r) ≡ word_at old r

-- an equation makes the same word of them
pub same_word : (w B n : ℕ) (rename : Reg → Reg) (old new : List ℕ) (g : Gate) → IsEquation w n g
    → ((r : Reg) → r.0 < n → word_at new (rename r) ≡ word_at old r)
    → word_of_equation w B new (renumbered rename g) ≡ word_of_equation w B old g
same_word w B n rename old new (gate.Const c) is h = refl
same_word w B n rename old new (gate.Xor a b) is h =
    ap (λ (x : ℕ). bit_xor x (word_at new (rename b))) (h a is.0) ∙ ap (λ (x : ℕ). bit_xor (word_at old a) x) (h b is.1)
same_word w B n rename old new (gate.Not a) is h = ap (λ (x : ℕ). bit_xor x (ones B)) (h a is)
same_word w B n rename old new (gate.Mask c a) is h = ap (λ (x : ℕ). bit_and (word_of_constant w B c) x) (h a is.1)
same_word w B n rename old new (gate.And a b) is h =
    ap (λ (x : ℕ). bit_and x (word_at new (rename b))) (h a is.0) ∙ ap (λ (x : ℕ). bit_and (word_at old a) x) (h b is.1)
same_word w B n rename old new (gate.Shl m a) is h = ap (λ (x : ℕ). shifted_left B m x) (h a is.2)
same_word w B n rename old new (gate.Shr m a) is h = ap (λ (x : ℕ). shifted_right m x) (h a is.2)
same_word w B n rename old new (gate.Rotl m a) is h = ap (λ (x : ℕ). rotated_left B m x) (h a is.2)
same_word w B n rename old new (gate.Refresh a) is h = h a is

-- a run of equations and then of others
pub run-append : (w B : ℕ) (words : List ℕ) (xs ys : List Gate)
    → run_equations w B words (xs ++ ys) ≡ run_equations w B (run_equations w B words xs) ys
run-append w B words [] ys = refl
run-append w B words (x ∷ xs) ys = run-append w B (words ++ word_of_equation w B words x ∷ []) xs ys

-- one more register, whose new number is that of the last word
pub words_more : (rename : Reg → Reg) (n next : ℕ) (old new : List ℕ) (x y : ℕ) (more : List ℕ) → AreSameWords rename n next old new
    → ((r : Reg) → r.0 < n → (rename r).0 < next) → (rename (record { 0 = n + 0 })).0 ≡ next + length more → x ≡ y
    → AreSameWords rename (suc n) (next + suc (length more)) (old ++ y ∷ []) ((new ++ more) ++ x ∷ [])
words_more rename n next old new x y more is earlier own e =
    let many = length-append new more in
    let old_count = is.old_count in
    let new_count = is.new_count in
    record {
      old_count = let h = length_push old y in omega arith;
      new_count = let h = length_push (new ++ more) x in omega arith;
      same = λ r h.
          elim (cases_lt_eq r.0 n h) [
            | inl below ↦
                let first = earlier r below in
                let inside : (rename r).0 < length (new ++ more) = omega arith in
                let front : (rename r).0 < length new = omega arith in
                let back : r.0 < length old = omega arith in
                get_or_append_left (new ++ more) (x ∷ []) 0 (rename r).0 inside
                ∙ get_or_append_left new more 0 (rename r).0 front
                ∙ is.same r below
                ∙ sym (get_or_append_left old (y ∷ []) 0 r.0 back)
            | inr at ↦
                let here : r.0 ≡ n + 0 = omega arith in
                let last : (rename r).0 ≡ (rename (record { 0 = n + 0 })).0 = ap (λ (z : ℕ). (rename (record { 0 = z })).0) here in
                let there : length (new ++ more) ≡ (rename r).0 = omega arith in
                let back : length old ≡ r.0 = omega arith in
                get_or_push (new ++ more) x 0 (rename r).0 there ∙ e ∙ sym (get_or_push old y 0 r.0 back)
          ];
    }

-- the same with no word in between
pub words_next : (rename : Reg → Reg) (n next : ℕ) (old new : List ℕ) (x y : ℕ) → AreSameWords rename n next old new
    → ((r : Reg) → r.0 < n → (rename r).0 < next) → (rename (record { 0 = n + 0 })).0 ≡ next + 0 → x ≡ y
    → AreSameWords rename (suc n) (next + 1) (old ++ y ∷ []) (new ++ x ∷ [])
words_next rename n next old new x y is earlier own e =
    subst (λ (l : List ℕ). AreSameWords rename (suc n) (next + 1) (old ++ y ∷ []) (l ++ x ∷ []))
    (append-nil new) (words_more rename n next old new x y [] is earlier own e)

product_runs : (w B : ℕ) (rename : Reg → Reg) (set : ℕ → Bool) (k n next : ℕ) (a b : Reg) (old new : List ℕ) (mark : Bool) → set k ≡ mark
    → AreSameWords rename n next old new → ((r : Reg) → r.0 < n → (rename r).0 < next)
    → (rename (record { 0 = n + 0 })).0 ≡ next + 0 + (one_if (set k) + 0) → IsEquation w n (gate.And a b)
    → AreSameWords rename (suc n) (next + length (refreshed_gate rename set k next (gate.And a b)))
    (old ++ word_of_equation w B old (gate.And a b) ∷ []) (run_equations w B new (refreshed_gate rename set k next (gate.And a b)))
product_runs w B rename set k n next a b old new true e is earlier own at =
    let wa = word_at new (rename a) in
    let new_count = is.new_count in
    let left : word_at (new ++ wa ∷ []) (record { 0 = next }) ≡ word_at old a = get_or_push new wa 0 next new_count ∙ is.same a at.0 in
    let below = earlier b at.1 in
    let inside : (rename b).0 < length new = omega arith in
    let right : word_at (new ++ wa ∷ []) (rename b) ≡ word_at old b = get_or_append_left new (wa ∷ []) 0 (rename b).0 inside ∙ is.same b at.1 in
    let mark : one_if (set k) ≡ 1 = ap one_if e in
    rw e (words_more rename n next old new _ _ (wa ∷ []) is earlier (omega arith)
    (ap (λ (x : ℕ). bit_and x (word_at (new ++ wa ∷ []) (rename b))) left ∙ ap (λ (x : ℕ). bit_and (word_at old a) x) right))
product_runs w B rename set k n next a b old new false e is earlier own at =
    let mark : one_if (set k) ≡ 0 = ap one_if e in
    rw e (words_next rename n next old new _ _ is earlier (omega arith) (same_word w B n rename old new (gate.And a b) at is.same))

gate_runs_of : (w B : ℕ) (rename : Reg → Reg) (set : ℕ → Bool) (k n next : ℕ) (g : Gate) (old new : List ℕ) → IsOfKind g
    → AreSameWords rename n next old new → ((r : Reg) → r.0 < n → (rename r).0 < next)
    → (rename (record { 0 = n + 0 })).0 ≡ next + 0 + (one_if (takes_refresh set k g) + 0) → IsEquation w n g
    → AreSameWords rename (suc n) (next + length (refreshed_gate rename set k next g))
    (old ++ word_of_equation w B old g ∷ []) (run_equations w B new (refreshed_gate rename set k next g))
gate_runs_of w B rename set k n next g old new (product a b) is earlier own at =
    product_runs w B rename set k n next a b old new (set k) refl is earlier own at
gate_runs_of w B rename set k n next g old new (plain x p) is earlier own at =
    let none : one_if (takes_refresh set k x) ≡ 0 = ap one_if (p.takes set k) in
    rw (p.stands rename set k next) (words_next rename n next old new _ _ is earlier (omega arith) (same_word w B n rename old new x at is.same))

-- after all the equations the registers have the same words under their new numbers
pub equations_run : (w B : ℕ) (rename : Reg → Reg) (set : ℕ → Bool) (k n next : ℕ) (gs : List Gate) (old new : List ℕ)
    → IsNumbering rename set k n next gs → AreEquations w n gs → AreSameWords rename n next old new
    → (r : Reg) → r.0 < n + length gs
    → word_at (run_equations w B new (refreshed_equations rename set k next gs)) (rename r) ≡ word_at (run_equations w B old gs) r
equations_run w B rename set k n next [] old new is at same r h = same.same r (omega arith)
equations_run w B rename set k n next (g ∷ gs) old new is at same r h =
    let here = refreshed_gate rename set k next g in
    let rest = refreshed_equations rename set (k + products_of (g ∷ [])) (next + length here) gs in
    ap (λ (l : List ℕ). word_at l (rename r)) (run-append w B new here rest)
    ∙ equations_run w B rename set (k + products_of (g ∷ [])) (suc n) (next + length here) gs (old ++ word_of_equation w B old g ∷ [])
    (run_equations w B new here) (numbering_more rename set k n next g gs is) at.1
    (gate_runs_of w B rename set k n next g old new (kind_of g) same is.earlier (is.later 0 (omega arith)) at.0) r (omega arith)

-- outputs with the same words
pub outputs_same : (f g : Reg → ℕ) (rename : Reg → Reg) (n : ℕ) (rs : List Reg) → All (λ r. r.0 < n) rs
    → ((r : Reg) → r.0 < n → f (rename r) ≡ g r) → map f (map rename rs) ≡ map g rs
outputs_same f g rename n [] all h = refl
outputs_same f g rename n (r ∷ rs) all h =
    ap (λ (x : ℕ). x ∷ map f (map rename rs)) (h r (all 0 r (omega arith)))
    ∙ ap (λ (l : List ℕ). g r ∷ l) (outputs_same f g rename n rs (λ k d below. all (suc k) d (omega arith)) h)

-- the words of the inputs are the same under their numbers, which they keep
inputs_same : (core : Circuit) (set : ℕ → Bool) (inputs : List ℕ) → length inputs ≡ core.inputs
    → AreSameWords (new_register core set) core.inputs core.inputs inputs inputs
inputs_same core set inputs e =
    record {
      old_count = e;
      new_count = e;
      same = λ r h. ap (λ (x : ℕ). get_or inputs x 0) (new_of_input core set r h);
    }

-- the law of the plain run
pub runs_the_same : RunsTheSame
runs_the_same core set bits inputs is e =
    outputs_same _ _ (new_register core set) (registers core) core.outputs is.outputs
    (equations_run core.width bits (new_register core set) set 0 core.inputs core.inputs core.equations inputs inputs
    (numbering_start core set) is.equations (inputs_same core set inputs e))
