-- The loop over the output elements of a table.
use Rattle.std.proofs.Common.{◌≡◌, ℕ, ◌+◌, ◌-◌, ◌*◌, ◌^◌, ◌<◌, ◌≤◌, Bool, List, [], ◌∷◌, ◌++◌, length, map, refl, sym, ap, ap₂, ◌∙◌, subst, arith, pow_pos, mul-le-mul_left, Some}
use Rattle.std.specs.Prelude.{filter}
use Rattle.std.specs.List.{range_with_len}
use Rattle.std.specs.Option.{unwrap_or}
use Rattle.std.proofs.lemmas.List.{length-map}
use Rattle.std.proofs.lemmas.List.FromFn.{length-map-range_with_len, map-range_with_len_more}
use Rattle.usuba0.specs.declared.circuit.Reg.{Reg}
use Rattle.usuba0.specs.Term.{Term, Const}
use Rattle.usuba0.specs.Builder.{Held, Names, Grows, term_of}
use Rattle.table_anf.specs.Extends.{Extends}
use Rattle.table_anf.specs.TableTerms.{monomial, is_present, complemented, table_term}
use Rattle.table_anf.specs.State.Emission.{StandFor, chosen, sum_of}
use Rattle.table_anf.proofs.Extending.{Extends-both, Extends-more, Extends-grows, length-extends, Names-extends, StandFor-extends, StandFor-push}
use Rattle.table_anf.proofs.Sums.{chosen-range, left_fold-is}

-- the monomials of so many arguments, from 1 upwards
abbrev pub all_monomials : ℕ → List Term → List Term
all_monomials n args = map (monomial args) (range_with_len 1 (2 ^ n - 1))

-- what `output_of` makes of the terms of the products
abbrev pub output_term : ℕ → (ℕ → Bool) → List Term → Term
output_term w test products = complemented w (test 0) (unwrap_or (sum_of (chosen test 1 products)) (Const 0))

-- that is a table's term
pub output_term-is : (w n m : ℕ) (entries : List ℕ) (args : List Term) (j : ℕ) → n ≡ length args
    → output_term w (is_present n m entries j) (all_monomials n args) ≡ table_term w m entries args j
output_term-is w n m entries args j e =
    let P : ℕ → Type 0 = λ k. output_term w (is_present k m entries j) (all_monomials k args) ≡ table_term w m entries args j in
    let k = length args in
    let test = is_present k m entries j in
    subst P (sym e)
    (ap (complemented w (test 0))
    (ap (λ ts. unwrap_or (sum_of ts) (Const 0)) (chosen-range test (monomial args) 1 (2 ^ k - 1))
    ∙ left_fold-is (map (monomial args) (filter test (range_with_len 1 (2 ^ k - 1))))))

-- what the loop over output elements keeps, after so many of them, where the table has n input and m output elements
pub record IsEmitting (start : Held) (args : List Reg) (n m : ℕ) (entries : List ℕ) (products : List Reg) (nought : Reg) (count : ℕ) (now : Held)
    (outputs : List Reg) : Type 0 where
  pub stand : StandFor now outputs (map (table_term start.width m entries (map (term_of start) args)) (range_with_len 0 count))
  pub made : StandFor now products (all_monomials n (map (term_of start) args))
  pub named : Names now nought (Const 0)
  pub extends : Extends (2 ^ n * (count + 1)) start now

pub emitting_starts : (start b c : Held) (args : List Reg) (n m : ℕ) (entries : List ℕ) (products : List Reg) (nought : Reg) (outputs : List Reg)
    → n ≡ length args → outputs ≡ []
    → StandFor b products (all_monomials (length args) (map (term_of start) args)) → Extends (2 ^ length args - 1) start b
    → Grows (Const 0 ∷ []) b c → Names c nought (Const 0)
    → IsEmitting start args n m entries products nought 0 c outputs
emitting_starts start b c args n m entries products nought outputs en eo made extends grows named =
    let k = length args in
    let p = pow_pos k in
    let one : Extends 1 b c = Extends-grows (Const 0 ∷ []) 1 b c (omega arith) grows in
    let P : List Reg → Type 0 = λ rs. IsEmitting start args n m entries products nought 0 c rs in
    let Q : ℕ → Type 0 = λ i. IsEmitting start args i m entries products nought 0 c [] in
    subst P (sym eo) (subst Q (sym en) (record {
      stand = record { held = λ i d l. absurd (omega arith); terms = refl };
      made = StandFor-extends 1 b c products (all_monomials k (map (term_of start) args)) one made;
      named = named;
      extends = Extends-both (2 ^ k - 1) 1 (2 ^ k * (0 + 1)) start b c (omega arith) extends one;
    }))

pub emitting_goes_on : (start b c : Held) (args : List Reg) (n m : ℕ) (entries : List ℕ) (products : List Reg) (nought : Reg) (j : ℕ)
    (outputs after : List Reg) (r : Reg)
    → n ≡ length args → IsEmitting start args n m entries products nought j b outputs
    → Names c r (output_term b.width (is_present n m entries j) (map (term_of b) products)) → Extends (2 ^ n) b c
    → after ≡ outputs ++ r ∷ []
    → IsEmitting start args n m entries products nought (j + 1) c after
emitting_goes_on start b c args n m entries products nought j outputs after r en so_far named extends e =
    let ts = map (term_of start) args in
    let test = is_present n m entries j in
    let long : n ≡ length ts = omega (arith, length-map args (term_of start)) in
    let term : output_term b.width test (map (term_of b) products) ≡ table_term start.width m entries ts j =
    ap₂ (λ w us. output_term w test us) so_far.extends.width so_far.made.terms
    ∙ output_term-is start.width n m entries ts j long in
    let count : 2 ^ n * (j + 1) + 2 ^ n ≤ 2 ^ n * (j + 1 + 1) = omega arith in
    let P : List Reg → Type 0 = λ rs. IsEmitting start args n m entries products nought (j + 1) c rs in
    let Q : List Term → Type 0 = λ us. StandFor c (outputs ++ r ∷ []) us in
    subst P (sym e) (record {
      stand =
          subst Q (sym (map-range_with_len_more (table_term start.width m entries ts) 0 j j (omega arith)))
          (StandFor-push c outputs (map (table_term start.width m entries ts) (range_with_len 0 j)) r (table_term start.width m entries ts j)
          (StandFor-extends (2 ^ n) b c outputs (map (table_term start.width m entries ts) (range_with_len 0 j)) extends so_far.stand)
          (named ∙ ap Some term));
      made = StandFor-extends (2 ^ n) b c products (all_monomials n ts) extends so_far.made;
      named = Names-extends (2 ^ n) b c nought (Const 0) extends so_far.named;
      extends = Extends-both (2 ^ n * (j + 1)) (2 ^ n) (2 ^ n * (j + 1 + 1)) start b c count so_far.extends extends;
    })

-- how many products there are
pub emitting_count : (start : Held) (args : List Reg) (n m : ℕ) (entries : List ℕ) (products : List Reg) (nought : Reg) (j : ℕ) (b : Held) (outputs : List Reg)
    → IsEmitting start args n m entries products nought j b outputs → length products + 1 ≡ 2 ^ n
emitting_count start args n m entries products nought j b outputs so_far =
    let p = pow_pos n in
    let l : length products ≡ 2 ^ n - 1 =
    sym (length-map products (term_of b)) ∙ ap length so_far.made.terms
    ∙ length-map-range_with_len (monomial (map (term_of start) args)) 1 (2 ^ n - 1) in
    omega arith

-- there is room for one output element more
pub emitting_room : (start : Held) (args : List Reg) (n m : ℕ) (entries : List ℕ) (products : List Reg) (nought : Reg) (j : ℕ) (b : Held) (outputs : List Reg) (most : ℕ)
    → j < m → length start.terms + 2 ^ n * (m + 1) ≤ most
    → IsEmitting start args n m entries products nought j b outputs → length b.terms + 2 ^ n ≤ most
emitting_room start args n m entries products nought j b outputs most h room so_far =
    let grown = length-extends (2 ^ n * (j + 1)) start b so_far.extends in
    let le : j + 1 + 1 ≤ m + 1 = omega arith in
    let more : 2 ^ n * (j + 1 + 1) ≤ 2 ^ n * (m + 1) = mul-le-mul_left (2 ^ n) le in
    omega arith

-- so many were added
pub emitting_extends : (start : Held) (args : List Reg) (n m : ℕ) (entries : List ℕ) (products : List Reg) (nought : Reg) (j : ℕ) (b : Held) (outputs : List Reg)
    → j ≤ m → IsEmitting start args n m entries products nought j b outputs → Extends (2 ^ n * (m + 1)) start b
emitting_extends start args n m entries products nought j b outputs h so_far =
    let le : j + 1 ≤ m + 1 = omega arith in
    Extends-more (2 ^ n * (j + 1)) (2 ^ n * (m + 1)) start b (mul-le-mul_left (2 ^ n) le) so_far.extends

-- there is room for the constant 0
pub constant_room : (start b : Held) (args : List Reg) (n m most : ℕ) → n ≡ length args → length start.terms + 2 ^ n * (m + 1) ≤ most
    → Extends (2 ^ length args - 1) start b → length b.terms < most
constant_room start b args n m most e room extends =
    let grown = length-extends (2 ^ length args - 1) start b extends in
    let p = pow_pos n in
    let same : 2 ^ n ≡ 2 ^ length args = ap (λ k. 2 ^ k) e in
    let more : 2 ^ n * 1 ≤ 2 ^ n * (m + 1) = mul-le-mul_left (2 ^ n) (omega arith) in
    omega arith
