-- The monomials over some arguments, made from those over one argument less.
use Rattle.std.proofs.Common.{◌≡◌, ℕ, ◌+◌, ◌-◌, ◌*◌, ◌/◌, ◌%◌, ◌^◌, ◌<◌, ◌≤◌, zero, suc, Bool, true, false, eqb, List, [], ◌∷◌, ◌++◌, length, map, get_or, take, refl, sym, ap, ap₂, ◌∙◌, subst, arith, append_assoc, length-append, pow-suc, pow_pos, pow_mono, Some}
use Rattle.std.specs.Prelude.{All, flat_map, if◌then◌else◌}
use Rattle.std.specs.Int.{bit_at}
use Rattle.std.specs.List.{range_with_len}
use Rattle.std.proofs.lemmas.List.{append-nil, take_all, take_more, length-take-le, get_or-map, length-map}
use Rattle.std.proofs.lemmas.List.Concat.{flat_map-append}
use Rattle.std.proofs.lemmas.List.FromFn.{length-map-range_with_len}
use Rattle.std.proofs.lemmas.List.Sums.{fold_push}
use Rattle.std.proofs.lemmas.Nat.Bits.{bit_at_lowest, bit_at-suc}
use Rattle.usuba0.specs.declared.circuit.Reg.{Reg}
use Rattle.usuba0.specs.Term.{Term, Const, and_term}
use Rattle.usuba0.specs.Builder.{Held, Holds, Names, Grows, term_of}
use Rattle.table_anf.specs.Extends.{Extends}
use Rattle.table_anf.specs.TableTerms.{factors, left_fold, monomial}
use Rattle.table_anf.specs.State.Emission.{StandFor, with_and_without, with_factor}
use Rattle.table_anf.proofs.Monomials.{factors-some}
use Rattle.table_anf.proofs.Polynomials.{factors-none}
use Rattle.table_anf.proofs.Extending.{Extends-itself, Extends-both, Extends-more, Extends-grows, length-extends, Holds-extends, term_of-extends, Names-held, StandFor-extends, StandFor-push}

-- ---- one argument more, as the least significant bit

appended : {V : Type 0} (c : Bool) (z : V) (zs ws : List V) → (if c then z ∷ (zs ++ ws) else zs ++ ws) ≡ (if c then z ∷ zs else zs) ++ ws
appended true z zs ws = refl
appended false z zs ws = refl

-- the factors of 2v + b: those of v, and the last element where b is 1
factors-last : {V : Type 0} (elements : List V) (x : V) (v b : ℕ) → b < 2
    → factors (elements ++ x ∷ []) (2 * v + b) ≡ factors elements v ++ (if eqb b 1 then x ∷ [] else [])
factors-last [] x v b h =
    let low : (2 * v + b) % 2 ≡ b = omega arith in
    ap (λ y. if eqb y 1 then x ∷ [] else []) (bit_at_lowest (2 * v + b) ∙ low)
factors-last (y ∷ elements) x v b h =
    let i = length elements in
    let long : length (elements ++ x ∷ []) ≡ suc i = let l = length-append elements (x ∷ []) in omega arith in
    let half : (2 * v + b) / 2 ≡ v = omega arith in
    let rest = factors elements v ++ (if eqb b 1 then x ∷ [] else []) in
    ap (λ k. if eqb (bit_at (2 * v + b) k) 1 then y ∷ factors (elements ++ x ∷ []) (2 * v + b) else factors (elements ++ x ∷ []) (2 * v + b)) long
    ∙ ap (λ k. if eqb k 1 then y ∷ factors (elements ++ x ∷ []) (2 * v + b) else factors (elements ++ x ∷ []) (2 * v + b))
    (bit_at-suc (2 * v + b) i ∙ ap (λ k. bit_at k i) half)
    ∙ ap (λ zs. if eqb (bit_at v i) 1 then y ∷ zs else zs) (factors-last elements x v b h)
    ∙ appended (eqb (bit_at v i) 1) y (factors elements v) (if eqb b 1 then x ∷ [] else [])

left_fold-push : (join : Term → Term → Term) (ts : List Term) (t : Term) → (ts ≡ [] → ⊥) → left_fold join (ts ++ t ∷ []) ≡ join (left_fold join ts) t
left_fold-push join [] t some = absurd (some refl)
left_fold-push join (x ∷ ts) t some = fold_push join x ts t

monomial-first : (args : List Term) (a : Term) → monomial (args ++ a ∷ []) 1 ≡ a
monomial-first args a =
    let e : factors (args ++ a ∷ []) (2 * 0 + 1) ≡ factors args 0 ++ a ∷ [] = factors-last args a 0 1 (omega arith) in
    ap (left_fold and_term) (e ∙ ap (λ fs. fs ++ a ∷ []) (factors-none args))

monomial-without : (args : List Term) (a : Term) (v : ℕ) → monomial (args ++ a ∷ []) (2 * v) ≡ monomial args v
monomial-without args a v =
    let z : 2 * v ≡ 2 * v + 0 = omega arith in
    ap (monomial (args ++ a ∷ [])) z ∙ ap (left_fold and_term) (factors-last args a v 0 (omega arith) ∙ append-nil (factors args v))

monomial-with : (args : List Term) (a : Term) (v : ℕ) → 0 < v → v < 2 ^ length args
    → monomial (args ++ a ∷ []) (2 * v + 1) ≡ and_term (monomial args v) a
monomial-with args a v h k =
    ap (left_fold and_term) (factors-last args a v 1 (omega arith)) ∙ left_fold-push and_term (factors args v) a (factors-some args v h k)

-- the monomials 2v, 2v + 1, .. from the monomials v, ..
monomials-doubled : (args : List Term) (a : Term) (v n : ℕ) → 0 < v → v + n ≤ 2 ^ length args
    → flat_map (with_and_without a) (map (monomial args) (range_with_len v n)) ≡ map (monomial (args ++ a ∷ [])) (range_with_len (2 * v) (2 * n))
monomials-doubled args a v zero h le = refl
monomials-doubled args a v (suc n) h le =
    let longer = args ++ a ∷ [] in
    let twice : 2 * suc n ≡ suc (suc (2 * n)) = omega arith in
    let next : 2 * v + 1 + 1 ≡ 2 * (v + 1) = omega arith in
    ap₂ (λ x y. x ∷ y ∷ flat_map (with_and_without a) (map (monomial args) (range_with_len (v + 1) n)))
    (sym (monomial-without args a v)) (sym (monomial-with args a v h (omega arith)))
    ∙ ap (λ ts. monomial longer (2 * v) ∷ monomial longer (2 * v + 1) ∷ ts)
    (monomials-doubled args a (v + 1) n (omega arith) (omega arith) ∙ ap (λ k. map (monomial longer) (range_with_len k (2 * n))) (sym next))
    ∙ ap (λ k. map (monomial longer) (range_with_len (2 * v) k)) (sym twice)

-- the monomials over one argument more
pub with_factor-monomials : (args : List Term) (a : Term) (n : ℕ) → n ≡ length args
    → with_factor a (map (monomial args) (range_with_len 1 (2 ^ n - 1))) ≡ map (monomial (args ++ a ∷ [])) (range_with_len 1 (2 ^ (n + 1) - 1))
with_factor-monomials args a n e =
    let longer = args ++ a ∷ [] in
    let p = pow_pos n in
    let s : 2 ^ (n + 1) ≡ 2 ^ n * 2 = let one : n + 1 ≡ suc n = omega arith in ap (λ k. 2 ^ k) one ∙ pow-suc 2 n in
    let count : suc (2 * (2 ^ n - 1)) ≡ 2 ^ (n + 1) - 1 = omega arith in
    let le : 1 + (2 ^ n - 1) ≤ 2 ^ length args = let same = ap (λ k. 2 ^ k) e in omega arith in
    ap₂ (λ x xs. x ∷ xs) (sym (monomial-first args a)) (monomials-doubled args a 1 (2 ^ n - 1) (omega arith) le)
    ∙ ap (λ k. map (monomial longer) (range_with_len 1 k)) count

-- ---- the loop over products

with_factor-more : (a : Term) (ts : List Term) (i : ℕ) (d : Term) → i < length ts
    → with_factor a (take (i + 1) ts) ≡ (with_factor a (take i ts) ++ get_or ts i d ∷ []) ++ and_term (get_or ts i d) a ∷ []
with_factor-more a ts i d h =
    let t = get_or ts i d in
    ap (with_factor a) (take_more ts i d h)
    ∙ ap (λ xs. a ∷ xs) (flat_map-append (with_and_without a) (take i ts) (t ∷ []))
    ∙ sym (append_assoc (with_factor a (take i ts)) (t ∷ []) (and_term t a ∷ []))

-- what the loop over products keeps, after so many of them
pub record IsMaking (start : Held) (products : List Reg) (factor : Reg) (count : ℕ) (now : Held) (made : List Reg) : Type 0 where
  pub stand : StandFor now made (with_factor (term_of start factor) (take count (map (term_of start) products)))
  pub extends : Extends count start now

pub making_starts : (start : Held) (products : List Reg) (factor : Reg) (made : List Reg) → made ≡ [] ++ factor ∷ [] → Holds start factor
    → StandFor start made (with_factor (term_of start factor) (take 0 (map (term_of start) products)))
making_starts start products factor made e held =
    let P : List Reg → Type 0 = λ rs. StandFor start rs (term_of start factor ∷ []) in
    subst P (sym e)
    (StandFor-push start [] [] factor (term_of start factor) (record { held = λ i d l. absurd (omega arith); terms = refl }) (Names-held start factor held))

pub making_goes_on : (start : Held) (products : List Reg) (factor : Reg) (i : ℕ) (b c : Held) (made pushed whole : List Reg) (p r : Reg) (d : Reg)
    → All (Holds start) products → Holds start factor → i < length products → p ≡ get_or products i d
    → IsMaking start products factor i b made → pushed ≡ made ++ p ∷ []
    → Grows (and_term (term_of b p) (term_of b factor) ∷ []) b c → Names c r (and_term (term_of b p) (term_of b factor))
    → whole ≡ pushed ++ r ∷ [] → IsMaking start products factor (i + 1) c whole
making_goes_on start products factor i b c made pushed whole p r d held holds h ep so_far e1 grows named e2 =
    let ts = map (term_of start) products in
    let a = term_of start factor in
    let t = get_or ts i (Const 0) in
    let holds_p : Holds start p = let P : Reg → Type 0 = λ q. Holds start q in subst P (sym ep) (held i d h) in
    let at : term_of start p ≡ t = ap (term_of start) ep ∙ sym (get_or-map (term_of start) products i d (Const 0) h) in
    let tp : term_of b p ≡ t = term_of-extends i start b p so_far.extends holds_p ∙ at in
    let ta : term_of b factor ≡ a = term_of-extends i start b factor so_far.extends holds in
    let one : Extends 1 b c = Extends-grows (and_term (term_of b p) (term_of b factor) ∷ []) 1 b c (omega arith) grows in
    let first : StandFor b pushed (with_factor a (take i ts) ++ t ∷ []) =
    let P : List Reg → Type 0 = λ rs. StandFor b rs (with_factor a (take i ts) ++ t ∷ []) in
    subst P (sym e1)
    (StandFor-push b made (with_factor a (take i ts)) p t so_far.stand
    (Names-held b p (Holds-extends i start b p so_far.extends holds_p) ∙ ap Some tp)) in
    let second : StandFor c (pushed ++ r ∷ []) ((with_factor a (take i ts) ++ t ∷ []) ++ and_term t a ∷ []) =
    StandFor-push c pushed (with_factor a (take i ts) ++ t ∷ []) r (and_term t a)
    (StandFor-extends 1 b c pushed (with_factor a (take i ts) ++ t ∷ []) one first)
    (named ∙ ap₂ (λ x y. Some (and_term x y)) tp ta) in
    record {
      stand =
          let long : i < length ts = omega (arith, length-map products (term_of start)) in
          let P : List Reg → Type 0 = λ rs. StandFor c rs (with_factor a (take (i + 1) ts)) in
          let Q : List Term → Type 0 = λ us. StandFor c (pushed ++ r ∷ []) us in
          subst P (sym e2) (subst Q (sym (with_factor-more a ts i (Const 0) long)) second);
      extends = Extends-both i 1 (i + 1) start b c (omega arith) so_far.extends one;
    }

-- ---- the loop over arguments

-- what the loop over arguments keeps, after so many of them
pub record IsOver (start : Held) (args : List Reg) (count : ℕ) (now : Held) (products : List Reg) : Type 0 where
  pub stand : StandFor now products (map (monomial (take count (map (term_of start) args))) (range_with_len 1 (2 ^ count - 1)))
  pub extends : Extends (2 ^ count - 1) start now

-- how many monomials there are
pub count_products : (start : Held) (args : List Reg) (i : ℕ) (b : Held) (products : List Reg) → IsOver start args i b products
    → length products ≡ 2 ^ i - 1
count_products start args i b products over =
    sym (length-map products (term_of b)) ∙ ap length over.stand.terms
    ∙ length-map-range_with_len (monomial (take i (map (term_of start) args))) 1 (2 ^ i - 1)

pub over_starts : (start : Held) (args products : List Reg) → products ≡ [] → IsOver start args 0 start products
over_starts start args products e =
    let P : List Reg → Type 0 = λ rs. IsOver start args 0 start rs in
    subst P (sym e) (record { stand = record { held = λ i d l. absurd (omega arith); terms = refl }; extends = Extends-itself 0 start })

pub over_goes_on : (start : Held) (args : List Reg) (i : ℕ) (b c : Held) (products made : List Reg) (arg d : Reg)
    → All (Holds start) args → i < length args → arg ≡ get_or args i d → IsOver start args i b products
    → StandFor c made (with_factor (term_of b arg) (map (term_of b) products)) → Extends (length products) b c
    → IsOver start args (i + 1) c made
over_goes_on start args i b c products made arg d held h e over made_so extends =
    let ts = map (term_of start) args in
    let t = get_or ts i (Const 0) in
    let p = pow_pos i in
    let s : 2 ^ (i + 1) ≡ 2 ^ i * 2 = let one : i + 1 ≡ suc i = omega arith in ap (λ k. 2 ^ k) one ∙ pow-suc 2 i in
    let count = count_products start args i b products over in
    let holds : Holds start arg = let P : Reg → Type 0 = λ q. Holds start q in subst P (sym e) (held i d h) in
    let term : term_of b arg ≡ t =
    term_of-extends (2 ^ i - 1) start b arg over.extends holds ∙ ap (term_of start) e ∙ sym (get_or-map (term_of start) args i d (Const 0) h) in
    let long : i < length ts = omega (arith, length-map args (term_of start)) in
    let taken : i ≡ length (take i ts) = sym (length-take-le i ts (omega arith)) in
    let terms : with_factor (term_of b arg) (map (term_of b) products) ≡ map (monomial (take (i + 1) ts)) (range_with_len 1 (2 ^ (i + 1) - 1)) =
    ap₂ with_factor term over.stand.terms
    ∙ with_factor-monomials (take i ts) t i taken
    ∙ ap (λ us. map (monomial us) (range_with_len 1 (2 ^ (i + 1) - 1))) (sym (take_more ts i (Const 0) long)) in
    let P : List Term → Type 0 = λ us. StandFor c made us in
    record {
      stand = subst P terms made_so;
      extends = Extends-both (2 ^ i - 1) (length products) (2 ^ (i + 1) - 1) start b c (omega arith) over.extends extends;
    }

-- there is room for the products with one argument more
pub over_room : (start : Held) (args : List Reg) (i : ℕ) (b : Held) (products : List Reg) (most : ℕ) → i < length args
    → length start.terms + 2 ^ length args ≤ most → IsOver start args i b products → length b.terms + length products ≤ most
over_room start args i b products most h room over =
    let count = count_products start args i b products over in
    let grown = length-extends (2 ^ i - 1) start b over.extends in
    let p = pow_pos i in
    let s : 2 ^ (i + 1) ≡ 2 ^ i * 2 = let one : i + 1 ≡ suc i = omega arith in ap (λ k. 2 ^ k) one ∙ pow-suc 2 i in
    let more : 2 ^ (i + 1) ≤ 2 ^ length args = pow_mono (omega arith) in
    omega arith

-- all arguments
pub over_all : (start : Held) (args : List Reg) (i : ℕ) (b : Held) (products : List Reg) → i ≤ length args → length args ≤ i
    → IsOver start args i b products
    → StandFor b products (map (monomial (map (term_of start) args)) (range_with_len 1 (2 ^ length args - 1)))
over_all start args i b products h k over =
    let ts = map (term_of start) args in
    let e : i ≡ length args = omega arith in
    let whole : take i ts ≡ ts = take_all i ts (omega (arith, length-map args (term_of start))) in
    let P : List Term → Type 0 = λ us. StandFor b products us in
    subst P (ap₂ (λ us n. map (monomial us) (range_with_len 1 (2 ^ n - 1))) whole e) over.stand

-- so many were added
pub over_extends : (start : Held) (args : List Reg) (i : ℕ) (b : Held) (products : List Reg) → i ≤ length args
    → IsOver start args i b products → Extends (2 ^ length args - 1) start b
over_extends start args i b products h over =
    let more : 2 ^ i ≤ 2 ^ length args = pow_mono h in
    Extends-more (2 ^ i - 1) (2 ^ length args - 1) start b (omega arith) over.extends

-- so many were added where the next step was begun
pub over_next_extends : (start : Held) (args : List Reg) (i : ℕ) (b c : Held) (products : List Reg) → i < length args
    → IsOver start args i b products → Extends (length products) b c → Extends (2 ^ length args - 1) start c
over_next_extends start args i b c products h over extends =
    let count = count_products start args i b products over in
    let p = pow_pos i in
    let s : 2 ^ (i + 1) ≡ 2 ^ i * 2 = let one : i + 1 ≡ suc i = omega arith in ap (λ k. 2 ^ k) one ∙ pow-suc 2 i in
    let more : 2 ^ (i + 1) ≤ 2 ^ length args = pow_mono (omega arith) in
    Extends-both (2 ^ i - 1) (length products) (2 ^ length args - 1) start b c (omega arith) over.extends extends
