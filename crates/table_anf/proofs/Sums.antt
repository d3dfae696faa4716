-- Sums of chosen terms.
use Rattle.std.proofs.Common.{◌≡◌, ℕ, ◌+◌, ◌<◌, ◌≤◌, zero, suc, Bool, true, false, List, [], ◌∷◌, ◌++◌, length, map, get_or, take, Some, None, Option, refl, sym, ap, ap₂, ◌∙◌, subst, arith}
use Rattle.std.specs.Prelude.{All, IfSome, filter, cond, option_map, if◌then◌else◌}
use Rattle.std.specs.List.{range_with_len}
use Rattle.std.specs.Option.{unwrap_or}
use Rattle.std.proofs.lemmas.List.{append-nil, take_all, take_more, length-take-le, get_or-map, length-map}
use Rattle.std.proofs.lemmas.List.Sums.{fold_push}
use Rattle.usuba0.specs.declared.circuit.Reg.{Reg}
use Rattle.usuba0.specs.Term.{Term, Const, xor_term}
use Rattle.usuba0.specs.Builder.{Held, Holds, Names, term_of}
use Rattle.usuba0.proofs.KeepLemmas.{Holds-named, term_of-named}
use Rattle.table_anf.specs.Extends.{Extends}
use Rattle.table_anf.specs.TableTerms.{left_fold}
use Rattle.table_anf.specs.State.Emission.{chosen, added_to, sum_of}
use Rattle.table_anf.proofs.Extending.{Extends-itself, Extends-both, Extends-more, term_of-extends}

-- a sum, and `Const(0)` where there is none, is the left fold
pub left_fold-is : (ts : List Term) → unwrap_or (sum_of ts) (Const 0) ≡ left_fold xor_term ts
left_fold-is [] = refl
left_fold-is (t ∷ ts) = refl

-- the sum of one term more
pub sum_of-push : (ts : List Term) (t : Term) → sum_of (ts ++ t ∷ []) ≡ Some (added_to (sum_of ts) t)
sum_of-push [] t = refl
sum_of-push (x ∷ ts) t = ap Some (fold_push xor_term x ts t)

chosen_where : (b : Bool) (t : Term) (xs ys zs : List Term) → xs ≡ ys ++ zs → (if b then t ∷ xs else xs) ≡ (if b then t ∷ ys else ys) ++ zs
chosen_where true t xs ys zs e = ap (λ us. t ∷ us) e
chosen_where false t xs ys zs e = e

chosen-append : (test : ℕ → Bool) (k : ℕ) (xs ys : List Term) → chosen test k (xs ++ ys) ≡ chosen test k xs ++ chosen test (k + length xs) ys
chosen-append test k [] ys = let e : k ≡ k + 0 = omega arith in ap (λ i. chosen test i ys) e
chosen-append test k (x ∷ xs) ys =
    let e : k + 1 + length xs ≡ k + suc (length xs) = omega arith in
    chosen_where (test k) x (chosen test (k + 1) (xs ++ ys)) (chosen test (k + 1) xs) (chosen test (k + suc (length xs)) ys)
    (chosen-append test (k + 1) xs ys ∙ ap (λ i. chosen test (k + 1) xs ++ chosen test i ys) e)

-- one term more
chosen_more : (test : ℕ → Bool) (k : ℕ) (ts : List Term) (i : ℕ) (d : Term) → i < length ts
    → chosen test k (take (i + 1) ts) ≡ chosen test k (take i ts) ++ (if test (k + i) then get_or ts i d ∷ [] else [])
chosen_more test k ts i d h =
    ap (chosen test k) (take_more ts i d h)
    ∙ chosen-append test k (take i ts) (get_or ts i d ∷ [])
    ∙ ap (λ n. chosen test k (take i ts) ++ (if test (k + n) then get_or ts i d ∷ [] else [])) (length-take-le i ts (omega arith))

-- a term that passes is added to the sum
pub sum_with : (test : ℕ → Bool) (k : ℕ) (ts : List Term) (i : ℕ) (d : Term) → i < length ts → test (k + i) ≡ true
    → sum_of (chosen test k (take (i + 1) ts)) ≡ Some (added_to (sum_of (chosen test k (take i ts))) (get_or ts i d))
sum_with test k ts i d h e =
    ap sum_of (chosen_more test k ts i d h ∙ ap (λ b. chosen test k (take i ts) ++ (if b then get_or ts i d ∷ [] else [])) e)
    ∙ sum_of-push (chosen test k (take i ts)) (get_or ts i d)

-- another leaves it
pub sum_without : (test : ℕ → Bool) (k : ℕ) (ts : List Term) (i : ℕ) (d : Term) → i < length ts → test (k + i) ≡ false
    → sum_of (chosen test k (take (i + 1) ts)) ≡ sum_of (chosen test k (take i ts))
sum_without test k ts i d h e =
    ap sum_of (chosen_more test k ts i d h ∙ ap (λ b. chosen test k (take i ts) ++ (if b then get_or ts i d ∷ [] else [])) e ∙ append-nil (chosen test k (take i ts)))

filtered_where : (f : ℕ → Term) (b : Bool) (a : ℕ) (rest : List ℕ) (ts : List Term) → ts ≡ map f rest
    → (if b then f a ∷ ts else ts) ≡ map f (cond b (a ∷ rest) rest)
filtered_where f true a rest ts e = ap (λ us. f a ∷ us) e
filtered_where f false a rest ts e = e

-- of terms that are made of the numbers of a range, those whose number passes
pub chosen-range : (test : ℕ → Bool) (f : ℕ → Term) (a n : ℕ) → chosen test a (map f (range_with_len a n)) ≡ map f (filter test (range_with_len a n))
chosen-range test f a zero = refl
chosen-range test f a (suc n) =
    filtered_where f (test a) a (filter test (range_with_len (a + 1) n)) (chosen test (a + 1) (map f (range_with_len (a + 1) n)))
    (chosen-range test f (a + 1) n)

-- ---- the loop over products

-- what the loop over products keeps, after so many of them
pub record IsSumming (start : Held) (products : List Reg) (test : ℕ → Bool) (count : ℕ) (now : Held) (sum : Option Reg) : Type 0 where
  pub held : IfSome sum (Holds now)
  pub terms : option_map (term_of now) sum ≡ sum_of (chosen test 1 (take count (map (term_of start) products)))
  pub extends : Extends count start now

pub summing_starts : (start : Held) (products : List Reg) (test : ℕ → Bool) → IsSumming start products test 0 start None
summing_starts start products test = record { held = tt; terms = refl; extends = Extends-itself 0 start }

pub summing_with : (start : Held) (products : List Reg) (test : ℕ → Bool) (i : ℕ) (b c : Held) (sum : Option Reg) (p r d : Reg)
    → All (Holds start) products → i < length products → p ≡ get_or products i d → test (1 + i) ≡ true
    → IsSumming start products test i b sum → Extends 1 b c
    → Names c r (added_to (option_map (term_of b) sum) (term_of b p))
    → IsSumming start products test (i + 1) c (Some r)
summing_with start products test i b c sum p r d held h e passes so_far one named =
    let ts = map (term_of start) products in
    let t = get_or ts i (Const 0) in
    let holds : Holds start p = let P : Reg → Type 0 = λ q. Holds start q in subst P (sym e) (held i d h) in
    let term : term_of b p ≡ t =
    term_of-extends i start b p so_far.extends holds ∙ ap (term_of start) e ∙ sym (get_or-map (term_of start) products i d (Const 0) h) in
    let long : i < length ts = omega (arith, length-map products (term_of start)) in
    record {
      held = Holds-named c r (added_to (option_map (term_of b) sum) (term_of b p)) named;
      terms =
          ap Some (term_of-named c r (added_to (option_map (term_of b) sum) (term_of b p)) named ∙ ap₂ added_to so_far.terms term)
          ∙ sym (sum_with test 1 ts i (Const 0) long passes);
      extends = Extends-both i 1 (i + 1) start b c (omega arith) so_far.extends one;
    }

pub summing_without : (start : Held) (products : List Reg) (test : ℕ → Bool) (i : ℕ) (b : Held) (sum : Option Reg)
    → i < length products → test (1 + i) ≡ false
    → IsSumming start products test i b sum → IsSumming start products test (i + 1) b sum
summing_without start products test i b sum h passes so_far =
    let ts = map (term_of start) products in
    let long : i < length ts = omega (arith, length-map products (term_of start)) in
    record {
      held = so_far.held;
      terms = so_far.terms ∙ sym (sum_without test 1 ts i (Const 0) long passes);
      extends = Extends-more i (i + 1) start b (omega arith) so_far.extends;
    }

-- all products
pub summing_all : (start : Held) (products : List Reg) (test : ℕ → Bool) (i : ℕ) (b : Held) (sum : Option Reg)
    → i ≤ length products → length products ≤ i → IsSumming start products test i b sum
    → option_map (term_of b) sum ≡ sum_of (chosen test 1 (map (term_of start) products))
summing_all start products test i b sum h k so_far =
    so_far.terms ∙ ap (λ ts. sum_of (chosen test 1 ts)) (take_all i (map (term_of start) products) (omega (arith, length-map products (term_of start))))
