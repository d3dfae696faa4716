-- The operations of a builder and the terms that they stand for.
use Rattle.std.proofs.Common.{◌≡◌, ℕ, zero, suc, ◌+◌, ◌-◌, ◌<◌, ◌≤◌, ◌⊎◌, true, Some, List, [], ◌∷◌, ◌++◌, length, get_or, refl, sym, ap, subst, ◌∙◌, inl, inr, arith, rules, append_assoc, length-append}
use Rattle.std.proofs.lemmas.List.{append-nil, get_or_append_left, get_or_at}
use Rattle.std.proofs.lemmas.Option.{slice_get-get_or, slice_get_within, get_or_from_slice_get}
use Rattle.std.specs.List.{slice_get}
use Rattle.usuba0.specs.declared.circuit.Reg.{Reg}
use Rattle.usuba0.specs.declared.builder.Head.{Head}
use Rattle.usuba0.specs.declared.builder.Head.TheVariants as head
use Rattle.usuba0.specs.contracts.builder.HeadPartialEq.TheImpl as impl
use Rattle.usuba0.specs.Term.{Term, Input, Not, Mask, Shl, Shr, Rotl, Refresh}
use Rattle.usuba0.specs.Builder.{input_terms, IsOnceEach}
use Rattle.usuba0.specs.State.Heads.{term_at, term_of_head, terms_of_heads, IsHead, AreHeads}

-- ---- lists

-- registers of one number are one
pub same_reg : (a b : Reg) → a.0 ≡ b.0 → a ≡ b
same_reg a b e = let f : ℕ → Reg = λ n. record { 0 = n } in ap f e

-- what stands in a list with one more element stands in the list or is the last
pub slice_get-push : (ts : List Term) (t u : Term) (i : ℕ) → slice_get (ts ++ t ∷ []) i ≡ Some u → (slice_get ts i ≡ Some u) ⊎ ((i ≡ length ts) × (u ≡ t))
slice_get-push [] t u zero e = inr (refl, cc)
slice_get-push [] t u (suc i) e = absurd (cc)
slice_get-push (s ∷ ts) t u zero e = inl e
slice_get-push (s ∷ ts) t u (suc i) e =
    elim (slice_get-push ts t u i e) [ inl p ↦ inl p | inr p ↦ inr (ap suc p.0, p.1) ]

-- what stood in a list stands there with one more element
pub slice_get-push_old : {X : Type 0} (ts : List X) (t u : X) (i : ℕ) → slice_get ts i ≡ Some u → slice_get (ts ++ t ∷ []) i ≡ Some u
slice_get-push_old [] t u i e = absurd (cc)
slice_get-push_old (s ∷ ts) t u zero e = e
slice_get-push_old (s ∷ ts) t u (suc i) e = slice_get-push_old ts t u i e

-- the last element stands behind the others
pub slice_get-push_last : {X : Type 0} (ts : List X) (t : X) → slice_get (ts ++ t ∷ []) (length ts) ≡ Some t
slice_get-push_last [] t = refl
slice_get-push_last (s ∷ ts) t = slice_get-push_last ts t

-- ---- once each

-- numbers of one term are one
pub once_at : (ts : List Term) (a b : Reg) → IsOnceEach ts → a.0 < length ts → b.0 < length ts → term_at ts a ≡ term_at ts b → a ≡ b
once_at ts a b once p q e =
    same_reg a b
    (once a.0 b.0 (term_at ts a) (slice_get-get_or ts a.0 (Input 0) p) (slice_get-get_or ts b.0 (Input 0) q ∙ ap Some (sym e)))

-- a new term leaves each term standing once
pub once-push : (ts : List Term) (t : Term) → IsOnceEach ts → ((i : ℕ) → slice_get ts i ≡ Some t → ⊥) → IsOnceEach (ts ++ t ∷ [])
once-push ts t once new i j u p q =
    elim (slice_get-push ts t u i p) as (λ _. i ≡ j) [
      | inl a ↦ elim (slice_get-push ts t u j q) as (λ _. i ≡ j) [
        | inl b ↦ once i j u a b
        | inr b ↦ absurd (new i (a ∙ ap Some b.1))
      ]
      | inr a ↦ elim (slice_get-push ts t u j q) as (λ _. i ≡ j) [
        | inl b ↦ absurd (new j (b ∙ ap Some a.1))
        | inr b ↦ a.0 ∙ sym b.0
      ]
    ]

-- ---- inputs

-- a new builder holds as many terms as it has inputs
pub length-inputs : (n : ℕ) → length (input_terms n) ≡ n
length-inputs zero = refl
length-inputs (suc n) = length-append (input_terms n) (Input n ∷ []) ∙ (let e = length-inputs n in omega arith)

-- the term at the number of an input is that input
pub slice_get-inputs : (n i : ℕ) → i < n → slice_get (input_terms n) i ≡ Some (Input i)
slice_get-inputs zero i h = absurd (omega arith)
slice_get-inputs (suc n) i h =
    let by : (i < n) ⊎ (i ≡ n) → slice_get (input_terms (suc n)) i ≡ Some (Input i) =
    λ c. elim c as (λ _. slice_get (input_terms (suc n)) i ≡ Some (Input i)) [
      | inl l ↦ slice_get-push_old (input_terms n) (Input n) (Input i) i (slice_get-inputs n i l)
      | inr e ↦
          let last : slice_get (input_terms n ++ Input n ∷ []) (length (input_terms n)) ≡ Some (Input n) = slice_get-push_last (input_terms n) (Input n) in
          let k : length (input_terms n) ≡ i = length-inputs n ∙ sym e in
          subst (λ (m : ℕ). slice_get (input_terms n ++ Input n ∷ []) m ≡ Some (Input i)) k (last ∙ ap (λ m. Some (Input m)) (sym e))
    ] in
    by (below_or_same i n h)
  where
    below_or_same : (i n : ℕ) → i < suc n → (i < n) ⊎ (i ≡ n)
    below_or_same i n h = grind arith

-- each input stands once
pub once-inputs : (n : ℕ) → IsOnceEach (input_terms n)
once-inputs n i j t p q =
    let a = slice_get_within (input_terms n) i t p in
    let b = slice_get_within (input_terms n) j t q in
    let l = length-inputs n in
    let f : Some (Input i) ≡ Some t = sym (slice_get-inputs n i (omega arith)) ∙ p in
    let g : Some (Input j) ≡ Some t = sym (slice_get-inputs n j (omega arith)) ∙ q in
    cc

-- ---- the terms of a list of operations

-- each operation makes one term
pub length-terms : (ts : List Term) (hs : List Head) → length (terms_of_heads ts hs) ≡ length ts + length hs
length-terms ts [] = omega arith
length-terms ts (h ∷ hs) =
    let e = length-terms (ts ++ term_of_head ts h ∷ []) hs in
    let l = length-append ts (term_of_head ts h ∷ []) in
    omega arith

-- one more operation makes one more term at the end
pub terms-push : (ts : List Term) (hs : List Head) (h : Head) → terms_of_heads ts (hs ++ h ∷ []) ≡ terms_of_heads ts hs ++ term_of_head (terms_of_heads ts hs) h ∷ []
terms-push ts [] h = refl
terms-push ts (g ∷ hs) h = terms-push (ts ++ term_of_head ts g ∷ []) hs h

-- operations add terms at the end
pub terms_extend : (ts : List Term) (hs : List Head) → (more : List Term) × (terms_of_heads ts hs ≡ ts ++ more)
terms_extend ts [] = ([], sym (append-nil ts))
terms_extend ts (h ∷ hs) =
    let r = terms_extend (ts ++ term_of_head ts h ∷ []) hs in
    (term_of_head ts h ∷ r.0, r.1 ∙ append_assoc ts (term_of_head ts h ∷ []) r.0)

-- the terms so far keep their numbers
pub get_or-terms : (ts : List Term) (hs : List Head) (i : ℕ) (d : Term) → i < length ts → get_or (terms_of_heads ts hs) i d ≡ get_or ts i d
get_or-terms ts hs i d h =
    let r = terms_extend ts hs in ap (λ l. get_or l i d) r.1 ∙ get_or_append_left ts r.0 d i h

-- more terms do not change the term of an operation over the first ones
pub term_of_head-append : (w : ℕ) (h : Head) (ts more : List Term) → IsHead w (length ts) h → term_of_head (ts ++ more) h ≡ term_of_head ts h
term_of_head-append w (head.Const c) ts more p = refl
term_of_head-append w (head.Xor a b) ts more p =
    let e = get_or_append_left ts more (Input 0) a.0 p.0 in let f = get_or_append_left ts more (Input 0) b.0 p.1 in cc
term_of_head-append w (head.Not a) ts more p = ap Not (get_or_append_left ts more (Input 0) a.0 p)
term_of_head-append w (head.Mask c a) ts more p = ap (Mask c) (get_or_append_left ts more (Input 0) a.0 p.1)
term_of_head-append w (head.And a b) ts more p =
    let e = get_or_append_left ts more (Input 0) a.0 p.0 in let f = get_or_append_left ts more (Input 0) b.0 p.1 in cc
term_of_head-append w (head.Shl k a) ts more p = ap (Shl k) (get_or_append_left ts more (Input 0) a.0 p.2)
term_of_head-append w (head.Shr k a) ts more p = ap (Shr k) (get_or_append_left ts more (Input 0) a.0 p.2)
term_of_head-append w (head.Rotl k a) ts more p = ap (Rotl k) (get_or_append_left ts more (Input 0) a.0 p.2)
term_of_head-append w (head.Refresh k a) ts more p = ap (Refresh k) (get_or_append_left ts more (Input 0) a.0 p)

-- an operation over some numbers is one over more
pub IsHead-more : (w n m : ℕ) (h : Head) → n ≤ m → IsHead w n h → IsHead w m h
IsHead-more w n m (head.Const c) l p = p
IsHead-more w n m (head.Xor a b) l p = (omega arith, omega arith)
IsHead-more w n m (head.Not a) l p = omega arith
IsHead-more w n m (head.Mask c a) l p = (p.0, omega arith)
IsHead-more w n m (head.And a b) l p = (omega arith, omega arith)
IsHead-more w n m (head.Shl k a) l p = (p.0, p.1, omega arith)
IsHead-more w n m (head.Shr k a) l p = (p.0, p.1, omega arith)
IsHead-more w n m (head.Rotl k a) l p = (p.0, p.1, omega arith)
IsHead-more w n m (head.Refresh k a) l p = omega arith

-- one more operation over earlier numbers
pub AreHeads-push : (w n : ℕ) (hs : List Head) (h : Head) → AreHeads w n hs → IsHead w (n + length hs) h → AreHeads w n (hs ++ h ∷ [])
AreHeads-push w n [] h p q = (subst (λ (m : ℕ). IsHead w m h) (omega arith) q, tt)
AreHeads-push w n (g ∷ hs) h p q = (p.0, AreHeads-push w (suc n) hs h p.1 (subst (λ (m : ℕ). IsHead w m h) (omega arith) q))

-- an operation at a place is over the numbers before it
pub head_at : (w n : ℕ) (hs : List Head) (j : ℕ) (h : Head) → AreHeads w n hs → slice_get hs j ≡ Some h → IsHead w (n + j) h
head_at w n [] j h p e = absurd (cc)
head_at w n (g ∷ hs) zero h p e =
    let s : g ≡ h = cc in subst (λ (m : ℕ). IsHead w m h) (omega arith) (subst (λ (x : Head). IsHead w n x) s p.0)
head_at w n (g ∷ hs) (suc j) h p e = subst (λ (m : ℕ). IsHead w m h) (omega arith) (head_at w (suc n) hs j h p.1 e)

-- the term at the place of an operation
pub term_at_head : (w : ℕ) (ts : List Term) (hs : List Head) (j : ℕ) (h : Head) → AreHeads w (length ts) hs → slice_get hs j ≡ Some h
    → slice_get (terms_of_heads ts hs) (length ts + j) ≡ Some (term_of_head (terms_of_heads ts hs) h)
term_at_head w ts [] j h p e = absurd (cc)
term_at_head w ts (g ∷ hs) zero h p e =
    let t = term_of_head ts g in
    let all = terms_of_heads (ts ++ t ∷ []) hs in
    let s : g ≡ h = cc in
    let r = terms_extend (ts ++ t ∷ []) hs in
    let l = length-terms (ts ++ t ∷ []) hs in
    let k = length-append ts (t ∷ []) in
    let here : get_or all (length ts) (Input 0) ≡ t =
    get_or-terms (ts ++ t ∷ []) hs (length ts) (Input 0) (omega arith) ∙ get_or_at ts t [] (Input 0) (length ts) refl in
    let place : slice_get all (length ts) ≡ Some t = slice_get-get_or all (length ts) (Input 0) (omega arith) ∙ ap Some here in
    let split : all ≡ ts ++ t ∷ r.0 = r.1 ∙ append_assoc ts (t ∷ []) r.0 in
    let made : term_of_head all g ≡ t = ap (λ (l : List Term). term_of_head l g) split ∙ term_of_head-append w g ts (t ∷ r.0) p.0 in
    let zero_more : length ts + 0 ≡ length ts = omega arith in
    subst (λ (x : Head). slice_get all (length ts + 0) ≡ Some (term_of_head all x)) s
    (ap (slice_get all) zero_more ∙ place ∙ ap Some (sym made))
term_at_head w ts (g ∷ hs) (suc j) h p e =
    let t = term_of_head ts g in
    let all = terms_of_heads (ts ++ t ∷ []) hs in
    let k : length (ts ++ t ∷ []) ≡ suc (length ts) = length-append ts (t ∷ []) ∙ omega arith in
    let q : AreHeads w (length (ts ++ t ∷ [])) hs = subst (λ (m : ℕ). AreHeads w m hs) (sym k) p.1 in
    let place : length ts + suc j ≡ length (ts ++ t ∷ []) + j = omega arith in
    ap (slice_get all) place ∙ term_at_head w (ts ++ t ∷ []) hs j h q e

-- no operation makes an input
pub never_input : (ts : List Term) (h : Head) (k : ℕ) → term_of_head ts h ≡ Input k → ⊥
never_input ts (head.Const c) k e = cc
never_input ts (head.Xor a b) k e = cc
never_input ts (head.Not a) k e = cc
never_input ts (head.Mask c a) k e = cc
never_input ts (head.And a b) k e = cc
never_input ts (head.Shl m a) k e = cc
never_input ts (head.Shr m a) k e = cc
never_input ts (head.Rotl m a) k e = cc
never_input ts (head.Refresh m a) k e = cc

-- over terms that stand once each, an operation is known by its term
pub same_head : (w : ℕ) (ts : List Term) (h g : Head) → IsOnceEach ts → IsHead w (length ts) h → IsHead w (length ts) g → term_of_head ts h ≡ term_of_head ts g → h ≡ g
same_head w ts (head.Const c) (head.Const d) once p q e = let s : c ≡ d = cc in ap head.Const s
same_head w ts (head.Xor a b) (head.Xor x y) once p q e =
    let s = once_at ts a x once p.0 q.0 (cc) in let t = once_at ts b y once p.1 q.1 (cc) in cc
same_head w ts (head.Not a) (head.Not x) once p q e = let s = once_at ts a x once p q (cc) in cc
same_head w ts (head.Mask c a) (head.Mask d x) once p q e = let s = once_at ts a x once p.1 q.1 (cc) in let t : c ≡ d = cc in cc
same_head w ts (head.And a b) (head.And x y) once p q e =
    let s = once_at ts a x once p.0 q.0 (cc) in let t = once_at ts b y once p.1 q.1 (cc) in cc
same_head w ts (head.Shl k a) (head.Shl m x) once p q e = let s = once_at ts a x once p.2 q.2 (cc) in let t : k ≡ m = cc in cc
same_head w ts (head.Shr k a) (head.Shr m x) once p q e = let s = once_at ts a x once p.2 q.2 (cc) in let t : k ≡ m = cc in cc
same_head w ts (head.Rotl k a) (head.Rotl m x) once p q e = let s = once_at ts a x once p.2 q.2 (cc) in let t : k ≡ m = cc in cc
same_head w ts (head.Refresh k a) (head.Refresh m x) once p q e = let s = once_at ts a x once p q (cc) in let t : k ≡ m = cc in cc
same_head w ts h g once p q e = absurd (cc)

-- an operation that is not held makes a term that is not held
pub new_term : (w n : ℕ) (hs : List Head) (h : Head) → AreHeads w n hs → IsHead w (n + length hs) h → IsOnceEach (terms_of_heads (input_terms n) hs)
    → ((j : ℕ) → slice_get hs j ≡ Some h → ⊥)
    → (i : ℕ) → slice_get (terms_of_heads (input_terms n) hs) i ≡ Some (term_of_head (terms_of_heads (input_terms n) hs) h) → ⊥
new_term w n hs h are is once new i e =
    let ts = terms_of_heads (input_terms n) hs in
    let t = term_of_head ts h in
    let li = length-inputs n in
    let lt : length ts ≡ n + length hs = length-terms (input_terms n) hs ∙ ap (λ m. m + length hs) li in
    let within = slice_get_within ts i t e in
    let by : (i < n) ⊎ (n ≤ i) → ⊥ =
    λ c. elim c as (λ _. ⊥) [
      | inl l ↦
          let in_inputs = slice_get-inputs n i l in
          let a : get_or ts i (Input 0) ≡ Input i = get_or-terms (input_terms n) hs i (Input 0) (omega arith) ∙ get_or_from_slice_get (input_terms n) i (Input i) (Input 0) in_inputs in
          let b : get_or ts i (Input 0) ≡ t = get_or_from_slice_get ts i t (Input 0) e in
          never_input ts h i (sym b ∙ a)
      | inr l ↦ older i e l within lt
    ] in
    by (below i n)
  where
    below : (i n : ℕ) → (i < n) ⊎ (n ≤ i)
    below i n = grind arith

    older : (i : ℕ) → slice_get (terms_of_heads (input_terms n) hs) i ≡ Some (term_of_head (terms_of_heads (input_terms n) hs) h) → n ≤ i
        → i < length (terms_of_heads (input_terms n) hs) → length (terms_of_heads (input_terms n) hs) ≡ n + length hs → ⊥
    older i e l within lt =
        let ts = terms_of_heads (input_terms n) hs in
        let li = length-inputs n in
        let j = i - n in
        let g = get_or hs j h in
        let at : slice_get hs j ≡ Some g = slice_get-get_or hs j h (omega arith) in
        let are' : AreHeads w (length (input_terms n)) hs = subst (λ (m : ℕ). AreHeads w m hs) (sym li) are in
        let place : length (input_terms n) + j ≡ i = omega arith in
        let old : slice_get ts i ≡ Some (term_of_head ts g) =
        subst (λ (m : ℕ). slice_get ts m ≡ Some (term_of_head ts g)) place (term_at_head w (input_terms n) hs j g are' at) in
        let f : Some (term_of_head ts g) ≡ Some (term_of_head ts h) = sym old ∙ e in
        let same : term_of_head ts g ≡ term_of_head ts h = cc in
        let is_g : IsHead w (length ts) g = IsHead-more w (n + j) (length ts) g (omega arith) (head_at w n hs j g are at) in
        let is_h : IsHead w (length ts) h = subst (λ (m : ℕ). IsHead w m h) (sym lt) is in
        let s : g ≡ h = same_head w ts g h once is_g is_h same in
        new j (at ∙ ap Some s)

-- ---- the derived equality

-- operations that the test takes for equal are one
pub head_eq-same : (h g : Head) → impl.eq-value.it h g ≡ true → h ≡ g
head_eq-same (head.Const c) (head.Const d) e = let s : c ≡ d = search rules in ap head.Const s
head_eq-same (head.Xor a b) (head.Xor x y) e =
    let s : a.0 ≡ x.0 = search rules in let t : b.0 ≡ y.0 = search rules in
    let p = same_reg a x s in let q = same_reg b y t in cc
head_eq-same (head.Not a) (head.Not x) e = let s : a.0 ≡ x.0 = search rules in let p = same_reg a x s in cc
head_eq-same (head.Mask c a) (head.Mask d x) e =
    let s : a.0 ≡ x.0 = search rules in let t : c ≡ d = search rules in let p = same_reg a x s in cc
head_eq-same (head.And a b) (head.And x y) e =
    let s : a.0 ≡ x.0 = search rules in let t : b.0 ≡ y.0 = search rules in
    let p = same_reg a x s in let q = same_reg b y t in cc
head_eq-same (head.Shl c a) (head.Shl d x) e =
    let s : a.0 ≡ x.0 = search rules in let t : c ≡ d = search rules in let p = same_reg a x s in cc
head_eq-same (head.Shr c a) (head.Shr d x) e =
    let s : a.0 ≡ x.0 = search rules in let t : c ≡ d = search rules in let p = same_reg a x s in cc
head_eq-same (head.Rotl c a) (head.Rotl d x) e =
    let s : a.0 ≡ x.0 = search rules in let t : c ≡ d = search rules in let p = same_reg a x s in cc
head_eq-same (head.Refresh c a) (head.Refresh d x) e =
    let s : a.0 ≡ x.0 = search rules in let t : c ≡ d = search rules in let p = same_reg a x s in cc
head_eq-same h g e = absurd (cc)

-- the test takes an operation for equal to itself
pub head_eq-itself : (h : Head) → impl.eq-value.it h h ≡ true
head_eq-itself (head.Const c) = search rules
head_eq-itself (head.Xor a b) = search rules
head_eq-itself (head.Not a) = search rules
head_eq-itself (head.Mask c a) = search rules
head_eq-itself (head.And a b) = search rules
head_eq-itself (head.Shl k a) = search rules
head_eq-itself (head.Shr k a) = search rules
head_eq-itself (head.Rotl k a) = search rules
head_eq-itself (head.Refresh k a) = search rules
