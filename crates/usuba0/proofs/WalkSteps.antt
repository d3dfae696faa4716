-- The steps of a walk over numbers.
use Rattle.std.proofs.Common.{◌≡◌, ◌≢◌, ℕ, zero, suc, ◌+◌, ◌-◌, ◌<◌, ◌≤◌, ◌⊎◌, inl, inr, Bool, true, false, ◌==◌, eq-eqb, ne_eqb, Some, List, [], ◌∷◌, ◌++◌, length, get_or, set, refl, sym, ap, subst, ◌∙◌, arith, append_assoc, length-append, if◌then◌else◌}
use Rattle.std.proofs.lemmas.List.{append-nil, get_or_append_left, get_or_at, get_or-set_same, get_or-set_other, length-set}
use Rattle.std.proofs.lemmas.Option.{get_or_from_slice_get}
use Rattle.std.specs.List.{slice_get}
use Rattle.std.proofs.lemmas.Bool.{cases_eq}
use Rattle.usuba0.specs.declared.circuit.Reg.{Reg}
use Rattle.usuba0.specs.declared.builder.Head.{Head}
use Rattle.usuba0.specs.declared.builder.Head.TheVariants as head
use Rattle.usuba0.specs.Term.{Term, Input, Const, Xor, Not, Mask, And, Shl, Shr, Rotl, Refresh}
use Rattle.usuba0.specs.Builder.{IsOnceEach}
use Rattle.usuba0.specs.Circuit.{IsEquation}
use Rattle.usuba0.specs.CoreOfTerms.{postorder, is_among, first_places, place_of}
use Rattle.usuba0.specs.State.Heads.{term_at, term_of_head, IsHead, IsBuilder}
use Rattle.usuba0.specs.State.Walk.{all_terms, terms_in, unplaced, HasPlace, place_in, count_unplaced, AreOperands, IsNextOperand, gate_of_head, AllAmong, IsClosed, IsWalk, pending_walk}
use Rattle.usuba0.proofs.HeadLemmas.{once_at, head_at}
use Rattle.usuba0.proofs.KeepLemmas.{length_of_terms, input_named, head_term}
use Rattle.usuba0.proofs.WalkLemmas.{among_at, among_last, among_push, among_place, AllAmong-append, AllAmong-more, first_places-one, first_places-twice, first_places-second}

-- ---- terms of numbers

-- the terms of one more number
pub terms_in-push : (ts : List Term) (is : List ℕ) (i : ℕ) → terms_in ts (is ++ i ∷ []) ≡ terms_in ts is ++ get_or ts i (Input 0) ∷ []
terms_in-push ts [] i = refl
terms_in-push ts (k ∷ is) i = ap (λ (l : List Term). get_or ts k (Input 0) ∷ l) (terms_in-push ts is i)

-- as many terms as numbers
pub length-terms_in : (ts : List Term) (is : List ℕ) → length (terms_in ts is) ≡ length is
length-terms_in ts [] = refl
length-terms_in ts (i ∷ is) = ap suc (length-terms_in ts is)

-- the term of the number at a place
pub get_or-terms_in : (ts : List Term) (is : List ℕ) (k : ℕ) → k < length is → get_or (terms_in ts is) k (Input 0) ≡ get_or ts (get_or is k 0) (Input 0)
get_or-terms_in ts [] k h = absurd (omega arith)
get_or-terms_in ts (i ∷ is) zero h = refl
get_or-terms_in ts (i ∷ is) (suc k) h = get_or-terms_in ts is k (omega arith)

-- the walk of what waits, with one more term that waits
pub pending_walk-push : (us : List Term) (t : Term) → pending_walk (us ++ t ∷ []) ≡ postorder t ++ pending_walk us
pending_walk-push [] t = sym (append-nil (postorder t))
pending_walk-push (u ∷ us) t =
    ap (λ (l : List Term). l ++ postorder u) (pending_walk-push us t) ∙ append_assoc (postorder t) (pending_walk us) (postorder u)

-- ---- which terms have a place

-- the number of a term of the list
pub among_number : (ts : List Term) (is : List ℕ) (i : ℕ) → IsOnceEach ts → i < length ts → ((k : ℕ) → k < length is → get_or is k 0 < length ts)
    → is_among (get_or ts i (Input 0)) (terms_in ts is) ≡ true → (k : ℕ) × (k < length is) × (get_or is k 0 ≡ i) × (place_of (get_or ts i (Input 0)) (terms_in ts is) ≡ k)
among_number ts is i once h within e =
    let t = get_or ts i (Input 0) in
    let k = place_of t (terms_in ts is) in
    let p = among_place t (terms_in ts is) (Input 0) e in
    let l = length-terms_in ts is in
    let below : k < length is = omega (arith, p.0) in
    let same : get_or ts (get_or is k 0) (Input 0) ≡ t = sym (get_or-terms_in ts is k below) ∙ p.1 in
    let a : Reg = record { 0 = get_or is k 0 } in
    let b : Reg = record { 0 = i } in
    (k, below, ap (λ (r : Reg). r.0) (once_at ts a b once (within k below) h same), refl)

module _ (w n : ℕ) (heads : List Head) (places order : List ℕ) (builder : IsBuilder w n heads) (walk : IsWalk w n heads places order) where
  pub all_length : length (all_terms n heads) ≡ n + length heads
  all_length = length_of_terms n heads

  order_within : (k : ℕ) → k < length order → get_or order k 0 < length (all_terms n heads)
  order_within k h = let p = walk.placed k h in omega (arith, all_length, p.1)

  pub number_of : (i : ℕ) → i < n + length heads → is_among (get_or (all_terms n heads) i (Input 0)) (terms_in (all_terms n heads) order) ≡ true
      → (k : ℕ) × (k < length order) × (get_or order k 0 ≡ i) × (place_of (get_or (all_terms n heads) i (Input 0)) (terms_in (all_terms n heads) order) ≡ k)
  number_of i h e = among_number (all_terms n heads) order i builder.once (omega (arith, all_length)) order_within e

  pub order_room : length order ≤ length heads
  order_room = omega (arith, walk.room)

  pub not_among : (i : ℕ) → i < n + length heads → get_or places i 0 ≡ unplaced → is_among (get_or (all_terms n heads) i (Input 0)) (terms_in (all_terms n heads) order) ≡ false
  not_among i h u = by (is_among (get_or (all_terms n heads) i (Input 0)) (terms_in (all_terms n heads) order)) refl
    where
      by : (r : Bool) → is_among (get_or (all_terms n heads) i (Input 0)) (terms_in (all_terms n heads) order) ≡ r → r ≡ false
      by false p = refl
      by true p =
          let k = number_of i h p in
          let q = walk.placed k.0 k.1 in
          let same : get_or places i 0 ≡ n + k.0 = sym (ap (λ (m : ℕ). get_or places m 0) k.2) ∙ q.2 in
          let f = builder.few in
          absurd (omega (arith, k.1, order_room))

  -- a term with a place has all its parts in the list
  pub placed_parts : (a : Reg) → a.0 < n + length heads → HasPlace places a → AllAmong (postorder (term_at (all_terms n heads) a)) (terms_in (all_terms n heads) order)
  placed_parts a h p = by (below_or a.0 n)
    where
      below_or : (i m : ℕ) → (i < m) ⊎ (m ≤ i)
      below_or i m = grind arith

      by : (a.0 < n) ⊎ (n ≤ a.0) → AllAmong (postorder (term_at (all_terms n heads) a)) (terms_in (all_terms n heads) order)
      by (inl l) =
          let e = get_or_from_slice_get (all_terms n heads) a.0 (Input a.0) (Input 0) (input_named n heads a.0 l) in
          subst (λ (t : Term). AllAmong (postorder t) (terms_in (all_terms n heads) order)) (sym e) tt
      by (inr l) =
          let k = walk.others a.0 l h p in
          let at : get_or (terms_in (all_terms n heads) order) k.0 (Input 0) ≡ term_at (all_terms n heads) a =
          get_or-terms_in (all_terms n heads) order k.0 k.1 ∙ ap (λ (m : ℕ). get_or (all_terms n heads) m (Input 0)) k.2 in
          let len = length-terms_in (all_terms n heads) order in
          let there = among_at (terms_in (all_terms n heads) order) k.0 (Input 0) (omega (arith, k.1)) in
          walk.closed (term_at (all_terms n heads) a) (subst (λ (t : Term). is_among t (terms_in (all_terms n heads) order) ≡ true) at there)

  -- its place is below the next register
  pub place_below : (a : Reg) → a.0 < n + length heads → HasPlace places a → get_or places a.0 0 < n + length order
  place_below a h p = by (below_or a.0 n)
    where
      below_or : (i m : ℕ) → (i < m) ⊎ (m ≤ i)
      below_or i m = grind arith

      by : (a.0 < n) ⊎ (n ≤ a.0) → get_or places a.0 0 < n + length order
      by (inl l) = omega (arith, walk.inputs a.0 l)
      by (inr l) =
          let k = walk.others a.0 l h p in
          let q = walk.placed k.0 k.1 in
          let same : get_or places a.0 0 ≡ n + k.0 = sym (ap (λ (m : ℕ). get_or places m 0) k.2) ∙ q.2 in
          omega (arith, k.1)

-- ---- operands

-- what holds of each operand, and so what follows from it
pub AreOperands-map : (P Q : Reg → Type 0) (h : Head) → ((a : Reg) → P a → Q a) → AreOperands P h → AreOperands Q h
AreOperands-map P Q (head.Const c) f p = tt
AreOperands-map P Q (head.Xor a b) f p = (f a p.0, f b p.1)
AreOperands-map P Q (head.Not a) f p = f a p
AreOperands-map P Q (head.Mask c a) f p = f a p
AreOperands-map P Q (head.And a b) f p = (f a p.0, f b p.1)
AreOperands-map P Q (head.Shl k a) f p = f a p
AreOperands-map P Q (head.Shr k a) f p = f a p
AreOperands-map P Q (head.Rotl k a) f p = f a p
AreOperands-map P Q (head.Refresh k a) f p = f a p

-- two facts of each operand are one fact
pub AreOperands-both : (P Q : Reg → Type 0) (h : Head) → AreOperands P h → AreOperands Q h → AreOperands (λ a. P a × Q a) h
AreOperands-both P Q (head.Const c) p q = tt
AreOperands-both P Q (head.Xor a b) p q = ((p.0, q.0), (p.1, q.1))
AreOperands-both P Q (head.Not a) p q = (p, q)
AreOperands-both P Q (head.Mask c a) p q = (p, q)
AreOperands-both P Q (head.And a b) p q = ((p.0, q.0), (p.1, q.1))
AreOperands-both P Q (head.Shl k a) p q = (p, q)
AreOperands-both P Q (head.Shr k a) p q = (p, q)
AreOperands-both P Q (head.Rotl k a) p q = (p, q)
AreOperands-both P Q (head.Refresh k a) p q = (p, q)

-- the operands of an operation are earlier numbers
pub operands_below : (w m : ℕ) (h : Head) → IsHead w m h → AreOperands (λ a. a.0 < m) h
operands_below w m (head.Const c) p = tt
operands_below w m (head.Xor a b) p = p
operands_below w m (head.Not a) p = p
operands_below w m (head.Mask c a) p = p.1
operands_below w m (head.And a b) p = p
operands_below w m (head.Shl k a) p = p.2
operands_below w m (head.Shr k a) p = p.2
operands_below w m (head.Rotl k a) p = p.2
operands_below w m (head.Refresh k a) p = p

-- an equation with its operands' registers below m
pub equation_of_head : (w m v : ℕ) (reg : Reg → Reg) (h : Head) → IsHead w v h → AreOperands (λ a. (reg a).0 < m) h → IsEquation w m (gate_of_head reg h)
equation_of_head w m v reg (head.Const c) p q = p
equation_of_head w m v reg (head.Xor a b) p q = q
equation_of_head w m v reg (head.Not a) p q = q
equation_of_head w m v reg (head.Mask c a) p q = (p.0, q)
equation_of_head w m v reg (head.And a b) p q = q
equation_of_head w m v reg (head.Shl k a) p q = (p.0, p.1, q)
equation_of_head w m v reg (head.Shr k a) p q = (p.0, p.1, q)
equation_of_head w m v reg (head.Rotl k a) p q = (p.0, p.1, q)
equation_of_head w m v reg (head.Refresh k a) p q = q

-- the registers of an equation's operands are below m
pub operands_of_equation : (w m : ℕ) (reg : Reg → Reg) (h : Head) → IsEquation w m (gate_of_head reg h) → AreOperands (λ a. (reg a).0 < m) h
operands_of_equation w m reg (head.Const c) p = tt
operands_of_equation w m reg (head.Xor a b) p = p
operands_of_equation w m reg (head.Not a) p = p
operands_of_equation w m reg (head.Mask c a) p = p.1
operands_of_equation w m reg (head.And a b) p = p
operands_of_equation w m reg (head.Shl k a) p = p.2
operands_of_equation w m reg (head.Shr k a) p = p.2
operands_of_equation w m reg (head.Rotl k a) p = p.2
operands_of_equation w m reg (head.Refresh k a) p = p

-- registers that agree on the operands make one equation
pub gate_of_head-same : (f g : Reg → Reg) (h : Head) → AreOperands (λ a. f a ≡ g a) h → gate_of_head f h ≡ gate_of_head g h
gate_of_head-same f g (head.Const c) p = refl
gate_of_head-same f g (head.Xor a b) p = let x = p.0 in let y = p.1 in cc
gate_of_head-same f g (head.Not a) p = cc
gate_of_head-same f g (head.Mask c a) p = cc
gate_of_head-same f g (head.And a b) p = let x = p.0 in let y = p.1 in cc
gate_of_head-same f g (head.Shl k a) p = cc
gate_of_head-same f g (head.Shr k a) p = cc
gate_of_head-same f g (head.Rotl k a) p = cc
gate_of_head-same f g (head.Refresh k a) p = cc

-- ---- the walk of one operation

abbrev Parts : List Term → List Term → Head → Type 0
Parts ts made h = AreOperands (λ a. AllAmong (postorder (term_at ts a)) made) h

-- where its parts are in the list, it is put at the end
pub walk_last : (ts made : List Term) (h : Head) (rest : List Term) → Parts ts made h → is_among (term_of_head ts h) made ≡ false
    → first_places made (postorder (term_of_head ts h) ++ rest) ≡ first_places (made ++ term_of_head ts h ∷ []) rest
walk_last ts made (head.Const c) rest p q = first_places-one made [] rest (Const c) tt q
walk_last ts made (head.Xor a b) rest p q =
    first_places-one made (postorder (term_at ts a) ++ postorder (term_at ts b)) rest (Xor (term_at ts a) (term_at ts b)) (AllAmong-append (postorder (term_at ts a)) (postorder (term_at ts b)) made p.0 p.1) q
walk_last ts made (head.Not a) rest p q = first_places-one made (postorder (term_at ts a)) rest (Not (term_at ts a)) p q
walk_last ts made (head.Mask c a) rest p q = first_places-one made (postorder (term_at ts a)) rest (Mask c (term_at ts a)) p q
walk_last ts made (head.And a b) rest p q =
    first_places-one made (postorder (term_at ts a) ++ postorder (term_at ts b)) rest (And (term_at ts a) (term_at ts b)) (AllAmong-append (postorder (term_at ts a)) (postorder (term_at ts b)) made p.0 p.1) q
walk_last ts made (head.Shl k a) rest p q = first_places-one made (postorder (term_at ts a)) rest (Shl k (term_at ts a)) p q
walk_last ts made (head.Shr k a) rest p q = first_places-one made (postorder (term_at ts a)) rest (Shr k (term_at ts a)) p q
walk_last ts made (head.Rotl k a) rest p q = first_places-one made (postorder (term_at ts a)) rest (Rotl k (term_at ts a)) p q
walk_last ts made (head.Refresh k a) rest p q = first_places-one made (postorder (term_at ts a)) rest (Refresh k (term_at ts a)) p q

abbrev KeepsEnd : List Term → List Term → List Term → List Term → Type 0
KeepsEnd made first us rest = first_places made (first ++ (us ++ rest)) ≡ first_places made (us ++ rest)

keeps_one : (made us rest : List Term) (t : Term) → KeepsEnd made us (us ++ t ∷ []) rest
keeps_one made us rest t =
    ap (λ (l : List Term). first_places made (us ++ l)) (append_assoc us (t ∷ []) rest)
    ∙ first_places-twice made us (t ∷ rest)
    ∙ ap (first_places made) (sym (append_assoc us (t ∷ []) rest))

regroup : (us vs rest : List Term) (t : Term) → ((us ++ vs) ++ t ∷ []) ++ rest ≡ us ++ (vs ++ (t ∷ rest))
regroup us vs rest t = simp append_assoc

keeps_left : (made us vs rest : List Term) (t : Term) → KeepsEnd made us ((us ++ vs) ++ t ∷ []) rest
keeps_left made us vs rest t =
    ap (λ (l : List Term). first_places made (us ++ l)) (regroup us vs rest t)
    ∙ first_places-twice made us (vs ++ (t ∷ rest))
    ∙ ap (first_places made) (sym (regroup us vs rest t))

keeps_right : (made us vs rest : List Term) (t : Term) → AllAmong us made → KeepsEnd made vs ((us ++ vs) ++ t ∷ []) rest
keeps_right made us vs rest t p =
    ap (λ (l : List Term). first_places made (vs ++ l)) (regroup us vs rest t)
    ∙ first_places-second made us vs (t ∷ rest) p
    ∙ ap (first_places made) (sym (regroup us vs rest t))

-- to walk its next operand before it changes nothing
pub walk_operand : (ts made : List Term) (places : List ℕ) (h : Head) (r : Reg) (rest : List Term) → AreOperands (λ a. HasPlace places a → AllAmong (postorder (term_at ts a)) made) h
    → IsNextOperand places r h → KeepsEnd made (postorder (term_at ts r)) (postorder (term_of_head ts h)) rest
walk_operand ts made places (head.Const c) r rest p q = absurd q
walk_operand ts made places (head.Xor a b) r rest p (inl e) =
    subst (λ (x : Reg). KeepsEnd made (postorder (term_at ts x)) (postorder (Xor (term_at ts a) (term_at ts b))) rest) e
    (keeps_left made (postorder (term_at ts a)) (postorder (term_at ts b)) rest (Xor (term_at ts a) (term_at ts b)))
walk_operand ts made places (head.Xor a b) r rest p (inr e) =
    subst (λ (x : Reg). KeepsEnd made (postorder (term_at ts x)) (postorder (Xor (term_at ts a) (term_at ts b))) rest) e.1
    (keeps_right made (postorder (term_at ts a)) (postorder (term_at ts b)) rest (Xor (term_at ts a) (term_at ts b)) (p.0 e.0))
walk_operand ts made places (head.Not a) r rest p e =
    subst (λ (x : Reg). KeepsEnd made (postorder (term_at ts x)) (postorder (Not (term_at ts a))) rest) e (keeps_one made (postorder (term_at ts a)) rest (Not (term_at ts a)))
walk_operand ts made places (head.Mask c a) r rest p e =
    subst (λ (x : Reg). KeepsEnd made (postorder (term_at ts x)) (postorder (Mask c (term_at ts a))) rest) e (keeps_one made (postorder (term_at ts a)) rest (Mask c (term_at ts a)))
walk_operand ts made places (head.And a b) r rest p (inl e) =
    subst (λ (x : Reg). KeepsEnd made (postorder (term_at ts x)) (postorder (And (term_at ts a) (term_at ts b))) rest) e
    (keeps_left made (postorder (term_at ts a)) (postorder (term_at ts b)) rest (And (term_at ts a) (term_at ts b)))
walk_operand ts made places (head.And a b) r rest p (inr e) =
    subst (λ (x : Reg). KeepsEnd made (postorder (term_at ts x)) (postorder (And (term_at ts a) (term_at ts b))) rest) e.1
    (keeps_right made (postorder (term_at ts a)) (postorder (term_at ts b)) rest (And (term_at ts a) (term_at ts b)) (p.0 e.0))
walk_operand ts made places (head.Shl k a) r rest p e =
    subst (λ (x : Reg). KeepsEnd made (postorder (term_at ts x)) (postorder (Shl k (term_at ts a))) rest) e (keeps_one made (postorder (term_at ts a)) rest (Shl k (term_at ts a)))
walk_operand ts made places (head.Shr k a) r rest p e =
    subst (λ (x : Reg). KeepsEnd made (postorder (term_at ts x)) (postorder (Shr k (term_at ts a))) rest) e (keeps_one made (postorder (term_at ts a)) rest (Shr k (term_at ts a)))
walk_operand ts made places (head.Rotl k a) r rest p e =
    subst (λ (x : Reg). KeepsEnd made (postorder (term_at ts x)) (postorder (Rotl k (term_at ts a))) rest) e (keeps_one made (postorder (term_at ts a)) rest (Rotl k (term_at ts a)))
walk_operand ts made places (head.Refresh k a) r rest p e =
    subst (λ (x : Reg). KeepsEnd made (postorder (term_at ts x)) (postorder (Refresh k (term_at ts a))) rest) e (keeps_one made (postorder (term_at ts a)) rest (Refresh k (term_at ts a)))

parts_last : (us made : List Term) (t : Term) → AllAmong us made → AllAmong (us ++ t ∷ []) (made ++ t ∷ [])
parts_last us made t p = AllAmong-append us (t ∷ []) (made ++ t ∷ []) (AllAmong-more us made (t ∷ []) p) (among_last t made, tt)

-- the parts of the term of an operation are those that were made, and the term itself
pub own_parts : (ts made : List Term) (h : Head) → Parts ts made h → AllAmong (postorder (term_of_head ts h)) (made ++ term_of_head ts h ∷ [])
own_parts ts made (head.Const c) p = parts_last [] made (Const c) tt
own_parts ts made (head.Xor a b) p =
    parts_last (postorder (term_at ts a) ++ postorder (term_at ts b)) made (Xor (term_at ts a) (term_at ts b)) (AllAmong-append (postorder (term_at ts a)) (postorder (term_at ts b)) made p.0 p.1)
own_parts ts made (head.Not a) p = parts_last (postorder (term_at ts a)) made (Not (term_at ts a)) p
own_parts ts made (head.Mask c a) p = parts_last (postorder (term_at ts a)) made (Mask c (term_at ts a)) p
own_parts ts made (head.And a b) p =
    parts_last (postorder (term_at ts a) ++ postorder (term_at ts b)) made (And (term_at ts a) (term_at ts b)) (AllAmong-append (postorder (term_at ts a)) (postorder (term_at ts b)) made p.0 p.1)
own_parts ts made (head.Shl k a) p = parts_last (postorder (term_at ts a)) made (Shl k (term_at ts a)) p
own_parts ts made (head.Shr k a) p = parts_last (postorder (term_at ts a)) made (Shr k (term_at ts a)) p
own_parts ts made (head.Rotl k a) p = parts_last (postorder (term_at ts a)) made (Rotl k (term_at ts a)) p
own_parts ts made (head.Refresh k a) p = parts_last (postorder (term_at ts a)) made (Refresh k (term_at ts a)) p

-- terms with all their parts, and one more whose operands are there
pub closed_push : (ts made : List Term) (h : Head) → IsClosed made → Parts ts made h → IsClosed (made ++ term_of_head ts h ∷ [])
closed_push ts made h closed parts t e =
    elim (among_push t (term_of_head ts h) made e) as (λ _. AllAmong (postorder t) (made ++ term_of_head ts h ∷ [])) [
      | inl p ↦ AllAmong-more (postorder t) made (term_of_head ts h ∷ []) (closed t p)
      | inr p ↦ subst (λ (u : Term). AllAmong (postorder u) (made ++ term_of_head ts h ∷ [])) (sym p) (own_parts ts made h parts)
    ]

-- ---- one more register

set_other : (places : List ℕ) (top v i m : ℕ) → get_or places i 0 < m → m ≤ get_or places top 0 → get_or (set places top v) i 0 ≡ get_or places i 0
set_other places top v i m h l =
    let differ : i ≢ top = λ e. less_itself (get_or places top 0) (subst (λ (k : ℕ). get_or places k 0 < get_or places top 0) e (omega arith)) in
    get_or-set_other places top i v 0 differ
  where
    less_itself : (k : ℕ) → k < k → ⊥
    less_itself k h = omega arith

gate_kept : (w m top v : ℕ) (places : List ℕ) (h : Head) → m ≤ get_or places top 0 → IsEquation w m (gate_of_head (place_in places) h)
    → gate_of_head (place_in places) h ≡ gate_of_head (place_in (set places top v)) h
gate_kept w m top v places h l p =
    gate_of_head-same (place_in places) (place_in (set places top v)) h
    (AreOperands-map (λ a. get_or places a.0 0 < m) (λ a. place_in places a ≡ place_in (set places top v) a) h
    (λ a q. let f : ℕ → Reg = λ k. record { 0 = k } in ap f (sym (set_other places top v a.0 m q l)))
    (operands_of_equation w m (place_in places) h p))

count_set : (places : List ℕ) (i v : ℕ) → i < length places → get_or places i 0 ≡ unplaced → v ≢ unplaced → count_unplaced (set places i v) + 1 ≡ count_unplaced places
count_set [] i v h e d = absurd (omega arith)
count_set (p ∷ ps) zero v h e d =
    let a : (p == unplaced) ≡ true = eq-eqb p unplaced e in
    let b : (v == unplaced) ≡ false = ne_eqb v unplaced d in
    ap (λ (r : Bool). (if r then count_unplaced ps + 1 else count_unplaced ps) + 1) b ∙ sym (ap (λ (r : Bool). if r then count_unplaced ps + 1 else count_unplaced ps) a)
count_set (p ∷ ps) (suc i) v h e d = count_by_case (p == unplaced) (count_unplaced (set ps i v)) (count_unplaced ps) (count_set ps i v (omega arith) e d)
  where
    count_by_case : (r : Bool) (a b : ℕ) → a + 1 ≡ b → (if r then a + 1 else a) + 1 ≡ (if r then b + 1 else b)
    count_by_case true a b e = ap (λ (k : ℕ). k + 1) e
    count_by_case false a b e = e

-- the walk after the term `top` of the operation h got the next register
module _ (w n : ℕ) (heads : List Head) (places order : List ℕ) (builder : IsBuilder w n heads) (walk : IsWalk w n heads places order)
    (top : ℕ) (h : Head) (high : n ≤ top) (within : top < n + length heads) (free : get_or places top 0 ≡ unplaced)
    (there : slice_get heads (top - n) ≡ Some h) (parts : AreOperands (HasPlace places) h) where
  is_head : IsHead w top h
  is_head = let e : n + (top - n) ≡ top = omega arith in subst (λ (k : ℕ). IsHead w k h) e (head_at w n heads (top - n) h builder.earlier there)

  below_all : AreOperands (λ a. a.0 < n + length heads) h
  below_all = AreOperands-map (λ a. a.0 < top) (λ a. a.0 < n + length heads) h (λ a q. omega arith) (operands_below w top h is_head)

  pub top_term : get_or (all_terms n heads) top (Input 0) ≡ term_of_head (all_terms n heads) h
  top_term = head_term w n heads top h builder.earlier high there

  pub top_parts : AreOperands (λ a. AllAmong (postorder (term_at (all_terms n heads) a)) (terms_in (all_terms n heads) order)) h
  top_parts =
      AreOperands-map (λ a. (a.0 < n + length heads) × HasPlace places a) (λ a. AllAmong (postorder (term_at (all_terms n heads) a)) (terms_in (all_terms n heads) order)) h
      (λ a q. placed_parts w n heads places order builder walk a q.0 q.1)
      (AreOperands-both (λ a. a.0 < n + length heads) (HasPlace places) h below_all parts)

  top_gate : IsEquation w (n + length order) (gate_of_head (place_in places) h)
  top_gate =
      equation_of_head w (n + length order) top (place_in places) h is_head
      (AreOperands-map (λ a. (a.0 < n + length heads) × HasPlace places a) (λ a. get_or places a.0 0 < n + length order) h
      (λ a q. place_below w n heads places order builder walk a q.0 q.1)
      (AreOperands-both (λ a. a.0 < n + length heads) (HasPlace places) h below_all parts))

  room : n + length order < unplaced
  room = let f = builder.few in omega (arith, order_room w n heads places order builder walk)

  pub made_after : terms_in (all_terms n heads) (order ++ top ∷ []) ≡ terms_in (all_terms n heads) order ++ term_of_head (all_terms n heads) h ∷ []
  made_after = terms_in-push (all_terms n heads) order top ∙ ap (λ (t : Term). terms_in (all_terms n heads) order ++ t ∷ []) top_term

  length_after : length (order ++ top ∷ []) ≡ length order + 1
  length_after = length-append order (top ∷ [])

  old_order : (k : ℕ) → k < length order → get_or (order ++ top ∷ []) k 0 ≡ get_or order k 0
  old_order k l = get_or_append_left order (top ∷ []) 0 k l

  new_order : get_or (order ++ top ∷ []) (length order) 0 ≡ top
  new_order = get_or_at order top [] 0 (length order) refl

  last_or_old : (k : ℕ) → k < length (order ++ top ∷ []) → (k < length order) ⊎ (k ≡ length order)
  last_or_old k l = by k (length order) (omega (arith, length_after))
    where
      by : (k m : ℕ) → k < m + 1 → (k < m) ⊎ (k ≡ m)
      by k m h = grind arith

  differs : (i m : ℕ) → get_or places i 0 ≡ m → m < unplaced → i ≢ top
  differs i m e l same = absurd (let x : get_or places i 0 ≡ unplaced = ap (λ (k : ℕ). get_or places k 0) same ∙ free in omega arith)

  pub walk_after : IsWalk w n heads (set places top (n + length order)) (order ++ top ∷ [])
  walk_after = record {
    all = length-set places top (n + length order) ∙ walk.all;
    inputs = λ i l. let d : i ≢ top = λ e. absurd (omega arith) in get_or-set_other places top i (n + length order) 0 d ∙ walk.inputs i l;
    placed = λ k l. placed_by k (last_or_old k l);
    others = λ i l m p. others_by i l m p (same_or_not i top);
    room = let e = count_set places top (n + length order) (omega (arith, walk.all)) free (λ q. absurd (let r = room in omega arith)) in omega (arith, e, walk.room, length_after);
    gates = λ k g l e. gates_by k g e (last_or_old k l);
    closed = subst (λ (l : List Term). IsClosed l) (sym made_after) (closed_push (all_terms n heads) (terms_in (all_terms n heads) order) h walk.closed top_parts);
  }
    where
      same_or_not : (i j : ℕ) → (i ≡ j) ⊎ (i ≢ j)
      same_or_not i j = cases_eq i j

      placed_by : (k : ℕ) → (k < length order) ⊎ (k ≡ length order)
          → (n ≤ get_or (order ++ top ∷ []) k 0) × (get_or (order ++ top ∷ []) k 0 < n + length heads) × (get_or (set places top (n + length order)) (get_or (order ++ top ∷ []) k 0) 0 ≡ n + k)
      placed_by k (inl l) =
          let p = walk.placed k l in
          let o = old_order k l in
          let d : get_or order k 0 ≢ top = differs (get_or order k 0) (n + k) p.2 (let r = room in omega arith) in (
            omega (arith, o, p.0),
            omega (arith, o, p.1),
            ap (λ (m : ℕ). get_or (set places top (n + length order)) m 0) o ∙ get_or-set_other places top (get_or order k 0) (n + length order) 0 d ∙ p.2,
          )
      placed_by k (inr e) =
          let o : get_or (order ++ top ∷ []) k 0 ≡ top = ap (λ (m : ℕ). get_or (order ++ top ∷ []) m 0) e ∙ new_order in (
            omega arith,
            omega arith,
            ap (λ (m : ℕ). get_or (set places top (n + length order)) m 0) o
                ∙ get_or-set_same places top (n + length order) 0 (omega (arith, walk.all))
                ∙ ap (λ (m : ℕ). n + m) (sym e),
          )

      others_by : (i : ℕ) → n ≤ i → i < n + length heads → get_or (set places top (n + length order)) i 0 ≢ unplaced → (i ≡ top) ⊎ (i ≢ top)
          → (k : ℕ) × (k < length (order ++ top ∷ [])) × (get_or (order ++ top ∷ []) k 0 ≡ i)
      others_by i l m p (inl e) = (length order, omega (arith, length_after), new_order ∙ sym e)
      others_by i l m p (inr d) =
          let k = walk.others i l m (λ e. p (get_or-set_other places top i (n + length order) 0 d ∙ e)) in
          (k.0, omega (arith, length_after, k.1), old_order k.0 k.1 ∙ k.2)

      gates_by : (k : ℕ) (g : Head) → slice_get heads (get_or (order ++ top ∷ []) k 0 - n) ≡ Some g → (k < length order) ⊎ (k ≡ length order)
          → IsEquation w (n + k) (gate_of_head (place_in (set places top (n + length order))) g)
      gates_by k g e (inl l) =
          let old = walk.gates k g l (sym (ap (λ (m : ℕ). slice_get heads (m - n)) (old_order k l)) ∙ e) in
          subst (λ x. IsEquation w (n + k) x) (gate_kept w (n + k) top (n + length order) places g (let r = room in omega arith) old) old
      gates_by k g e (inr q) =
          let o : get_or (order ++ top ∷ []) k 0 ≡ top = ap (λ (m : ℕ). get_or (order ++ top ∷ []) m 0) q ∙ new_order in
          let f : Some h ≡ Some g = sym there ∙ sym (ap (λ (m : ℕ). slice_get heads (m - n)) o) ∙ e in
          let s : h ≡ g = cc in
          subst (λ (x : Head). IsEquation w (n + k) (gate_of_head (place_in (set places top (n + length order))) x)) s
          (subst (λ (m : ℕ). IsEquation w (n + m) (gate_of_head (place_in (set places top (n + length order))) h)) (sym q)
          (subst (λ x. IsEquation w (n + length order) x)
          (gate_kept w (n + length order) top (n + length order) places h (let r = room in omega arith) top_gate) top_gate))

  -- the walk of the term is its place at the end
  pub end_after : (rest : List Term) → first_places (terms_in (all_terms n heads) order) (postorder (get_or (all_terms n heads) top (Input 0)) ++ rest)
      ≡ first_places (terms_in (all_terms n heads) (order ++ top ∷ [])) rest
  end_after rest =
      let free_term : is_among (term_of_head (all_terms n heads) h) (terms_in (all_terms n heads) order) ≡ false =
      ap (λ (t : Term). is_among t (terms_in (all_terms n heads) order)) (sym top_term) ∙ not_among w n heads places order builder walk top within free in
      ap (λ (t : Term). first_places (terms_in (all_terms n heads) order) (postorder t ++ rest)) top_term
      ∙ walk_last (all_terms n heads) (terms_in (all_terms n heads) order) h rest top_parts free_term
      ∙ ap (λ (l : List Term). first_places l rest) (sym made_after)

  pub fewer : count_unplaced (set places top (n + length order)) + 1 ≡ count_unplaced places
  fewer = count_set places top (n + length order) (omega (arith, walk.all)) free (λ q. absurd (let r = room in omega arith))
