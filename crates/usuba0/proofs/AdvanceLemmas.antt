-- One step of the walk, over the numbers that wait.
use Rattle.std.proofs.Common.{◌≡◌, ◌≢◌, ℕ, zero, suc, ◌+◌, ◌-◌, ◌<◌, ◌≤◌, ◌⊎◌, inl, inr, Some, List, [], ◌∷◌, ◌++◌, length, get_or, set, take, map, refl, sym, ap, subst, ◌∙◌, arith, length-append}
use Rattle.std.proofs.lemmas.List.{append-nil, get_or_append_left, get_or_at, get_or-set_other, take_more, take_all, get_or_read, map-append}
use Rattle.std.proofs.lemmas.Option.{slice_get-get_or}
use Rattle.std.proofs.lemmas.Bool.{cases_eq}
use Rattle.std.specs.List.{slice_get}
use Rattle.usuba0.specs.declared.circuit.Reg.{Reg}
use Rattle.usuba0.specs.declared.builder.Head.{Head}
use Rattle.usuba0.specs.declared.builder.Head.TheVariants as head
use Rattle.usuba0.specs.Term.{Term, Input}
use Rattle.usuba0.specs.CoreOfTerms.{postorder, first_places, walk}
use Rattle.usuba0.specs.State.Heads.{term_at, term_of_head, IsHead, IsBuilder}
use Rattle.usuba0.specs.State.Walk.{all_terms, terms_in, unplaced, HasPlace, AreOperands, IsNextOperand, AllAmong, IsWalk, IsUnderWay, order_at_end, pending_walk, last_and_one, work}
use Rattle.usuba0.proofs.HeadLemmas.{head_at}
use Rattle.usuba0.proofs.KeepLemmas.{head_term}
use Rattle.usuba0.proofs.WalkLemmas.{first_places-there, first_places-append, walk-append}
use Rattle.usuba0.proofs.WalkSteps.{terms_in-push, pending_walk-push, placed_parts, AreOperands-map, operands_below, walk_operand, walk_after, end_after, fewer}

-- a list that is not empty is its front and its last
pub split_last : (pend : List ℕ) (k : ℕ) → length pend ≡ suc k → pend ≡ take k pend ++ get_or pend k 0 ∷ []
split_last pend k e =
    let one : k + 1 ≡ suc k = omega arith in
    sym (take_all (k + 1) pend (omega arith)) ∙ take_more pend k 0 (omega arith)

next_holds : (P : Reg → Type 0) (places : List ℕ) (r : Reg) (h : Head) → AreOperands P h → IsNextOperand places r h → P r
next_holds P places r (head.Const c) p q = absurd q
next_holds P places r (head.Xor a b) p (inl e) = subst P e p.0
next_holds P places r (head.Xor a b) p (inr e) = subst P e.1 p.1
next_holds P places r (head.Not a) p q = subst P q p
next_holds P places r (head.Mask c a) p q = subst P q p
next_holds P places r (head.And a b) p (inl e) = subst P e p.0
next_holds P places r (head.And a b) p (inr e) = subst P e.1 p.1
next_holds P places r (head.Shl k a) p q = subst P q p
next_holds P places r (head.Shr k a) p q = subst P q p
next_holds P places r (head.Rotl k a) p q = subst P q p
next_holds P places r (head.Refresh k a) p q = subst P q p

last-push : (is : List ℕ) (i : ℕ) → last_and_one (is ++ i ∷ []) ≡ i + 1
last-push [] i = refl
last-push (k ∷ is) i =
    let l = length-append is (i ∷ []) in
    let place : length (is ++ i ∷ []) ≡ suc (length is) = omega arith in
    ap (λ (m : ℕ). get_or (k ∷ (is ++ i ∷ [])) m 0 + 1) place ∙ ap (λ (m : ℕ). m + 1) (get_or_at is i [] 0 (length is) refl)

last_below : (is : List ℕ) (m : ℕ) → ((k : ℕ) → k < length is → get_or is k 0 < m) → last_and_one is ≤ m
last_below [] m f = omega arith
last_below (i ∷ is) m f = omega (arith, f (length is) (omega arith))

last_or_old : (k m : ℕ) → k < m + 1 → (k < m) ⊎ (k ≡ m)
last_or_old k m h = grind arith

module _ (w n : ℕ) (heads : List Head) (places order front : List ℕ) (top : ℕ) (builder : IsBuilder w n heads) (under : IsUnderWay w n heads places order (front ++ top ∷ []))
    (h : Head) (there : slice_get heads (top - n) ≡ Some h) where
  size : length (front ++ top ∷ []) ≡ length front + 1
  size = length-append front (top ∷ [])

  at_front : (k : ℕ) → k < length front → get_or (front ++ top ∷ []) k 0 ≡ get_or front k 0
  at_front k l = get_or_append_left front (top ∷ []) 0 k l

  at_top : get_or (front ++ top ∷ []) (length front) 0 ≡ top
  at_top = get_or_at front top [] 0 (length front) refl

  pub top_waits : (n ≤ top) × (top < n + length heads) × (get_or places top 0 ≡ unplaced)
  top_waits =
      let p = under.waiting (length front) (omega (arith, size)) in
      (omega (arith, at_top, p.0), omega (arith, at_top, p.1), ap (λ (m : ℕ). get_or places m 0) (sym at_top) ∙ p.2)

  front_waits : (k : ℕ) → k < length front → (n ≤ get_or front k 0) × (get_or front k 0 < n + length heads) × (get_or places (get_or front k 0) 0 ≡ unplaced)
  front_waits k l =
      let p = under.waiting k (omega (arith, size)) in
      let o = at_front k l in
      (omega (arith, o, p.0), omega (arith, o, p.1), ap (λ (m : ℕ). get_or places m 0) (sym o) ∙ p.2)

  above_top : (k : ℕ) → k < length front → top < get_or front k 0
  above_top k l =
      let f = under.falling k (length front) l (omega (arith, size)) in
      omega (arith, f, at_top, at_front k l)

  front_falls : (j k : ℕ) → j < k → k < length front → get_or front k 0 < get_or front j 0
  front_falls j k l m =
      let f = under.falling j k l (omega (arith, size)) in
      omega (arith, f, at_front j (omega arith), at_front k m)

  top_is_head : IsHead w top h
  top_is_head =
      let e : n + (top - n) ≡ top = omega (arith, top_waits.0) in
      subst (λ (k : ℕ). IsHead w k h) e (head_at w n heads (top - n) h builder.earlier there)

  pub operands_within : AreOperands (λ a. a.0 < length places) h
  operands_within = AreOperands-map (λ a. a.0 < top) (λ a. a.0 < length places) h (λ a q. omega (arith, top_waits.1, under.walk.all)) (operands_below w top h top_is_head)

  walk_now : pending_walk (terms_in (all_terms n heads) (front ++ top ∷ [])) ≡ postorder (get_or (all_terms n heads) top (Input 0)) ++ pending_walk (terms_in (all_terms n heads) front)
  walk_now = ap pending_walk (terms_in-push (all_terms n heads) front top) ∙ pending_walk-push (terms_in (all_terms n heads) front) (get_or (all_terms n heads) top (Input 0))

  top_term : get_or (all_terms n heads) top (Input 0) ≡ term_of_head (all_terms n heads) h
  top_term = head_term w n heads top h builder.earlier top_waits.0 there

  -- the top waits for an operand
  module _ (r : Reg) (is_next : IsNextOperand places r h) (open_place : HasPlace places r → ⊥) where
    below : r.0 < top
    below = next_holds (λ a. a.0 < top) places r h (operands_below w top h top_is_head) is_next

    free : get_or places r.0 0 ≡ unplaced
    free = elim (cases_eq (get_or places r.0 0) unplaced) as (λ _. get_or places r.0 0 ≡ unplaced) [ inl e ↦ e | inr d ↦ absurd (open_place d) ]

    no_input : n ≤ r.0
    no_input = elim (below_or r.0 n) as (λ _. n ≤ r.0) [
      | inl l ↦ let e = under.walk.inputs r.0 l in let f = builder.few in absurd (omega (arith, free))
      | inr l ↦ l
    ]
      where
        below_or : (i m : ℕ) → (i < m) ⊎ (m ≤ i)
        below_or i m = grind arith

    pushed_size : length ((front ++ top ∷ []) ++ r.0 ∷ []) ≡ length front + 1 + 1
    pushed_size = length-append (front ++ top ∷ []) (r.0 ∷ []) ∙ ap (λ (m : ℕ). m + 1) size

    pushed_old : (k : ℕ) → k < length front + 1 → get_or ((front ++ top ∷ []) ++ r.0 ∷ []) k 0 ≡ get_or (front ++ top ∷ []) k 0
    pushed_old k l = get_or_append_left (front ++ top ∷ []) (r.0 ∷ []) 0 k (omega (arith, size))

    pushed_last : get_or ((front ++ top ∷ []) ++ r.0 ∷ []) (length front + 1) 0 ≡ r.0
    pushed_last = get_or_at (front ++ top ∷ []) r.0 [] 0 (length front + 1) size

    above_last : (j : ℕ) → j < length front + 1 → r.0 < get_or (front ++ top ∷ []) j 0
    above_last j l = elim (last_or_old j (length front) l) as (λ _. r.0 < get_or (front ++ top ∷ []) j 0) [
      | inl m ↦ omega (arith, below, above_top j m, at_front j m)
      | inr e ↦ let o : get_or (front ++ top ∷ []) j 0 ≡ top = ap (λ (k : ℕ). get_or (front ++ top ∷ []) k 0) e ∙ at_top in omega (arith, below)
    ]

    pub push_under_way : IsUnderWay w n heads places order ((front ++ top ∷ []) ++ r.0 ∷ [])
    push_under_way = record {
      walk = under.walk;
      waiting = λ k l. waiting_by k (last_or_old k (length front + 1) (omega (arith, pushed_size)));
      falling = λ j k l m. falling_by j k l (last_or_old k (length front + 1) (omega (arith, pushed_size)));
    }
      where
        waiting_by : (k : ℕ) → (k < length front + 1) ⊎ (k ≡ length front + 1)
            → (n ≤ get_or ((front ++ top ∷ []) ++ r.0 ∷ []) k 0) × (get_or ((front ++ top ∷ []) ++ r.0 ∷ []) k 0 < n + length heads) × (get_or places (get_or ((front ++ top ∷ []) ++ r.0 ∷ []) k 0) 0 ≡ unplaced)
        waiting_by k (inl l) =
            let o = pushed_old k l in
            let p = under.waiting k (omega (arith, size)) in
            (omega (arith, o, p.0), omega (arith, o, p.1), ap (λ (m : ℕ). get_or places m 0) o ∙ p.2)
        waiting_by k (inr e) =
            let o : get_or ((front ++ top ∷ []) ++ r.0 ∷ []) k 0 ≡ r.0 = ap (λ (m : ℕ). get_or ((front ++ top ∷ []) ++ r.0 ∷ []) m 0) e ∙ pushed_last in
            (omega (arith, no_input), omega (arith, below, top_waits.1), ap (λ (m : ℕ). get_or places m 0) o ∙ free)

        falling_by : (j k : ℕ) → j < k → (k < length front + 1) ⊎ (k ≡ length front + 1) → get_or ((front ++ top ∷ []) ++ r.0 ∷ []) k 0 < get_or ((front ++ top ∷ []) ++ r.0 ∷ []) j 0
        falling_by j k l (inl m) =
            let f = under.falling j k l (omega (arith, size)) in
            omega (arith, f, pushed_old j (omega arith), pushed_old k m)
        falling_by j k l (inr e) =
            let o : get_or ((front ++ top ∷ []) ++ r.0 ∷ []) k 0 ≡ r.0 = ap (λ (m : ℕ). get_or ((front ++ top ∷ []) ++ r.0 ∷ []) m 0) e ∙ pushed_last in
            omega (arith, above_last j (omega arith), pushed_old j (omega arith))

    pub push_same_end : order_at_end n heads order ((front ++ top ∷ []) ++ r.0 ∷ []) ≡ order_at_end n heads order (front ++ top ∷ [])
    push_same_end =
        let ts = all_terms n heads in
        let made = terms_in ts order in
        let rest = pending_walk (terms_in ts front) in
        let parts : AreOperands (λ a. HasPlace places a → AllAmong (postorder (term_at ts a)) made) h =
        AreOperands-map (λ a. a.0 < top) (λ a. HasPlace places a → AllAmong (postorder (term_at ts a)) made) h
        (λ a q p. placed_parts w n heads places order builder under.walk a (omega (arith, top_waits.1)) p) (operands_below w top h top_is_head) in
        let now : pending_walk (terms_in ts (front ++ top ∷ [])) ≡ postorder (term_of_head ts h) ++ rest = walk_now ∙ ap (λ (t : Term). postorder t ++ rest) top_term in
        ap (λ (l : List Term). first_places made (pending_walk l)) (terms_in-push ts (front ++ top ∷ []) r.0)
        ∙ ap (first_places made) (pending_walk-push (terms_in ts (front ++ top ∷ [])) (get_or ts r.0 (Input 0)))
        ∙ ap (λ (l : List Term). first_places made (postorder (get_or ts r.0 (Input 0)) ++ l)) now
        ∙ walk_operand ts made places h r rest parts is_next
        ∙ ap (first_places made) (sym now)

    pub push_nearer : work places ((front ++ top ∷ []) ++ r.0 ∷ []) < work places (front ++ top ∷ [])
    push_nearer = omega (arith, last-push (front ++ top ∷ []) r.0, last-push front top, below)

  -- the top gets the next register
  module _ (parts : AreOperands (HasPlace places) h) where
    pub place_under_way : IsUnderWay w n heads (set places top (n + length order)) (order ++ top ∷ []) front
    place_under_way = record {
      walk = walk_after w n heads places order builder under.walk top h top_waits.0 top_waits.1 top_waits.2 there parts;
      waiting = λ k l.
          let p = front_waits k l in
          let d : get_or front k 0 ≢ top = λ e. absurd (omega (arith, above_top k l)) in
          (p.0, p.1, get_or-set_other places top (get_or front k 0) (n + length order) 0 d ∙ p.2);
      falling = front_falls;
    }

    pub place_same_end : order_at_end n heads (order ++ top ∷ []) front ≡ order_at_end n heads order (front ++ top ∷ [])
    place_same_end =
        let ts = all_terms n heads in
        sym
        (ap (first_places (terms_in ts order)) walk_now
        ∙ end_after w n heads places order builder under.walk top h top_waits.0 top_waits.1 top_waits.2 there parts (pending_walk (terms_in ts front)))

    pub place_nearer : work (set places top (n + length order)) front < work places (front ++ top ∷ [])
    place_nearer =
        let f = fewer w n heads places order builder under.walk top h top_waits.0 top_waits.1 top_waits.2 there parts in
        let l = last_below front (n + length heads) (λ k m. (front_waits k m).1) in
        let b = builder.few in
        omega (arith, last-push front top)

-- ---- the same, as a step of the code has it

-- what a step does
pub record Advanced (w n : ℕ) (heads : List Head) (places order pend places' order' pend' : List ℕ) : Type 0 where
  pub under_way : IsUnderWay w n heads places' order' pend'
  pub same_end : order_at_end n heads order' pend' ≡ order_at_end n heads order pend
  pub nearer : work places' pend' < work places pend

last_is : (pend : List ℕ) (many k top : ℕ) → length pend ≡ many → 0 < many → k ≡ many - 1 → top ≡ get_or pend k top → pend ≡ take k pend ++ top ∷ []
last_is pend many k top len some e read =
    let same : top ≡ get_or pend k 0 = get_or_read pend k top (omega arith) read 0 in
    split_last pend k (omega arith) ∙ ap (λ (x : ℕ). take k pend ++ x ∷ []) (sym same)

module _ (w n : ℕ) (heads : List Head) (places order pend : List ℕ) (many k top : ℕ) (builder : IsBuilder w n heads) (under : IsUnderWay w n heads places order pend)
    (len : length pend ≡ many) (some : 0 < many) (last : k ≡ many - 1) (read : top ≡ get_or pend k top) where
  parted : pend ≡ take k pend ++ top ∷ []
  parted = last_is pend many k top len some last read

  under_parted : IsUnderWay w n heads places order (take k pend ++ top ∷ [])
  under_parted = subst (λ (l : List ℕ). IsUnderWay w n heads places order l) parted under

  pub last_waits : (n ≤ top) × (top < n + length heads)
  last_waits =
      let p = under.waiting k (omega arith) in
      let same : top ≡ get_or pend k 0 = get_or_read pend k top (omega arith) read 0 in
      (omega (arith, p.0), omega (arith, p.1))

  there : slice_get heads (top - n) ≡ Some (get_or heads (top - n) (head.Const 0))
  there = slice_get-get_or heads (top - n) (head.Const 0) (omega (arith, last_waits.0, last_waits.1))

  pub step_operands : AreOperands (λ a. a.0 < length places) (get_or heads (top - n) (head.Const 0))
  step_operands = operands_within w n heads places order (take k pend) top builder under_parted (get_or heads (top - n) (head.Const 0)) there

  pub step_push : (r : Reg) (pend' : List ℕ) → IsNextOperand places r (get_or heads (top - n) (head.Const 0)) → (HasPlace places r → ⊥) → pend' ≡ pend ++ r.0 ∷ []
      → Advanced w n heads places order pend places order pend'
  step_push r pend' is_next open_place e =
      let h = get_or heads (top - n) (head.Const 0) in
      subst (λ (l : List ℕ). Advanced w n heads places order pend places order l) (sym e)
      (subst (λ (l : List ℕ). Advanced w n heads places order l places order (l ++ r.0 ∷ [])) (sym parted)
      (record {
        under_way = push_under_way w n heads places order (take k pend) top builder under_parted h there r is_next open_place;
        same_end = push_same_end w n heads places order (take k pend) top builder under_parted h there r is_next open_place;
        nearer = push_nearer w n heads places order (take k pend) top builder under_parted h there r is_next open_place;
      }))

  pub step_place : (m : ℕ) (places' order' pend' : List ℕ) → AreOperands (HasPlace places) (get_or heads (top - n) (head.Const 0)) → m ≡ length order
      → places' ≡ set places top (n + m) → order' ≡ order ++ top ∷ [] → pend' ≡ take (many - 1) pend → Advanced w n heads places order pend places' order' pend'
  step_place m places' order' pend' parts em ep eo ed =
      let h = get_or heads (top - n) (head.Const 0) in
      let ep' : places' ≡ set places top (n + length order) = ep ∙ ap (λ (v : ℕ). set places top (n + v)) em in
      let ed' : pend' ≡ take k pend = ed ∙ ap (λ (v : ℕ). take v pend) (sym last) in
      subst (λ (l : List ℕ). Advanced w n heads places order pend l order' pend') (sym ep')
      (subst (λ (l : List ℕ). Advanced w n heads places order pend (set places top (n + length order)) l pend') (sym eo)
      (subst (λ (l : List ℕ). Advanced w n heads places order pend (set places top (n + length order)) (order ++ top ∷ []) l) (sym ed')
      (record {
        under_way = place_under_way w n heads places order (take k pend) top builder under_parted h there parts;
        same_end = place_same_end w n heads places order (take k pend) top builder under_parted h there parts ∙ ap (order_at_end n heads order) (sym parted);
        nearer =
            subst (λ (l : List ℕ). work (set places top (n + length order)) (take k pend) < work places l) (sym parted)
            (place_nearer w n heads places order (take k pend) top builder under_parted h there parts);
      })))

-- ---- the first and the last step

-- a walk is under way where one term waits alone
pub start_under_way : (w n : ℕ) (heads : List Head) (places order pend : List ℕ) (term : ℕ) → IsBuilder w n heads → IsWalk w n heads places order → term < n + length heads
    → (HasPlace places (record { 0 = term }) → ⊥) → pend ≡ term ∷ [] → IsUnderWay w n heads places order pend
start_under_way w n heads places order pend term builder walk h open_place e =
    subst (λ (l : List ℕ). IsUnderWay w n heads places order l) (sym e)
    (record { walk = walk; waiting = λ k l. waits k l; falling = λ j k l m. absurd (omega arith) })
  where
    free : get_or places term 0 ≡ unplaced
    free = elim (cases_eq (get_or places term 0) unplaced) as (λ _. get_or places term 0 ≡ unplaced) [ inl e ↦ e | inr d ↦ absurd (open_place d) ]

    below_or : (i m : ℕ) → (i < m) ⊎ (m ≤ i)
    below_or i m = grind arith

    no_input : n ≤ term
    no_input = elim (below_or term n) as (λ _. n ≤ term) [
      | inl l ↦ let e = walk.inputs term l in let f = builder.few in absurd (omega (arith, free))
      | inr l ↦ l
    ]

    waits : (k : ℕ) → k < 1 → (n ≤ get_or (term ∷ []) k 0) × (get_or (term ∷ []) k 0 < n + length heads) × (get_or places (get_or (term ∷ []) k 0) 0 ≡ unplaced)
    waits zero l = (no_input, h, free)
    waits (suc k) l = absurd (omega arith)

-- a term that has its place changes nothing
pub placed_end : (w n : ℕ) (heads : List Head) (places order : List ℕ) (term : ℕ) → IsBuilder w n heads → IsWalk w n heads places order → term < n + length heads
    → HasPlace places (record { 0 = term }) → terms_in (all_terms n heads) order ≡ first_places (terms_in (all_terms n heads) order) (postorder (get_or (all_terms n heads) term (Input 0)))
placed_end w n heads places order term builder walk h p =
    let r : Reg = record { 0 = term } in
    let made = terms_in (all_terms n heads) order in
    let us = postorder (get_or (all_terms n heads) term (Input 0)) in
    sym (ap (first_places made) (sym (append-nil us)) ∙ first_places-there made us [] (placed_parts w n heads places order builder walk r h p))

-- one output more
pub outputs_more : (f : Reg → Term) (rs : List Reg) (i : ℕ) (d : Reg) → i < length rs
    → first_places (first_places [] (walk (map f (take i rs)))) (postorder (f (get_or rs i d))) ≡ first_places [] (walk (map f (take (i + 1) rs)))
outputs_more f rs i d h =
    let t = f (get_or rs i d) in
    let front = map f (take i rs) in
    sym (first_places-append [] (walk front) (postorder t))
    ∙ ap (λ (l : List Term). first_places [] (walk front ++ l)) (sym (append-nil (postorder t)))
    ∙ ap (first_places []) (sym (walk-append front (t ∷ [])))
    ∙ ap (λ (l : List Term). first_places [] (walk l)) (sym (map-append f (take i rs) (get_or rs i d ∷ [])) ∙ ap (map f) (sym (take_more rs i d h)))
