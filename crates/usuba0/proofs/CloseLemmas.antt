-- The equations of a walk.
use Rattle.std.proofs.Common.{◌≡◌, ℕ, zero, suc, ◌+◌, ◌-◌, ◌<◌, ◌≤◌, ◌^◌, ◌⊎◌, inl, inr, true, Some, List, [], ◌∷◌, ◌++◌, length, get_or, take, map, All, refl, sym, ap, subst, ◌∙◌, arith, length-append}
use Rattle.std.proofs.lemmas.List.{take_more, take_all, length-map}
use Rattle.std.proofs.lemmas.Option.{slice_get-get_or, get_or_from_slice_get}
use Rattle.std.specs.List.{slice_get}
use Rattle.usuba0.specs.declared.limit.TheConstants.{MAX_TERMS}
use Rattle.usuba0.specs.declared.circuit.Reg.{Reg}
use Rattle.usuba0.specs.declared.circuit.Gate.{Gate}
use Rattle.usuba0.specs.declared.builder.Head.{Head}
use Rattle.usuba0.specs.declared.builder.Head.TheVariants as head
use Rattle.usuba0.specs.Term.{Term, Input, Const, Xor, Not, Mask, And, Shl, Shr, Rotl, Refresh}
use Rattle.usuba0.specs.Circuit.{Circuit, IsCore, IsEquation, AreEquations}
use Rattle.usuba0.specs.CoreOfTerms.{is_among, place_of, register_of, equations_of, postorder, first_places, subterms, core_of_terms, walk as walk_of}
use Rattle.usuba0.specs.State.Heads.{term_at, term_of_head, IsBuilder}
use Rattle.usuba0.specs.State.Walk.{all_terms, terms_in, HasPlace, place_in, AreOperands, AllAmong, gate_of_head, IsWalk}
use Rattle.usuba0.proofs.HeadLemmas.{head_at}
use Rattle.usuba0.proofs.KeepLemmas.{input_named, head_term}
use Rattle.usuba0.proofs.WalkLemmas.{among_at, all_found}
use Rattle.usuba0.proofs.WalkSteps.{terms_in-push, length-terms_in, get_or-terms_in, number_of, order_room, place_below, AreOperands-map, AreOperands-both, operands_below, operands_of_equation, gate_of_head-same}

-- the equations of two lists of terms stand one after the other
pub equations_of-append : (reg : Term → Reg) (us vs : List Term) → equations_of reg (us ++ vs) ≡ equations_of reg us ++ equations_of reg vs
equations_of-append reg [] vs = refl
equations_of-append reg (Input i ∷ us) vs = equations_of-append reg us vs
equations_of-append reg (Const c ∷ us) vs = ap (λ (l : List Gate). equations_of reg (Const c ∷ []) ++ l) (equations_of-append reg us vs)
equations_of-append reg (Xor a b ∷ us) vs = ap (λ (l : List Gate). equations_of reg (Xor a b ∷ []) ++ l) (equations_of-append reg us vs)
equations_of-append reg (Not a ∷ us) vs = ap (λ (l : List Gate). equations_of reg (Not a ∷ []) ++ l) (equations_of-append reg us vs)
equations_of-append reg (Mask c a ∷ us) vs = ap (λ (l : List Gate). equations_of reg (Mask c a ∷ []) ++ l) (equations_of-append reg us vs)
equations_of-append reg (And a b ∷ us) vs = ap (λ (l : List Gate). equations_of reg (And a b ∷ []) ++ l) (equations_of-append reg us vs)
equations_of-append reg (Shl k a ∷ us) vs = ap (λ (l : List Gate). equations_of reg (Shl k a ∷ []) ++ l) (equations_of-append reg us vs)
equations_of-append reg (Shr k a ∷ us) vs = ap (λ (l : List Gate). equations_of reg (Shr k a ∷ []) ++ l) (equations_of-append reg us vs)
equations_of-append reg (Rotl k a ∷ us) vs = ap (λ (l : List Gate). equations_of reg (Rotl k a ∷ []) ++ l) (equations_of-append reg us vs)
equations_of-append reg (Refresh k a ∷ us) vs = ap (λ (l : List Gate). equations_of reg (Refresh k a ∷ []) ++ l) (equations_of-append reg us vs)

equation_of_one : (reg : Term → Reg) (ts : List Term) (h : Head) → equations_of reg (term_of_head ts h ∷ []) ≡ gate_of_head (λ a. reg (term_at ts a)) h ∷ []
equation_of_one reg ts (head.Const c) = refl
equation_of_one reg ts (head.Xor a b) = refl
equation_of_one reg ts (head.Not a) = refl
equation_of_one reg ts (head.Mask c a) = refl
equation_of_one reg ts (head.And a b) = refl
equation_of_one reg ts (head.Shl k a) = refl
equation_of_one reg ts (head.Shr k a) = refl
equation_of_one reg ts (head.Rotl k a) = refl
equation_of_one reg ts (head.Refresh k a) = refl

register_of_head : (n : ℕ) (made ts : List Term) (h : Head) → (register_of n made (term_of_head ts h)).0 ≡ n + place_of (term_of_head ts h) made
register_of_head n made ts (head.Const c) = refl
register_of_head n made ts (head.Xor a b) = refl
register_of_head n made ts (head.Not a) = refl
register_of_head n made ts (head.Mask c a) = refl
register_of_head n made ts (head.And a b) = refl
register_of_head n made ts (head.Shl k a) = refl
register_of_head n made ts (head.Shr k a) = refl
register_of_head n made ts (head.Rotl k a) = refl
register_of_head n made ts (head.Refresh k a) = refl

below_or : (i m : ℕ) → (i < m) ⊎ (m ≤ i)
below_or i m = grind arith

module _ (w n : ℕ) (heads : List Head) (places order : List ℕ) (builder : IsBuilder w n heads) (walk : IsWalk w n heads places order) where
  -- the place of a term is its register in the core
  pub place_is : (a : Reg) → a.0 < n + length heads → HasPlace places a → place_in places a ≡ register_of n (terms_in (all_terms n heads) order) (term_at (all_terms n heads) a)
  place_is a h p = let f : ℕ → Reg = λ k. record { 0 = k } in ap f (by (below_or a.0 n))
    where
      by : (a.0 < n) ⊎ (n ≤ a.0) → get_or places a.0 0 ≡ (register_of n (terms_in (all_terms n heads) order) (term_at (all_terms n heads) a)).0
      by (inl l) =
          let e = get_or_from_slice_get (all_terms n heads) a.0 (Input a.0) (Input 0) (input_named n heads a.0 l) in
          walk.inputs a.0 l ∙ sym (ap (λ (t : Term). (register_of n (terms_in (all_terms n heads) order) t).0) e)
      by (inr l) =
          let made = terms_in (all_terms n heads) order in
          let t = term_at (all_terms n heads) a in
          let k = walk.others a.0 l h p in
          let at : get_or made k.0 (Input 0) ≡ t = get_or-terms_in (all_terms n heads) order k.0 k.1 ∙ ap (λ (m : ℕ). get_or (all_terms n heads) m (Input 0)) k.2 in
          let len = length-terms_in (all_terms n heads) order in
          let among = subst (λ (u : Term). is_among u made ≡ true) at (among_at made k.0 (Input 0) (omega (arith, k.1))) in
          let m = number_of w n heads places order builder walk a.0 h among in
          let q = walk.placed m.0 m.1 in
          let place : get_or places a.0 0 ≡ n + m.0 = sym (ap (λ (v : ℕ). get_or places v 0) m.2) ∙ q.2 in
          let g = get_or heads (a.0 - n) (head.Const 0) in
          let there : slice_get heads (a.0 - n) ≡ Some g = slice_get-get_or heads (a.0 - n) (head.Const 0) (omega arith) in
          let is_g : t ≡ term_of_head (all_terms n heads) g = head_term w n heads a.0 g builder.earlier l there in
          place ∙ ap (λ (v : ℕ). n + v) (sym m.3)
          ∙ ap (λ (u : Term). n + place_of u made) is_g
          ∙ sym (register_of_head n made (all_terms n heads) g)
          ∙ ap (λ (u : Term). (register_of n made u).0) (sym is_g)

  pub order_head : (k : ℕ) → k < length order → slice_get heads (get_or order k 0 - n) ≡ Some (get_or heads (get_or order k 0 - n) (head.Const 0))
  order_head k l = let p = walk.placed k l in slice_get-get_or heads (get_or order k 0 - n) (head.Const 0) (omega (arith, p.0, p.1))

  pub order_operands : (k : ℕ) → k < length order → AreOperands (λ a. a.0 < n + length heads) (get_or heads (get_or order k 0 - n) (head.Const 0))
  order_operands k l =
      let p = walk.placed k l in
      let h = get_or heads (get_or order k 0 - n) (head.Const 0) in
      let is = head_at w n heads (get_or order k 0 - n) h builder.earlier (order_head k l) in
      AreOperands-map (λ a. a.0 < n + (get_or order k 0 - n)) (λ a. a.0 < n + length heads) h (λ a q. omega (arith, p.0, p.1)) (operands_below w (n + (get_or order k 0 - n)) h is)

  -- one equation more
  pub equations_more : (k : ℕ) → k < length order
      → equations_of (register_of n (terms_in (all_terms n heads) order)) (terms_in (all_terms n heads) (take (k + 1) order))
      ≡ equations_of (register_of n (terms_in (all_terms n heads) order)) (terms_in (all_terms n heads) (take k order))
      ++ gate_of_head (place_in places) (get_or heads (get_or order k 0 - n) (head.Const 0)) ∷ []
  equations_more k l =
      let ts = all_terms n heads in
      let made = terms_in ts order in
      let reg = register_of n made in
      let o = get_or order k 0 in
      let h = get_or heads (o - n) (head.Const 0) in
      let room = order_room w n heads places order builder walk in
      let few = builder.few in
      let p = walk.placed k l in
      let is_h : get_or ts o (Input 0) ≡ term_of_head ts h = head_term w n heads o h builder.earlier p.0 (order_head k l) in
      let registers = operands_of_equation w (n + k) (place_in places) h (walk.gates k h l (order_head k l)) in
      let same : gate_of_head (place_in places) h ≡ gate_of_head (λ a. reg (term_at ts a)) h =
      gate_of_head-same (place_in places) (λ a. reg (term_at ts a)) h
      (AreOperands-map (λ a. (a.0 < n + length heads) × ((place_in places a).0 < n + k)) (λ a. place_in places a ≡ reg (term_at ts a)) h
      (λ a q. place_is a q.0 (λ e. absurd (omega (arith, q.1))))
      (AreOperands-both (λ a. a.0 < n + length heads) (λ a. (place_in places a).0 < n + k) h (order_operands k l) registers)) in
      ap (λ (is : List ℕ). equations_of reg (terms_in ts is)) (take_more order k 0 l)
      ∙ ap (equations_of reg) (terms_in-push ts (take k order) o)
      ∙ equations_of-append reg (terms_in ts (take k order)) (get_or ts o (Input 0) ∷ [])
      ∙ ap (λ (t : Term). equations_of reg (terms_in ts (take k order)) ++ equations_of reg (t ∷ [])) is_h
      ∙ ap (λ (l : List Gate). equations_of reg (terms_in ts (take k order)) ++ l) (equation_of_one reg ts h ∙ ap (λ (g : Gate). g ∷ []) (sym same))

-- ---- the parts of the core

AreEquations-push : (w n : ℕ) (gs : List Gate) (g : Gate) → AreEquations w n gs → IsEquation w (n + length gs) g → AreEquations w n (gs ++ g ∷ [])
AreEquations-push w n [] g p q = (subst (λ (m : ℕ). IsEquation w m g) (omega arith) q, tt)
AreEquations-push w n (h ∷ gs) g p q = (p.0, AreEquations-push w (suc n) gs g p.1 (subst (λ (m : ℕ). IsEquation w m g) (omega arith) q))

-- a term that is made of others stands in its own walk
AllAmong-last : (us : List Term) (t : Term) (made : List Term) → AllAmong (us ++ t ∷ []) made → is_among t made ≡ true
AllAmong-last [] t made p = p.0
AllAmong-last (u ∷ us) t made p = AllAmong-last us t made p.1

head_among : (ts made : List Term) (h : Head) → AllAmong (postorder (term_of_head ts h)) made → is_among (term_of_head ts h) made ≡ true
head_among ts made (head.Const c) p = p.0
head_among ts made (head.Xor a b) p = AllAmong-last (postorder (term_at ts a) ++ postorder (term_at ts b)) (Xor (term_at ts a) (term_at ts b)) made p
head_among ts made (head.Not a) p = AllAmong-last (postorder (term_at ts a)) (Not (term_at ts a)) made p
head_among ts made (head.Mask c a) p = AllAmong-last (postorder (term_at ts a)) (Mask c (term_at ts a)) made p
head_among ts made (head.And a b) p = AllAmong-last (postorder (term_at ts a) ++ postorder (term_at ts b)) (And (term_at ts a) (term_at ts b)) made p
head_among ts made (head.Shl k a) p = AllAmong-last (postorder (term_at ts a)) (Shl k (term_at ts a)) made p
head_among ts made (head.Shr k a) p = AllAmong-last (postorder (term_at ts a)) (Shr k (term_at ts a)) made p
head_among ts made (head.Rotl k a) p = AllAmong-last (postorder (term_at ts a)) (Rotl k (term_at ts a)) made p
head_among ts made (head.Refresh k a) p = AllAmong-last (postorder (term_at ts a)) (Refresh k (term_at ts a)) made p

AllAmong-left : (us vs made : List Term) → AllAmong (us ++ vs) made → AllAmong us made
AllAmong-left [] vs made p = tt
AllAmong-left (u ∷ us) vs made p = (p.0, AllAmong-left us vs made p.1)

AllAmong-right : (us vs made : List Term) → AllAmong (us ++ vs) made → AllAmong vs made
AllAmong-right [] vs made p = p
AllAmong-right (u ∷ us) vs made p = AllAmong-right us vs made p.1

-- the circuit of these parts is the core of the output terms
pub record Closes (w n : ℕ) (outs : List Term) (equations : List Gate) (outputs : List Reg) : Type 0 where
  pub core : IsCore (record { width = w; inputs = n; equations = equations; outputs = outputs })
  pub few_equations : length equations < 2 ^ 32
  pub few_outputs : length outputs < 2 ^ 32
  pub same : record { width = w; inputs = n; equations = equations; outputs = outputs } ≡ core_of_terms w n outs

module _ (w n : ℕ) (heads : List Head) (places order : List ℕ) (builder : IsBuilder w n heads) (walk : IsWalk w n heads places order) where
  abbrev made : List Term
  made = terms_in (all_terms n heads) order

  abbrev first_equations : ℕ → List Gate
  first_equations k = equations_of (register_of n made) (terms_in (all_terms n heads) (take k order))

  abbrev term : Reg → Term
  term r = get_or (all_terms n heads) r.0 (Input 0)

  -- each equation reads earlier registers only
  first_are : (k : ℕ) → k ≤ length order → AreEquations w n (first_equations k) × (length (first_equations k) ≡ k)
  first_are zero l = (tt, refl)
  first_are (suc k) l =
      let p = first_are k (omega arith) in
      let h = get_or heads (get_or order k 0 - n) (head.Const 0) in
      let g = gate_of_head (place_in places) h in
      let one : k + 1 ≡ suc k = omega arith in
      let more : first_equations (suc k) ≡ first_equations k ++ g ∷ [] = ap first_equations (sym one) ∙ equations_more w n heads places order builder walk k (omega arith) in
      let is : IsEquation w (n + k) g = walk.gates k h (omega arith) (order_head w n heads places order builder walk k (omega arith)) in
      let len : n + k ≡ n + length (first_equations k) = omega (arith, p.1) in (
        subst (λ (gs : List Gate). AreEquations w n gs) (sym more)
            (AreEquations-push w n (first_equations k) g p.0 (subst (λ (m : ℕ). IsEquation w m g) len is)),
        ap length more ∙ length-append (first_equations k) (g ∷ []) ∙ omega (arith, p.1),
      )

  all_are : AreEquations w n (equations_of (register_of n made) made) × (length (equations_of (register_of n made) made) ≡ length order)
  all_are =
      let e = take_all (length order) order (omega arith) in
      subst (λ (is : List ℕ). AreEquations w n (equations_of (register_of n made) (terms_in (all_terms n heads) is)) × (length (equations_of (register_of n made) (terms_in (all_terms n heads) is)) ≡ length order)) e
      (first_are (length order) (omega arith))

  -- a term that was walked has a place
  walked_place : (a : Reg) → a.0 < n + length heads → AllAmong (postorder (term a)) made → HasPlace places a
  walked_place a h p = by (below_or a.0 n)
    where
      by : (a.0 < n) ⊎ (n ≤ a.0) → HasPlace places a
      by (inl l) = let e = walk.inputs a.0 l in let f = builder.few in λ u. absurd (omega arith)
      by (inr l) =
          let g = get_or heads (a.0 - n) (head.Const 0) in
          let there : slice_get heads (a.0 - n) ≡ Some g = slice_get-get_or heads (a.0 - n) (head.Const 0) (omega arith) in
          let is_g : term a ≡ term_of_head (all_terms n heads) g = head_term w n heads a.0 g builder.earlier l there in
          let among : is_among (term a) made ≡ true =
          subst (λ (t : Term). is_among t made ≡ true) (sym is_g)
          (head_among (all_terms n heads) made g (subst (λ (t : Term). AllAmong (postorder t) made) is_g p)) in
          let m = number_of w n heads places order builder walk a.0 h among in
          let q = walk.placed m.0 m.1 in
          let place : get_or places a.0 0 ≡ n + m.0 = sym (ap (λ (v : ℕ). get_or places v 0) m.2) ∙ q.2 in
          let f = builder.few in
          let room = order_room w n heads places order builder walk in
          λ u. absurd (omega (arith, place, u, m.1, room, f))

  -- the registers of the outputs
  output_places : (rs : List Reg) → All (λ r. r.0 < n + length heads) rs → AllAmong (walk_of (map term rs)) made
      → (map (place_in places) rs ≡ map (register_of n made) (map term rs)) × All (λ r. r.0 < n + length order) (map (place_in places) rs)
  output_places [] held p = (refl, λ i d h. absurd (omega arith))
  output_places (r ∷ rs) held p =
      let below : r.0 < n + length heads = held 0 r (omega arith) in
      let has = walked_place r below (AllAmong-left (postorder (term r)) (walk_of (map term rs)) made p) in
      let rest = output_places rs (λ i d h. held (suc i) d (omega arith)) (AllAmong-right (postorder (term r)) (walk_of (map term rs)) made p) in
      let one = place_is w n heads places order builder walk r below has in (
        ap (λ (x : Reg). x ∷ map (place_in places) rs) one ∙ ap (λ (xs : List Reg). register_of n made (term r) ∷ xs) rest.0,
        within r rs (place_below w n heads places order builder walk r below has) rest.1,
      )
    where
      within : (r : Reg) (rs : List Reg) → (place_in places r).0 < n + length order → All (λ r. r.0 < n + length order) (map (place_in places) rs)
          → All (λ r. r.0 < n + length order) (place_in places r ∷ map (place_in places) rs)
      within r rs p q zero d h = p
      within r rs p q (suc i) d h = q i d (omega arith)

  pub closes : (rs : List Reg) (equations : List Gate) (outputs : List Reg) → 0 < length rs → length rs ≤ MAX_TERMS → All (λ r. r.0 < n + length heads) rs
      → made ≡ first_places [] (walk_of (map term rs)) → equations ≡ equations_of (register_of n made) made → outputs ≡ map (place_in places) rs → Closes w n (map term rs) equations outputs
  closes rs equations outputs some few held e ee eo =
      let walked : AllAmong (walk_of (map term rs)) made = subst (λ (l : List Term). AllAmong (walk_of (map term rs)) l) (sym e) (all_found (walk_of (map term rs)) []) in
      let o = output_places rs held walked in
      let room = order_room w n heads places order builder walk in
      let f = builder.few in
      let len_e : length equations ≡ length order = ap length ee ∙ all_are.1 in
      let len_o : length outputs ≡ length rs = ap length eo ∙ length-map rs (place_in places) in
      record {
        core = record {
          some_width = builder.some_width;
          width_fits = builder.width_fits;
          some_input = builder.some_input;
          some_output = omega arith;
          equations = subst (λ (gs : List Gate). AreEquations w n gs) (sym ee) all_are.0;
          outputs =
              let size : n + length order ≡ n + length equations = omega arith in
              subst (λ (l : List Reg). All (λ r. r.0 < n + length equations) l) (sym eo)
              (subst (λ (m : ℕ). All (λ r. r.0 < m) (map (place_in places) rs)) size o.1);
        };
        few_equations = omega arith;
        few_outputs = omega arith;
        same = core_same rs equations outputs e ee (eo ∙ o.0);
      }
    where
      core_same : (rs : List Reg) (equations : List Gate) (outputs : List Reg) → made ≡ first_places [] (walk_of (map term rs)) → equations ≡ equations_of (register_of n made) made
          → outputs ≡ map (register_of n made) (map term rs) → record { width = w; inputs = n; equations = equations; outputs = outputs } ≡ core_of_terms w n (map term rs)
      core_same rs equations outputs e ee eo =
          let core : List Gate → List Reg → Circuit = λ gs os. record { width = w; inputs = n; equations = gs; outputs = os } in
          ap (λ (gs : List Gate). core gs outputs) (ee ∙ ap (λ (l : List Term). equations_of (register_of n l) l) e)
          ∙ ap (core (equations_of (register_of n (subterms (map term rs))) (subterms (map term rs)))) (eo ∙ ap (λ (l : List Term). map (register_of n l) (map term rs)) e)
