-- The subterms of terms stand after their operands, so the equations of a core of terms read earlier registers.
use Rattle.std.proofs.Common.{◌≡◌, ℕ, suc, ◌+◌, ◌<◌, Bool, true, false, List, [], ◌∷◌, ◌++◌, length, map, All, refl, sym, ap, ◌∙◌, subst, arith, append_assoc, length-append}
use Rattle.std.specs.Prelude.{if◌then◌else◌}
use Rattle.std.proofs.lemmas.List.{append-nil}
use Rattle.std.proofs.lemmas.List.Elements.{All-cons}
use Rattle.usuba0.specs.declared.circuit.Gate.{Gate}
use Rattle.usuba0.specs.declared.circuit.Gate.TheVariants as gate
use Rattle.usuba0.specs.declared.circuit.Reg.{Reg}
use Rattle.usuba0.specs.Circuit.{IsEquation, AreEquations}
use Rattle.usuba0.specs.CoreOfTerms.{postorder, walk, is_among, first_places, subterms, place_of, register_of, equations_of}
use Rattle.usuba0.specs.State.Walk.{AllAmong}
use Rattle.usuba0.specs.Term.{Term, Input, Const, Xor, Not, Mask, And, Shl, Shr, Rotl, Refresh}
use Rattle.usuba0.proofs.WalkLemmas.{among_place, all_found}
use Rattle.source_terms.proofs.Reading.{AllRead}
use Rattle.source_cores.proofs.FitTerms.{IsFit, AreFit}
use Rattle.source_terms.proofs.Subterms.{IsHere, AreOrdered, here_within, walks, subterms_ordered, all_among, place_more}

module _ (n : ℕ) where
  -- the first of two lists is among the terms where both are
  among_first : (us vs made : List Term) → AllAmong (us ++ vs) made → AllAmong us made
  among_first [] vs made all = tt
  among_first (u ∷ us) vs made all = (all.0, among_first us vs made all.1)

  among_second : (us vs made : List Term) → AllAmong (us ++ vs) made → AllAmong vs made
  among_second [] vs made all = all
  among_second (u ∷ us) vs made all = among_second us vs made all.1

  -- outputs that were walked are here
  abbrev AllHere : List Term → List Term → Type 0
  AllHere made [] = Unit {0}
  AllHere made (t ∷ ts) = IsHere n made t × AllHere made ts

  outputs_here : (made outputs : List Term) → AllRead n outputs → AllAmong (walk outputs) made → AllHere made outputs
  outputs_here made [] read among = tt
  outputs_here made (t ∷ ts) read among = (
    here_within n (postorder t) made (all_among n (postorder t) made (among_first (postorder t) (walk ts) made among)) t (walks n [] t read.0).here,
    outputs_here made ts read.1 (among_second (postorder t) (walk ts) made among),
  )

  module _ (w : ℕ) (made : List Term) where
    abbrev reg : Term → Reg
    reg t = register_of n made t

    -- a term that is done has a register below the next one
    placed : (done rest : List Term) → done ++ rest ≡ made → (t : Term) → is_among t done ≡ true → n + place_of t made < n + length done
    placed done rest is t among =
        let at = among_place t done t among in
        let same : place_of t made ≡ place_of t done = ap (place_of t) (sym is) ∙ place_more n t done rest among in
        omega (arith, same, at.0)

    below : (done rest : List Term) → done ++ rest ≡ made → (t : Term) → IsHere n done t → (reg t).0 < n + length done
    below done rest is (Input i) here = omega (arith, here)
    below done rest is (Const c) here = placed done rest is (Const c) here
    below done rest is (Xor a b) here = placed done rest is (Xor a b) here
    below done rest is (Not a) here = placed done rest is (Not a) here
    below done rest is (Mask c a) here = placed done rest is (Mask c a) here
    below done rest is (And a b) here = placed done rest is (And a b) here
    below done rest is (Shl k a) here = placed done rest is (Shl k a) here
    below done rest is (Shr k a) here = placed done rest is (Shr k a) here
    below done rest is (Rotl k a) here = placed done rest is (Rotl k a) here
    below done rest is (Refresh k a) here = placed done rest is (Refresh k a) here

    -- the equations from register m on, of which there are so many, read earlier registers
    record AreNext (m many : ℕ) (equations : List Gate) : Type 0 where
      are : AreEquations w m equations
      count : length equations ≡ many

    one_more : (done : List Term) (t : Term) → n + length (done ++ t ∷ []) ≡ suc (n + length done)
    one_more done t = let e = length-append done (t ∷ []) in omega (arith, e)

    -- an equation before the further ones
    equation_first : (done : List Term) (t : Term) (rest : List Term) (g : Gate) (gs : List Gate) → IsEquation w (n + length done) g
        → AreNext (n + length (done ++ t ∷ [])) (length rest) gs → AreNext (n + length done) (length (t ∷ rest)) (g ∷ gs)
    equation_first done t rest g gs is next = record {
      are = (is, subst (λ (m : ℕ). AreEquations w m gs) (one_more done t) next.are);
      count = ap suc next.count;
    }

    one_over : (done : List Term) (t : Term) (rest : List Term) → done ++ t ∷ rest ≡ made → (done ++ t ∷ []) ++ rest ≡ made
    one_over done t rest is = append_assoc done (t ∷ []) rest ∙ is

    equations_from : (done rest : List Term) → done ++ rest ≡ made → AreOrdered n done rest → AreFit w rest
        → AreNext (n + length done) (length rest) (equations_of reg rest)
    equations_from done [] is ordered fit = record { are = tt; count = refl }
    equations_from done (Input i ∷ rest) is ordered fit = absurd ordered.0
    equations_from done (Const c ∷ rest) is ordered fit =
        equation_first done (Const c) rest (gate.Const c) (equations_of reg rest) fit.0
        (equations_from (done ++ Const c ∷ []) rest (one_over done (Const c) rest is) ordered.1 fit.1)
    equations_from done (Xor a b ∷ rest) is ordered fit =
        let t = Xor a b in
        equation_first done t rest (gate.Xor (reg a) (reg b)) (equations_of reg rest)
        (below done (t ∷ rest) is a ordered.0.0, below done (t ∷ rest) is b ordered.0.1)
        (equations_from (done ++ t ∷ []) rest (one_over done t rest is) ordered.1 fit.1)
    equations_from done (Not a ∷ rest) is ordered fit =
        let t = Not a in
        equation_first done t rest (gate.Not (reg a)) (equations_of reg rest) (below done (t ∷ rest) is a ordered.0)
        (equations_from (done ++ t ∷ []) rest (one_over done t rest is) ordered.1 fit.1)
    equations_from done (Mask c a ∷ rest) is ordered fit =
        let t = Mask c a in
        equation_first done t rest (gate.Mask c (reg a)) (equations_of reg rest) (fit.0.0, below done (t ∷ rest) is a ordered.0)
        (equations_from (done ++ t ∷ []) rest (one_over done t rest is) ordered.1 fit.1)
    equations_from done (And a b ∷ rest) is ordered fit =
        let t = And a b in
        equation_first done t rest (gate.And (reg a) (reg b)) (equations_of reg rest)
        (below done (t ∷ rest) is a ordered.0.0, below done (t ∷ rest) is b ordered.0.1)
        (equations_from (done ++ t ∷ []) rest (one_over done t rest is) ordered.1 fit.1)
    equations_from done (Shl k a ∷ rest) is ordered fit =
        let t = Shl k a in
        equation_first done t rest (gate.Shl k (reg a)) (equations_of reg rest) (fit.0.0, fit.0.1, below done (t ∷ rest) is a ordered.0)
        (equations_from (done ++ t ∷ []) rest (one_over done t rest is) ordered.1 fit.1)
    equations_from done (Shr k a ∷ rest) is ordered fit =
        let t = Shr k a in
        equation_first done t rest (gate.Shr k (reg a)) (equations_of reg rest) (fit.0.0, fit.0.1, below done (t ∷ rest) is a ordered.0)
        (equations_from (done ++ t ∷ []) rest (one_over done t rest is) ordered.1 fit.1)
    equations_from done (Rotl k a ∷ rest) is ordered fit =
        let t = Rotl k a in
        equation_first done t rest (gate.Rotl k (reg a)) (equations_of reg rest) (fit.0.0, fit.0.1, below done (t ∷ rest) is a ordered.0)
        (equations_from (done ++ t ∷ []) rest (one_over done t rest is) ordered.1 fit.1)
    equations_from done (Refresh k a ∷ rest) is ordered fit =
        let t = Refresh k a in
        equation_first done t rest (gate.Refresh (reg a)) (equations_of reg rest) (below done (t ∷ rest) is a ordered.0)
        (equations_from (done ++ t ∷ []) rest (one_over done t rest is) ordered.1 fit.1)

    -- the registers of outputs that are here are those of inputs and equations
    registers_below : (outputs : List Term) → AllHere made outputs → All (λ r. r.0 < n + length made) (map reg outputs)
    registers_below [] here = λ i d l. absurd (omega arith)
    registers_below (t ∷ ts) here =
        All-cons (λ r. r.0 < n + length made) (reg t) (map reg ts) (below made [] (append-nil made) t here.0) (registers_below ts here.1)

-- ---- what fits is kept

module _ (w : ℕ) where
  fit_append : (us vs : List Term) → AreFit w us → AreFit w vs → AreFit w (us ++ vs)
  fit_append [] vs fu fv = fv
  fit_append (u ∷ us) vs fu fv = (fu.0, fit_append us vs fu.1 fv)

  fit_two : (a b t : Term) → AreFit w (postorder a) → AreFit w (postorder b) → IsFit w t → AreFit w (postorder a ++ postorder b ++ t ∷ [])
  fit_two a b t fa fb ft = fit_append (postorder a ++ postorder b) (t ∷ []) (fit_append (postorder a) (postorder b) fa fb) (ft, tt)

  fit_one : (a t : Term) → AreFit w (postorder a) → IsFit w t → AreFit w (postorder a ++ t ∷ [])
  fit_one a t fa ft = fit_append (postorder a) (t ∷ []) fa (ft, tt)

  postorder_fits : (t : Term) → IsFit w t → AreFit w (postorder t)
  postorder_fits (Input i) fit = tt
  postorder_fits (Const c) fit = (fit, tt)
  postorder_fits (Xor a b) fit = fit_two a b (Xor a b) (postorder_fits a fit.0) (postorder_fits b fit.1) fit
  postorder_fits (Not a) fit = fit_one a (Not a) (postorder_fits a fit) fit
  postorder_fits (Mask c a) fit = fit_one a (Mask c a) (postorder_fits a fit.1) fit
  postorder_fits (And a b) fit = fit_two a b (And a b) (postorder_fits a fit.0) (postorder_fits b fit.1) fit
  postorder_fits (Shl k a) fit = fit_one a (Shl k a) (postorder_fits a fit.2) fit
  postorder_fits (Shr k a) fit = fit_one a (Shr k a) (postorder_fits a fit.2) fit
  postorder_fits (Rotl k a) fit = fit_one a (Rotl k a) (postorder_fits a fit.2) fit
  postorder_fits (Refresh k a) fit = fit_one a (Refresh k a) (postorder_fits a fit) fit

  walk_fits : (ts : List Term) → AreFit w ts → AreFit w (walk ts)
  walk_fits [] are = tt
  walk_fits (t ∷ ts) are = fit_append (postorder t) (walk ts) (postorder_fits t are.0) (walk_fits ts are.1)

  push_fits : (b : Bool) (found : List Term) (t : Term) → AreFit w found → IsFit w t → AreFit w (if b then found else found ++ t ∷ [])
  push_fits true found t ff ft = ff
  push_fits false found t ff ft = fit_append found (t ∷ []) ff (ft, tt)

  places_fit : (found ts : List Term) → AreFit w found → AreFit w ts → AreFit w (first_places found ts)
  places_fit found [] ff ft = ff
  places_fit found (t ∷ ts) ff ft =
      places_fit (if is_among t found then found else found ++ t ∷ []) ts (push_fits (is_among t found) found t ff ft.0) ft.1

  subterms_fit : (outputs : List Term) → AreFit w outputs → AreFit w (subterms outputs)
  subterms_fit outputs are = places_fit [] (walk outputs) tt (walk_fits outputs are)

-- what a core has of terms over n inputs that fit: equations that read earlier registers, and outputs that are registers
pub record HasEquations (w n : ℕ) (outputs : List Term) : Type 0 where
  pub are : AreEquations w n (equations_of (register_of n (subterms outputs)) (subterms outputs))
  pub outputs_below : All (λ r. r.0 < n + length (equations_of (register_of n (subterms outputs)) (subterms outputs)))
      (map (register_of n (subterms outputs)) outputs)

pub has_equations : (w n : ℕ) (outputs : List Term) → AllRead n outputs → AreFit w outputs → HasEquations w n outputs
has_equations w n outputs read fit =
    let made = subterms outputs in
    let next = equations_from n w made [] made refl (subterms_ordered n outputs read) (subterms_fit w outputs fit) in
    let zero_more : n + 0 ≡ n = omega arith in
    let outs = registers_below n w made outputs (outputs_here n made outputs read (all_found (walk outputs) [])) in
    record {
      are = subst (λ (m : ℕ). AreEquations w m (equations_of (register_of n made) made)) zero_more next.are;
      outputs_below = subst (λ (m : ℕ). All (λ r. r.0 < n + m) (map (register_of n made) outputs)) (sym next.count) outs;
    }
