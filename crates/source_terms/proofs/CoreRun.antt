-- The plain run of the core of terms gives their values.
use Rattle.std.proofs.Common.{◌≡◌, ℕ, ◌+◌, true, List, [], ◌∷◌, ◌++◌, length, map, get_or, bit_and, bit_xor, refl, sym, ap, ap₂, ◌∙◌, arith, append_assoc}
use Rattle.std.proofs.lemmas.List.{append-nil, map-append, get_or-map, get_or_append_left, get_or-append-add}
use Rattle.usuba0.specs.declared.circuit.Gate.{Gate}
use Rattle.usuba0.specs.declared.circuit.Gate.TheVariants as gate
use Rattle.usuba0.specs.declared.circuit.Reg.{Reg}
use Rattle.usuba0.specs.CoreOfTerms.{postorder, walk, is_among, subterms, place_of, register_of, equations_of}
use Rattle.usuba0.specs.PlainRun.{word_at, word_of_equation, run_equations}
use Rattle.usuba0.specs.State.Walk.{AllAmong}
use Rattle.usuba0.specs.Term.{Term, Input, Const, Xor, Not, Mask, And, Shl, Shr, Rotl, Refresh, value, ones, word_of_constant, shifted_left, shifted_right, rotated_left}
use Rattle.usuba0.proofs.WalkLemmas.{among_place, all_found}
use Rattle.source_terms.specs.SourceLaws.{CoreKeepsValues}
use Rattle.source_terms.proofs.Reading.{AllRead, read_each}
use Rattle.source_terms.proofs.Subterms.{IsHere, AreOrdered, here_within, walks, subterms_ordered, all_among, place_more}

module _ (n : ℕ) where
  module _ (w B : ℕ) (inputs : List ℕ) (many : length inputs ≡ n) (made : List Term) where
    abbrev val : Term → ℕ
    val t = value w B inputs t

    abbrev reg : Term → Reg
    reg t = register_of n made t

    abbrev words : List Term → List ℕ
    words done = inputs ++ map val done

    -- the word at the place of a term that is done
    word_at_place : (done rest : List Term) → done ++ rest ≡ made → (t : Term) → is_among t done ≡ true
        → get_or (words done) (n + place_of t made) 0 ≡ val t
    word_at_place done rest is t among =
        let at = among_place t done t among in
        ap (λ (l : List Term). get_or (words done) (n + place_of t l) 0) (sym is)
        ∙ ap (λ (k : ℕ). get_or (words done) (n + k) 0) (place_more n t done rest among)
        ∙ ap (λ (k : ℕ). get_or (words done) (k + place_of t done) 0) (sym many)
        ∙ get_or-append-add inputs (map val done) (place_of t done) 0
        ∙ get_or-map val done (place_of t done) t 0 at.0
        ∙ ap val at.1

    word_here : (done rest : List Term) → done ++ rest ≡ made → (t : Term) → IsHere n done t → word_at (words done) (reg t) ≡ val t
    word_here done rest is (Input i) here = get_or_append_left inputs (map val done) 0 i (omega (arith, here, many))
    word_here done rest is (Const c) here = word_at_place done rest is (Const c) here
    word_here done rest is (Xor a b) here = word_at_place done rest is (Xor a b) here
    word_here done rest is (Not a) here = word_at_place done rest is (Not a) here
    word_here done rest is (Mask c a) here = word_at_place done rest is (Mask c a) here
    word_here done rest is (And a b) here = word_at_place done rest is (And a b) here
    word_here done rest is (Shl k a) here = word_at_place done rest is (Shl k a) here
    word_here done rest is (Shr k a) here = word_at_place done rest is (Shr k a) here
    word_here done rest is (Rotl k a) here = word_at_place done rest is (Rotl k a) here
    word_here done rest is (Refresh k a) here = word_at_place done rest is (Refresh k a) here

    -- one more word
    words_push : (done : List Term) (t : Term) (x : ℕ) → x ≡ val t → words done ++ x ∷ [] ≡ words (done ++ t ∷ [])
    words_push done t x e =
        ap (λ (y : ℕ). words done ++ y ∷ []) e
        ∙ append_assoc inputs (map val done) (val t ∷ [])
        ∙ ap (λ (l : List ℕ). inputs ++ l) (sym (map-append val done (t ∷ [])))

    -- a run that goes on from the words of what is done ends with the words of all
    runs_on : (done : List Term) (g : Gate) (gs : List Gate) (t : Term) → word_of_equation w B (words done) g ≡ val t
        → run_equations w B (words (done ++ t ∷ [])) gs ≡ words made → run_equations w B (words done) (g ∷ gs) ≡ words made
    runs_on done g gs t e rest = ap (λ (l : List ℕ). run_equations w B l gs) (words_push done t (word_of_equation w B (words done) g) e) ∙ rest

    one_over : (done : List Term) (t : Term) (rest : List Term) → done ++ t ∷ rest ≡ made → (done ++ t ∷ []) ++ rest ≡ made
    one_over done t rest is = append_assoc done (t ∷ []) rest ∙ is

    run_from : (done rest : List Term) → done ++ rest ≡ made → AreOrdered n done rest
        → run_equations w B (words done) (equations_of reg rest) ≡ words made
    run_from done [] is ordered = ap words (sym (append-nil done) ∙ is)
    run_from done (Input i ∷ rest) is ordered = absurd ordered.0
    run_from done (Const c ∷ rest) is ordered =
        runs_on done (gate.Const c) (equations_of reg rest) (Const c) refl
        (run_from (done ++ Const c ∷ []) rest (one_over done (Const c) rest is) ordered.1)
    run_from done (Xor a b ∷ rest) is ordered =
        runs_on done (gate.Xor (reg a) (reg b)) (equations_of reg rest) (Xor a b)
        (ap₂ bit_xor (word_here done (Xor a b ∷ rest) is a ordered.0.0) (word_here done (Xor a b ∷ rest) is b ordered.0.1))
        (run_from (done ++ Xor a b ∷ []) rest (one_over done (Xor a b) rest is) ordered.1)
    run_from done (Not a ∷ rest) is ordered =
        runs_on done (gate.Not (reg a)) (equations_of reg rest) (Not a)
        (ap (λ (x : ℕ). bit_xor x (ones B)) (word_here done (Not a ∷ rest) is a ordered.0))
        (run_from (done ++ Not a ∷ []) rest (one_over done (Not a) rest is) ordered.1)
    run_from done (Mask c a ∷ rest) is ordered =
        runs_on done (gate.Mask c (reg a)) (equations_of reg rest) (Mask c a)
        (ap (λ (x : ℕ). bit_and (word_of_constant w B c) x) (word_here done (Mask c a ∷ rest) is a ordered.0))
        (run_from (done ++ Mask c a ∷ []) rest (one_over done (Mask c a) rest is) ordered.1)
    run_from done (And a b ∷ rest) is ordered =
        runs_on done (gate.And (reg a) (reg b)) (equations_of reg rest) (And a b)
        (ap₂ bit_and (word_here done (And a b ∷ rest) is a ordered.0.0) (word_here done (And a b ∷ rest) is b ordered.0.1))
        (run_from (done ++ And a b ∷ []) rest (one_over done (And a b) rest is) ordered.1)
    run_from done (Shl k a ∷ rest) is ordered =
        runs_on done (gate.Shl k (reg a)) (equations_of reg rest) (Shl k a)
        (ap (shifted_left B k) (word_here done (Shl k a ∷ rest) is a ordered.0))
        (run_from (done ++ Shl k a ∷ []) rest (one_over done (Shl k a) rest is) ordered.1)
    run_from done (Shr k a ∷ rest) is ordered =
        runs_on done (gate.Shr k (reg a)) (equations_of reg rest) (Shr k a)
        (ap (shifted_right k) (word_here done (Shr k a ∷ rest) is a ordered.0))
        (run_from (done ++ Shr k a ∷ []) rest (one_over done (Shr k a) rest is) ordered.1)
    run_from done (Rotl k a ∷ rest) is ordered =
        runs_on done (gate.Rotl k (reg a)) (equations_of reg rest) (Rotl k a)
        (ap (rotated_left B k) (word_here done (Rotl k a ∷ rest) is a ordered.0))
        (run_from (done ++ Rotl k a ∷ []) rest (one_over done (Rotl k a) rest is) ordered.1)
    run_from done (Refresh k a ∷ rest) is ordered =
        runs_on done (gate.Refresh (reg a)) (equations_of reg rest) (Refresh k a)
        (word_here done (Refresh k a ∷ rest) is a ordered.0)
        (run_from (done ++ Refresh k a ∷ []) rest (one_over done (Refresh k a) rest is) ordered.1)

    -- the words of outputs that are here
    outputs_here : (outputs : List Term) → AllRead n outputs → AllAmong (walk outputs) made
        → map (word_at (words made)) (map reg outputs) ≡ map val outputs
    outputs_here [] read among = refl
    outputs_here (t ∷ ts) read among =
        ap₂ (λ (x : ℕ) (xs : List ℕ). x ∷ xs)
        (word_here made [] (append-nil made) t
        (here_within n (postorder t) made (all_among n (postorder t) made (among_first (postorder t) (walk ts) among)) t (walks n [] t read.0).here))
        (outputs_here ts read.1 (among_second (postorder t) (walk ts) among))
      where
        among_first : (us vs : List Term) → AllAmong (us ++ vs) made → AllAmong us made
        among_first [] vs all = tt
        among_first (u ∷ us) vs all = (all.0, among_first us vs all.1)

        among_second : (us vs : List Term) → AllAmong (us ++ vs) made → AllAmong vs made
        among_second [] vs all = all
        among_second (u ∷ us) vs all = among_second us vs all.1

-- the core of terms gives their values
pub core_keeps_values : CoreKeepsValues
core_keeps_values w B n terms inputs many read =
    let made = subterms terms in
    let each = read_each n terms read in
    ap (λ (l : List ℕ). map (word_at l) (map (register_of n made) terms))
    (ap (λ (l : List ℕ). run_equations w B l (equations_of (register_of n made) made)) (sym (append-nil inputs))
    ∙ run_from n w B inputs many made [] made refl (subterms_ordered n terms each))
    ∙ outputs_here n w B inputs many made terms each (all_found (walk terms) [])
