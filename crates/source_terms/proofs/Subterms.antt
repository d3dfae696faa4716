-- The subterms of terms stand after their operands.
use Rattle.std.proofs.Common.{◌≡◌, ◌⊎◌, inl, inr, ℕ, ◌+◌, ◌<◌, Bool, true, false, List, [], ◌∷◌, ◌++◌, refl, sym, ap, subst, append_assoc, true≢false}
use Rattle.std.specs.Prelude.{if◌then◌else◌}
use Rattle.std.proofs.lemmas.List.{append-nil}
use Rattle.usuba0.specs.CoreOfTerms.{postorder, walk, same_term, is_among, first_places, subterms, place_of}
use Rattle.usuba0.specs.State.Walk.{AllAmong}
use Rattle.usuba0.specs.Term.{Term, Input, Const, Xor, Not, Mask, And, Shl, Shr, Rotl, Refresh}
use Rattle.usuba0.proofs.WalkLemmas.{same_term-true, among_left, among_last, among_push}
use Rattle.source_terms.specs.SourceLaws.{ReadsBelow}
use Rattle.source_terms.proofs.Reading.{AllRead}

module _ (n : ℕ) where
  -- an input below n, or a term that is among some
  abbrev pub IsHere : List Term → Term → Type 0
  IsHere before (Input i) = i < n
  IsHere before (Const c) = is_among (Const c) before ≡ true
  IsHere before (Xor a b) = is_among (Xor a b) before ≡ true
  IsHere before (Not a) = is_among (Not a) before ≡ true
  IsHere before (Mask c a) = is_among (Mask c a) before ≡ true
  IsHere before (And a b) = is_among (And a b) before ≡ true
  IsHere before (Shl k a) = is_among (Shl k a) before ≡ true
  IsHere before (Shr k a) = is_among (Shr k a) before ≡ true
  IsHere before (Rotl k a) = is_among (Rotl k a) before ≡ true
  IsHere before (Refresh k a) = is_among (Refresh k a) before ≡ true

  -- a term that is no input, and whose operands are here
  abbrev pub HasParts : List Term → Term → Type 0
  HasParts before (Input i) = ⊥
  HasParts before (Const c) = Unit {0}
  HasParts before (Xor a b) = IsHere before a × IsHere before b
  HasParts before (Not a) = IsHere before a
  HasParts before (Mask c a) = IsHere before a
  HasParts before (And a b) = IsHere before a × IsHere before b
  HasParts before (Shl k a) = IsHere before a
  HasParts before (Shr k a) = IsHere before a
  HasParts before (Rotl k a) = IsHere before a
  HasParts before (Refresh k a) = IsHere before a

  -- each term has its operands among those before it
  abbrev pub AreOrdered : List Term → List Term → Type 0
  AreOrdered before [] = Unit {0}
  AreOrdered before (t ∷ ts) = HasParts before t × AreOrdered (before ++ t ∷ []) ts

  -- what is among some terms is among others
  abbrev pub Within : List Term → List Term → Type 0
  Within us vs = (t : Term) → is_among t us ≡ true → is_among t vs ≡ true

  -- what is here stays so where more is among the terms
  pub here_within : (us vs : List Term) → Within us vs → (t : Term) → IsHere us t → IsHere vs t
  here_within us vs within (Input i) here = here
  here_within us vs within (Const c) here = within (Const c) here
  here_within us vs within (Xor a b) here = within (Xor a b) here
  here_within us vs within (Not a) here = within (Not a) here
  here_within us vs within (Mask c a) here = within (Mask c a) here
  here_within us vs within (And a b) here = within (And a b) here
  here_within us vs within (Shl k a) here = within (Shl k a) here
  here_within us vs within (Shr k a) here = within (Shr k a) here
  here_within us vs within (Rotl k a) here = within (Rotl k a) here
  here_within us vs within (Refresh k a) here = within (Refresh k a) here

  parts_within : (us vs : List Term) → Within us vs → (t : Term) → HasParts us t → HasParts vs t
  parts_within us vs within (Input i) parts = parts
  parts_within us vs within (Const c) parts = tt
  parts_within us vs within (Xor a b) parts = (here_within us vs within a parts.0, here_within us vs within b parts.1)
  parts_within us vs within (Not a) parts = here_within us vs within a parts
  parts_within us vs within (Mask c a) parts = here_within us vs within a parts
  parts_within us vs within (And a b) parts = (here_within us vs within a parts.0, here_within us vs within b parts.1)
  parts_within us vs within (Shl k a) parts = here_within us vs within a parts
  parts_within us vs within (Shr k a) parts = here_within us vs within a parts
  parts_within us vs within (Rotl k a) parts = here_within us vs within a parts
  parts_within us vs within (Refresh k a) parts = here_within us vs within a parts

  -- ---- the order of a walk

  ordered_append : (before us vs : List Term) → AreOrdered before us → AreOrdered (before ++ us) vs → AreOrdered before (us ++ vs)
  ordered_append before [] vs ou ov = subst (λ (b : List Term). AreOrdered b vs) (append-nil before) ov
  ordered_append before (u ∷ us) vs ou ov =
      (ou.0, ordered_append (before ++ u ∷ []) us vs ou.1 (subst (λ (b : List Term). AreOrdered b vs) (sym (append_assoc before (u ∷ []) us)) ov))

  within_left : (us vs : List Term) → Within us (us ++ vs)
  within_left us vs t among = among_left t us vs among

  -- a walk of a term, and that the term is here after it
  pub record Walks (before : List Term) (t : Term) : Type 0 where
    pub ordered : AreOrdered before (postorder t)
    pub here : IsHere (before ++ postorder t) t

  last_here : (before us : List Term) (t : Term) → is_among t (before ++ (us ++ t ∷ [])) ≡ true
  last_here before us t =
      subst (λ (l : List Term). is_among t l ≡ true) (append_assoc before us (t ∷ [])) (among_last t (before ++ us))

  one_ordered : (before : List Term) (t : Term) → HasParts before t → AreOrdered before (t ∷ [])
  one_ordered before t parts = (parts, tt)

  -- of one operand, and of two
  after_one : (before : List Term) (a t : Term) → Walks before a → (IsHere (before ++ postorder a) a → HasParts (before ++ postorder a) t)
      → AreOrdered before (postorder a ++ t ∷ [])
  after_one before a t wa parts =
      ordered_append before (postorder a) (t ∷ []) wa.ordered (one_ordered (before ++ postorder a) t (parts wa.here))

  after_two : (before : List Term) (a b t : Term) → Walks before a → Walks (before ++ postorder a) b
      → (IsHere ((before ++ postorder a) ++ postorder b) a → IsHere ((before ++ postorder a) ++ postorder b) b → HasParts ((before ++ postorder a) ++ postorder b) t)
      → AreOrdered before (postorder a ++ postorder b ++ t ∷ [])
  after_two before a b t wa wb parts =
      let first = before ++ postorder a in
      let second = first ++ postorder b in
      let here : IsHere second a = here_within first second (within_left first (postorder b)) a wa.here in
      subst (AreOrdered before) (sym (append_assoc (postorder a) (postorder b) (t ∷ [])))
      (ordered_append before (postorder a) (postorder b ++ t ∷ []) wa.ordered
      (ordered_append first (postorder b) (t ∷ []) wb.ordered (one_ordered second t (parts here wb.here))))

  -- where the inputs that a term reads are below n, its walk has operands first
  pub walks : (before : List Term) (t : Term) → ReadsBelow n t → Walks before t
  walks before (Input i) read = record { ordered = tt; here = read }
  walks before (Const c) read = record { ordered = (tt, tt); here = among_last (Const c) before }
  walks before (Xor a b) read = record {
    ordered = after_two before a b (Xor a b) (walks before a read.0) (walks (before ++ postorder a) b read.1) (λ h k. (h, k));
    here = last_here before (postorder a ++ postorder b) (Xor a b);
  }
  walks before (Not a) read = record {
    ordered = after_one before a (Not a) (walks before a read) (λ h. h);
    here = last_here before (postorder a) (Not a);
  }
  walks before (Mask c a) read = record {
    ordered = after_one before a (Mask c a) (walks before a read) (λ h. h);
    here = last_here before (postorder a) (Mask c a);
  }
  walks before (And a b) read = record {
    ordered = after_two before a b (And a b) (walks before a read.0) (walks (before ++ postorder a) b read.1) (λ h k. (h, k));
    here = last_here before (postorder a ++ postorder b) (And a b);
  }
  walks before (Shl k a) read = record {
    ordered = after_one before a (Shl k a) (walks before a read) (λ h. h);
    here = last_here before (postorder a) (Shl k a);
  }
  walks before (Shr k a) read = record {
    ordered = after_one before a (Shr k a) (walks before a read) (λ h. h);
    here = last_here before (postorder a) (Shr k a);
  }
  walks before (Rotl k a) read = record {
    ordered = after_one before a (Rotl k a) (walks before a read) (λ h. h);
    here = last_here before (postorder a) (Rotl k a);
  }
  walks before (Refresh k a) read = record {
    ordered = after_one before a (Refresh k a) (walks before a read) (λ h. h);
    here = last_here before (postorder a) (Refresh k a);
  }

  walk_ordered : (before : List Term) (ts : List Term) → AllRead n ts → AreOrdered before (walk ts)
  walk_ordered before [] read = tt
  walk_ordered before (t ∷ ts) read =
      ordered_append before (postorder t) (walk ts) (walks before t read.0).ordered (walk_ordered (before ++ postorder t) ts read.1)

  -- ---- the order of first places

  within_push : (before found : List Term) (t : Term) → Within before found → (b : Bool) → is_among t found ≡ b
      → Within (before ++ t ∷ []) (if b then found else found ++ t ∷ [])
  within_push before found t within true e u among = of_push (among_push u t before among)
    where
      of_push : (is_among u before ≡ true) ⊎ (u ≡ t) → is_among u found ≡ true
      of_push (inl h) = within u h
      of_push (inr same) = subst (λ (v : Term). is_among v found ≡ true) (sym same) e
  within_push before found t within false e u among = of_push (among_push u t before among)
    where
      of_push : (is_among u before ≡ true) ⊎ (u ≡ t) → is_among u (found ++ t ∷ []) ≡ true
      of_push (inl h) = among_left u found (t ∷ []) (within u h)
      of_push (inr same) = subst (λ (v : Term). is_among v (found ++ t ∷ []) ≡ true) (sym same) (among_last t found)

  ordered_push : (found : List Term) (t : Term) → AreOrdered [] found → HasParts found t → (b : Bool)
      → AreOrdered [] (if b then found else found ++ t ∷ [])
  ordered_push found t ordered parts true = ordered
  ordered_push found t ordered parts false = ordered_append [] found (t ∷ []) ordered (one_ordered found t parts)

  places_ordered : (before found ts : List Term) → Within before found → AreOrdered [] found → AreOrdered before ts
      → AreOrdered [] (first_places found ts)
  places_ordered before found [] within ordered walked = ordered
  places_ordered before found (t ∷ ts) within ordered walked =
      places_ordered (before ++ t ∷ []) (if is_among t found then found else found ++ t ∷ []) ts
      (within_push before found t within (is_among t found) refl)
      (ordered_push found t ordered (parts_within before found within t walked.0) (is_among t found))
      walked.1

  -- the subterms of outputs that read inputs below n stand after their operands
  pub subterms_ordered : (outputs : List Term) → AllRead n outputs → AreOrdered [] (subterms outputs)
  subterms_ordered outputs read = places_ordered [] [] (walk outputs) (λ t among. among) tt (walk_ordered [] outputs read)

  among_by : (u v : Term) (us made : List Term) (b : Bool) → same_term u v ≡ b → is_among v made ≡ true
      → (is_among u us ≡ true → is_among u made ≡ true) → (if b then true else is_among u us) ≡ true → is_among u made ≡ true
  among_by u v us made true e here later among = subst (λ (x : Term). is_among x made ≡ true) (sym (same_term-true u v e)) here
  among_by u v us made false e here later among = later among

  -- what is among some terms is among others that have all of these
  pub all_among : (us made : List Term) → AllAmong us made → Within us made
  all_among [] made all u among = absurd (true≢false (sym among))
  all_among (v ∷ us) made all u among = among_by u v us made (same_term u v) refl all.0 (all_among us made all.1 u) among

  -- the place of a term does not change where more terms follow
  pub place_more : (t : Term) (us vs : List Term) → is_among t us ≡ true → place_of t (us ++ vs) ≡ place_of t us
  place_more t [] vs among = absurd (true≢false (sym among))
  place_more t (u ∷ us) vs among = at_test (same_term t u) (place_of t (us ++ vs)) (place_of t us) (is_among t us) among (place_more t us vs)
    where
      at_test : (b : Bool) (x y : ℕ) (later : Bool) → (if b then true else later) ≡ true → (later ≡ true → x ≡ y)
          → (if b then 0 else x + 1) ≡ (if b then 0 else y + 1)
      at_test true x y later e same = refl
      at_test false x y later e same = ap (λ (z : ℕ). z + 1) (same e)
