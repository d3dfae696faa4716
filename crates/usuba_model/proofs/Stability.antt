-- After as many rounds as there are instances nothing more becomes ready: an instance that is ready then was ready a round before.
use Rattle.std.proofs.Common.{◌≡◌, ◌⊎◌, inl, inr, ◌<◌, ◌≤◌, ℕ, zero, suc, Bool, true, false, ◌||◌, ◌&&◌, List, [], ◌∷◌, ◌++◌, length, refl, sym, ap, ◌∙◌, subst, arith}
use Rattle.std.specs.Prelude.{if◌then◌else◌}
use Rattle.std.specs.List.{list_all}
use Rattle.std.proofs.lemmas.List.Folds.{list_any-append}
use Rattle.usuba_model.specs.Assignments.{cells_read, is_ready, made_ready, known_after}
use Rattle.usuba_model.specs.Cells.{Cell, same_cell, is_among}
use Rattle.usuba_model.specs.Unrolled.{Instance, left_cells}
use Rattle.usuba_model.proofs.CellLemmas.{false_true}
use Rattle.usuba_model.proofs.Ordering.{IsIn}

-- how many of some instances are ready
abbrev pub ready_count : List Cell → List Instance → ℕ
ready_count known [] = 0
ready_count known (i ∷ instances) = if is_ready known i then suc (ready_count known instances) else ready_count known instances

-- instances are as ready with some cells as with others
abbrev pub AlikeReady : List Cell → List Cell → List Instance → Type 0
AlikeReady a b instances = (i : Instance) → IsIn i instances → is_ready b i ≡ is_ready a i

made_alike : (a b : List Cell) (instances : List Instance) → AlikeReady a b instances → made_ready b instances ≡ made_ready a instances
made_alike a b [] alike = refl
made_alike a b (i ∷ instances) alike =
    let rest = made_alike a b instances (λ j h. alike j (inr h)) in
    ap (λ (r : Bool). if r then left_cells i ++ made_ready b instances else made_ready b instances) (alike i (inl refl))
    ∙ ap (λ (cs : List Cell). if is_ready a i then left_cells i ++ cs else cs) rest

-- what more cells know is known among more
all_alike : (a b : List Cell) → ((c : Cell) → is_among b c ≡ is_among a c) → (cs : List Cell) → list_all (is_among b) cs ≡ list_all (is_among a) cs
all_alike a b alike [] = refl
all_alike a b alike (c ∷ cs) =
    ap (λ (r : Bool). r && list_all (is_among b) cs) (alike c) ∙ ap (λ (r : Bool). is_among a c && r) (all_alike a b alike cs)

twice_or : (m k : Bool) → (m || (m || k)) ≡ (m || k)
twice_or true k = refl
twice_or false k = refl

-- what is stable stays so
stable_next : (instances : List Instance) (n : ℕ) (inputs : List Cell)
    → AlikeReady (known_after instances n inputs) (known_after instances (suc n) inputs) instances
    → AlikeReady (known_after instances (suc n) inputs) (known_after instances (suc (suc n)) inputs) instances
stable_next instances n inputs stable i h =
    let k0 = known_after instances n inputs in
    let k1 = known_after instances (suc n) inputs in
    let made = made_ready k0 instances in
    let same : made_ready k1 instances ≡ made = made_alike k0 k1 instances stable in
    let alike : (c : Cell) → is_among (made_ready k1 instances ++ k1) c ≡ is_among k1 c
    = λ c. ap (λ (cs : List Cell). is_among (cs ++ k1) c) same
    ∙ list_any-append (same_cell c) made k1
    ∙ ap (λ (r : Bool). is_among made c || r) (list_any-append (same_cell c) made k0)
    ∙ twice_or (is_among made c) (is_among k0 c)
    ∙ sym (list_any-append (same_cell c) made k0) in
    all_alike k1 (made_ready k1 instances ++ k1) alike (cells_read i.right)

or_more : (m k : Bool) → k ≡ true → (m || k) ≡ true
or_more true k e = refl
or_more false k e = e

all_more : (a b : List Cell) → ((c : Cell) → is_among a c ≡ true → is_among b c ≡ true) → (cs : List Cell)
    → list_all (is_among a) cs ≡ true → list_all (is_among b) cs ≡ true
all_more a b more [] e = refl
all_more a b more (c ∷ cs) e =
    let parts = and_parts (is_among a c) (list_all (is_among a) cs) e in
    ap (λ (r : Bool). r && list_all (is_among b) cs) (more c parts.0) ∙ all_more a b more cs parts.1
  where
    and_parts : (p q : Bool) → (p && q) ≡ true → (p ≡ true) × (q ≡ true)
    and_parts true q e = (refl, e)
    and_parts false q e = false_true e

-- what is ready stays so
ready_stays : (instances : List Instance) (n : ℕ) (inputs : List Cell) (i : Instance)
    → is_ready (known_after instances n inputs) i ≡ true → is_ready (known_after instances (suc n) inputs) i ≡ true
ready_stays instances n inputs i e =
    let k0 = known_after instances n inputs in
    let made = made_ready k0 instances in
    all_more k0 (made ++ k0) (λ c is. list_any-append (same_cell c) made k0 ∙ or_more (is_among made c) (is_among k0 c) is) (cells_read i.right) e

-- where no fewer are ready, the same are ready or more are
count_cases : (a b : List Cell) (instances : List Instance)
    → ((i : Instance) → IsIn i instances → is_ready a i ≡ true → is_ready b i ≡ true)
    → (ready_count a instances < ready_count b instances) ⊎ (AlikeReady a b instances × (ready_count a instances ≡ ready_count b instances))
count_cases a b [] more = inr ((λ i h. absurd h), refl)
count_cases a b (i ∷ instances) more =
    at_first (is_ready a i) refl (is_ready b i) refl (count_cases a b instances (λ j h. more j (inr h)))
  where
    alike_from : (is_ready b i ≡ is_ready a i) → AlikeReady a b instances → AlikeReady a b (i ∷ instances)
    alike_from first rest j (inl same) = subst (λ k. is_ready b k ≡ is_ready a k) same first
    alike_from first rest j (inr h) = rest j h

    at_first : (p : Bool) → is_ready a i ≡ p → (q : Bool) → is_ready b i ≡ q
        → (ready_count a instances < ready_count b instances) ⊎ (AlikeReady a b instances × (ready_count a instances ≡ ready_count b instances))
        → ((if p then suc (ready_count a instances) else ready_count a instances) < (if q then suc (ready_count b instances) else ready_count b instances))
        ⊎ (AlikeReady a b (i ∷ instances)
        × ((if p then suc (ready_count a instances) else ready_count a instances) ≡ (if q then suc (ready_count b instances) else ready_count b instances)))
    at_first true is true is' (inl less) = inl (omega (arith, less))
    at_first true is true is' (inr same) = inr (alike_from (is' ∙ sym is) same.0, ap suc same.1)
    at_first true is false is' rest = false_true (sym is' ∙ more i (inl refl) is)
    at_first false is true is' (inl less) = inl (omega (arith, less))
    at_first false is true is' (inr same) = inl (let e = same.1 in omega (arith, e))
    at_first false is false is' (inl less) = inl less
    at_first false is false is' (inr same) = inr (alike_from (is' ∙ sym is) same.0, same.1)

-- none is ready where the count is 0, and then nothing is made
none_made : (known : List Cell) (instances : List Instance) → ready_count known instances ≡ 0 → made_ready known instances ≡ []
none_made known [] e = refl
none_made known (i ∷ instances) e = at_first (is_ready known i) e (none_made known instances)
  where
    at_first : (b : Bool) → (if b then suc (ready_count known instances) else ready_count known instances) ≡ 0
        → (ready_count known instances ≡ 0 → made_ready known instances ≡ [])
        → (if b then left_cells i ++ made_ready known instances else made_ready known instances) ≡ []
    at_first true e rest = absurd (omega (arith, e))
    at_first false e rest = rest e

-- after n rounds more than n are ready, or it is stable
many_or_stable : (instances : List Instance) (inputs : List Cell) (n : ℕ)
    → (n < ready_count (known_after instances n inputs) instances)
    ⊎ AlikeReady (known_after instances n inputs) (known_after instances (suc n) inputs) instances
many_or_stable instances inputs zero = of_count (ready_count inputs instances) refl
  where
    of_count : (k : ℕ) → ready_count inputs instances ≡ k
        → (0 < ready_count inputs instances) ⊎ AlikeReady inputs (made_ready inputs instances ++ inputs) instances
    of_count zero e = inr (λ i h. ap (λ (cs : List Cell). is_ready (cs ++ inputs) i) (none_made inputs instances e))
    of_count (suc k) e = inl (omega (arith, e))
many_or_stable instances inputs (suc n) = of_before (many_or_stable instances inputs n)
  where
    k0 : List Cell
    k0 = known_after instances n inputs

    k1 : List Cell
    k1 = known_after instances (suc n) inputs

    grown : (ready_count k0 instances < ready_count k1 instances) ⊎ (AlikeReady k0 k1 instances × (ready_count k0 instances ≡ ready_count k1 instances))
        → n < ready_count k0 instances
        → (suc n < ready_count k1 instances) ⊎ AlikeReady k1 (known_after instances (suc (suc n)) inputs) instances
    grown (inl less) many = inl (omega (arith, less, many))
    grown (inr same) many = inr (stable_next instances n inputs same.0)

    of_before : (n < ready_count k0 instances) ⊎ AlikeReady k0 k1 instances
        → (suc n < ready_count k1 instances) ⊎ AlikeReady k1 (known_after instances (suc (suc n)) inputs) instances
    of_before (inl many) = grown (count_cases k0 k1 instances (λ i h. ready_stays instances n inputs i)) many
    of_before (inr stable) = inr (stable_next instances n inputs stable)

-- as many as all are all
all_counted : (known : List Cell) (instances : List Instance) → length instances ≤ ready_count known instances
    → (i : Instance) → IsIn i instances → is_ready known i ≡ true
all_counted known instances many i h = (counted known instances).1 many i h
  where
    counted : (known : List Cell) (instances : List Instance)
        → (ready_count known instances ≤ length instances)
        × (length instances ≤ ready_count known instances → (i : Instance) → IsIn i instances → is_ready known i ≡ true)
    counted known [] = (omega arith, λ many i h. absurd h)
    counted known (j ∷ instances) = at_first (is_ready known j) refl (counted known instances)
      where
        at_first : (b : Bool) → is_ready known j ≡ b
            → (ready_count known instances ≤ length instances)
            × (length instances ≤ ready_count known instances → (i : Instance) → IsIn i instances → is_ready known i ≡ true)
            → ((if b then suc (ready_count known instances) else ready_count known instances) ≤ suc (length instances))
            × (suc (length instances) ≤ (if b then suc (ready_count known instances) else ready_count known instances)
            → (i : Instance) → IsIn i (j ∷ instances) → is_ready known i ≡ true)
        at_first true is rest = (let r = rest.0 in omega (arith, r), λ many i h. in_case is rest.1 many i h)
          where
            in_case : is_ready known j ≡ true
                → (length instances ≤ ready_count known instances → (i : Instance) → IsIn i instances → is_ready known i ≡ true)
                → suc (length instances) ≤ suc (ready_count known instances) → (i : Instance) → IsIn i (j ∷ instances) → is_ready known i ≡ true
            in_case is rest many i (inl same) = subst (λ k. is_ready known k ≡ true) same is
            in_case is rest many i (inr h) = rest (omega (arith, many)) i h
        at_first false is rest = (let r = rest.0 in omega (arith, r), λ many i h. absurd (let r = rest.0 in omega (arith, r, many)))

-- what is ready after as many rounds as there are instances was ready a round before
pub ready_before : (instances : List Instance) (inputs : List Cell) (n : ℕ) → length instances ≡ suc n
    → ((i : Instance) → IsIn i instances → is_ready (known_after instances (suc n) inputs) i ≡ true)
    → (i : Instance) → IsIn i instances → is_ready (known_after instances n inputs) i ≡ true
ready_before instances inputs n len ready i h = of_case (many_or_stable instances inputs n)
  where
    of_case : (n < ready_count (known_after instances n inputs) instances)
        ⊎ AlikeReady (known_after instances n inputs) (known_after instances (suc n) inputs) instances
        → is_ready (known_after instances n inputs) i ≡ true
    of_case (inl many) = all_counted (known_after instances n inputs) instances (omega (arith, many, len)) i h
    of_case (inr stable) = sym (stable i h) ∙ ready i h
