-- The rounds of a node, and its instances taken in an order in which each is ready: both define the same.
use Rattle.std.proofs.Common.{◌≡◌, ◌⊎◌, inl, inr, ◌+◌, ℕ, suc, List, [], ◌∷◌, ◌++◌, length, map, Option, Some, None, refl, sym, ap, ◌∙◌, subst, Bool, true, false, arith}
use Rattle.std.specs.Prelude.{option_and_then, if◌then◌else◌, ◌||◌}
use Rattle.std.specs.Option.{option_or}
use Rattle.std.proofs.lemmas.Option.{none-some}
use Rattle.usuba_model.specs.Cells.{Cell, same_cell, is_among}
use Rattle.usuba_model.specs.Rounds.{Operators, Environment, Callees, whole, value_of, given, defined, rounds, outcome}
use Rattle.usuba_model.specs.Unrolled.{Instance, left_cells}
use Rattle.usuba_model.proofs.Solving.{Below, below_values, IsSolved, Solves, rounds_within}

-- an instance is one of some
abbrev pub IsIn : Instance → List Instance → Type 0
IsIn instance [] = ⊥
IsIn instance (i ∷ instances) = (i ≡ instance) ⊎ IsIn instance instances

-- each of some instances is one of these
abbrev pub AreIn : List Instance → List Instance → Type 0
AreIn [] instances = Unit {0}
AreIn (i ∷ some) instances = IsIn i instances × AreIn some instances

-- no left cell of some instances is among these, nor is one of an earlier instance
abbrev pub AreFresh : List Cell → List Instance → Type 0
AreFresh known [] = Unit {0}
AreFresh known (i ∷ order) =
    ((c : Cell) → is_among (left_cells i) c ≡ true → is_among known c ≡ false) × AreFresh (left_cells i ++ known) order

module _ {V : Type 0} where
  -- an environment in which cells got elements too; what was defined before stays
  abbrev pub extended : Environment V → List Cell → List V → Environment V
  extended e cs vs cell = option_or (e cell) (given cs vs cell)

  same_options : (o p : Option V) → Below o p → Below p o → o ≡ p
  same_options (Some x) p b b' = sym (b x refl)
  same_options None (Some y) b b' = b' y refl
  same_options None None b b' = refl

  -- what is given stands at one of the cells
  pub given_among : (cs : List Cell) (vs : List V) (cell : Cell) (y : V) → given cs vs cell ≡ Some y → is_among cs cell ≡ true
  given_among [] vs cell y e = absurd (none-some y e)
  given_among (c ∷ cs) [] cell y e = absurd (none-some y e)
  given_among (c ∷ cs) (v ∷ vs) cell y e = at_first (same_cell cell c) e (given_among cs vs cell y)
    where
      at_first : (b : Bool) → (if b then Some v else given cs vs cell) ≡ Some y → (given cs vs cell ≡ Some y → is_among cs cell ≡ true)
          → (b || is_among cs cell) ≡ true
      at_first true e later = refl
      at_first false e later = later e

  module _ (operators : Operators V) (callees : Callees V) where
    -- the instances of an order one after another, where each has a value
    abbrev pub in_order : List Instance → Environment V → Option (Environment V)
    in_order [] e = Some e
    in_order (i ∷ order) e = option_and_then (λ vs. in_order order (extended e (left_cells i) vs)) (value_of operators callees e i.right)

    -- the first of an order has a value, and the rest goes on from there
    first_taken : (i : Instance) (order : List Instance) (e e' : Environment V) → in_order (i ∷ order) e ≡ Some e'
        → (vs : List V) × (value_of operators callees e i.right ≡ Some vs) × (in_order order (extended e (left_cells i) vs) ≡ Some e')
    first_taken i order e e' taken = of_value (value_of operators callees e i.right) refl taken
      where
        of_value : (o : Option (List V)) → value_of operators callees e i.right ≡ o
            → option_and_then (λ vs. in_order order (extended e (left_cells i) vs)) o ≡ Some e'
            → (vs : List V) × (value_of operators callees e i.right ≡ Some vs) × (in_order order (extended e (left_cells i) vs) ≡ Some e')
        of_value (Some vs) is rest = (vs, is, rest)
        of_value None is rest = absurd (none-some e' rest)

    below_extended : (e : Environment V) (cs : List Cell) (vs : List V) (cell : Cell) → Below (e cell) (extended e cs vs cell)
    below_extended e cs vs cell y s = ap (λ o. option_or o (given cs vs cell)) s

    -- what is defined stays defined along an order
    pub defined_stays : (order : List Instance) (e e' : Environment V) → in_order order e ≡ Some e' → (cell : Cell) → Below (e cell) (e' cell)
    defined_stays [] e e' taken cell y s = ap (λ o. at_cell cell o) (sym taken) ∙ s
      where
        at_cell : Cell → Option (Environment V) → Option V
        at_cell cell (Some f) = f cell
        at_cell cell None = None
    defined_stays (i ∷ order) e e' taken cell y s =
        let first = first_taken i order e e' taken in
        defined_stays order (extended e (left_cells i) first.0) e' first.2 cell y (below_extended e (left_cells i) first.0 cell y s)

    -- what is defined stands at known cells
    abbrev pub IsWithin : List Cell → Environment V → Type 0
    IsWithin known e = (cell : Cell) (y : V) → e cell ≡ Some y → is_among known cell ≡ true

    among_right : (xs ys : List Cell) (c : Cell) → is_among ys c ≡ true → is_among (xs ++ ys) c ≡ true
    among_right [] ys c m = m
    among_right (x ∷ xs) ys c m = or_true (same_cell c x) (among_right xs ys c m)
      where
        or_true : (b : Bool) {r : Bool} → r ≡ true → (b || r) ≡ true
        or_true true e = refl
        or_true false e = e

    among_left : (xs ys : List Cell) (c : Cell) → is_among xs c ≡ true → is_among (xs ++ ys) c ≡ true
    among_left [] ys c m = absurd (false-true m)
      where
        false-true : false ≡ true → ⊥
        false-true e = subst (λ (b : Bool). elim b as (λ _. Type 0) [ true ↦ ⊥ | false ↦ Unit {0} ]) e tt
    among_left (x ∷ xs) ys c m = at_first (same_cell c x) m (among_left xs ys c)
      where
        at_first : (b : Bool) → (b || is_among xs c) ≡ true → (is_among xs c ≡ true → is_among (xs ++ ys) c ≡ true) → (b || is_among (xs ++ ys) c) ≡ true
        at_first true e later = refl
        at_first false e later = later e

    pub extended_within : (known : List Cell) (e : Environment V) → IsWithin known e → (cs : List Cell) (vs : List V)
        → IsWithin (cs ++ known) (extended e cs vs)
    extended_within known e within cs vs cell y s = of_old (e cell) refl s
      where
        of_old : (o : Option V) → e cell ≡ o → option_or o (given cs vs cell) ≡ Some y → is_among (cs ++ known) cell ≡ true
        of_old (Some x) is s = among_right cs known cell (within cell x is)
        of_old None is s = among_left cs known cell (given_among cs vs cell y s)

    -- a cell that is not known is not defined
    not_defined : (known : List Cell) (e : Environment V) → IsWithin known e → (cell : Cell) → is_among known cell ≡ false → e cell ≡ None
    not_defined known e within cell out = of_it (e cell) refl
      where
        of_it : (o : Option V) → e cell ≡ o → e cell ≡ None
        of_it None is = is
        of_it (Some y) is = absurd (subst (λ (b : Bool). elim b as (λ _. Type 0) [ true ↦ ⊥ | false ↦ Unit {0} ]) (sym out ∙ within cell y is) tt)

    -- an instance that was taken is solved in what comes of the order
    taken_solved : (known : List Cell) (e : Environment V) → IsWithin known e → (i : Instance)
        → ((c : Cell) → is_among (left_cells i) c ≡ true → is_among known c ≡ false) → (order : List Instance) (vs : List V)
        → value_of operators callees e i.right ≡ Some vs → (e' : Environment V)
        → in_order order (extended e (left_cells i) vs) ≡ Some e' → IsSolved operators callees e' i
    taken_solved known e within i fresh order vs is e' rest us there cell y s =
        let below : (c : Cell) → Below (e c) (e' c)
        = λ c z d. defined_stays order (extended e (left_cells i) vs) e' rest c z (below_extended e (left_cells i) vs c z d) in
        let same : Some us ≡ Some vs = sym there ∙ below_values operators callees e e' below i.right vs is in
        let same_given : given (left_cells i) us cell ≡ given (left_cells i) vs cell = ap (λ o. given_of o) same in
        let at : given (left_cells i) vs cell ≡ Some y = sym same_given ∙ s in
        let new : e cell ≡ None = not_defined known e within cell (fresh cell (given_among (left_cells i) vs cell y at)) in
        defined_stays order (extended e (left_cells i) vs) e' rest cell y (ap (λ o. option_or o (given (left_cells i) vs cell)) new ∙ at)
      where
        given_of : Option (List V) → Option V
        given_of (Some ws) = given (left_cells i) ws cell
        given_of None = None

    -- what comes of an order solves its instances
    pub order_solved : (order : List Instance) (known : List Cell) (e e' : Environment V) → IsWithin known e → AreFresh known order
        → in_order order e ≡ Some e' → Solves operators callees e' order
    order_solved [] known e e' within fresh taken = tt
    order_solved (i ∷ order) known e e' within fresh taken =
        let first = first_taken i order e e' taken in (
          taken_solved known e within i fresh.0 order first.0 first.1 e' first.2,
          order_solved order (left_cells i ++ known) (extended e (left_cells i) first.0) e'
              (extended_within known e within (left_cells i) first.0) fresh.1 first.2,
        )

    -- instances among some that are solved are solved
    one_solved : (e : Environment V) (i : Instance) (order : List Instance) → Solves operators callees e order → IsIn i order → IsSolved operators callees e i
    one_solved e i [] solves m = absurd m
    one_solved e i (j ∷ order) solves (inl same) = subst (IsSolved operators callees e) same solves.0
    one_solved e i (j ∷ order) solves (inr m) = one_solved e i order solves.1 m

    pub all_solved : (e : Environment V) (instances order : List Instance) → Solves operators callees e order → AreIn instances order → Solves operators callees e instances
    all_solved e [] order solves m = tt
    all_solved e (i ∷ instances) order solves m = (one_solved e i order solves m.0, all_solved e instances order solves m.1)

    -- an instance with a value defines its left cells in a round
    pub some_defined : (e : Environment V) (instances : List Instance) (i : Instance) → IsIn i instances → (vs : List V)
        → value_of operators callees e i.right ≡ Some vs → (cell : Cell) (y : V) → given (left_cells i) vs cell ≡ Some y
        → (z : V) × (defined operators callees e instances cell ≡ Some z)
    some_defined e [] i m vs is cell y s = absurd m
    some_defined e (j ∷ instances) i (inl same) vs is cell y s =
        let found : Instance → Option V = λ k. option_and_then (λ elements. given (left_cells k) elements cell) (value_of operators callees e k.right) in
        let at_i : found i ≡ Some y = ap (option_and_then (λ elements. given (left_cells i) elements cell)) is ∙ s in
        (y, ap (λ p. option_or p (defined operators callees e instances cell)) (ap found same ∙ at_i))
    some_defined e (j ∷ instances) i (inr later) vs is cell y s =
        or_some (option_and_then (λ elements. given (left_cells j) elements cell) (value_of operators callees e j.right))
        (defined operators callees e instances cell) (some_defined e instances i later vs is cell y s)
      where
        or_some : (o p : Option V) → ((z : V) × (p ≡ Some z)) → (z : V) × (option_or o p ≡ Some z)
        or_some (Some z) p later = (z, refl)
        or_some None p later = later

    -- one more round defines what an extension does, where all rounds stay within one environment that the extension is within
    round_reaches : (instances : List Instance) (n : ℕ) (e0 e full : Environment V) (i : Instance) (vs : List V) → IsIn i instances
        → value_of operators callees e i.right ≡ Some vs
        → ((c : Cell) → Below (e c) (rounds operators callees instances n e0 c))
        → ((c : Cell) → Below (rounds operators callees instances (suc n) e0 c) (full c))
        → ((c : Cell) → Below (extended e (left_cells i) vs c) (full c))
        → (cell : Cell) → Below (extended e (left_cells i) vs cell) (rounds operators callees instances (suc n) e0 cell)
    round_reaches instances n e0 e full i vs m is reached within up cell y s = of_old (e cell) refl s
      where
        now : Environment V
        now = rounds operators callees instances n e0

        -- what stands after the round is what the full environment holds
        as_full : (o : Option V) → option_or o (defined operators callees now instances cell) ≡ rounds operators callees instances (suc n) e0 cell
            → ((z : V) × (option_or o (defined operators callees now instances cell) ≡ Some z)) → rounds operators callees instances (suc n) e0 cell ≡ Some y
        as_full o same there =
            let z : rounds operators callees instances (suc n) e0 cell ≡ Some there.0 = sym same ∙ there.1 in
            z ∙ sym (within cell there.0 z) ∙ up cell y s

        or_there : (o : Option V) → ((z : V) × (defined operators callees now instances cell ≡ Some z))
            → (z : V) × (option_or o (defined operators callees now instances cell) ≡ Some z)
        or_there (Some z) later = (z, refl)
        or_there None later = later

        of_old : (o : Option V) → e cell ≡ o → option_or o (given (left_cells i) vs cell) ≡ Some y
            → rounds operators callees instances (suc n) e0 cell ≡ Some y
        of_old (Some x) old t = as_full (now cell) refl (x, ap (λ o. option_or o (defined operators callees now instances cell)) (reached cell x old))
        of_old None old t = as_full (now cell) refl (or_there (now cell)
            (some_defined now instances i m vs (below_values operators callees e now reached i.right vs is) cell y t))

    -- the rounds reach what comes of an order
    pub order_reached : (instances order : List Instance) (n : ℕ) (e0 e e' : Environment V) → AreIn order instances
        → in_order order e ≡ Some e' → ((c : Cell) → Below (e c) (rounds operators callees instances n e0 c))
        → ((m : ℕ) (c : Cell) → Below (rounds operators callees instances m e0 c) (e' c))
        → (cell : Cell) → Below (e' cell) (rounds operators callees instances (length order + n) e0 cell)
    order_reached instances [] n e0 e e' m taken reached within cell y s =
        let none_more : n ≡ 0 + n = omega arith in
        subst (λ k. rounds operators callees instances k e0 cell ≡ Some y) none_more (reached cell y (ap (at_cell cell) taken ∙ s))
      where
        at_cell : Cell → Option (Environment V) → Option V
        at_cell c (Some f) = f c
        at_cell c None = None
    order_reached instances (i ∷ order) n e0 e e' m taken reached within cell y s =
        let first = first_taken i order e e' taken in
        let next : Environment V = extended e (left_cells i) first.0 in
        let up : (c : Cell) → Below (next c) (e' c) = defined_stays order next e' first.2 in
        let here : (c : Cell) → Below (next c) (rounds operators callees instances (suc n) e0 c)
        = round_reaches instances n e0 e e' i first.0 m.0 first.1 reached (within (suc n)) up in
        let same : length order + suc n ≡ suc (length order) + n = omega arith in
        subst (λ k. rounds operators callees instances k e0 cell ≡ Some y) same
        (order_reached instances order (suc n) e0 next e' m.1 first.2 here within cell y s)

    whole_same : (e e' : Environment V) → ((c : Cell) → e c ≡ e' c) → (cs : List Cell) → whole (map e cs) ≡ whole (map e' cs)
    whole_same e e' same [] = refl
    whole_same e e' same (c ∷ cs) = ap (λ (os : List (Option V)). whole os) (cells_same (c ∷ cs))
      where
        cells_same : (ds : List Cell) → map e ds ≡ map e' ds
        cells_same [] = refl
        cells_same (d ∷ ds) = ap (λ o. o ∷ map e ds) (same d) ∙ ap (λ os. e' d ∷ os) (cells_same ds)

    -- the outcome of instances is what comes of them in an order in which each is ready
    pub outcome_in_order : (instances order : List Instance) (inputs : List Cell) (elements : List V) (e' : Environment V) (outputs : List Cell)
        → length order ≡ length instances → AreIn order instances → AreIn instances order → AreFresh inputs order
        → in_order order (given inputs elements) ≡ Some e' → outcome operators callees instances inputs elements outputs ≡ whole (map e' outputs)
    outcome_in_order instances order inputs elements e' outputs len m m' fresh taken =
        let e0 : Environment V = given inputs elements in
        let start : IsWithin inputs e0 = λ cell y s. given_among inputs elements cell y s in
        let solves = all_solved e' instances order (order_solved order inputs e0 e' start fresh taken) m' in
        let within : (k : ℕ) (c : Cell) → Below (rounds operators callees instances k e0 c) (e' c)
        = λ k. rounds_within operators callees instances e' solves k e0 (defined_stays order e0 e' taken) in
        let reached : (c : Cell) → Below (e' c) (rounds operators callees instances (length order + 0) e0 c)
        = order_reached instances order 0 e0 e0 e' m taken (λ c y s. s) within in
        let count : length order + 0 ≡ length instances = omega (arith, len) in
        whole_same (rounds operators callees instances (length instances) e0) e'
        (λ c. same_options (rounds operators callees instances (length instances) e0 c) (e' c) (within (length instances) c)
        (subst (λ k. Below (e' c) (rounds operators callees instances k e0 c)) count (reached c)))
        outputs
