-- A leak has at most one derivation.
use Rattle.std.proofs.Common.{◌≡◌, ◌<◌, ◌≤◌, inl, inr, ℕ, suc, List, [], ◌∷◌, length, map, get_or, refl, sym, ap, ◌∙◌, subst, arith, suc-le-suc, All}
use Rattle.std.specs.Prelude.{slice_index}
use Rattle.std.specs.List.{Contains}
use Rattle.std.proofs.lemmas.Bool.{cases_lt}
use Rattle.std.proofs.lemmas.List.{length-map, get_or-map, get_or_default, get_or_past, same_lists}
use Rattle.span_model.specs.Columns.{Columns}
use Rattle.span_model.specs.Span.{InSpan, Spans}
use Rattle.span_model.specs.Attack.{Product}
use Rattle.span_model.specs.Closure.{Step as ProductStep, on_left, operand, co_operand, co_operands}
use Rattle.span_model.proofs.Members.{in_behind}
use Rattle.span_select.specs.Selection.{IsLeastSelection, AreLeastNumbers, numbers_of}
use Rattle.span_select.specs.SelectionLaws.{LeastSelections}
use Rattle.linear_view.specs.declared.operand.Side.{Side}
use Rattle.linear_view.specs.declared.operand.Side.TheVariants.{Left, Right}
use Rattle.attack_model.specs.declared.attack.Step.{Step}
use Rattle.attack_probes.specs.Derivations.{product_step}
use Rattle.linear_view.specs.Sides.{side_of}
use Rattle.attack_model.specs.Derivations.{step_at}
use Rattle.attack_cert.specs.Levels.{listed, AreLevels, HasNextLevel}
use Rattle.attack_cert.specs.Derivation.{listed_at, lower_steps, places_of, IsReached, by_root, by_step, IsDerivation}
use Rattle.attack_cert.proofs.Those.{those_unique, head_in, in_tail, in_cases, not_in_none}
use Rattle.attack_cert.proofs.Picks.{IsRising, rising_from, rising_once}
use Rattle.attack_cert.proofs.Levelling.{co_operands-append}

-- ---- rising lists

rising_tail : (x : ℕ) (xs : List ℕ) → IsRising (x ∷ xs) → IsRising xs
rising_tail x xs rise i j lt h = rise (suc i) (suc j) (suc-le-suc lt) (suc-le-suc h)

rising_above : (x : ℕ) (xs : List ℕ) → IsRising (x ∷ xs) → (y : ℕ) → Contains xs y → x < y
rising_above x xs rise y (k, lt, e) =
    let above : x < get_or xs k 0 = rise 0 (suc k) (omega arith) (suc-le-suc lt) in
    let is : get_or xs k 0 ≡ y = get_or_default xs k 0 y lt ∙ e in
    omega arith

-- rising lists with the same members are the same
pub rising_same : (xs ys : List ℕ) → IsRising xs → IsRising ys → ((x : ℕ) → Contains xs x → Contains ys x) → ((y : ℕ) → Contains ys y → Contains xs y) → xs ≡ ys
rising_same [] [] rx ry f g = refl
rising_same [] (y ∷ ys) rx ry f g = absurd (not_in_none y (g y (head_in y ys)))
rising_same (x ∷ xs) [] rx ry f g = absurd (not_in_none x (f x (head_in x xs)))
rising_same (x ∷ xs) (y ∷ ys) rx ry f g =
    let heads : x ≡ y = elim (in_cases x y ys (f x (head_in x xs))) [
      | inl e ↦ sym e
      | inr m ↦ elim (in_cases y x xs (g y (head_in y ys))) [
        | inl e ↦ e
        | inr n ↦ (let a = rising_above y ys ry x m in let b = rising_above x xs rx y n in absurd (omega arith))
      ]
    ] in
    let tails : xs ≡ ys = rising_same xs ys (rising_tail x xs rx) (rising_tail y ys ry)
    (λ z m. elim (in_cases z y ys (f z (in_tail z x xs m))) [
      | inl e ↦ (let a = rising_above x xs rx z m in absurd (omega arith))
      | inr n ↦ n
    ])
    (λ z m. elim (in_cases z x xs (g z (in_tail z y ys m))) [
      | inl e ↦ (let a = rising_above y ys ry z m in absurd (omega arith))
      | inr n ↦ n
    ]) in
    ap (λ (z : ℕ). z ∷ xs) heads ∙ ap (λ (zs : List ℕ). y ∷ zs) tails

-- numbers of the same places are the same
pub same_numbers : (places numbers others : List ℕ) → IsRising places → All (λ n. n < length places) numbers → All (λ n. n < length places) others
    → places_of places numbers ≡ places_of places others → numbers ≡ others
same_numbers places numbers others rise below below' e =
    let many : length numbers ≡ length others = sym (length-map numbers (slice_index places)) ∙ ap length e ∙ length-map others (slice_index places) in
    same_lists numbers others many (λ k d h.
    let h' : k < length others = omega arith in
    rising_once places rise (get_or numbers k d) (get_or others k d) (below k d h) (below' k d h')
    (sym (get_or-map (slice_index places) numbers k d 0 h) ∙ ap (λ (ps : List ℕ). get_or ps k 0) e ∙ get_or-map (slice_index places) others k d 0 h'))

-- ---- levels

module _ {C : Type 0} (products : List (Product C)) (leak : Columns C) where
  same_levels : (a b : List (List ProductStep)) → AreLevels products leak a → AreLevels products leak b → length a ≡ length b → a ≡ b
  same_levels [] [] ha hb e = refl
  same_levels [] (level ∷ b) ha hb e = absurd (omega arith)
  same_levels (level ∷ a) [] ha hb e = absurd (omega arith)
  same_levels (level ∷ a) (other ∷ b) ha hb e =
      let lower : a ≡ b = same_levels a b ha.1 hb.1 (omega arith) in
      ap (λ (l : List (List ProductStep)). level ∷ l) lower
      ∙ ap (λ (l : List ProductStep). l ∷ b)
      (those_unique (HasNextLevel products leak b)
      (subst (λ (l : List (List ProductStep)). AreLevels products leak (level ∷ l)) lower ha).0 hb.0)

  more_levels : (a b : List (List ProductStep)) → AreLevels products leak a → AreLevels products leak b → length a ≤ length b
      → Spans (co_operands products (listed b)) (co_operands products (listed a))
  more_levels a [] ha hb le = subst (λ (l : List (List ProductStep)). Spans (co_operands products (listed l)) (co_operands products (listed a)))
      (same_levels a [] ha hb (omega arith)) (λ v m. m)
  more_levels a (level ∷ b) ha hb le = elim (cases_lt (length b) (length a)) [
    | inl lt ↦ subst (λ (l : List (List ProductStep)). Spans (co_operands products (listed l)) (co_operands products (listed a)))
        (same_levels a (level ∷ b) ha hb (omega arith)) (λ v m. m)
    | inr ge ↦ λ v m. subst (λ (rows : List (Columns C)). InSpan rows v) (sym (co_operands-append products (listed b) level))
        (in_behind (co_operands products (listed b)) (co_operands products level) v (more_levels a b ha hb.1 ge v m))
  ]

  -- the least level up to which the leak is spanned is one
  one_height : (last other : List ProductStep) (lower others : List (List ProductStep)) → AreLevels products leak (last ∷ lower) → AreLevels products leak (other ∷ others)
      → InSpan (co_operands products (listed (last ∷ lower))) leak → ¬ InSpan (co_operands products (listed others)) leak → length others ≤ length lower
  one_height last other lower others ha hb spanned not = elim (cases_lt (length lower) (length others)) [
    | inl lt ↦ absurd (not (more_levels (last ∷ lower) others ha hb.1 (omega arith) leak spanned))
    | inr ge ↦ ge
  ]

  -- ---- the steps that are kept

  -- what a derivation says of the steps that it keeps of these levels
  record Keeps (levels : List (List ProductStep)) (places : List ℕ) (steps : List Step) (root : List ℕ) : Type 0 where
    rise : IsRising places
    kept : map product_step steps ≡ map (listed_at (listed levels)) places
    root_numbers : All (λ number. number < length steps) root
    root_uses : AreLeastNumbers [] (map (co_operand products) (listed levels)) leak (places_of places root)
    numbers : All (λ step. All (λ number. number < length steps) step.uses) steps
    uses : (number : ℕ) → number < length steps
        → AreLeastNumbers (operand products (product_step (step_at steps number)))
        (map (co_operand products) (lower_steps levels (slice_index places number)))
        leak (places_of places (step_at steps number).uses)
    reached : (number : ℕ) → number < length steps → IsReached steps root number

  keeps : (steps : List Step) (root : List ℕ) (d : IsDerivation products leak steps root) → Keeps (d.last ∷ d.lower) d.places steps root
  keeps steps root d = record {
    rise = rising_from d.places d.rise;
    kept = d.kept;
    root_numbers = d.root_numbers;
    root_uses = d.root_uses;
    numbers = d.numbers;
    uses = d.uses;
    reached = d.reached;
  }

  module _ (law : LeastSelections C) (levels : List (List ProductStep)) where
    one_selection : (own others : List (Columns C)) (groups same : List (List (Columns C))) (a b : List ℕ) → own ≡ others → groups ≡ same
        → AreLeastNumbers own groups leak a → AreLeastNumbers others same leak b → a ≡ b
    one_selection own others groups same a b e f la (picks, lb, is) =
        let lb' : IsLeastSelection own groups leak picks
        = subst (λ (o : List (Columns C)). IsLeastSelection o groups leak picks) (sym e)
        (subst (λ (gs : List (List (Columns C))). IsLeastSelection others gs leak picks) (sym f) lb) in
        la.2 ∙ ap numbers_of (law.one own groups leak la.0 picks la.1 lb') ∙ sym is

    many_steps : (places : List ℕ) (steps : List Step) (root : List ℕ) → Keeps levels places steps root → length steps ≡ length places
    many_steps places steps root k = sym (length-map steps product_step) ∙ ap length k.kept ∙ length-map places (listed_at (listed levels))

    step_is : (places : List ℕ) (steps : List Step) (root : List ℕ) → Keeps levels places steps root → (n : ℕ) → n < length steps
        → product_step (step_at steps n) ≡ listed_at (listed levels) (get_or places n 0)
    step_is places steps root k n h =
        let within : n < length places = let e = many_steps places steps root k in omega arith in
        let none : ProductStep = record { product = 0; side = on_left } in
        sym (get_or-map product_step steps n (record { product = 0; side = Left; uses = [] }) none h)
        ∙ ap (λ (s : List ProductStep). get_or s n none) k.kept
        ∙ get_or-map (listed_at (listed levels)) places n 0 none within

    -- the uses of a step are those of the step at the same place
    same_uses : (places others : List ℕ) (steps others_steps : List Step) (root other_root : List ℕ) → Keeps levels places steps root → Keeps levels others others_steps other_root
        → (n m : ℕ) → n < length steps → m < length others_steps → get_or places n 0 ≡ get_or others m 0
        → places_of places (step_at steps n).uses ≡ places_of others (step_at others_steps m).uses
    same_uses places others steps others_steps root other_root k l n m hn hm e =
        one_selection (operand products (product_step (step_at steps n))) (operand products (product_step (step_at others_steps m)))
        (map (co_operand products) (lower_steps levels (slice_index places n))) (map (co_operand products) (lower_steps levels (slice_index others m)))
        (places_of places (step_at steps n).uses) (places_of others (step_at others_steps m).uses)
        (ap (operand products) (step_is places steps root k n hn ∙ ap (listed_at (listed levels)) e ∙ sym (step_is others others_steps other_root l m hm)))
        (ap (λ (p : ℕ). map (co_operand products) (lower_steps levels p)) e)
        (k.uses n hn) (l.uses m hm)

    -- a place of the one is a place of the other
    over : (places others uses other_uses : List ℕ) (bound : ℕ) → bound ≡ length others → All (λ n. n < bound) other_uses
        → places_of places uses ≡ places_of others other_uses → (n : ℕ) → Contains uses n → Contains others (get_or places n 0)
    over places others uses other_uses bound many below e n (j, lt, is) =
        let many' : length uses ≡ length other_uses = sym (length-map uses (slice_index places)) ∙ ap length e ∙ length-map other_uses (slice_index others) in
        let lt' : j < length other_uses = omega arith in
        let b = below j 0 lt' in
        let fits : get_or other_uses j 0 < length others = omega arith in
        let at : get_or places n 0 ≡ get_or others (get_or other_uses j 0) 0
        = ap (λ (x : ℕ). get_or places x 0) (sym is) ∙ sym (get_or-map (slice_index places) uses j n 0 lt) ∙ ap (λ (ps : List ℕ). get_or ps j 0) e
        ∙ get_or-map (slice_index others) other_uses j 0 0 lt' in
        (get_or other_uses j 0, fits, get_or_default others (get_or other_uses j 0) (get_or places n 0) 0 fits ∙ sym at)

    within_steps : (steps : List Step) (user n : ℕ) → Contains (step_at steps user).uses n → user < length steps
    within_steps steps user n c = elim (cases_lt user (length steps)) [
      | inl lt ↦ lt
      | inr ge ↦ absurd (not_in_none n (subst (λ (s : Step). Contains s.uses n) (get_or_past steps user (record { product = 0; side = Left; uses = [] }) ge) c))
    ]

    uses_below : (places : List ℕ) (steps : List Step) (root : List ℕ) → Keeps levels places steps root → (n : ℕ) → n < length steps
        → All (λ m. m < length steps) (step_at steps n).uses
    uses_below places steps root k n h = k.numbers n (record { product = 0; side = Left; uses = [] }) h

    also_kept : (places others : List ℕ) (steps others_steps : List Step) (root other_root : List ℕ) → Keeps levels places steps root → Keeps levels others others_steps other_root
        → {n : ℕ} → IsReached steps root n → Contains others (get_or places n 0)
    also_kept places others steps others_steps root other_root k l (by_root {number = n} c) =
        over places others root other_root (length others_steps) (many_steps others others_steps other_root l) l.root_numbers
        (one_selection [] [] (map (co_operand products) (listed levels)) (map (co_operand products) (listed levels)) (places_of places root) (places_of others other_root)
        refl refl k.root_uses l.root_uses) n c
    also_kept places others steps others_steps root other_root k l (by_step {user = u} {number = n} r c) =
        let there = also_kept places others steps others_steps root other_root k l r in
        let m = there.0 in
        let hu : u < length steps = within_steps steps u n c in
        let hm : m < length others_steps = let e = many_steps others others_steps other_root l in let lt = there.1 in omega arith in
        let same : get_or places u 0 ≡ get_or others m 0 = sym (get_or_default others m 0 (get_or places u 0) there.1 ∙ there.2) in
        over places others (step_at steps u).uses (step_at others_steps m).uses (length others_steps) (many_steps others others_steps other_root l)
        (uses_below others others_steps other_root l m hm)
        (same_uses places others steps others_steps root other_root k l u m hu hm same) n c

    all_kept : (places others : List ℕ) (steps others_steps : List Step) (root other_root : List ℕ) → Keeps levels places steps root → Keeps levels others others_steps other_root
        → (place : ℕ) → Contains places place → Contains others place
    all_kept places others steps others_steps root other_root k l place (j, lt, e) =
        let h : j < length steps = let m = many_steps places steps root k in omega arith in
        subst (λ (p : ℕ). Contains others p) (get_or_default places j 0 place lt ∙ e)
        (also_kept places others steps others_steps root other_root k l (k.reached j h))

    same_places : (places others : List ℕ) (steps others_steps : List Step) (root other_root : List ℕ) → Keeps levels places steps root → Keeps levels others others_steps other_root
        → places ≡ others
    same_places places others steps others_steps root other_root k l =
        rising_same places others k.rise l.rise
        (all_kept places others steps others_steps root other_root k l)
        (all_kept others places others_steps steps other_root root l k)

    same_kept : (places : List ℕ) (steps others_steps : List Step) (root other_root : List ℕ) → Keeps levels places steps root → Keeps levels places others_steps other_root
        → (steps ≡ others_steps) × (root ≡ other_root)
    same_kept places steps others_steps root other_root k l =
        let mk = many_steps places steps root k in
        let ml = many_steps places others_steps other_root l in
        let blank : Step = record { product = 0; side = Left; uses = [] } in (
          same_lists steps others_steps (mk ∙ sym ml) (λ n d h.
              let hl : n < length others_steps = omega arith in
              let alike : product_step (step_at steps n) ≡ product_step (step_at others_steps n)
              = step_is places steps root k n h ∙ sym (step_is places others_steps other_root l n hl) in
              let uses : (step_at steps n).uses ≡ (step_at others_steps n).uses
              = same_numbers places (step_at steps n).uses (step_at others_steps n).uses k.rise
              (λ j e q. let b = uses_below places steps root k n h j e q in omega arith)
              (λ j e q. let b = uses_below places others_steps other_root l n hl j e q in omega arith)
              (same_uses places places steps others_steps root other_root k l n n h hl refl) in
              get_or_default steps n d blank h
              ∙ same_step (step_at steps n) (step_at others_steps n) (ap (λ (s : ProductStep). s.product) alike) (ap (λ (s : ProductStep). s.side) alike) uses
              ∙ get_or_default others_steps n blank d hl),
          same_numbers places root other_root k.rise
              (λ j e q. let b = k.root_numbers j e q in omega arith)
              (λ j e q. let b = l.root_numbers j e q in omega arith)
              (one_selection [] [] (map (co_operand products) (listed levels)) (map (co_operand products) (listed levels)) (places_of places root) (places_of places other_root)
              refl refl k.root_uses l.root_uses),
        ) where
          same_side : (a b : Side) → side_of a ≡ side_of b → a ≡ b
          same_side Left Left e = refl
          same_side Left Right e = cc
          same_side Right Left e = cc
          same_side Right Right e = refl

          same_step : (a b : Step) → a.product ≡ b.product → side_of a.side ≡ side_of b.side → a.uses ≡ b.uses → a ≡ b
          same_step a b e f g =
              ap (λ (p : ℕ). let s : Step = record { product = p; side = a.side; uses = a.uses } in s) e
              ∙ ap (λ (p : Side). let s : Step = record { product = b.product; side = p; uses = a.uses } in s) (same_side a.side b.side f)
              ∙ ap (λ (p : List ℕ). let s : Step = record { product = b.product; side = b.side; uses = p } in s) g

    one_of_levels : (places others : List ℕ) (steps others_steps : List Step) (root other_root : List ℕ) → Keeps levels places steps root → Keeps levels others others_steps other_root
        → (steps ≡ others_steps) × (root ≡ other_root)
    one_of_levels places others steps others_steps root other_root k l =
        same_kept places steps others_steps root other_root k
        (subst (λ (ps : List ℕ). Keeps levels ps others_steps other_root) (sym (same_places places others steps others_steps root other_root k l)) l)

  pub one_derivation : LeastSelections C → (steps others : List Step) (root other_root : List ℕ)
      → IsDerivation products leak steps root → IsDerivation products leak others other_root → (steps ≡ others) × (root ≡ other_root)
  one_derivation law steps others root other_root d e =
      let le = one_height d.last e.last d.lower e.lower d.levels e.levels d.spanned e.least in
      let ge = one_height e.last d.last e.lower d.lower e.levels d.levels e.spanned d.least in
      let levels : d.last ∷ d.lower ≡ e.last ∷ e.lower = same_levels (d.last ∷ d.lower) (e.last ∷ e.lower) d.levels e.levels (omega arith) in
      one_of_levels law (e.last ∷ e.lower) d.places e.places steps others root other_root
      (subst (λ (l : List (List ProductStep)). Keeps l d.places steps root) levels (keeps steps root d))
      (keeps others other_root e)
