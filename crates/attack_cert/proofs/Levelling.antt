-- The steps of levels, and what holds while they are found level by level.
use Rattle.std.proofs.Common.{◌≡◌, ◌≢◌, ◌<◌, ◌+◌, ◌*◌, inl, inr, ℕ, zero, suc, List, [], ◌∷◌, ◌++◌, length, map, get_or, take, replicate, refl, sym, ap, ◌∙◌, subst, arith, add-one, All}
use native.Mathlib.Nat.{le_of_suc-le-suc}
use Rattle.std.specs.List.{Contains}
use Rattle.std.proofs.lemmas.List.{append-nil, append_assoc, length-append, length-map, map-append, map_push, take_more, nil_from_length}
use Rattle.span_model.specs.Columns.{Columns, empty}
use Rattle.span_model.specs.Span.{InSpan, Spans, SameSpan}
use Rattle.span_model.specs.Attack.{Product}
use Rattle.span_model.specs.Closure.{Step, operand, co_operand, co_operands, IsChain, IsClosed}
use Rattle.span_model.proofs.Members.{in_none, in_behind, in_front, spans_none, spans_both}
use Rattle.linear_view.specs.declared.operand.Side.TheVariants.{Left, Right}
use Rattle.linear_view.specs.Sides.{step_of}
use Rattle.attack_cert.specs.Levels.{steps_of, AreThose, listed, HasNextLevel, AreLevels}
use Rattle.attack_cert.specs.Levelled.{operand_steps, levelled_steps, lower_counts, AreListed, IsSpanned, IsSplit, ReachLeak}
use Rattle.linear_view.specs.declared.operand.Operand.{Operand}
use Rattle.attack_cert.specs.declared.levels.Levelled.{Levelled}
use Rattle.attack_cert.proofs.Those.{not_in_none, head_in, in_cases, in_those, those_hold, those_within, those_of_those, rest_of_those, all_those, split_length, taken_last, left_out_last, in_steps, steps_below, length-steps_of}

-- both operands of one more product
pub two_more : (operands : List Operand) (k : ℕ) → operand_steps operands ≡ steps_of k
    → operand_steps ((operands ++ record { product = k; side = Left } ∷ []) ++ record { product = k; side = Right } ∷ []) ≡ steps_of (k + 1)
two_more operands k h =
    let l : Operand = record { product = k; side = Left } in
    let r : Operand = record { product = k; side = Right } in
    rw add-one
    (map_push step_of (operands ++ l ∷ []) r
    ∙ ap (λ (xs : List Step). xs ++ step_of r ∷ []) (map_push step_of operands l ∙ ap (λ (xs : List Step). xs ++ step_of l ∷ []) h)
    ∙ append_assoc (steps_of k) (step_of l ∷ []) (step_of r ∷ []))

next_operand : (pending : List Operand) (i : ℕ) (t : Operand) → i < length pending → t ≡ get_or pending i t
    → operand_steps (take (i + 1) pending) ≡ operand_steps (take i pending) ++ step_of t ∷ []
next_operand pending i t h is =
    ap operand_steps (take_more pending i t h ∙ ap (λ (x : Operand). take i pending ++ x ∷ []) (sym is)) ∙ map_push step_of (take i pending) t

-- one more operand is among those, or is left out
pub those_more : (P : Step → Type 0) (pending level : List Operand) (i : ℕ) (t : Operand) → i < length pending → t ≡ get_or pending i t
    → AreThose P (operand_steps (take i pending)) (operand_steps level) → P (step_of t) → AreThose P (operand_steps (take (i + 1) pending)) (operand_steps (level ++ t ∷ []))
those_more P pending level i t h is before p =
    let A : List Step → Type 0 = λ xs. AreThose P xs (operand_steps (level ++ t ∷ [])) in
    let B : List Step → Type 0 = λ ys. AreThose P (operand_steps (take i pending) ++ step_of t ∷ []) ys in
    subst A (sym (next_operand pending i t h is)) (subst B (sym (map_push step_of level t)) (taken_last P (step_of t) p before))

pub others_more : (P : Step → Type 0) (pending level : List Operand) (i : ℕ) (t : Operand) → i < length pending → t ≡ get_or pending i t
    → AreThose P (operand_steps (take i pending)) (operand_steps level) → ¬ P (step_of t) → AreThose P (operand_steps (take (i + 1) pending)) (operand_steps level)
others_more P pending level i t h is before p =
    let A : List Step → Type 0 = λ xs. AreThose P xs (operand_steps level) in
    subst A (sym (next_operand pending i t h is)) (left_out_last P (step_of t) p before)

-- operands of steps of products are of these products
pub operands_below : (P : Step → Type 0) (n : ℕ) (operands : List Operand) → AreThose P (steps_of n) (operand_steps operands) → All (λ t. t.product < n) operands
operands_below P n operands those k d h =
    steps_below n (step_of (get_or operands k d)) (those_within P those (step_of (get_or operands k d)) (at operands k h)) where
      at : (ts : List Operand) (k : ℕ) → k < length ts → Contains (operand_steps ts) (step_of (get_or ts k d))
      at [] k h = absurd (omega arith)
      at (t ∷ ts) zero h = head_in (step_of t) (operand_steps ts)
      at (t ∷ ts) (suc k) h = let m = at ts k (le_of_suc-le-suc h) in (suc m.0, omega (arith, m.1), m.2)

-- the steps of a level, behind those that are listed
level_steps : (level : List Operand) (n : ℕ) → levelled_steps (map (λ (t : Operand). let s : Levelled = record { operand = t; lower = n } in s) level) ≡ operand_steps level
level_steps [] n = refl
level_steps (t ∷ level) n = ap (λ (xs : List Step). step_of t ∷ xs) (level_steps level n)

level_lower : (level : List Operand) (n : ℕ) → map (λ (s : Levelled). s.lower) (map (λ (t : Operand). let s : Levelled = record { operand = t; lower = n } in s) level) ≡ replicate (length (operand_steps level)) n
level_lower [] n = refl
level_lower (t ∷ level) n = ap (λ (xs : List ℕ). n ∷ xs) (level_lower level n)

pub length_listed : (levels : List (List Step)) (steps : List Levelled) → AreListed levels steps → length steps ≡ length (listed levels)
length_listed levels steps l = sym (length-map steps (λ (s : Levelled). step_of s.operand)) ∙ ap length l.same

pub listed_next : (levels : List (List Step)) (steps next : List Levelled) (level : List Operand) → AreListed levels steps
    → next ≡ steps ++ map (λ (t : Operand). let s : Levelled = record { operand = t; lower = length steps } in s) level
    → AreListed (operand_steps level ∷ levels) next
listed_next levels steps next level l e = record {
  same = ap levelled_steps e
      ∙ map-append (λ (s : Levelled). step_of s.operand) steps (map (λ (t : Operand). let s : Levelled = record { operand = t; lower = length steps } in s) level)
      ∙ ap (λ (xs : List Step). xs ++ levelled_steps (map (λ (t : Operand). let s : Levelled = record { operand = t; lower = length steps } in s) level)) l.same
      ∙ ap (λ (xs : List Step). listed levels ++ xs) (level_steps level (length steps));
  lower = ap (map (λ (s : Levelled). s.lower)) e
      ∙ map-append (λ (s : Levelled). s.lower) steps (map (λ (t : Operand). let s : Levelled = record { operand = t; lower = length steps } in s) level)
      ∙ ap (λ (xs : List ℕ). xs ++ map (λ (s : Levelled). s.lower) (map (λ (t : Operand). let s : Levelled = record { operand = t; lower = length steps } in s) level)) l.lower
      ∙ ap (λ (xs : List ℕ). lower_counts levels ++ xs) (level_lower level (length steps)
      ∙ ap (replicate (length (operand_steps level))) (length_listed levels steps l));
}

module _ {C : Type 0} (products : List (Product C)) where
  pub co_operands-append : (a b : List Step) → co_operands products (a ++ b) ≡ co_operands products a ++ co_operands products b
  co_operands-append [] b = refl
  co_operands-append (step ∷ a) b =
      ap (λ (rows : List (Columns C)). co_operand products step ++ rows) (co_operands-append a b)
      ∙ sym (append_assoc (co_operand products step) (co_operands products a) (co_operands products b))

  -- the co-operand of one of the steps
  pub in_co_operands : (steps : List Step) (step : Step) → Contains steps step → Spans (co_operands products steps) (co_operand products step)
  in_co_operands [] step h = absurd (not_in_none step h)
  in_co_operands (x ∷ steps) step h = elim (in_cases step x steps h) [
    | inl e ↦ subst (λ (s : Step). Spans (co_operand products x ++ co_operands products steps) (co_operand products s)) e (in_behind (co_operand products x) (co_operands products steps))
    | inr m ↦ λ v n. in_front (co_operand products x) (co_operands products steps) v (in_co_operands steps step m v n)
  ]

  -- one more co-operand
  pub co_operands_more : (level : List Operand) (i : ℕ) (t : Operand) → i < length level → t ≡ get_or level i t
      → co_operands products (operand_steps (take (i + 1) level)) ≡ co_operands products (operand_steps (take i level)) ++ co_operand products (step_of t)
  co_operands_more level i t h is =
      ap (co_operands products) (next_operand level i t h is)
      ∙ co_operands-append (operand_steps (take i level)) (step_of t ∷ [])
      ∙ ap (λ (rows : List (Columns C)). co_operands products (operand_steps (take i level)) ++ rows) (append-nil (co_operand products (step_of t)))

  pub grown_more : (old mid new rows : List (Columns C)) (level : List Operand) (i : ℕ) (t : Operand) → i < length level → t ≡ get_or level i t
      → rows ≡ co_operand products (step_of t)
      → SameSpan mid (old ++ co_operands products (operand_steps (take i level))) → SameSpan new (mid ++ rows)
      → SameSpan new (old ++ co_operands products (operand_steps (take (i + 1) level)))
  grown_more old mid new rows level i t h is same before grown v =
      let co = co_operands products (operand_steps (take i level)) in
      let e : old ++ co_operands products (operand_steps (take (i + 1) level)) ≡ (old ++ co) ++ rows
      = ap (λ (r : List (Columns C)). old ++ r) (co_operands_more level i t h is ∙ ap (λ (r : List (Columns C)). co ++ r) (sym same)) ∙ sym (append_assoc old co rows) in
      subst (λ (r : List (Columns C)). (InSpan new v → InSpan r v) × (InSpan r v → InSpan new v)) (sym e) (
        (λ m. spans_both ((old ++ co) ++ rows) mid rows (λ u n. in_behind (old ++ co) rows u ((before u).0 n)) (in_front (old ++ co) rows) v ((grown v).0 m)),
        (λ m. (grown v).1 (spans_both (mid ++ rows) (old ++ co) rows (λ u n. in_behind mid rows u ((before u).1 n)) (in_front mid rows) v m)),
      )

  module _ (leak : Columns C) where
    -- up to the levels below the last one the leak is not spanned
    abbrev NotBelow : List (List Step) → Type 0
    NotBelow [] = Unit {0}
    NotBelow (last ∷ lower) = ¬ InSpan (co_operands products (listed lower)) leak

    -- these levels are found, and these operands pend
    pub record Levelling (levels : List (List Step)) (steps : List Levelled) (pending : List Operand) (rows : List (Columns C)) : Type 0 where
      pub are_levels : AreLevels products leak levels
      pub are_listed : AreListed levels steps
      pub pend : AreThose (λ step. ¬ Contains (listed levels) step) (steps_of (length products)) (operand_steps pending)
      pub same_span : SameSpan rows (co_operands products (listed levels))
      pub not_below : NotBelow levels
      pub count : length steps + length pending ≡ 2 * length products

    pub levelling_begins : (pending : List Operand) → operand_steps pending ≡ steps_of (length products) → Levelling [] [] pending []
    levelling_begins pending e = record {
      are_levels = tt;
      are_listed = record { same = refl; lower = refl };
      pend = subst (λ (xs : List Step). AreThose (λ step. ¬ Contains [] step) (steps_of (length products)) xs) (sym e)
          (all_those (λ step. ¬ Contains [] step) (λ step. not_in_none step) (steps_of (length products)));
      same_span = λ v. (λ m. m, λ m. m);
      not_below = tt;
      count = let n = length-steps_of (length products) in let p = ap length e in let q = length-map pending step_of in omega (arith, n, p, q);
    }

    -- what a step spans with the rows that are kept, it spans with the co-operands that are listed
    with_listed : (levels : List (List Step)) (rows : List (Columns C)) → SameSpan rows (co_operands products (listed levels))
        → (step : Step) → IsSpanned products leak rows step → InSpan (operand products step ++ co_operands products (listed levels)) leak
    with_listed levels rows same step h =
        spans_both (operand products step ++ co_operands products (listed levels)) (operand products step) rows
        (in_behind (operand products step) (co_operands products (listed levels)))
        (λ u n. in_front (operand products step) (co_operands products (listed levels)) u ((same u).0 n))
        leak h

    with_kept : (levels : List (List Step)) (rows : List (Columns C)) → SameSpan rows (co_operands products (listed levels))
        → (step : Step) → InSpan (operand products step ++ co_operands products (listed levels)) leak → IsSpanned products leak rows step
    with_kept levels rows same step h =
        spans_both (operand products step ++ rows) (operand products step) (co_operands products (listed levels))
        (in_behind (operand products step) rows)
        (λ u n. in_front (operand products step) rows u ((same u).1 n))
        leak h

    pub next_level : (levels : List (List Step)) (steps : List Levelled) (pending level rest : List Operand) (rows : List (Columns C))
        → Levelling levels steps pending rows → IsSplit products leak rows pending level rest
        → AreThose (HasNextLevel products leak levels) (steps_of (length products)) (operand_steps level)
    next_level levels steps pending level rest rows l s =
        those_of_those (λ step. ¬ Contains (listed levels) step) (IsSpanned products leak rows) (HasNextLevel products leak levels)
        (λ step p q. record { not_lower = p; spanned = with_listed levels rows l.same_span step q })
        (λ step r. r.not_lower)
        (λ step r. with_kept levels rows l.same_span step r.spanned)
        l.pend s.spanned

    pub levelling_goes_on : (levels : List (List Step)) (steps next : List Levelled) (pending level rest : List Operand) (rows grown : List (Columns C))
        → Levelling levels steps pending rows → ¬ InSpan rows leak → IsSplit products leak rows pending level rest
        → next ≡ steps ++ map (λ (t : Operand). let s : Levelled = record { operand = t; lower = length steps } in s) level
        → SameSpan grown (rows ++ co_operands products (operand_steps level))
        → Levelling (operand_steps level ∷ levels) next rest grown
    levelling_goes_on levels steps next pending level rest rows grown l not_yet s e same =
        let co = co_operands products (listed levels) in
        let more = co_operands products (operand_steps level) in
        record {
          are_levels = (next_level levels steps pending level rest rows l s, l.are_levels);
          are_listed = listed_next levels steps next level l.are_listed e;
          pend = rest_of_those (IsSpanned products leak rows) (listed levels) (operand_steps level) (those_hold (IsSpanned products leak rows) s.spanned)
              l.pend s.spanned (λ step m. m) s.others;
          same_span = λ v. subst (λ (r : List (Columns C)). (InSpan grown v → InSpan r v) × (InSpan r v → InSpan grown v)) (sym (co_operands-append (listed levels) (operand_steps level))) (
            (λ m. spans_both (co ++ more) rows more (λ u n. in_behind co more u ((l.same_span u).0 n)) (in_front co more) v ((same v).0 m)),
            (λ m. (same v).1 (spans_both (rows ++ more) co more (λ u n. in_behind rows more u ((l.same_span u).1 n)) (in_front rows more) v m)),
          );
          not_below = λ m. not_yet ((l.same_span leak).1 m);
          count =
              let split : length (operand_steps level) + length (operand_steps rest) ≡ length (operand_steps pending) = split_length (IsSpanned products leak rows) s.spanned s.others in
              let many : length next ≡ length steps + length level = ap length e ∙ length-append steps _ ∙ ap (λ (k : ℕ). length steps + k) (length-map level _) in
              let count = l.count in
              omega (arith, split, many, count, length-map level step_of, length-map rest step_of, length-map pending step_of);
        }

    -- the leak is spanned
    pub levelling_ends : (levels : List (List Step)) (steps : List Levelled) (pending : List Operand) (rows : List (Columns C))
        → Levelling levels steps pending rows → leak ≢ empty → InSpan rows leak → ReachLeak products leak steps
    levelling_ends [] steps pending rows l nonempty spanned = absurd (nonempty (in_none leak ((l.same_span leak).0 spanned)))
    levelling_ends (last ∷ lower) steps pending rows l nonempty spanned = record {
      last = last;
      lower = lower;
      levels = l.are_levels;
      spanned = (l.same_span leak).0 spanned;
      least = l.not_below;
      are_listed = l.are_listed;
      few = let count = l.count in omega arith;
    }

    -- where no step has the next level, the leak reaches no step that is not listed
    all_reached : (levels : List (List Step)) → ((step : Step) → Contains (steps_of (length products)) step → ¬ HasNextLevel products leak levels step)
        → (chain : List Step) → IsChain products leak chain → ¬ ¬ Spans (co_operands products (listed levels)) (co_operands products chain)
    all_reached levels stuck [] chain not = not (spans_none (co_operands products (listed levels)))
    all_reached levels stuck (step ∷ before) chain not = all_reached levels stuck before chain.2 (λ spans.
        stuck step (in_steps (length products) step.product step.side chain.0) (record {
          not_lower = λ m. not (spans_both (co_operands products (listed levels)) (co_operand products step) (co_operands products before)
              (in_co_operands (listed levels) step m) spans);
          spanned = spans_both (operand products step ++ co_operands products (listed levels)) (operand products step) (co_operands products before)
              (in_behind (operand products step) (co_operands products (listed levels)))
              (λ u n. in_front (operand products step) (co_operands products (listed levels)) u (spans u n))
              leak chain.1;
        }))

    pub levelling_is_stuck : (levels : List (List Step)) (steps : List Levelled) (pending level rest : List Operand) (rows : List (Columns C))
        → Levelling levels steps pending rows → ¬ InSpan rows leak → IsSplit products leak rows pending level rest → length level ≡ 0
        → ¬ IsClosed products leak
    levelling_is_stuck levels steps pending level rest rows l not_yet s nothing (chain, is_chain, closed) =
        let next = next_level levels steps pending level rest rows l s in
        let no_step : operand_steps level ≡ [] = ap operand_steps (nil_from_length level nothing) in
        all_reached levels
        (λ step m has. not_in_none step (subst (λ (xs : List Step). Contains xs step) no_step (in_those (HasNextLevel products leak levels) next step m has)))
        chain is_chain
        (λ spans. not_yet ((l.same_span leak).1 (spans leak closed)))
