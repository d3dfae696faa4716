-- Cells of handles: how they begin, and what is written to them.
use Rattle.std.proofs.Common.{◌≡◌, ◌⊎◌, inl, inr, ℕ, zero, suc, ◌+◌, ◌-◌, ◌<◌, ◌≤◌, min, Bool, true, false, ◌==◌, List, [], ◌∷◌, ◌++◌, length, map, drop, get_or, set, replicate, Option, Some, None, refl, sym, ap, ◌∙◌, subst, arith}
use Rattle.std.specs.Prelude.{if◌then◌else◌, IsSome}
use Rattle.std.specs.Option.{option_flatten, option_or}
use Rattle.std.proofs.lemmas.Bool.{eqb-true, eqb-false, cases_lt}
use Rattle.std.proofs.lemmas.List.{drop_more, drop_all, get_or-set_same, get_or-set_other, length-set, get_or_default}
use Rattle.std.proofs.lemmas.Option.{slice_get_past}
use Rattle.usuba_code.specs.CodeLaw.{Each}
use Rattle.usuba_model.specs.Rounds.{element_at}
use Rattle.usuba_plan.specs.Made.{given_at, with_given}
use Rattle.usuba_plan.specs.State.Handles.{handle_at}
use Rattle.usuba_plan.proofs.Eaches.{each_at}
use Rattle.usuba_plan.proofs.Picking.{false_true}

module _ {H : Type 0} where
  undefined_cells : (k n : ℕ) → handle_at (replicate {A = Option H} k None) n ≡ None
  undefined_cells zero n = refl
  undefined_cells (suc k) zero = refl
  undefined_cells (suc k) (suc n) = undefined_cells k n

  -- the first cells hold the inputs, the others nothing
  pub begun : (xs : List H) (k n : ℕ) → handle_at (map (λ x. Some x) xs ++ replicate {A = Option H} k None) n ≡ element_at xs n
  begun [] k n = undefined_cells k n
  begun (x ∷ xs) k zero = refl
  begun (x ∷ xs) k (suc n) = begun xs k n

  -- a cell that is defined is one of the cells
  pub defined_within : (cells : List (Option H)) (n : ℕ) → IsSome (handle_at cells n) → n < length cells
  defined_within [] n e = false_true e
  defined_within (c ∷ cells) zero e = omega arith
  defined_within (c ∷ cells) (suc n) e = let later = defined_within cells n e in omega (arith, later)

  handle_read : (cells : List (Option H)) (n : ℕ) → n < length cells → (d : Option H) → handle_at cells n ≡ get_or cells n d
  handle_read [] n less d = absurd (omega (arith, less))
  handle_read (c ∷ cells) zero less d = refl
  handle_read (c ∷ cells) (suc n) less d = handle_read cells n (omega (arith, less)) d

  handle_past : (cells : List (Option H)) (n : ℕ) → length cells ≤ n → handle_at cells n ≡ None
  handle_past cells n past = ap (λ (o : Option (Option H)). option_flatten o) (slice_get_past cells n past)

  -- a cell after a write
  pub handle_written : (cells : List (Option H)) (c : ℕ) (h : H) (n : ℕ) → c < length cells
      → handle_at (set cells c (Some h)) n ≡ (if n == c then Some h else handle_at cells n)
  handle_written cells c h n less = of_test (n == c) refl
    where
      of_test : (b : Bool) → (n == c) ≡ b → handle_at (set cells c (Some h)) n ≡ (if b then Some h else handle_at cells n)
      of_test true is =
          let same : n ≡ c = eqb-true n c is in
          ap (handle_at (set cells c (Some h))) same
          ∙ handle_read (set cells c (Some h)) c (subst (λ m. c < m) (sym (length-set cells c (Some h))) less) None
          ∙ get_or-set_same cells c (Some h) None less
      of_test false is = other (eqb-false n c is)
        where
          other : (n ≡ c → ⊥) → handle_at (set cells c (Some h)) n ≡ handle_at cells n
          other differs = elim (cases_lt n (length cells)) [
            | inl within ↦
                handle_read (set cells c (Some h)) n (subst (λ m. n < m) (sym (length-set cells c (Some h))) within) None
                ∙ get_or-set_other cells c n (Some h) None differs ∙ sym (handle_read cells n within None)
            | inr past ↦
                handle_past (set cells c (Some h)) n (subst (λ m. m ≤ n) (sym (length-set cells c (Some h))) past) ∙ sym (handle_past cells n past)
          ]

  -- the cells from a place on have got their handles
  abbrev pub Assigned : List ℕ → List H → List (Option H) → List (Option H) → ℕ → Type 0
  Assigned cells handles old now i = (n : ℕ) → handle_at now n ≡ with_given (drop i cells) (drop i handles) (handle_at old) n

  pub assign_begin : (cells : List ℕ) (handles : List H) (old : List (Option H)) (i : ℕ) → min (length cells) (length handles) ≤ i
      → Assigned cells handles old old i
  assign_begin cells handles old i past n = of_end end
    where
      end : (length cells ≤ i) ⊎ (length handles ≤ i)
      end = elim (cases_lt i (length cells)) [ inl below ↦ inr (omega (arith, past, below)) | inr above ↦ inl above ]

      none_given : (cs : List ℕ) → given_at {V = H} cs [] n ≡ None
      none_given [] = refl
      none_given (c ∷ cs) = refl

      of_end : (length cells ≤ i) ⊎ (length handles ≤ i) → handle_at old n ≡ with_given (drop i cells) (drop i handles) (handle_at old) n
      of_end (inl e) = sym (ap (λ (cs : List ℕ). with_given cs (drop i handles) (handle_at old) n) (drop_all i cells e))
      of_end (inr e) =
          sym (ap (λ (hs : List H). with_given (drop i cells) hs (handle_at old) n) (drop_all i handles e)
          ∙ ap (λ (o : Option H). option_or o (handle_at old n)) (none_given (drop i cells)))

  pub assign_step : (cells : List ℕ) (handles : List H) (old now : List (Option H)) (i : ℕ) (c : ℕ) (h : H)
      → i < length cells → i < length handles → c ≡ get_or cells i c → h ≡ get_or handles i h → c < length now
      → Assigned cells handles old now (i + 1) → Assigned cells handles old (set now c (Some h)) i
  assign_step cells handles old now i c h less less' is is' within later n =
      handle_written now c h n within
      ∙ ap (λ (o : Option H). if n == c then Some h else o) (later n)
      ∙ moved (n == c)
      ∙ ap (λ (cs : List ℕ). with_given cs (h ∷ drop (i + 1) handles) (handle_at old) n)
      (ap (λ (d : ℕ). d ∷ drop (i + 1) cells) is ∙ sym (drop_more cells i c less))
      ∙ ap (λ (hs : List H). with_given (drop i cells) hs (handle_at old) n)
      (ap (λ (d : H). d ∷ drop (i + 1) handles) is' ∙ sym (drop_more handles i h less'))
    where
      moved : (b : Bool) → (if b then Some h else with_given (drop (i + 1) cells) (drop (i + 1) handles) (handle_at old) n)
          ≡ option_or (if b then Some h else given_at (drop (i + 1) cells) (drop (i + 1) handles) n) (handle_at old n)
      moved true = refl
      moved false = refl

  -- one more of the cells, from the last on, gets its handle
  pub assign_more : (cells : List ℕ) (handles : List H) (old now : List (Option H)) (i : ℕ) (h : H) → 0 < i
      → i ≤ min (length cells) (length handles) → h ≡ get_or handles (i - 1) h → Each (λ cell. cell < length old) cells
      → length now ≡ length old → Assigned cells handles old now i
      → Assigned cells handles old (set now (get_or cells (i - 1) 0) (Some h)) (i - 1)
  assign_more cells handles old now i h some within is below same later =
      let less : i - 1 < length cells = omega (arith, some, within) in
      let less' : i - 1 < length handles = omega (arith, some, within) in
      let back : i ≡ i - 1 + 1 = omega (arith, some) in
      assign_step cells handles old now (i - 1) (get_or cells (i - 1) 0) h less less'
      (get_or_default cells (i - 1) 0 (get_or cells (i - 1) 0) less) is
      (subst (λ (n : ℕ). get_or cells (i - 1) 0 < n) (sym same) (each_at (λ cell. cell < length old) cells (i - 1) 0 less below))
      (subst (λ (n : ℕ). Assigned cells handles old now n) back later)
