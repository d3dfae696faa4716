-- The loop over the pairs i < j of shares.
use Rattle.std.proofs.Common.{◌≡◌, ℕ, zero, suc, ◌+◌, ◌-◌, ◌<◌, List, [], ◌∷◌, ◌++◌, map, take, drop, set, length, Ok, sym, ap, ◌∙◌, arith, zero-mul}
use Rattle.std.specs.Prelude.{codes}
use Rattle.std.proofs.Math.Seq.{take-append_seam}
use Rattle.c_tree.specs.declared.CLow.TheVariants as low
use Rattle.c_tree.specs.declared.CStmt.{CStmt}
use Rattle.c_tree.specs.declared.CStmt.TheVariants as s
use Rattle.c_machine.specs.Scope.{Binding, counter, meant_by, counter_of}
use Rattle.c_machine.specs.Machine.{State, Action, executed, in_turn, then_do, closed, entered, rounds}
use Rattle.c_form.specs.Template.{share_pairs}
use Rattle.share_gadgets.specs.Gadgets.{pairs}
use Rattle.share_gadgets.specs.Private.PairLoop.{row_start}
use Rattle.share_gadgets.proofs.PairNumbers.{row_step, row_rest}
use Rattle.masked_machine.proofs.Reading.{executed-for}
use Rattle.masked_machine.proofs.ShareLoops.{with_share}

-- the names of the inner loop's body
abbrev pub with_pair : List Binding → ℕ → ℕ → List Binding
with_pair scope i j = with_share scope i ++ record { name = codes "j"; meaning = counter j } ∷ []

-- the number of the pair (i, j), from the start of its row on
abbrev pub place : ℕ → ℕ → ℕ → ℕ
place d i j = row_start d i + (j - i - 1)

-- the state before the pair (i, j), with these names
abbrev pub before_pair : ℕ → List Binding → (ℕ → ℕ → List ℕ) → ℕ → List (List ℕ) → List ℕ → ℕ → ℕ → State
before_pair d scope before c memory words i j = record { scope = scope; memory = set memory c (before i j); stream = drop (place d i j) words }

-- what the body of the inner loop does with a pair: it goes on to the next one, with names of its own
pub record DoesPairs (d bits : ℕ) (body : List CStmt) (scope : List Binding) (before : ℕ → ℕ → List ℕ) (c : ℕ) (memory : List (List ℕ)) (words : List ℕ) : Type 0 where
  pub after : ℕ → ℕ → List Binding
  pub named : (i : ℕ) → counter_of (meant_by (with_share scope i) (codes "i")) ≡ i
  pub own : (i j : ℕ) → take (length (with_share scope i)) (after i j) ≡ with_share scope i
  pub does : (i j : ℕ) → i < j → j < d
      → in_turn (map (executed d bits) body) (before_pair d (with_pair scope i j) before c memory words i j)
      ≡ Ok (record { scope = after i j; memory = set memory c (before i (j + 1)); stream = drop (place d i j + 1) words })
  pub row_end : (i : ℕ) → i < d → before i d ≡ before (i + 1) (i + 2)

module _ (d bits : ℕ) (body : List CStmt) (scope : List Binding) (before : ℕ → ℕ → List ℕ) (c : ℕ) (memory : List (List ℕ)) (words : List ℕ)
    (it : DoesPairs d bits body scope before c memory words) where
  abbrev inner_body : Action
  inner_body = in_turn (map (executed d bits) body)

  -- one pair
  pair_done : (i j : ℕ) → i < j → j < d
      → closed (length (with_share scope i)) (inner_body (entered (before_pair d (with_share scope i) before c memory words i j) (codes "j") (counter j)))
      ≡ Ok (before_pair d (with_share scope i) before c memory words i (j + 1))
  pair_done i j above below =
      let next : place d i j + 1 ≡ place d i (j + 1) = omega (arith, above) in
      ap (closed (length (with_share scope i))) (it.does i j above below)
      ∙ (λ k. Ok (record { scope = it.own i j k; memory = set memory c (before i (j + 1)); stream = drop (next k) words }))

  -- the pairs of a row from j on
  row_on : (i k j : ℕ) → j + k ≡ d → i < j
      → rounds (codes "j") inner_body k j (before_pair d (with_share scope i) before c memory words i j)
      ≡ Ok (before_pair d (with_share scope i) before c memory words i d)
  row_on i zero j end above =
      let last : j ≡ d = omega (arith, end) in
      ap (λ n. Ok (before_pair d (with_share scope i) before c memory words i n)) last
  row_on i (suc k) j end above =
      let next : j + 1 ≡ suc j = omega arith in
      ap (λ o. then_do o (rounds (codes "j") inner_body k (suc j))) (pair_done i j above (omega (arith, end)))
      ∙ ap (λ n. rounds (codes "j") inner_body k (suc j) (before_pair d (with_share scope i) before c memory words i n)) next
      ∙ row_on i k (suc j) (omega (arith, end)) (omega (arith, above))

  abbrev outer_body : Action
  outer_body = in_turn (map (executed d bits) (s.For (codes "j") (low.After (codes "i")) body ∷ []))

  -- one row
  row_done : (i : ℕ) → i < d
      → closed (length scope) (outer_body (entered (before_pair d scope before c memory words i (i + 1)) (codes "i") (counter i)))
      ≡ Ok (before_pair d scope before c memory words (i + 1) (i + 2))
  row_done i below =
      let inner = entered (before_pair d scope before c memory words i (i + 1)) (codes "i") (counter i) in
      let next : place d i d ≡ place d (i + 1) (i + 2) = row_goes_on i below in
      let step = executed-for d bits inner (codes "j") (low.After (codes "i")) body
      ∙ ap (λ n. rounds (codes "j") inner_body (d - (n + 1)) (n + 1) inner) (it.named i)
      ∙ row_on i (d - (i + 1)) (i + 1) (omega (arith, below)) (omega arith) in
      ap (λ o. closed (length scope) (then_do o (in_turn []))) step
      ∙ (λ k. Ok (record { scope = take-append_seam scope (record { name = codes "i"; meaning = counter i } ∷ []) k; memory = set memory c (it.row_end i below k); stream = drop (next k) words }))
    where
      row_goes_on : (i : ℕ) → i < d → place d i d ≡ place d (i + 1) (i + 2)
      row_goes_on i below =
          let one : suc i ≡ i + 1 = omega arith in
          omega (arith, row_step d i below, ap (row_start d) one)

  -- the rows from i on
  rows_on : (k i : ℕ) → i + k ≡ d
      → rounds (codes "i") outer_body k i (before_pair d scope before c memory words i (i + 1))
      ≡ Ok (before_pair d scope before c memory words d (d + 1))
  rows_on zero i end =
      let last : i ≡ d = omega (arith, end) in
      ap (λ n. Ok (before_pair d scope before c memory words n (n + 1))) last
  rows_on (suc k) i end =
      let next : i + 1 ≡ suc i = omega arith in
      let more : i + 2 ≡ suc i + 1 = omega arith in
      ap (λ o. then_do o (rounds (codes "i") outer_body k (suc i))) (row_done i (omega (arith, end)))
      ∙ (λ n. rounds (codes "i") outer_body k (suc i) (before_pair d scope before c memory words (next n) (more n)))
      ∙ rows_on k (suc i) (omega (arith, end))

  -- the loop does all pairs, and draws a word for each
  pub pairs_done : executed d bits (share_pairs body) (record { scope = scope; memory = set memory c (before 0 1); stream = words })
      ≡ Ok (record { scope = scope; memory = set memory c (before d (d + 1)); stream = drop (pairs d) words })
  pairs_done =
      let first : 0 ≡ place d 0 1 = sym (first_place d) in
      executed-for d bits (record { scope = scope; memory = set memory c (before 0 1); stream = words }) (codes "i") (low.Number 0)
      (s.For (codes "j") (low.After (codes "i")) body ∷ [])
      ∙ ap (λ n. rounds (codes "i") outer_body (d - 0) 0 (record { scope = scope; memory = set memory c (before 0 1); stream = drop n words })) first
      ∙ rows_on (d - 0) 0 (omega arith)
      ∙ ap (λ n. Ok (record { scope = scope; memory = set memory c (before d (d + 1)); stream = drop n words })) (last_place d)
    where
      first_place : (d : ℕ) → place d 0 1 ≡ 0
      first_place d = omega (arith, zero-mul d)

      last_place : (d : ℕ) → place d d (d + 1) ≡ pairs d
      last_place d =
          let none : d - d ≡ 0 = omega arith in
          let no_pairs : pairs (d - d) ≡ 0 = ap pairs none in
          omega (arith, row_rest d d (omega arith), no_pairs)
