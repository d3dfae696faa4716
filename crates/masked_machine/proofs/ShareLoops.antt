-- A loop that assigns each share of an array.
use Rattle.std.proofs.Common.{◌≡◌, ℕ, zero, suc, ◌+◌, ◌-◌, ◌%◌, ◌^◌, ◌<◌, ◌≤◌, List, [], ◌∷◌, ◌++◌, map, drop, set, get_or, length, Some, Ok, sym, ap, ◌∙◌, arith}
use Rattle.std.specs.List.{range_with_len}
use Rattle.std.specs.Prelude.{codes}
use Rattle.std.proofs.lemmas.Bool.{cond-true, lt-ltb}
use Rattle.std.proofs.lemmas.List.{get_or-set_same, set-set, length-append, append_assoc, append-nil, length-drop, set-append_right, drop_more, drop_all}
use Rattle.std.proofs.lemmas.List.FromFn.{length-map-range_with_len, map-range_with_len_more}
use Rattle.std.proofs.Math.Seq.{take-append_seam}
use Rattle.std.proofs.Math.Nat.{mod-eq_of_lt}
use Rattle.c_tree.specs.declared.CExpr.{CExpr}
use Rattle.c_tree.specs.declared.CIndex.TheVariants as index
use Rattle.c_tree.specs.declared.CLow.TheVariants as low
use Rattle.c_machine.specs.Scope.{Binding, counter, meant_by, row_of, index_value}
use Rattle.c_machine.specs.Machine.{State, Action, evaluated, executed, in_turn, then_do, closed, entered, rounds, assigned, stored, with_word}
use Rattle.c_form.specs.Template.{assign, assign_from}
use Rattle.masked_machine.proofs.Reading.{executed-assign, executed-for}

-- a row whose first n words are given by f
abbrev pub filled : (ℕ → ℕ) → ℕ → List ℕ → List ℕ
filled f n row = map f (range_with_len 0 n) ++ drop n row

pub length-filled : (f : ℕ → ℕ) (n : ℕ) (row : List ℕ) → n ≤ length row → length (filled f n row) ≡ length row
length-filled f n row within = omega (arith, length-append (map f (range_with_len 0 n)) (drop n row), length-map-range_with_len f 0 n, length-drop n row)

-- the next word is written
pub filled-next : (f : ℕ → ℕ) (n : ℕ) (row : List ℕ) → n < length row → set (filled f n row) n (f n) ≡ filled f (n + 1) row
filled-next f n row within =
    let written = map f (range_with_len 0 n) in
    let none : n - n ≡ 0 = omega arith in
    set-append_right written (drop n row) n n (f n) (length-map-range_with_len f 0 n) (omega arith)
    ∙ (λ k. written ++ set (drop_more row n 0 within k) (none k) (f n))
    ∙ sym (append_assoc written (f n ∷ []) (drop (n + 1) row))
    ∙ ap (λ ws. ws ++ drop (n + 1) row) (sym (map-range_with_len_more f 0 n n (omega arith)))

-- and in the end all words are given by f
pub filled-all : (f : ℕ → ℕ) (row : List ℕ) → filled f (length row) row ≡ map f (range_with_len 0 (length row))
filled-all f row =
    ap (λ rest. map f (range_with_len 0 (length row)) ++ rest) (drop_all (length row) row (omega arith))
    ∙ append-nil (map f (range_with_len 0 (length row)))

-- a name of a loop's body, the counter `i` among them
abbrev pub with_share : List Binding → ℕ → List Binding
with_share scope n = scope ++ record { name = codes "i"; meaning = counter n } ∷ []

-- the state of the loop before share n
abbrev pub before_share : List Binding → (ℕ → ℕ) → ℕ → List ℕ → List (List ℕ) → List ℕ → ℕ → State
before_share scope f rc row memory stream n = record { scope = scope; memory = set memory rc (filled f n row); stream = stream }

-- what the loop's body finds: `c` is a row of d words, and the value of each share is computed without a draw
pub record AssignsShares (d bits start : ℕ) (value : CExpr) (scope : List Binding) (f : ℕ → ℕ) (rc : ℕ) (row : List ℕ) (memory : List (List ℕ)) (stream : List ℕ) : Type 0 where
  pub count : length row ≡ d
  pub within : rc < length memory
  pub array : (n : ℕ) → row_of (meant_by (with_share scope n) (codes "c")) ≡ Some rc
  pub place : (n : ℕ) → index_value (with_share scope n) (index.Counter (codes "i")) ≡ n
  pub small : (n : ℕ) → n < d → f n < 2 ^ bits
  pub computes : (n : ℕ) → start ≤ n → n < d → evaluated value (with_share scope n) (set memory rc (filled f n row)) stream ≡ Ok (f n, stream)

module _ (d bits start : ℕ) (value : CExpr) (scope : List Binding) (f : ℕ → ℕ) (rc : ℕ) (row : List ℕ) (memory : List (List ℕ)) (stream : List ℕ)
    (it : AssignsShares d bits start value scope f rc row memory stream) where
  abbrev pub state_at : ℕ → State
  state_at = before_share scope f rc row memory stream

  abbrev body : Action
  body = in_turn (map (executed d bits) (assign (codes "c") (codes "i") value ∷ []))

  writes : (n : ℕ) → n < d
      → with_word (set memory rc (filled f n row)) (row_of (meant_by (with_share scope n) (codes "c")))
      (index_value (with_share scope n) (index.Counter (codes "i"))) (f n % 2 ^ bits)
      ≡ Some (set memory rc (filled f (n + 1) row))
  writes n below =
      let held : get_or (set memory rc (filled f n row)) rc [] ≡ filled f n row = get_or-set_same memory rc (filled f n row) [] it.within in
      let many : length (get_or (set memory rc (filled f n row)) rc []) ≡ d =
      ap length held ∙ length-filled f n row (omega (arith, it.count)) ∙ it.count in
      let fits : f n % 2 ^ bits ≡ f n = mod-eq_of_lt (it.small n below) in
      (λ k. with_word (set memory rc (filled f n row)) (it.array n k) (it.place n k) (fits k))
      ∙ cond-true _ _ _ (lt-ltb n (length (get_or (set memory rc (filled f n row)) rc [])) (omega (arith, many)))
      ∙ ap Some (ap (λ r. set (set memory rc (filled f n row)) rc (set r n (f n))) held
      ∙ set-set memory rc (filled f n row) (set (filled f n row) n (f n))
      ∙ ap (set memory rc) (filled-next f n row (omega (arith, it.count))))

  round : (n : ℕ) → start ≤ n → n < d
      → closed (length scope) (body (entered (state_at n) (codes "i") (counter n))) ≡ Ok (state_at (n + 1))
  round n from below =
      let inner = entered (state_at n) (codes "i") (counter n) in
      let step = executed-assign d bits inner (codes "c") (index.Counter (codes "i")) value
      ∙ ap (assigned bits inner (codes "c") (index.Counter (codes "i"))) (it.computes n from below)
      ∙ ap (stored inner stream) (writes n below) in
      ap (λ o. closed (length scope) (then_do o (in_turn []))) step
      ∙ ap (λ sc. Ok (record { scope = sc; memory = set memory rc (filled f (n + 1) row); stream = stream })) (take-append_seam scope _)

  rounds_on : (k n : ℕ) → n + k ≡ d → start ≤ n → rounds (codes "i") body k n (state_at n) ≡ Ok (state_at d)
  rounds_on zero n end from =
      let last : n ≡ d = omega (arith, end) in
      ap (λ m. Ok (state_at m)) last
  rounds_on (suc k) n end from =
      let next : n + 1 ≡ suc n = omega arith in
      ap (λ o. then_do o (rounds (codes "i") body k (suc n))) (round n from (omega (arith, end)))
      ∙ ap (λ m. rounds (codes "i") body k (suc n) (state_at m)) next
      ∙ rounds_on k (suc n) (omega (arith, end)) (omega (arith, from))

  -- the loop leaves all shares from `start` on as f gives them
  pub shares_assigned : start ≤ d
      → executed d bits (assign_from start value) (state_at start)
      ≡ Ok (record { scope = scope; memory = set memory rc (map f (range_with_len 0 d)); stream = stream })
  shares_assigned from =
      executed-for d bits (state_at start) (codes "i") (low.Number start) (assign (codes "c") (codes "i") value ∷ [])
      ∙ rounds_on (d - start) start (omega (arith, from)) (omega arith)
      ∙ ap (λ r. Ok (record { scope = scope; memory = set memory rc r; stream = stream }))
      (ap (λ n. filled f n row) (sym it.count) ∙ filled-all f row ∙ ap (λ n. map f (range_with_len 0 n)) it.count)
