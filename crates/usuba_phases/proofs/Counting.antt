-- Counts of elements that stop at a greatest number, and what is tested of them.
use Rattle.std.proofs.Common.{◌≡◌, inl, inr, ℕ, zero, suc, ◌+◌, ◌*◌, ◌<◌, ◌≤◌, min, Bool, true, false, ◌||◌, List, []}
use Rattle.std.proofs.Common.{◌∷◌, ◌++◌, length, drop, get_or, Option, Some, None, sym, ap, ◌∙◌, arith}
use Rattle.std.specs.Prelude.{not, nat_lt, ◌==◌, if◌then◌else◌}
use Rattle.std.specs.List.{list_any}
use Rattle.std.specs.Option.{unwrap_or}
use Rattle.std.proofs.Math.Nat.{mul_assoc, mul_comm}
use Rattle.std.proofs.lemmas.Bool.{cases_lt, cases_eq, lt-ltb, le-ltb, eq-eqb, ne_eqb, or_parts, ltb-false}
use Rattle.std.proofs.lemmas.List.{drop_more, drop_all}
use Rattle.usuba_trees.specs.declared.Decl.{Decl}
use Rattle.usuba_model.specs.Entries.{has_wrong_entries, is_bad_table, is_bad_permutation, is_no_input}
use Rattle.usuba_model.specs.Shapes.{count_size, sizes, product, elements, all_elements}

-- a product whose factor stopped at m
capped-product : (a b m : ℕ) → min (min a m * b) m ≡ min (a * b) m
capped-product a b m =
    elim (cases_lt m a) [
      | inl above ↦ over b above
      | inr within ↦ (let same : min a m ≡ a = omega arith in ap (λ x. min (x * b) m) same)
    ]
  where
    over : (b : ℕ) → m < a → min (min a m * b) m ≡ min (a * b) m
    over zero above = omega arith
    over (suc k) above =
        let same : min a m ≡ m = omega arith in
        let stopped : min (m * suc k) m ≡ min (a * suc k) m = omega arith in
        ap (λ x. min (x * suc k) m) same ∙ stopped

-- a sum whose parts stopped at m
capped-sum : (c x r m : ℕ) → min (min (c + min x m) m + r) m ≡ min (c + (x + r)) m
capped-sum c x r m = omega arith

product-append : (a b : List ℕ) → product (a ++ b) ≡ product a * product b
product-append [] b = omega arith
product-append (size ∷ a) b = ap (λ p. size * p) (product-append a b) ∙ sym (mul_assoc size (product a) (product b))

-- one more size was multiplied
pub elements-step : (sizes : List ℕ) (i m before after whole : ℕ) → i < length sizes
    → after ≡ min (before * get_or sizes i 0) m
    → min (before * product (drop i sizes)) m ≡ whole → min (after * product (drop (i + 1) sizes)) m ≡ whole
elements-step sizes i m before after whole within now so_far =
    let size : ℕ = get_or sizes i 0 in
    let rest : ℕ = product (drop (i + 1) sizes) in
    ap (λ c. min (c * rest) m) now ∙ capped-product (before * size) rest m
    ∙ ap (λ p. min p m) (mul_assoc before size rest)
    ∙ ap (λ l. min (before * product l) m) (sym (drop_more sizes i 0 within)) ∙ so_far

-- all sizes were multiplied
pub elements-end : (sizes : List ℕ) (i m before whole : ℕ) → length sizes ≤ i → before ≤ m
    → min (before * product (drop i sizes)) m ≡ whole → before ≡ whole
elements-end sizes i m before whole past fits so_far =
    let all : min (before * 1) m ≡ whole = ap (λ l. min (before * product l) m) (sym (drop_all i sizes past))
    ∙ so_far in omega arith

-- the count of a type, and its dimensions
pub elements-starts : (d : Decl) (count : ℕ) → count ≡ unwrap_or d.shape.count 1
    → count * product d.shape.dims ≡ elements d
elements-starts d count is = ap (λ c. c * product d.shape.dims) is ∙ at d.shape.count
  where
    at : (count : Option ℕ) → unwrap_or count 1 * product d.shape.dims ≡ product (d.shape.dims ++ count_size count)
    at (Some count) =
        mul_comm count (product d.shape.dims)
        ∙ (let one : product d.shape.dims * count ≡ product d.shape.dims * (count * 1) = omega arith in one)
        ∙ sym (product-append d.shape.dims (count ∷ []))
    at None =
        (let one : 1 * product d.shape.dims ≡ product d.shape.dims * 1 = omega arith in one)
        ∙ sym (product-append d.shape.dims [])

-- one more variable was counted
pub all-step : (ds : List Decl) (i m : ℕ) (d : Decl) (before found after whole : ℕ) → drop i ds ≡ d ∷ drop (i + 1) ds
    → found ≡ min (elements d) m → after ≡ min (before + found) m
    → min (before + all_elements (drop i ds)) m ≡ whole → min (after + all_elements (drop (i + 1) ds)) m ≡ whole
all-step ds i m d before found after whole opened gives now so_far =
    let rest : ℕ = all_elements (drop (i + 1) ds) in
    ap (λ c. min (c + rest) m) (now ∙ ap (λ f. min (before + f) m) gives) ∙ capped-sum before (elements d) rest m
    ∙ ap (λ l. min (before + all_elements l) m) (sym opened) ∙ so_far

-- all variables were counted
pub all-end : (ds : List Decl) (i m before whole : ℕ) → length ds ≤ i → before ≤ m
    → min (before + all_elements (drop i ds)) m ≡ whole → before ≡ whole
all-end ds i m before whole past fits so_far =
    let all : min (before + 0) m ≡ whole = ap (λ l. min (before + all_elements l) m) (sym (drop_all i ds past))
    ∙ so_far in omega arith

-- a count that stopped at m is above a small number as the count is
capped-lt : (k n m : ℕ) → k < m → nat_lt k (min n m) ≡ nat_lt k n
capped-lt k n m small =
    elim (cases_lt k n) [
      | inl below ↦ (let capped : k < min n m = omega arith in lt-ltb k (min n m) capped ∙ sym (lt-ltb k n below))
      | inr above ↦ (let capped : min n m ≤ k = omega arith in le-ltb k (min n m) capped ∙ sym (le-ltb k n above))
    ]

-- it is a smaller number as the count is
capped-eq : (k n m : ℕ) → k < m → (k == min n m) ≡ (k == n)
capped-eq k n m small =
    elim (cases_eq k n) [
      | inl same ↦ (let capped : k ≡ min n m = omega arith in eq-eqb k (min n m) capped ∙ sym (eq-eqb k n same))
      | inr other ↦ (let capped : k ≡ min n m → ⊥ = λ h. other (omega arith) in ne_eqb k (min n m) capped
          ∙ sym (ne_eqb k n other))
    ]

-- an entry is above it as it is above the count
pub capped-no_input : (n m entry : ℕ) → entry ≤ m → is_no_input (min n m) entry ≡ is_no_input n entry
capped-no_input n m entry fits =
    ap (λ above. entry == 0 || above)
    (elim (cases_lt n entry) as (λ _. nat_lt (min n m) entry ≡ nat_lt n entry) [
      | inl below ↦ (let capped : min n m < entry = omega arith in lt-ltb (min n m) entry capped
          ∙ sym (lt-ltb n entry below))
      | inr above ↦ (let capped : entry ≤ min n m = omega arith in le-ltb (min n m) entry capped
          ∙ sym (le-ltb n entry above))
    ])

-- a table that is too large is bad
pub table-large : (n m inputs outputs top : ℕ) (entries : List ℕ) → 64 < top → inputs ≡ min n top → outputs ≡ min m top
    → true ≡ (nat_lt 8 inputs || nat_lt 64 outputs) → true ≡ is_bad_table n m entries
table-large n m inputs outputs top entries small inputs_are outputs_are large =
    ap (λ b. if b then true else has_wrong_entries n m entries)
    (large ∙ ap (λ x. nat_lt 8 x || nat_lt 64 outputs) inputs_are
    ∙ ap (λ x. nat_lt 8 (min n top) || nat_lt 64 x) outputs_are
    ∙ ap (λ b. b || nat_lt 64 (min m top)) (capped-lt 8 n top (omega arith))
    ∙ ap (λ b. nat_lt 8 n || b) (capped-lt 64 m top small))

-- one that is not is bad where its entries are
pub table-small : (n m inputs outputs top : ℕ) (entries : List ℕ) (wrong : Bool) → 64 < top → inputs ≡ min n top
    → outputs ≡ min m top
    → false ≡ (nat_lt 8 inputs || nat_lt 64 outputs) → wrong ≡ has_wrong_entries inputs outputs entries
    → wrong ≡ is_bad_table n m entries
table-small n m inputs outputs top entries wrong small inputs_are outputs_are large is =
    let parts = or_parts (nat_lt 8 inputs) (nat_lt 64 outputs) (sym large) in
    let few : inputs ≤ 8 = ltb-false 8 inputs parts.0 in
    let narrow : outputs ≤ 64 = ltb-false 64 outputs parts.1 in
    let same_inputs : inputs ≡ n = omega arith in
    let same_outputs : outputs ≡ m = omega arith in
    is ∙ ap (λ x. has_wrong_entries x outputs entries) same_inputs
    ∙ ap (λ x. has_wrong_entries n x entries) same_outputs
    ∙ ap (λ b. if b then true else has_wrong_entries n m entries)
    (large ∙ ap (λ x. nat_lt 8 x || nat_lt 64 outputs) same_inputs ∙ ap (λ x. nat_lt 8 n || nat_lt 64 x) same_outputs)

-- a permutation with a wrong count of entries is bad
pub permutation-count : (n m outputs top : ℕ) (entries : List ℕ) → length entries < top → outputs ≡ min m top
    → (length entries ≡ outputs → ⊥) → true ≡ is_bad_permutation n m entries
permutation-count n m outputs top entries small is other =
    ap (λ b. not b || list_any (is_no_input n) entries)
    (sym (ne_eqb (length entries) outputs other) ∙ ap (λ x. length entries == x) is
    ∙ capped-eq (length entries) m top small)

-- one with the right count is bad where an entry is no input
pub permutation-entries : (n m outputs top : ℕ) (entries : List ℕ) (outside : Bool) → length entries < top
    → outputs ≡ min m top
    → length entries ≡ outputs → outside ≡ list_any (is_no_input n) entries → outside ≡ is_bad_permutation n m entries
permutation-entries n m outputs top entries outside small is same found =
    found
    ∙ ap (λ b. not b || list_any (is_no_input n) entries)
    (sym (eq-eqb (length entries) outputs same) ∙ ap (λ x. length entries == x) is
    ∙ capped-eq (length entries) m top small)

-- one more entry was tested
pub any-step : (test : ℕ → Bool) (entries : List ℕ) (i : ℕ) (whole : Bool) → i < length entries
    → test (get_or entries i 0) ≡ false
    → list_any test (drop i entries) ≡ whole → list_any test (drop (i + 1) entries) ≡ whole
any-step test entries i whole within passes so_far =
    ap (λ b. b || list_any test (drop (i + 1) entries)) (sym passes)
    ∙ ap (list_any test) (sym (drop_more entries i 0 within)) ∙ so_far

-- an entry was found
pub any-found : (test : ℕ → Bool) (entries : List ℕ) (i : ℕ) (whole : Bool) → i < length entries
    → test (get_or entries i 0) ≡ true
    → list_any test (drop i entries) ≡ whole → true ≡ whole
any-found test entries i whole within found so_far =
    ap (λ b. b || list_any test (drop (i + 1) entries)) (sym found)
    ∙ ap (list_any test) (sym (drop_more entries i 0 within)) ∙ so_far

-- all entries were tested
pub any-end : (test : ℕ → Bool) (entries : List ℕ) (i : ℕ) (whole : Bool) → length entries ≤ i
    → list_any test (drop i entries) ≡ whole → false ≡ whole
any-end test entries i whole past so_far = ap (list_any test) (sym (drop_all i entries past)) ∙ so_far
