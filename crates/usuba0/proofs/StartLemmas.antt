-- The places at the start of a walk.
use Rattle.std.proofs.Common.{◌≡◌, ◌≢◌, ℕ, zero, suc, ◌+◌, ◌-◌, ◌<◌, ◌≤◌, Bool, ne_eqb, eq-eqb, List, [], ◌∷◌, ◌++◌, length, get_or, replicate, refl, sym, ap, subst, ◌∙◌, arith, length-append, if◌then◌else◌, true≢false}
use Rattle.std.specs.List.{range_with_len}
use Rattle.std.proofs.lemmas.List.{get_or_append_left, get_or-append-add, get_or-replicate, length-replicate}
use Rattle.std.proofs.lemmas.List.FromFn.{length-range_with_len, get_or-range_with_len}
use Rattle.usuba0.specs.declared.builder.Head.{Head}
use Rattle.usuba0.specs.State.Heads.{IsBuilder}
use Rattle.usuba0.specs.State.Walk.{unplaced, count_unplaced, IsWalk}

-- a range with one more number
pub range-push : (a k : ℕ) → range_with_len a (k + 1) ≡ range_with_len a k ++ (a + k) ∷ []
range-push a zero = let e : a ≡ a + 0 = omega arith in ap (λ (m : ℕ). m ∷ []) e
range-push a (suc k) =
    let one : suc k + 1 ≡ suc (k + 1) = omega arith in
    let place : (a + 1) + k ≡ a + suc k = omega arith in
    ap (range_with_len a) one ∙ ap (λ (l : List ℕ). a ∷ l) (range-push (a + 1) k ∙ ap (λ (m : ℕ). range_with_len (a + 1) k ++ m ∷ []) place)

count_range : (a n m : ℕ) → a + n ≤ unplaced → count_unplaced (range_with_len a n ++ replicate m unplaced) ≡ m
count_range a zero zero h = refl
count_range a zero (suc m) h =
    ap (λ (r : Bool). if r then count_unplaced (replicate m unplaced) + 1 else count_unplaced (replicate m unplaced)) (eq-eqb unplaced unplaced refl)
    ∙ (let e = count_range a zero m h in omega arith)
count_range a (suc n) m h =
    let differs : a ≢ unplaced = λ e. absurd (omega arith) in
    let rest = range_with_len (a + 1) n ++ replicate m unplaced in
    ap (λ (r : Bool). if r then count_unplaced rest + 1 else count_unplaced rest) (ne_eqb a unplaced differs) ∙ count_range (a + 1) n m (omega arith)

other_place : (n m i : ℕ) → n ≤ i → i < n + m → get_or (range_with_len 0 n ++ replicate m unplaced) i 0 ≡ unplaced
other_place n m i h l =
    let lr = length-range_with_len 0 n in
    let place : length (range_with_len 0 n) + (i - n) ≡ i = omega arith in
    ap (λ (k : ℕ). get_or (range_with_len 0 n ++ replicate m unplaced) k 0) (sym place)
    ∙ get_or-append-add (range_with_len 0 n) (replicate m unplaced) (i - n) 0
    ∙ get_or-replicate m (i - n) unplaced 0 (omega arith)

-- the inputs have their registers, and no other term has one
pub start_walk : (w n : ℕ) (heads : List Head) (places order : List ℕ) → IsBuilder w n heads → places ≡ range_with_len 0 n ++ replicate (length heads) unplaced → order ≡ []
    → IsWalk w n heads places order
start_walk w n heads places order builder p o =
    let m = length heads in
    let lr = length-range_with_len 0 n in
    let lo = length-replicate m unplaced in
    let la = length-append (range_with_len 0 n) (replicate m unplaced) in
    let few = builder.few in
    let counted = count_range 0 n m (omega arith) in
    subst (λ (l : List ℕ). IsWalk w n heads places l) (sym o)
    (subst (λ (l : List ℕ). IsWalk w n heads l []) (sym p)
    (record {
      all = omega arith;
      inputs = λ i l. get_or_append_left (range_with_len 0 n) (replicate m unplaced) 0 i (omega arith) ∙ get_or-range_with_len 0 n i 0 l ∙ zero_more i;
      placed = λ k l. absurd (omega arith);
      others = λ i l h q. absurd (q (other_place n m i l h));
      room = omega arith;
      gates = λ k h l e. absurd (omega arith);
      closed = λ t e. absurd (true≢false (sym e));
    }))
  where
    zero_more : (i : ℕ) → 0 + i ≡ i
    zero_more i = omega arith

-- the same of a range from 0
pub range-push_zero : (k : ℕ) → range_with_len 0 (k + 1) ≡ range_with_len 0 k ++ k ∷ []
range-push_zero k = let e : 0 + k ≡ k = omega arith in range-push 0 k ∙ ap (λ (m : ℕ). range_with_len 0 k ++ m ∷ []) e
