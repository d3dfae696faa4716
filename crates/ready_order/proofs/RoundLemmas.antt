-- What becomes known in rounds: what is taken in a ready order becomes ready in the rounds, and what no scan can take never does.
use Rattle.std.proofs.Common.{◌≡◌, ◌<◌, ◌≤◌, ◌+◌, ◌-◌, ℕ, zero, suc, Bool, true, false, not, ◌||◌, List, [], ◌∷◌, ◌++◌, length, map, refl, sym, ap, ◌∙◌, subst, arith, Some, None}
use Rattle.std.specs.Prelude.{nat_eq, if◌then◌else◌}
use Rattle.std.proofs.lemmas.Bool.{eqb-true}
use Rattle.usuba_model.specs.declared.fault.FaultKind.TheVariants.{Cyclic}
use Rattle.usuba_model.specs.Faults.{first_of}
use Rattle.usuba_code.specs.Code.{Coded, coded_at}
use Rattle.ready_order.specs.Numbered.{is_one_of, left_numbers, numbers_read, is_ready_numbered, numbers_made, numbers_after, first_place, stuck_finding}
use Rattle.ready_order.specs.Order.{AreReady}
use Rattle.ready_order.specs.State.Scan.{known_along}
use Rattle.ready_order.proofs.Among.{false_true, one_of_first, one_of_later, one_of_left, one_of_right, AreAmong, among_append, all_among}

-- more that is known keeps what is ready
pub ready_more : (a b : List ℕ) → AreAmong a b → (instance : Coded) → is_ready_numbered a instance ≡ true → is_ready_numbered b instance ≡ true
ready_more a b more instance ready = all_among a b more (numbers_read instance.code) ready

-- what ready instances among these assign is among these cells
abbrev pub IsClosed : List ℕ → List Coded → Type 0
IsClosed known [] = Unit {0}
IsClosed known (i ∷ instances) = (is_ready_numbered known i ≡ true → AreAmong (left_numbers i) known) × IsClosed known instances

pub closed_from : (known : List ℕ) (instances : List Coded)
    → ((k : ℕ) → k < length instances → is_ready_numbered known (coded_at instances k) ≡ true → AreAmong (left_numbers (coded_at instances k)) known)
    → IsClosed known instances
closed_from known [] each = tt
closed_from known (i ∷ instances) each = (each 0 (omega arith), closed_from known instances (λ k h. each (suc k) (omega (arith, h))))

made_within : (known before : List ℕ) (instances : List Coded) → IsClosed known instances → AreAmong before known
    → AreAmong (numbers_made before instances) known
made_within known before [] closed within = λ c m. false_true m
made_within known before (i ∷ instances) closed within =
    at_first (is_ready_numbered before i) refl (made_within known before instances closed.1 within)
  where
    at_first : (b : Bool) → is_ready_numbered before i ≡ b → AreAmong (numbers_made before instances) known
        → AreAmong (if b then left_numbers i ++ numbers_made before instances else numbers_made before instances) known
    at_first true ready rest =
        among_append (left_numbers i) (numbers_made before instances) known (closed.0 (ready_more before known within i ready)) rest
    at_first false ready rest = rest

-- all rounds stay within cells that are closed
pub after_within : (known : List ℕ) (instances : List Coded) → IsClosed known instances → (inputs : List ℕ) → AreAmong inputs known
    → (n : ℕ) → AreAmong (numbers_after instances n inputs) known
after_within known instances closed inputs within zero = within
after_within known instances closed inputs within (suc n) =
    let before = numbers_after instances n inputs in
    let within' = after_within known instances closed inputs within n in
    among_append (numbers_made before instances) before known (made_within known before instances closed within') within'

-- what a ready instance assigns is made
made_there : (before : List ℕ) (instances : List Coded) (k : ℕ) → k < length instances → is_ready_numbered before (coded_at instances k) ≡ true
    → AreAmong (left_numbers (coded_at instances k)) (numbers_made before instances)
made_there before [] k h ready c m = absurd (omega (arith, h))
made_there before (i ∷ instances) zero h ready c m =
    subst (λ (b : Bool). is_one_of (if b then left_numbers i ++ numbers_made before instances else numbers_made before instances) c ≡ true)
    (sym ready) (one_of_left (left_numbers i) (numbers_made before instances) c m)
made_there before (i ∷ instances) (suc k) h ready c m =
    at_first (is_ready_numbered before i) (made_there before instances k (omega (arith, h)) ready c m)
  where
    at_first : (b : Bool) → is_one_of (numbers_made before instances) c ≡ true
        → is_one_of (if b then left_numbers i ++ numbers_made before instances else numbers_made before instances) c ≡ true
    at_first true rest = one_of_right (left_numbers i) (numbers_made before instances) c rest
    at_first false rest = rest

module _ (instances : List Coded) (inputs : List ℕ) where
  -- what is known stays known
  after_more : (j m : ℕ) → AreAmong (numbers_after instances m inputs) (numbers_after instances (j + m) inputs)
  after_more zero m c e =
      let same : m ≡ 0 + m = omega arith in subst (λ (n : ℕ). is_one_of (numbers_after instances n inputs) c ≡ true) same e
  after_more (suc j) m c e =
      let before = numbers_after instances (j + m) inputs in
      let next : suc (j + m) ≡ suc j + m = omega arith in
      subst (λ (n : ℕ). is_one_of (numbers_after instances n inputs) c ≡ true) next
      (one_of_right (numbers_made before instances) before c (after_more j m c e))

  pub after_later : (m n : ℕ) → m ≤ n → AreAmong (numbers_after instances m inputs) (numbers_after instances n inputs)
  after_later m n le = subst (λ (k : ℕ). AreAmong (numbers_after instances m inputs) (numbers_after instances k inputs)) whole (after_more (n - m) m)
    where
      whole : (n - m) + m ≡ n
      whole = omega (arith, le)

  -- each instance of a ready order is ready after as many rounds as the order is long
  pub in_rounds : (order : List ℕ) (known : List ℕ) (m : ℕ) → AreAmong known (numbers_after instances m inputs)
      → ((k : ℕ) → is_one_of order k ≡ true → k < length instances) → AreReady known (map (coded_at instances) order)
      → (k : ℕ) → is_one_of order k ≡ true → is_ready_numbered (numbers_after instances (length order + m) inputs) (coded_at instances k) ≡ true
  in_rounds [] known m reached within ready k e = false_true e
  in_rounds (x ∷ order) known m reached within ready k e =
      at_first (nat_eq k x) refl e
      (in_rounds order (left_numbers (coded_at instances x) ++ known) (suc m) next (λ j l. within j (one_of_later x order j l)) ready.1 k)
    where
      now : List ℕ
      now = numbers_after instances m inputs

      here : is_ready_numbered now (coded_at instances x) ≡ true
      here = ready_more known now reached (coded_at instances x) ready.0

      next : AreAmong (left_numbers (coded_at instances x) ++ known) (numbers_after instances (suc m) inputs)
      next = among_append (left_numbers (coded_at instances x)) known (numbers_after instances (suc m) inputs)
          (λ c l. one_of_left (numbers_made now instances) now c
          (made_there now instances x (within x (one_of_first x order)) here c l))
          (λ c l. one_of_right (numbers_made now instances) now c (reached c l))

      at_first : (b : Bool) → nat_eq k x ≡ b → (b || is_one_of order k) ≡ true
          → (is_one_of order k ≡ true → is_ready_numbered (numbers_after instances (length order + suc m) inputs) (coded_at instances k) ≡ true)
          → is_ready_numbered (numbers_after instances (length (x ∷ order) + m) inputs) (coded_at instances k) ≡ true
      at_first true same m' rest =
          let later : m ≤ length (x ∷ order) + m = omega arith in
          subst (λ (j : ℕ). is_ready_numbered (numbers_after instances (length (x ∷ order) + m) inputs) (coded_at instances j) ≡ true)
          (sym (eqb-true k x same))
          (ready_more now (numbers_after instances (length (x ∷ order) + m) inputs) (after_later m (length (x ∷ order) + m) later) (coded_at instances x) here)
      at_first false other m' rest =
          let count : length order + suc m ≡ length (x ∷ order) + m = omega arith in
          subst (λ (n : ℕ). is_ready_numbered (numbers_after instances n inputs) (coded_at instances k) ≡ true) count (rest m')

-- what was known before stays known along instances
pub known_stays : (along : List Coded) (known : List ℕ) → AreAmong known (known_along known along)
known_stays [] known c m = m
known_stays (i ∷ along) known c m = known_stays along (left_numbers i ++ known) c (one_of_right (left_numbers i) known c m)

-- what a taken instance assigns is known in the end
pub left_known : (instances : List Coded) (order : List ℕ) (known : List ℕ) (k : ℕ) → is_one_of order k ≡ true
    → AreAmong (left_numbers (coded_at instances k)) (known_along known (map (coded_at instances) order))
left_known instances [] known k m = false_true m
left_known instances (x ∷ order) known k m =
    at_first (nat_eq k x) refl m (left_known instances order (left_numbers (coded_at instances x) ++ known) k)
  where
    after : List ℕ
    after = left_numbers (coded_at instances x) ++ known

    at_first : (b : Bool) → nat_eq k x ≡ b → (b || is_one_of order k) ≡ true
        → (is_one_of order k ≡ true → AreAmong (left_numbers (coded_at instances k)) (known_along after (map (coded_at instances) order)))
        → AreAmong (left_numbers (coded_at instances k)) (known_along after (map (coded_at instances) order))
    at_first true same m' rest =
        subst (λ (j : ℕ). AreAmong (left_numbers (coded_at instances j)) (known_along after (map (coded_at instances) order)))
        (sym (eqb-true k x same))
        (λ c l. known_stays (map (coded_at instances) order) after c (one_of_left (left_numbers (coded_at instances x)) known c l))
    at_first false other m' rest = rest m'

-- no instance is stuck where each is ready
pub none_stuck : (known : List ℕ) (instances : List Coded) → ((k : ℕ) → k < length instances → is_ready_numbered known (coded_at instances k) ≡ true)
    → first_of Cyclic (map (stuck_finding known) instances) ≡ None
none_stuck known [] ready = refl
none_stuck known (i ∷ instances) ready =
    at_first (is_ready_numbered known i) (ready 0 (omega arith)) (none_stuck known instances (λ k h. ready (suc k) (omega (arith, h))))
  where
    at_first : (b : Bool) → b ≡ true → first_of Cyclic (map (stuck_finding known) instances) ≡ None
        → (if not b then Some (record { kind = Cyclic; place = first_place i.targets }) else first_of Cyclic (map (stuck_finding known) instances)) ≡ None
    at_first true e rest = rest
    at_first false e rest = false_true e

-- the first instance that is not ready is the one that is stuck
pub first_stuck : (known : List ℕ) (instances : List Coded) (k : ℕ) → k < length instances
    → ((j : ℕ) → j < k → is_ready_numbered known (coded_at instances j) ≡ true) → is_ready_numbered known (coded_at instances k) ≡ false
    → first_of Cyclic (map (stuck_finding known) instances) ≡ Some (record { kind = Cyclic; place = first_place (coded_at instances k).targets })
first_stuck known [] k h before here = absurd (omega (arith, h))
first_stuck known (i ∷ instances) zero h before here =
    ap (λ (b : Bool). if not b then Some (record { kind = Cyclic; place = first_place i.targets }) else first_of Cyclic (map (stuck_finding known) instances)) here
first_stuck known (i ∷ instances) (suc k) h before here =
    ap (λ (b : Bool). if not b then Some (record { kind = Cyclic; place = first_place i.targets }) else first_of Cyclic (map (stuck_finding known) instances))
    (before 0 (omega arith))
    ∙ first_stuck known instances k (omega (arith, h)) (λ j l. before (suc j) (omega (arith, l))) here
