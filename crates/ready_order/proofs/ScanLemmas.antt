-- What holds of a scan stays when instances are considered.
use Rattle.std.proofs.Common.{◌≡◌, ◌<◌, ◌≤◌, ◌⊎◌, inl, inr, ℕ, zero, suc, Bool, true, false, not, ◌||◌, List, [], ◌∷◌, ◌++◌, length, map, set, replicate, refl, sym, ap, ◌∙◌, subst, arith, length-set}
use Rattle.std.specs.Prelude.{nat_eq, if◌then◌else◌, slice_index_or}
use Rattle.std.proofs.lemmas.Bool.{eqb-true, eqb-false, ne_eqb, and_parts, not-true, cases_lt}
use Rattle.std.proofs.lemmas.List.{get_or_past, get_or_default, length_push, map_push, length-replicate}
use Rattle.usuba_code.specs.Code.{Coded, coded_at}
use Rattle.ready_order.specs.Numbered.{is_one_of, input_numbers, left_numbers, numbers_read, assigned_numbers, is_ready_numbered, AreBelow}
use Rattle.ready_order.specs.Order.{AreReady, AreDistinct}
use Rattle.ready_order.specs.State.Marks.{is_marked, all_marked, reads_marked}
use Rattle.ready_order.specs.State.Scan.{Progress, is_open, considered, all_considered, set_count, known_along, IsScan}
use Rattle.ready_order.proofs.Among.{false_true, one_of-append, one_of_left, one_of_right, all_same, AllBelow}
use Rattle.ready_order.proofs.MarkLemmas.{StandFor, mark_at, all_marked_at, length-all_marked, none_marked, inputs_stand, length-inputs}

pub known_along-append : (a b : List Coded) (known : List ℕ) → known_along known (a ++ b) ≡ known_along (known_along known a) b
known_along-append [] b known = refl
known_along-append (i ∷ a) b known = known_along-append a b (left_numbers i ++ known)

-- one more instance that is ready when all others were taken
pub ready_push : (a : List Coded) (i : Coded) (known : List ℕ) → AreReady known a → is_ready_numbered (known_along known a) i ≡ true
    → AreReady known (a ++ i ∷ [])
ready_push [] i known ready here = (here, tt)
ready_push (j ∷ a) i known ready here = (ready.0, ready_push a i (left_numbers j ++ known) ready.1 here)

pub distinct_push : (order : List ℕ) (k : ℕ) → AreDistinct order → is_one_of order k ≡ false → AreDistinct (order ++ k ∷ [])
distinct_push [] k distinct new = (refl, tt)
distinct_push (x ∷ order) k distinct new = (
  one_of-append order (k ∷ []) x ∙ both_false (is_one_of order x) (is_one_of (k ∷ []) x) distinct.0
      (ap (λ (b : Bool). b || false) (ne_eqb x k (λ e. differs (sym e)))),
  distinct_push order k distinct.1 (second_false (nat_eq k x) (is_one_of order k) new),
)
  where
    both_false : (a b : Bool) → a ≡ false → b ≡ false → (a || b) ≡ false
    both_false true b e f = false_true (sym e)
    both_false false b e f = f

    second_false : (a b : Bool) → (a || b) ≡ false → b ≡ false
    second_false true b e = false_true (sym e)
    second_false false b e = e

    differs : k ≡ x → ⊥
    differs e = eqb-false k x (first_false (nat_eq k x) (is_one_of order k) new) e
      where
        first_false : (a b : Bool) → (a || b) ≡ false → a ≡ false
        first_false true b e = false_true (sym e)
        first_false false b e = refl

-- what one instance assigns, some instance assigns
pub left_assigned : (instances : List Coded) (k c : ℕ) → is_one_of (left_numbers (coded_at instances k)) c ≡ true
    → is_one_of (assigned_numbers instances) c ≡ true
left_assigned [] k c m = false_true m
left_assigned (i ∷ instances) zero c m = one_of_left (left_numbers i) (assigned_numbers instances) c m
left_assigned (i ∷ instances) (suc k) c m =
    one_of_right (left_numbers i) (assigned_numbers instances) c (left_assigned instances k c m)

pub set_count_more : (marks : List Bool) (k : ℕ) → k < length marks → is_marked marks k ≡ false → set_count (set marks k true) ≡ suc (set_count marks)
set_count_more [] k h e = absurd (omega (arith, h))
set_count_more (true ∷ marks) zero h e = false_true (sym e)
set_count_more (false ∷ marks) zero h e = refl
set_count_more (true ∷ marks) (suc k) h e = ap suc (set_count_more marks k (omega (arith, h)) e)
set_count_more (false ∷ marks) (suc k) h e = set_count_more marks k (omega (arith, h)) e

pub set_count_within : (marks : List Bool) → set_count marks ≤ length marks
set_count_within [] = omega arith
set_count_within (true ∷ marks) = let more = set_count_within marks in omega (arith, more)
set_count_within (false ∷ marks) = let more = set_count_within marks in omega (arith, more)

pub set_count_none : (n : ℕ) → set_count (replicate n false) ≡ 0
set_count_none zero = refl
set_count_none (suc n) = set_count_none n

pub set_count_all : (marks : List Bool) → ((k : ℕ) → k < length marks → is_marked marks k ≡ true) → set_count marks ≡ length marks
set_count_all [] all = refl
set_count_all (true ∷ marks) all = ap suc (set_count_all marks (λ k h. all (suc k) (omega (arith, h))))
set_count_all (false ∷ marks) all = false_true (all 0 (omega arith))

-- what is not taken by the stricter reading is an instance's number, and not taken
pub open_is : (taken : List Bool) (k : ℕ) → slice_index_or taken k true ≡ false → (k < length taken) × (is_marked taken k ≡ false)
open_is taken k e = elim (cases_lt k (length taken)) [
  | inl lt ↦ (lt, get_or_default taken k false true lt ∙ e)
  | inr ge ↦ false_true (sym e ∙ get_or_past taken k true ge)
]

-- code reads marked cells only where it is ready, for the cells that the marks stand for
pub reads_are_ready : (marks : List Bool) (known : List ℕ) → StandFor marks known → (instance : Coded)
    → reads_marked marks instance.code ≡ is_ready_numbered known instance
reads_are_ready marks known stand instance = all_same (is_marked marks) (is_one_of known) stand (numbers_read instance.code)

swapped_or : (a b : Bool) → (a || b) ≡ (b || (a || false))
swapped_or true true = refl
swapped_or true false = refl
swapped_or false true = refl
swapped_or false false = refl

-- a scan with one more instance taken
abbrev taken_at : List Coded → ℕ → Progress → Progress
taken_at instances k scan = record {
  known = all_marked scan.known (left_numbers (coded_at instances k));
  taken = set scan.taken k true;
  order = scan.order ++ k ∷ [];
}

module _ (inputs cells : ℕ) (instances : List Coded) (below : AreBelow cells instances) where
  -- an open instance is taken
  taken_kept : (scan : Progress) → IsScan inputs cells instances scan → (k : ℕ) → is_open instances k scan ≡ true
      → IsScan inputs cells instances (taken_at instances k scan)
  taken_kept scan is k may_take = record {
    wide = length-all_marked (left_numbers (coded_at instances k)) scan.known ∙ is.wide;
    as_many = length-set scan.taken k true ∙ is.as_many;
    known = λ c. all_marked_at (left_numbers (coded_at instances k)) scan.known c narrow
        ∙ ap (λ (b : Bool). is_one_of (left_numbers (coded_at instances k)) c || b) (is.known c)
        ∙ sym (one_of-append (left_numbers (coded_at instances k)) before c)
        ∙ ap (λ known. is_one_of known c) (sym (known_along-append along (coded_at instances k ∷ []) (input_numbers inputs)))
        ∙ ap (λ along. is_one_of (known_along (input_numbers inputs) along) c) (sym (map_push (coded_at instances) scan.order k));
    taken = λ j. mark_at scan.taken k j free.0 ∙ ap (λ (b : Bool). nat_eq j k || b) (is.taken j)
        ∙ swapped_or (nat_eq j k) (is_one_of scan.order j) ∙ sym (one_of-append scan.order (k ∷ []) j);
    count = set_count_more scan.taken k free.0 free.1 ∙ ap suc is.count ∙ pushed;
    distinct = distinct_push scan.order k is.distinct (sym (is.taken k) ∙ free.1);
    ready = subst (AreReady (input_numbers inputs)) (sym (map_push (coded_at instances) scan.order k))
        (ready_push along (coded_at instances k) (input_numbers inputs) is.ready
        (sym (reads_are_ready scan.known before is.known (coded_at instances k)) ∙ parts.1));
  }
    where
      along : List Coded
      along = map (coded_at instances) scan.order

      before : List ℕ
      before = known_along (input_numbers inputs) along

      parts : (not (slice_index_or scan.taken k true) ≡ true) × (reads_marked scan.known (coded_at instances k).code ≡ true)
      parts = and_parts (not (slice_index_or scan.taken k true)) (reads_marked scan.known (coded_at instances k).code) may_take

      free : (k < length scan.taken) × (is_marked scan.taken k ≡ false)
      free = open_is scan.taken k (not-true (slice_index_or scan.taken k true) parts.0)

      narrow : AllBelow (length scan.known) (left_numbers (coded_at instances k))
      narrow c m = subst (λ (n : ℕ). c < n) (sym is.wide) (below.assigned c (left_assigned instances k c m))

      pushed : suc (length scan.order) ≡ length (scan.order ++ k ∷ [])
      pushed = let more = length_push scan.order k in omega (arith, more)

  -- an instance is considered
  pub considered_kept : (scan : Progress) → IsScan inputs cells instances scan → (k : ℕ) → IsScan inputs cells instances (considered instances k scan)
  considered_kept scan is k = of_it (is_open instances k scan) refl
    where
      of_it : (b : Bool) → is_open instances k scan ≡ b
          → IsScan inputs cells instances (if b then taken_at instances k scan else scan)
      of_it true may_take = taken_kept scan is k may_take
      of_it false closed = is

  -- instances are considered one after another
  pub all_kept : (ks : List ℕ) (scan : Progress) → IsScan inputs cells instances scan → IsScan inputs cells instances (all_considered instances ks scan)
  all_kept [] scan is = is
  all_kept (k ∷ ks) scan is = all_kept ks (considered instances k scan) (considered_kept scan is k)

-- a scan at its beginning
pub begun : (inputs cells : ℕ) (instances : List Coded) → inputs ≤ cells
    → IsScan inputs cells instances (record {
      known = all_marked (replicate cells false) (input_numbers inputs);
      taken = replicate (length instances) false;
      order = [];
    })
begun inputs cells instances le = record {
  wide = length-inputs inputs cells;
  as_many = length-replicate (length instances) false;
  known = inputs_stand inputs cells le;
  taken = none_marked (length instances);
  count = set_count_none (length instances);
  distinct = tt;
  ready = tt;
}

module _ (instances : List Coded) where
  -- what considering an instance keeps, whatever else holds: there are as many marks, and as many set as are in order
  pub considered_as_many : (k : ℕ) (scan : Progress) → length (considered instances k scan).taken ≡ length scan.taken
  considered_as_many k scan = of_it (is_open instances k scan)
    where
      after : Bool → Progress
      after b = if b then taken_at instances k scan else scan

      of_it : (b : Bool) → length (after b).taken ≡ length scan.taken
      of_it true = length-set scan.taken k true
      of_it false = refl

  pub all_as_many : (ks : List ℕ) (scan : Progress) → length (all_considered instances ks scan).taken ≡ length scan.taken
  all_as_many [] scan = refl
  all_as_many (k ∷ ks) scan = all_as_many ks (considered instances k scan) ∙ considered_as_many k scan

  pub considered_count : (k : ℕ) (scan : Progress) → set_count scan.taken ≡ length scan.order
      → set_count (considered instances k scan).taken ≡ length (considered instances k scan).order
  considered_count k scan count = of_it (is_open instances k scan) refl
    where
      after : Bool → Progress
      after b = if b then taken_at instances k scan else scan

      of_it : (b : Bool) → is_open instances k scan ≡ b → set_count (after b).taken ≡ length (after b).order
      of_it true may_take =
          let parts = and_parts (not (slice_index_or scan.taken k true)) (reads_marked scan.known (coded_at instances k).code) may_take in
          let free = open_is scan.taken k (not-true (slice_index_or scan.taken k true) parts.0) in
          let more = length_push scan.order k in
          let set_more = set_count_more scan.taken k free.0 free.1 in
          omega (arith, more, set_more, count)
      of_it false closed = count

  pub all_count : (ks : List ℕ) (scan : Progress) → set_count scan.taken ≡ length scan.order
      → set_count (all_considered instances ks scan).taken ≡ length (all_considered instances ks scan).order
  all_count [] scan count = count
  all_count (k ∷ ks) scan count = all_count ks (considered instances k scan) (considered_count k scan count)

  -- the order never gets shorter, and a scan whose order is as long as before is the same, with nothing open among what was considered
  grows_at : (k : ℕ) (scan : Progress) → ((is_open instances k scan ≡ false) × (considered instances k scan ≡ scan))
      ⊎ (length scan.order < length (considered instances k scan).order)
  grows_at k scan = of_it (is_open instances k scan) refl
    where
      after : Bool → Progress
      after b = if b then taken_at instances k scan else scan

      of_it : (b : Bool) → is_open instances k scan ≡ b → ((is_open instances k scan ≡ false) × (after b ≡ scan)) ⊎ (length scan.order < length (after b).order)
      of_it true may_take = let more = length_push scan.order k in inr (omega (arith, more))
      of_it false closed = inl (closed, refl)

  pub grows : (ks : List ℕ) (scan : Progress) → length scan.order ≤ length (all_considered instances ks scan).order
  grows [] scan = omega arith
  grows (k ∷ ks) scan = elim (grows_at k scan) [
    | inl same ↦ (
        let later = grows ks (considered instances k scan) in
        let e = ap (λ (s : Progress). length s.order) same.1 in
        omega (arith, later, e)
        )
    | inr more ↦ (let later = grows ks (considered instances k scan) in omega (arith, later, more))
  ]

  pub nothing_moved : (ks : List ℕ) (scan : Progress) → length (all_considered instances ks scan).order ≤ length scan.order
      → (all_considered instances ks scan ≡ scan) × ((k : ℕ) → is_one_of ks k ≡ true → is_open instances k scan ≡ false)
  nothing_moved [] scan short = (refl, λ k m. false_true m)
  nothing_moved (k ∷ ks) scan short = elim (grows_at k scan) [
    | inl same ↦ at_same same.0 same.1 (nothing_moved ks (considered instances k scan) (shorter same.1))
    | inr more ↦ (let later = grows ks (considered instances k scan) in absurd (omega (arith, later, more, short)))
  ]
    where
      shorter : considered instances k scan ≡ scan
          → length (all_considered instances ks (considered instances k scan)).order ≤ length (considered instances k scan).order
      shorter same = let e = ap (λ (s : Progress). length s.order) same in omega (arith, e, short)

      at_same : is_open instances k scan ≡ false → considered instances k scan ≡ scan
          → ((all_considered instances ks (considered instances k scan) ≡ considered instances k scan)
          × ((j : ℕ) → is_one_of ks j ≡ true → is_open instances j (considered instances k scan) ≡ false))
          → (all_considered instances ks (considered instances k scan) ≡ scan)
          × ((j : ℕ) → is_one_of (k ∷ ks) j ≡ true → is_open instances j scan ≡ false)
      at_same closed same rest = (
        rest.0 ∙ same,
        λ j m. at_first j (nat_eq j k) refl m,
      )
        where
          at_first : (j : ℕ) (b : Bool) → nat_eq j k ≡ b → (b || is_one_of ks j) ≡ true → is_open instances j scan ≡ false
          at_first j true e m = subst (λ (n : ℕ). is_open instances n scan ≡ false) (sym (eqb-true j k e)) closed
          at_first j false e m = subst (λ (s : Progress). is_open instances j s ≡ false) same (rest.1 j m)

  pub all_considered-append : (a b : List ℕ) (scan : Progress)
      → all_considered instances (a ++ b) scan ≡ all_considered instances b (all_considered instances a scan)
  all_considered-append [] b scan = refl
  all_considered-append (k ∷ a) b scan = all_considered-append a b (considered instances k scan)
