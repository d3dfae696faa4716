-- A scan in which nothing is open gives a ready order, or the first instance that never becomes ready.
use Rattle.std.proofs.Common.{◌≡◌, ◌<◌, ◌≤◌, ◌+◌, inl, inr, ℕ, Bool, true, false, not, ◌&&◌, List, length, map, refl, sym, ◌∙◌, subst, arith, Some, None}
use Rattle.std.specs.Prelude.{slice_index_or}
use Rattle.std.proofs.lemmas.Bool.{cases_lt}
use Rattle.std.proofs.lemmas.List.{get_or_past, get_or_default}
use Rattle.usuba_model.specs.declared.fault.FaultKind.TheVariants.{Cyclic}
use Rattle.usuba_model.specs.Faults.{first_of}
use Rattle.usuba_code.specs.Code.{Coded, coded_at}
use Rattle.ready_order.specs.Numbered.{is_one_of, input_numbers, is_ready_numbered, numbers_after, first_place, cyclic_numbered}
use Rattle.ready_order.specs.Order.{IsReadyOrder}
use Rattle.ready_order.specs.State.Marks.{is_marked, reads_marked}
use Rattle.ready_order.specs.State.Scan.{Progress, known_along, IsScan, IsSettled, IsFirstLeft}
use Rattle.ready_order.proofs.Among.{false_true, is_false}
use Rattle.ready_order.proofs.ScanLemmas.{set_count_within, set_count_all, reads_are_ready}
use Rattle.ready_order.proofs.RoundLemmas.{ready_more, IsClosed, closed_from, after_within, after_later, in_rounds, known_stays, left_known, none_stuck, first_stuck}

-- a mark that is set is within
pub marked_within : (marks : List Bool) (k : ℕ) → is_marked marks k ≡ true → k < length marks
marked_within marks k e = elim (cases_lt k (length marks)) [
  | inl lt ↦ lt
  | inr ge ↦ false_true (sym (get_or_past marks k false ge) ∙ e)
]

-- where nothing is open, what could be read is taken
settled_taken : (taken : List Bool) (k : ℕ) (reads : Bool) → k < length taken → (not (slice_index_or taken k true) && reads) ≡ false → reads ≡ true
    → is_marked taken k ≡ true
settled_taken taken k reads h closed e = get_or_default taken k false true h ∙ of_it (slice_index_or taken k true) reads closed e
  where
    of_it : (t r : Bool) → (not t && r) ≡ false → r ≡ true → t ≡ true
    of_it true r closed e = refl
    of_it false r closed e = false_true (sym closed ∙ e)

module _ (inputs cells : ℕ) (instances : List Coded) (scan : Progress) (is : IsScan inputs cells instances scan) where
  order_within : (k : ℕ) → is_one_of scan.order k ≡ true → k < length instances
  order_within k m = subst (λ (n : ℕ). k < n) is.as_many (marked_within scan.taken k (is.taken k ∙ m))

  order_short : length scan.order ≤ length instances
  order_short =
      let few = set_count_within scan.taken in
      let count = is.count in
      let wide = is.as_many in
      omega (arith, few, count, wide)

  -- the cells that are known in the end
  abbrev end_known : List ℕ
  end_known = known_along (input_numbers inputs) (map (coded_at instances) scan.order)

  -- the cells that are known after all rounds
  abbrev round_known : List ℕ
  round_known = numbers_after instances (length instances) (input_numbers inputs)

  -- what was taken becomes ready in the rounds
  taken_ready : (k : ℕ) → is_one_of scan.order k ≡ true → is_ready_numbered round_known (coded_at instances k) ≡ true
  taken_ready k m =
      let few : length scan.order + 0 ≤ length instances = let short = order_short in omega (arith, short) in
      ready_more (numbers_after instances (length scan.order + 0) (input_numbers inputs)) round_known
      (after_later instances (input_numbers inputs) (length scan.order + 0) (length instances) few) (coded_at instances k)
      (in_rounds instances (input_numbers inputs) scan.order (input_numbers inputs) 0 (λ c e. e) order_within is.ready k m)

  module _ (settled : IsSettled instances scan) where
    taken_if_ready : (k : ℕ) → k < length instances → is_ready_numbered end_known (coded_at instances k) ≡ true → is_marked scan.taken k ≡ true
    taken_if_ready k h ready =
        settled_taken scan.taken k (reads_marked scan.known (coded_at instances k).code) (subst (λ (n : ℕ). k < n) (sym is.as_many) h) (settled k h)
        (reads_are_ready scan.known end_known is.known (coded_at instances k) ∙ ready)

    end_closed : IsClosed end_known instances
    end_closed =
        closed_from end_known instances
        (λ k h ready. left_known instances scan.order (input_numbers inputs) k (sym (is.taken k) ∙ taken_if_ready k h ready))

    -- what is left never becomes ready in the rounds
    never_ready : (k : ℕ) → k < length instances → is_marked scan.taken k ≡ false → is_ready_numbered round_known (coded_at instances k) ≡ false
    never_ready k h left =
        is_false (is_ready_numbered round_known (coded_at instances k))
        (λ ready. false_true (sym left ∙ taken_if_ready k h
        (ready_more round_known end_known
        (after_within end_known instances end_closed (input_numbers inputs)
        (known_stays (map (coded_at instances) scan.order) (input_numbers inputs)) (length instances))
        (coded_at instances k) ready)))

    -- the first instance that is left is the first that never becomes ready
    pub left_stuck : (k : ℕ) → IsFirstLeft scan.taken k
        → first_of Cyclic (cyclic_numbered inputs instances) ≡ Some (record { kind = Cyclic; place = first_place (coded_at instances k).targets })
    left_stuck k first =
        let within : k < length instances = subst (λ (n : ℕ). k < n) is.as_many first.within in
        first_stuck round_known instances k within (λ j h. taken_ready j (sym (is.taken j) ∙ first.before j h)) (never_ready k within first.left)

  -- where none is left, the order is a ready one
  pub whole_order : ((k : ℕ) → k < length scan.taken → is_marked scan.taken k ≡ true)
      → IsReadyOrder inputs instances scan.order × (first_of Cyclic (cyclic_numbered inputs instances) ≡ None)
  whole_order all = (
    record {
      count = sym is.count ∙ set_count_all scan.taken all ∙ is.as_many;
      within = order_within;
      complete = complete;
      distinct = is.distinct;
      ready = is.ready;
    },
    none_stuck round_known instances (λ k h. taken_ready k (complete k h)),
  )
    where
      complete : (k : ℕ) → k < length instances → is_one_of scan.order k ≡ true
      complete k h = sym (is.taken k) ∙ all k (subst (λ (n : ℕ). k < n) (sym is.as_many) h)
