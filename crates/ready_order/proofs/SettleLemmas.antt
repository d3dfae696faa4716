-- Passes over all instances, until none is open.
use Rattle.std.proofs.Common.{◌≡◌, ◌<◌, ◌≤◌, ◌-◌, ℕ, true, false, List, [], ◌++◌, length, replicate, refl, sym, ap, ◌∙◌, subst, arith}
use Rattle.std.specs.Prelude.{nat_lt}
use Rattle.std.specs.List.{range_with_len}
use Rattle.std.proofs.lemmas.Bool.{ltb-true, ltb-false}
use Rattle.usuba_code.specs.Code.{Coded}
use Rattle.ready_order.specs.Numbered.{input_numbers, AreBelow}
use Rattle.ready_order.specs.State.Marks.{all_marked}
use Rattle.ready_order.specs.State.Scan.{Progress, is_open, all_considered, Leads, set_count, IsScan, IsSettled}
use Rattle.ready_order.proofs.Among.{in_range}
use Rattle.ready_order.proofs.ScanLemmas.{set_count_within, all_as_many, all_count, nothing_moved, all_considered-append, all_kept, begun}

module _ (instances : List Coded) where
  -- a scan after one pass
  abbrev pub passed : Progress → Progress
  passed scan = all_considered instances (range_with_len 0 (length instances)) scan

  -- what comes of a scan has as many marks, and as many set as are in order
  pub as_many_after : (ks : List ℕ) (scan after : Progress) → after ≡ all_considered instances ks scan → length scan.taken ≡ length instances
      → length after.taken ≡ length instances
  as_many_after ks scan after e as_many = ap (λ (s : Progress). length s.taken) e ∙ all_as_many instances ks scan ∙ as_many

  pub count_after : (ks : List ℕ) (scan after : Progress) → after ≡ all_considered instances ks scan → set_count scan.taken ≡ length scan.order
      → set_count after.taken ≡ length after.order
  count_after ks scan after e count = subst (λ (s : Progress). set_count s.taken ≡ length s.order) (sym e) (all_count instances ks scan count)

  -- a pass that took something leaves less to take
  pub less_left : (scan after : Progress) → after ≡ passed scan → length scan.taken ≡ length instances → set_count scan.taken ≡ length scan.order
      → nat_lt (length scan.order) (length after.order) ≡ true
      → length instances - length after.order < length instances - length scan.order
  less_left scan after e as_many count moved =
      let wide = as_many_after (range_with_len 0 (length instances)) scan after e as_many in
      let set = count_after (range_with_len 0 (length instances)) scan after e count in
      let few = set_count_within after.taken in
      let more = ltb-true (length scan.order) (length after.order) moved in
      omega (arith, wide, set, few, more)

  -- a pass that took nothing leaves nothing open
  pub settled_after : (scan after : Progress) → after ≡ passed scan → nat_lt (length scan.order) (length after.order) ≡ false
      → IsSettled instances after
  settled_after scan after e still k h =
      let range : List ℕ = range_with_len 0 (length instances) in
      let short : length (all_considered instances range scan).order ≤ length scan.order
      = subst (λ (s : Progress). length s.order ≤ length scan.order) e (ltb-false (length scan.order) (length after.order) still) in
      let same = nothing_moved instances range scan short in
      subst (λ (s : Progress). is_open instances k s ≡ false) (sym (e ∙ same.0))
      (same.1 k (in_range 0 (length instances) k (omega arith) (omega (arith, h))))

  pub leads_itself : (scan : Progress) → Leads instances scan scan
  leads_itself scan = ([], refl)

  pub leads_more : (before scan after : Progress) (ks : List ℕ) → Leads instances before scan → after ≡ all_considered instances ks scan
      → Leads instances before after
  leads_more before scan after ks leads e = (
    leads.0 ++ ks,
    all_considered-append instances leads.0 ks before ∙ ap (all_considered instances ks) leads.1 ∙ sym e,
  )

-- what holds of a scan holds of what comes of it
pub leads_kept : (inputs cells : ℕ) (instances : List Coded) → AreBelow cells instances → (before after : Progress) → Leads instances before after
    → IsScan inputs cells instances before → IsScan inputs cells instances after
leads_kept inputs cells instances below before after leads is =
    subst (IsScan inputs cells instances) leads.1 (all_kept inputs cells instances below leads.0 before is)

-- what holds of a scan after some instances were considered
pub considered_scan : (inputs cells : ℕ) (instances : List Coded) → AreBelow cells instances → (ks : List ℕ) (before after : Progress)
    → after ≡ all_considered instances ks before → IsScan inputs cells instances before → IsScan inputs cells instances after
considered_scan inputs cells instances below ks before after e is =
    subst (IsScan inputs cells instances) (sym e) (all_kept inputs cells instances below ks before is)

-- what holds of a scan after a pass from the beginning
pub begun_scan : (inputs cells : ℕ) (instances : List Coded) → AreBelow cells instances → inputs ≤ cells → (count : ℕ) → count ≡ length instances
    → (scan after : Progress)
    → scan ≡ record {
      known = all_marked (replicate cells false) (input_numbers inputs);
      taken = replicate count false;
      order = [];
    } → after ≡ passed instances scan → IsScan inputs cells instances after
begun_scan inputs cells instances below le count whole scan after e f =
    considered_scan inputs cells instances below (range_with_len 0 (length instances)) scan after f
    (subst (IsScan inputs cells instances) (sym (e ∙ ap first_of_all whole)) (begun inputs cells instances le))
  where
    first_of_all : ℕ → Progress
    first_of_all n = record {
      known = all_marked (replicate cells false) (input_numbers inputs);
      taken = replicate n false;
      order = [];
    }
