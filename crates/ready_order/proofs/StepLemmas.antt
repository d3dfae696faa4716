-- One step of each loop: what is left to do, after a step and before it, comes to the same.
use Rattle.std.proofs.Common.{◌≡◌, ◌<◌, ◌≤◌, ◌+◌, ◌-◌, ℕ, zero, suc, Bool, true, false, not, ◌||◌, ◌&&◌, List, [], ◌∷◌, ◌++◌, length, drop, get_or, replicate, refl, sym, ap, ◌∙◌, subst, arith, Option, Some, None, option_to_list}
use Rattle.std.specs.Prelude.{if◌then◌else◌}
use Rattle.std.specs.List.{list_any, list_all, range_with_len}
use Rattle.std.specs.Option.{option_or}
use Rattle.std.proofs.Math.Path.{fun_ext}
use Rattle.std.proofs.lemmas.List.{drop_more, drop_all, length-replicate}
use Rattle.std.proofs.lemmas.List.Folds.{list_all-append}
use Rattle.tor_edge.specs.declared.place.Place.{Place}
use Rattle.usuba_model.specs.declared.fault.FaultKind.TheVariants.{AssignedTwice}
use Rattle.usuba_model.specs.Faults.{first_of}
use Rattle.usuba_code.specs.declared.operation.Operation.{Operation}
use Rattle.usuba_code.specs.Code.{Assigned, Coded, coded_at, assigned_at}
use Rattle.ready_order.specs.Numbered.{is_one_of, number_read, numbers_read, target_numbers, left_numbers, all_targets, assigned_numbers, read_numbers, AreBelow, input_numbers, twice_numbered, lacks_assigned, lacks_read}
use Rattle.ready_order.specs.Uses.{IsUsedBy}
use Rattle.ready_order.specs.State.Marks.{is_marked, marked, all_marked, has_marked, first_marked, reads_marked}
use Rattle.ready_order.specs.State.Scan.{Progress, considered, all_considered}
use Rattle.ready_order.proofs.Among.{or_false}
use Rattle.ready_order.proofs.MarkLemmas.{all_marked-append, all_marked_at, none_marked, first_marked-append, twice_at, twice_found}

-- CELLS

joined_or : (a b d : Bool) → ((a || b) || d) ≡ (a || (b || d))
joined_or true b d = refl
joined_or false b d = refl

pub again_step : (again : Bool) (marks : List Bool) (cells : List ℕ) (i : ℕ) → i < length cells
    → ((again || is_marked marks (get_or cells i 0)) || has_marked (marked marks (get_or cells i 0)) (drop (i + 1) cells))
    ≡ (again || has_marked marks (drop i cells))
again_step again marks cells i h =
    joined_or again (is_marked marks (get_or cells i 0)) (has_marked (marked marks (get_or cells i 0)) (drop (i + 1) cells))
    ∙ ap (λ (cs : List ℕ). again || has_marked marks cs) (sym (drop_more cells i 0 h))

pub marked_step : (marks : List Bool) (cells : List ℕ) (i : ℕ) → i < length cells
    → all_marked (marked marks (get_or cells i 0)) (drop (i + 1) cells) ≡ all_marked marks (drop i cells)
marked_step marks cells i h = ap (all_marked marks) (sym (drop_more cells i 0 h))

-- LEFT SIDES

pub target_step : (marks : List Bool) (targets : List Assigned) (j : ℕ) → j < length targets
    → all_marked (all_marked marks (assigned_at targets j).cells) (target_numbers (drop (j + 1) targets))
    ≡ all_marked marks (target_numbers (drop j targets))
target_step marks targets j h =
    sym (all_marked-append (assigned_at targets j).cells (target_numbers (drop (j + 1) targets)) marks)
    ∙ ap (λ (ts : List Assigned). all_marked marks (target_numbers ts)) (sym (drop_more targets j _ h))

-- a left side that holds a marked cell is the first that is left
pub found_here : (marks : List Bool) (targets : List Assigned) (j : ℕ) → j < length targets
    → has_marked marks (assigned_at targets j).cells ≡ true → first_marked marks (drop j targets) ≡ Some (assigned_at targets j).place
found_here marks targets j h hit =
    ap (first_marked marks) (drop_more targets j _ h)
    ∙ ap (λ (b : Bool). if b then Some (assigned_at targets j).place
    else first_marked (all_marked marks (assigned_at targets j).cells) (drop (j + 1) targets)) hit

pub found_later : (marks : List Bool) (targets : List Assigned) (j : ℕ) → j < length targets
    → has_marked marks (assigned_at targets j).cells ≡ false
    → first_marked (all_marked marks (assigned_at targets j).cells) (drop (j + 1) targets) ≡ first_marked marks (drop j targets)
found_later marks targets j h miss =
    sym (ap (first_marked marks) (drop_more targets j _ h)
    ∙ ap (λ (b : Bool). if b then Some (assigned_at targets j).place
    else first_marked (all_marked marks (assigned_at targets j).cells) (drop (j + 1) targets)) miss)

-- INSTANCES

all_targets_step : (instances : List Coded) (k : ℕ) → k < length instances
    → all_targets (drop k instances) ≡ (coded_at instances k).targets ++ all_targets (drop (k + 1) instances)
all_targets_step instances k h = ap all_targets (drop_more instances k _ h)

pub instance_found : (marks : List Bool) (instances : List Coded) (k : ℕ) → k < length instances → (place : Place)
    → Some place ≡ first_marked marks (coded_at instances k).targets → first_marked marks (all_targets (drop k instances)) ≡ Some place
instance_found marks instances k h place e =
    ap (first_marked marks) (all_targets_step instances k h)
    ∙ first_marked-append (coded_at instances k).targets (all_targets (drop (k + 1) instances)) marks
    ∙ ap (λ (o : Option Place). option_or o (first_marked (all_marked marks (left_numbers (coded_at instances k))) (all_targets (drop (k + 1) instances)))) (sym e)

pub instance_passed : (marks : List Bool) (instances : List Coded) (k : ℕ) → k < length instances
    → None ≡ first_marked marks (coded_at instances k).targets
    → first_marked (all_marked marks (left_numbers (coded_at instances k))) (all_targets (drop (k + 1) instances))
    ≡ first_marked marks (all_targets (drop k instances))
instance_passed marks instances k h e =
    sym (ap (first_marked marks) (all_targets_step instances k h)
    ∙ first_marked-append (coded_at instances k).targets (all_targets (drop (k + 1) instances)) marks
    ∙ ap (λ (o : Option Place). option_or o (first_marked (all_marked marks (left_numbers (coded_at instances k))) (all_targets (drop (k + 1) instances)))) (sym e))

pub assigned_step : (marks : List Bool) (instances : List Coded) (k : ℕ) → k < length instances
    → all_marked (all_marked marks (left_numbers (coded_at instances k))) (assigned_numbers (drop (k + 1) instances))
    ≡ all_marked marks (assigned_numbers (drop k instances))
assigned_step marks instances k h =
    sym (all_marked-append (left_numbers (coded_at instances k)) (assigned_numbers (drop (k + 1) instances)) marks)
    ∙ ap (λ (is : List Coded). all_marked marks (assigned_numbers is)) (sym (drop_more instances k _ h))

pub read_step : (marks : List Bool) (instances : List Coded) (k : ℕ) → k < length instances
    → all_marked (all_marked marks (numbers_read (coded_at instances k).code)) (read_numbers (drop (k + 1) instances))
    ≡ all_marked marks (read_numbers (drop k instances))
read_step marks instances k h =
    sym (all_marked-append (numbers_read (coded_at instances k).code) (read_numbers (drop (k + 1) instances)) marks)
    ∙ ap (λ (is : List Coded). all_marked marks (read_numbers is)) (sym (drop_more instances k _ h))

-- CODE

numbers_step : (code : List Operation) (i : ℕ) (o : Operation) → i < length code → o ≡ get_or code i o
    → numbers_read (drop i code) ≡ number_read o ++ numbers_read (drop (i + 1) code)
numbers_step code i o h e =
    ap numbers_read (drop_more code i o h) ∙ ap (λ (p : Operation). number_read p ++ numbers_read (drop (i + 1) code)) (sym e)

pub code_marked : (marks : List Bool) (code : List Operation) (i : ℕ) (o : Operation) (found : Option ℕ) → i < length code → o ≡ get_or code i o
    → option_to_list found ≡ number_read o
    → all_marked (all_marked marks (option_to_list found)) (numbers_read (drop (i + 1) code)) ≡ all_marked marks (numbers_read (drop i code))
code_marked marks code i o found h e is =
    sym (all_marked-append (option_to_list found) (numbers_read (drop (i + 1) code)) marks)
    ∙ ap (λ (ns : List ℕ). all_marked marks (ns ++ numbers_read (drop (i + 1) code))) is
    ∙ ap (all_marked marks) (sym (numbers_step code i o h e))

pub code_reads : (marks : List Bool) (code : List Operation) (i : ℕ) (o : Operation) (found : Option ℕ) → i < length code → o ≡ get_or code i o
    → option_to_list found ≡ number_read o
    → reads_marked marks (drop i code) ≡ (list_all (is_marked marks) (option_to_list found) && reads_marked marks (drop (i + 1) code))
code_reads marks code i o found h e is =
    ap (list_all (is_marked marks)) (numbers_step code i o h e)
    ∙ ap (λ (ns : List ℕ). list_all (is_marked marks) (ns ++ numbers_read (drop (i + 1) code))) (sym is)
    ∙ list_all-append (is_marked marks) (option_to_list found) (numbers_read (drop (i + 1) code))

-- RANGES

pub range_push : (n a : ℕ) → range_with_len a (n + 1) ≡ range_with_len a n ++ (a + n) ∷ []
range_push zero a = let none : a ≡ a + 0 = omega arith in ap (λ (b : ℕ). b ∷ []) none
range_push (suc n) a =
    let next : a + 1 + n ≡ a + suc n = omega arith in
    let more : suc n + 1 ≡ suc (n + 1) = omega arith in
    ap (range_with_len a) more ∙ ap (λ (ns : List ℕ). a ∷ ns) (range_push n (a + 1) ∙ ap (λ (b : ℕ). range_with_len (a + 1) n ++ b ∷ []) next)

range_step : (a end : ℕ) → a < end → range_with_len a (end - a) ≡ a ∷ range_with_len (a + 1) (end - (a + 1))
range_step a end h = let more : end - a ≡ suc (end - (a + 1)) = omega (arith, h) in ap (range_with_len a) more

pub lacks_assigned_step : (assigned : ℕ → Bool) (a end : ℕ) → a < end
    → lacks_assigned assigned a (end - a) ≡ (not (assigned a) || lacks_assigned assigned (a + 1) (end - (a + 1)))
lacks_assigned_step assigned a end h = ap (list_any (λ cell. not (assigned cell))) (range_step a end h)

pub lacks_read_step : (assigned read : ℕ → Bool) (a end : ℕ) → a < end
    → lacks_read assigned read a (end - a) ≡ ((read a && not (assigned a)) || lacks_read assigned read (a + 1) (end - (a + 1)))
lacks_read_step assigned read a end h = ap (list_any (λ cell. read cell && not (assigned cell))) (range_step a end h)

pub input_step : (marks : List Bool) (n : ℕ) → marked (all_marked marks (range_with_len 0 n)) n ≡ all_marked marks (range_with_len 0 (n + 1))
input_step marks n =
    let none : 0 + n ≡ n = omega arith in
    sym (ap (all_marked marks) (range_push n 0 ∙ ap (λ (b : ℕ). range_with_len 0 n ++ b ∷ []) none)
    ∙ all_marked-append (range_with_len 0 n) (n ∷ []) marks)

-- SCANS

pub hint_step : (instances : List Coded) (hint : List ℕ) (i : ℕ) (scan : Progress) → i < length hint
    → all_considered instances (drop (i + 1) hint) (considered instances (get_or hint i 0) scan) ≡ all_considered instances (drop i hint) scan
hint_step instances hint i scan h = ap (λ (ks : List ℕ). all_considered instances ks scan) (sym (drop_more hint i 0 h))

pub pass_step : (instances : List Coded) (k end : ℕ) (scan : Progress) → k < end
    → all_considered instances (range_with_len (k + 1) (end - (k + 1))) (considered instances k scan)
    ≡ all_considered instances (range_with_len k (end - k)) scan
pass_step instances k end scan h = ap (λ (ks : List ℕ). all_considered instances ks scan) (sym (range_step k end h))

-- USES

pub used_is : (cells : ℕ) (instances : List Coded) → AreBelow cells instances → (assigned read : List Bool)
    → assigned ≡ all_marked (replicate cells false) (assigned_numbers instances) → read ≡ all_marked (replicate cells false) (read_numbers instances)
    → IsUsedBy instances (record { assigned = assigned; read = read })
used_is cells instances below assigned read e f = record {
  assigned = ap is_marked e ∙ fun_ext (stands (assigned_numbers instances) below.assigned);
  read = ap is_marked f ∙ fun_ext (stands (read_numbers instances) below.read);
}
  where
    stands : (numbers : List ℕ) → ((c : ℕ) → is_one_of numbers c ≡ true → c < cells) → (c : ℕ)
        → is_marked (all_marked (replicate cells false) numbers) c ≡ is_one_of numbers c
    stands numbers low c =
        all_marked_at numbers (replicate cells false) c (λ d m. subst (λ (n : ℕ). d < n) (sym (length-replicate cells false)) (low d m))
        ∙ ap (λ (b : Bool). is_one_of numbers c || b) (none_marked cells c) ∙ or_false (is_one_of numbers c)

-- STEPS IN THE FORM OF THE LOOPS

-- the cells of one more left side are marked
pub target_loop : (before after start : List Bool) (targets : List Assigned) (j : ℕ) (cells whole : List ℕ) → j < length targets
    → cells ≡ (assigned_at targets j).cells → after ≡ all_marked before cells
    → all_marked before (target_numbers (drop j targets)) ≡ all_marked start whole
    → all_marked after (target_numbers (drop (j + 1) targets)) ≡ all_marked start whole
target_loop before after start targets j cells whole h same e done =
    ap (λ (ms : List Bool). all_marked ms (target_numbers (drop (j + 1) targets))) (e ∙ ap (all_marked before) same)
    ∙ target_step before targets j h ∙ done

-- one more left side has no marked cell
pub missed_loop : (before after : List Bool) (targets : List Assigned) (j : ℕ) (cells : List ℕ) (found : Option Place) → j < length targets
    → cells ≡ (assigned_at targets j).cells → false ≡ has_marked before cells → after ≡ all_marked before cells
    → first_marked before (drop j targets) ≡ found → first_marked after (drop (j + 1) targets) ≡ found
missed_loop before after targets j cells found h same miss e done =
    ap (λ (ms : List Bool). first_marked ms (drop (j + 1) targets)) (e ∙ ap (all_marked before) same)
    ∙ found_later before targets j h (ap (has_marked before) (sym same) ∙ sym miss) ∙ done

-- the left side with a marked cell is the first
pub hit_loop : (before : List Bool) (targets : List Assigned) (j : ℕ) (cells : List ℕ) (found : Option Place) → j < length targets
    → cells ≡ (assigned_at targets j).cells → true ≡ has_marked before cells
    → first_marked before (drop j targets) ≡ found → Some (assigned_at targets j).place ≡ found
hit_loop before targets j cells found h same hit done =
    sym (found_here before targets j h (ap (has_marked before) (sym same) ∙ sym hit)) ∙ done

-- one more instance has no left side with a marked cell
pub passed_loop : (before after : List Bool) (instances : List Coded) (k : ℕ) (found : Option Place) → k < length instances
    → None ≡ first_marked before (coded_at instances k).targets → after ≡ all_marked before (left_numbers (coded_at instances k))
    → first_marked before (all_targets (drop k instances)) ≡ found → first_marked after (all_targets (drop (k + 1) instances)) ≡ found
passed_loop before after instances k found h miss e done =
    ap (λ (ms : List Bool). first_marked ms (all_targets (drop (k + 1) instances))) e ∙ instance_passed before instances k h miss ∙ done

module _ (inputs cells : ℕ) (instances : List Coded) (le : inputs ≤ cells) (below : AreBelow cells instances) (start now : List Bool)
    (begun : start ≡ all_marked (replicate cells false) (input_numbers inputs)) where
  fault_is : (o : Option Place) → first_marked start (all_targets instances) ≡ o → twice_at o ≡ first_of AssignedTwice (twice_numbered inputs instances)
  fault_is o e =
      sym (twice_found inputs cells instances le below
      ∙ ap (λ (ms : List Bool). twice_at (first_marked ms (all_targets instances))) (sym begun) ∙ ap twice_at e)

  -- the fault of the first left side that assigns again
  pub twice_here : (k : ℕ) → k < length instances → first_marked now (all_targets (drop k instances)) ≡ first_marked start (all_targets instances)
      → (place : Place) → Some place ≡ first_marked now (coded_at instances k).targets
      → Some (record { kind = AssignedTwice; place = place }) ≡ first_of AssignedTwice (twice_numbered inputs instances)
  twice_here k h done place hit = fault_is (Some place) (sym done ∙ instance_found now instances k h place hit)

  -- there is none
  pub twice_nowhere : (k : ℕ) → length instances ≤ k → first_marked now (all_targets (drop k instances)) ≡ first_marked start (all_targets instances)
      → None ≡ first_of AssignedTwice (twice_numbered inputs instances)
  twice_nowhere k h done =
      fault_is None (sym done ∙ ap (λ (is : List Coded). first_marked now (all_targets is)) (drop_all k instances h))

module _ (assigned read : ℕ → Bool) where
  -- one more cell is assigned, or not read
  pub lacks_assigned_loop : (c end : ℕ) (found : Bool) → c < end → false ≡ not (assigned c) → lacks_assigned assigned c (end - c) ≡ found
      → lacks_assigned assigned (c + 1) (end - (c + 1)) ≡ found
  lacks_assigned_loop c end found h e done =
      sym (lacks_assigned_step assigned c end h ∙ ap (λ (b : Bool). b || lacks_assigned assigned (c + 1) (end - (c + 1))) (sym e)) ∙ done

  pub lacks_assigned_here : (c end : ℕ) (found : Bool) → c < end → true ≡ not (assigned c) → lacks_assigned assigned c (end - c) ≡ found → true ≡ found
  lacks_assigned_here c end found h e done =
      sym (lacks_assigned_step assigned c end h ∙ ap (λ (b : Bool). b || lacks_assigned assigned (c + 1) (end - (c + 1))) (sym e)) ∙ done

  pub lacks_read_loop : (c end : ℕ) (found : Bool) → c < end → false ≡ (read c && not (assigned c)) → lacks_read assigned read c (end - c) ≡ found
      → lacks_read assigned read (c + 1) (end - (c + 1)) ≡ found
  lacks_read_loop c end found h e done =
      sym (lacks_read_step assigned read c end h ∙ ap (λ (b : Bool). b || lacks_read assigned read (c + 1) (end - (c + 1))) (sym e)) ∙ done

  pub lacks_read_here : (c end : ℕ) (found : Bool) → c < end → true ≡ (read c && not (assigned c)) → lacks_read assigned read c (end - c) ≡ found
      → true ≡ found
  lacks_read_here c end found h e done =
      sym (lacks_read_step assigned read c end h ∙ ap (λ (b : Bool). b || lacks_read assigned read (c + 1) (end - (c + 1))) (sym e)) ∙ done

-- what one more instance reads is marked
pub read_loop : (before after start : List Bool) (instances : List Coded) (k : ℕ) (code : List Operation) → k < length instances
    → code ≡ (coded_at instances k).code → after ≡ all_marked before (numbers_read code)
    → all_marked before (read_numbers (drop k instances)) ≡ all_marked start (read_numbers instances)
    → all_marked after (read_numbers (drop (k + 1) instances)) ≡ all_marked start (read_numbers instances)
read_loop before after start instances k code h same e done =
    ap (λ (ms : List Bool). all_marked ms (read_numbers (drop (k + 1) instances))) (e ∙ ap (λ (os : List Operation). all_marked before (numbers_read os)) same)
    ∙ read_step before instances k h ∙ done

-- what one more instance assigns is marked
pub assigned_loop : (before after start : List Bool) (instances : List Coded) (k : ℕ) → k < length instances
    → after ≡ all_marked before (left_numbers (coded_at instances k))
    → all_marked before (assigned_numbers (drop k instances)) ≡ all_marked start (assigned_numbers instances)
    → all_marked after (assigned_numbers (drop (k + 1) instances)) ≡ all_marked start (assigned_numbers instances)
assigned_loop before after start instances k h e done =
    ap (λ (ms : List Bool). all_marked ms (assigned_numbers (drop (k + 1) instances))) e ∙ assigned_step before instances k h ∙ done

-- marks at the end of the loop
pub assigned_end : (now start : List Bool) (instances : List Coded) (k cells : ℕ) → length instances ≤ k → start ≡ replicate cells false
    → all_marked now (assigned_numbers (drop k instances)) ≡ all_marked start (assigned_numbers instances)
    → now ≡ all_marked (replicate cells false) (assigned_numbers instances)
assigned_end now start instances k cells h begun done =
    sym (ap (λ (is : List Coded). all_marked now (assigned_numbers is)) (drop_all k instances h)) ∙ done
    ∙ ap (λ (ms : List Bool). all_marked ms (assigned_numbers instances)) begun

pub read_end : (now start : List Bool) (instances : List Coded) (k cells : ℕ) → length instances ≤ k → start ≡ replicate cells false
    → all_marked now (read_numbers (drop k instances)) ≡ all_marked start (read_numbers instances)
    → now ≡ all_marked (replicate cells false) (read_numbers instances)
read_end now start instances k cells h begun done =
    sym (ap (λ (is : List Coded). all_marked now (read_numbers is)) (drop_all k instances h)) ∙ done
    ∙ ap (λ (ms : List Bool). all_marked ms (read_numbers instances)) begun
