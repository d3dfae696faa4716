-- What the plans of a judged file make is within the operations of its definitions.
use Rattle.std.proofs.Common.{◌≡◌, ◌+◌, ◌*◌, ◌^◌, ◌<◌, ◌≤◌, inl, inr, ℕ, zero, suc, Bool, true, false, ◌||◌, ◌==◌, List, [], ◌∷◌, ◌++◌, length, map, Option, Some, None, refl, sym, ap, ◌∙◌, subst, arith, nat_lt}
use Rattle.std.specs.Prelude.{bytes_eq, slice_get, if◌then◌else◌}
use Rattle.std.proofs.lemmas.Bool.{eqb-true, eqb-false, eq-eqb, ltb-false, cases_lt}
use Rattle.std.proofs.lemmas.List.{length-map}
use Rattle.std.proofs.lemmas.Option.{none-some, same_Some, slice_get_within}
use Rattle.std.proofs.lemmas.Slice.Eq.{bytes_eq-Decides}
use Rattle.tor_edge.specs.declared.place.Place.{Place}
use Rattle.usuba_trees.specs.declared.Def.{Def}
use Rattle.usuba_trees.specs.declared.Def.TheVariants as def
use Rattle.usuba_trees.specs.declared.File.{File}
use Rattle.usuba_model.specs.declared.fault.Fault.{Fault}
use Rattle.usuba_model.specs.declared.fault.FaultKind.TheVariants.{DuplicateName, UnknownName}
use Rattle.usuba_model.specs.Assignments.{twice_fault, unassigned_fault, cyclic_fault}
use Rattle.usuba_model.specs.Entries.{entry_of, entry_fault, width_of, width_fault, grid_fault, name_place}
use Rattle.usuba_model.specs.Judging.{IsJudged, fault_at_entry, later_fault_at, walks_fault, name_at}
use Rattle.usuba_model.specs.Names.{is_name_among, name_of, repeated_names, repeated_declarations, declared_in, counters_in, unknown_names, unknown_in_definition}
use Rattle.usuba_model.specs.Numbers.{callee_number}
use Rattle.usuba_model.specs.Operations.{Size, Sized, size_named, called_operations, all_calls, size_of_definition, sizes_from, definition_size, size_fault}
use Rattle.usuba_model.specs.Shapes.{all_elements}
use Rattle.usuba_model.specs.Unrolled.{declarations, unrolled}
use Rattle.usuba_model.specs.Walk.{signature, count_of, node_steps, most_operations}
use Rattle.usuba_model.proofs.CellLemmas.{false_true}
use Rattle.usuba_model.proofs.EntryOutcome.{at_number}
use Rattle.usuba_model.proofs.FileOutcomes.{onto, names, signature_name}
use Rattle.usuba_model.proofs.JudgingLemmas.{first_none, second_none}
use Rattle.usuba_model.proofs.Knowing.{NoneHold, none_first, none_second, none_hold, node_knows}
use Rattle.usuba_code.specs.Code.{Coded, coded_node}
use Rattle.usuba_plan.specs.Plans.{IsPlanOf, ArePlansOf}
use Rattle.usuba_plan.specs.Room.{order_room, room_by, room_of, room_below, plan_room}
use Rattle.usuba_plan.specs.declared.plans.Plan.{Plan}
use Rattle.usuba_plan.specs.declared.plans.Plan.TheVariants as plan
use Rattle.plan_bounds.specs.RoomLaw.{PlansHaveRoom}
use Rattle.plan_bounds.proofs.Counting.{own_rooms, node_counted}
use Rattle.plan_bounds.proofs.Rooms.{AreBounded, order_within}

not_same : (a b : ℕ) → a < b → (a == b) ≡ false
not_same a b less = of_it (a == b) refl
  where
    of_it : (t : Bool) → (a == b) ≡ t → (a == b) ≡ false
    of_it true is = let same = eqb-true a b is in absurd (omega (arith, less, same))
    of_it false is = is

nothing_within : (a b : ℕ) → a ≡ 0 → a ≤ b
nothing_within a b e = omega (arith, e)

same_within : (a b : ℕ) → a ≡ b → a ≤ b
same_within a b e = omega (arith, e)

in_turn : (room below size named : ℕ) → room ≡ below → below ≤ named → size ≡ named → size ≤ most_operations → room ≤ most_operations
in_turn room below size named e p f q = omega (arith, e, p, f, q)

-- a name that is not that of the latest definition is that of an earlier one
later_name : (earlier : List Def) (d : Def) (name : List ℕ) → bytes_eq (name_of d).text name ≡ false
    → is_name_among (names (d ∷ earlier)) name ≡ true → is_name_among (names earlier) name ≡ true
later_name earlier d name out m = of_test (bytes_eq name (name_of d).text) refl m
  where
    of_test : (b : Bool) → bytes_eq name (name_of d).text ≡ b → (b || is_name_among (names earlier) name) ≡ true → is_name_among (names earlier) name ≡ true
    of_test true same m =
        let equal : name ≡ (name_of d).text = (bytes_eq-Decides name (name_of d).text).0 same in
        false_true (sym out ∙ (bytes_eq-Decides (name_of d).text name).1 (sym equal))
    of_test false same m = m

-- the numbers of names, where the latest definition has the name, and where it has not
number_here : (earlier : List Def) (d : Def) (name : List ℕ) → bytes_eq (name_of d).text name ≡ true
    → callee_number (map signature (d ∷ earlier)) name ≡ length earlier
number_here earlier d name is =
    ap (λ (b : Bool). if b then length (map signature earlier) else callee_number (map signature earlier) name)
    (ap (λ (n : List ℕ). bytes_eq n name) (signature_name d) ∙ is)
    ∙ length-map earlier signature

number_there : (earlier : List Def) (d : Def) (name : List ℕ) → bytes_eq (name_of d).text name ≡ false
    → callee_number (map signature (d ∷ earlier)) name ≡ callee_number (map signature earlier) name
number_there earlier d name is =
    ap (λ (b : Bool). if b then length (map signature earlier) else callee_number (map signature earlier) name)
    (ap (λ (n : List ℕ). bytes_eq n name) (signature_name d) ∙ is)

-- the number of an earlier definition is below their count
number_below : (earlier : List Def) (name : List ℕ) → is_name_among (names earlier) name ≡ true → callee_number (map signature earlier) name < length earlier
number_below [] name m = false_true m
number_below (d ∷ earlier) name m = of_test (bytes_eq (name_of d).text name) refl (number_below earlier name)
  where
    of_test : (b : Bool) → bytes_eq (name_of d).text name ≡ b
        → (is_name_among (names earlier) name ≡ true → callee_number (map signature earlier) name < length earlier)
        → callee_number (map signature (d ∷ earlier)) name < suc (length earlier)
    of_test true is below = let same = number_here earlier d name is in omega (arith, same)
    of_test false is below =
        let same = number_there earlier d name is in
        let less = below (later_name earlier d name is m) in omega (arith, same, less)

module _ (w : ℕ) (defs : List Def) (plans : List Plan) where
  -- a definition makes by its plan at most its operations
  plan_within : (earlier : List Def) (known : List Sized) → AreBounded earlier known (room_below defs plans (length earlier))
      → (d : Def) (rest : List Def) → NoneHold (unknown_names (names earlier) (d ∷ rest))
      → (p : Plan) → IsPlanOf (map signature earlier) p d
      → room_by (room_below defs plans (length earlier)) p d ≤ (size_of_definition w (map signature earlier) known d).operations
  plan_within earlier known bounded (def.Node node) rest none (plan.Node p) is =
      let signatures = map signature earlier in
      let callees = room_below defs plans (length earlier) in
      let knows = node_knows (names earlier) node (none_first (unknown_in_definition (names earlier) (def.Node node)) _ none) in
      let order = order_within earlier known callees bounded (declarations node) (unrolled node) knows p.order.items is.order.distinct in
      let same : order_room callees p.table.done p.order.items ≡ order_room callees (coded_node signatures node) p.order.items
      = ap (λ (done : List Coded). order_room callees done p.order.items) is.table in
      both_within (order_room callees p.table.done p.order.items) (order_room callees (coded_node signatures node) p.order.items)
      (own_rooms signatures (unrolled node)) (called_operations known (all_calls (unrolled node))) (count_of (node_steps w signatures node))
      same order (node_counted w signatures node)
    where
      both_within : (made made' own called count : ℕ) → made ≡ made' → made' ≤ own + called → own ≤ count → made ≤ count + called
      both_within made made' own called count e p q = omega (arith, e, p, q)
  plan_within earlier known bounded (def.Node node) rest none (plan.Table outputs) is = absurd is
  plan_within earlier known bounded (def.Node node) rest none plan.Permutation is = absurd is
  plan_within earlier known bounded (def.Node node) rest none plan.Absent is = nothing_within _ _ refl
  plan_within earlier known bounded (def.Table grid) rest none (plan.Node p) is = absurd is
  plan_within earlier known bounded (def.Table grid) rest none (plan.Table outputs) is =
      same_within _ _ (ap (λ (m : ℕ). 2 ^ all_elements grid.inputs * (m + 1)) is)
  plan_within earlier known bounded (def.Table grid) rest none plan.Permutation is = absurd is
  plan_within earlier known bounded (def.Table grid) rest none plan.Absent is = nothing_within _ _ refl
  plan_within earlier known bounded (def.Perm grid) rest none (plan.Node p) is = absurd is
  plan_within earlier known bounded (def.Perm grid) rest none (plan.Table outputs) is = absurd is
  plan_within earlier known bounded (def.Perm grid) rest none plan.Permutation is = nothing_within _ _ refl
  plan_within earlier known bounded (def.Perm grid) rest none plan.Absent is = nothing_within _ _ refl

  -- with one more definition all are bounded
  bounded_next : (earlier : List Def) (known : List Sized) → AreBounded earlier known (room_below defs plans (length earlier))
      → (d : Def) (p : Plan) (size : Size) → slice_get defs (length earlier) ≡ Some d → slice_get plans (length earlier) ≡ Some p
      → room_by (room_below defs plans (length earlier)) p d ≤ size.operations
      → AreBounded (d ∷ earlier) (record { name = (name_of d).text; size = size } ∷ known) (room_below defs plans (suc (length earlier)))
  bounded_next earlier known bounded d p size at_defs at_plans within name m = of_test (bytes_eq (name_of d).text name) refl
    where
      callees : ℕ → ℕ
      callees = room_below defs plans (length earlier)

      of_test : (b : Bool) → bytes_eq (name_of d).text name ≡ b
          → room_below defs plans (suc (length earlier)) (callee_number (map signature (d ∷ earlier)) name)
          ≤ (if bytes_eq (name_of d).text name then size else size_named known name).operations
      of_test true is =
          let number : room_below defs plans (suc (length earlier)) (callee_number (map signature (d ∷ earlier)) name)
          ≡ room_below defs plans (suc (length earlier)) (length earlier)
          = ap (room_below defs plans (suc (length earlier))) (number_here earlier d name is) in
          let here : room_below defs plans (suc (length earlier)) (length earlier) ≡ room_by callees p d
          = ap (λ (b : Bool). if b then room_of callees (slice_get plans (length earlier)) (slice_get defs (length earlier)) else callees (length earlier))
          (eq-eqb (length earlier) (length earlier) refl)
          ∙ ap (λ (o : Option Plan). room_of callees o (slice_get defs (length earlier))) at_plans
          ∙ ap (λ (o : Option Def). room_of callees (Some p) o) at_defs in
          let chosen : (if bytes_eq (name_of d).text name then size else size_named known name) ≡ size
          = ap (λ (b : Bool). if b then size else size_named known name) is in
          subst (λ (s : Size). room_below defs plans (suc (length earlier)) (callee_number (map signature (d ∷ earlier)) name) ≤ s.operations) (sym chosen)
          (subst (λ (n : ℕ). n ≤ size.operations) (sym (number ∙ here)) within)
      of_test false is =
          let among = later_name earlier d name is m in
          let low = number_below earlier name among in
          let number : room_below defs plans (suc (length earlier)) (callee_number (map signature (d ∷ earlier)) name)
          ≡ room_below defs plans (suc (length earlier)) (callee_number (map signature earlier) name)
          = ap (room_below defs plans (suc (length earlier))) (number_there earlier d name is) in
          let here : room_below defs plans (suc (length earlier)) (callee_number (map signature earlier) name) ≡ callees (callee_number (map signature earlier) name)
          = ap (λ (b : Bool). if b then room_of callees (slice_get plans (length earlier)) (slice_get defs (length earlier)) else callees (callee_number (map signature earlier) name))
          (not_same (callee_number (map signature earlier) name) (length earlier) low) in
          let chosen : (if bytes_eq (name_of d).text name then size else size_named known name) ≡ size_named known name
          = ap (λ (b : Bool). if b then size else size_named known name) is in
          subst (λ (s : Size). room_below defs plans (suc (length earlier)) (callee_number (map signature (d ∷ earlier)) name) ≤ s.operations) (sym chosen)
          (subst (λ (n : ℕ). n ≤ (size_named known name).operations) (sym (number ∙ here)) (bounded name among))

  -- the definitions from a place on are those of the file there, and so are the plans
  abbrev AreFrom : {A : Type 0} → List A → ℕ → List A → Type 0
  AreFrom rest n all = (j : ℕ) → slice_get rest j ≡ slice_get all (n + j)

  from_next : {A : Type 0} (x : A) (rest : List A) (n : ℕ) (all : List A) → AreFrom (x ∷ rest) n all → AreFrom rest (suc n) all
  from_next x rest n all from j = let same : n + suc j ≡ suc n + j = omega arith in from (suc j) ∙ ap (slice_get all) same

  from_first : {A : Type 0} (x : A) (rest : List A) (n : ℕ) (all : List A) → AreFrom (x ∷ rest) n all → slice_get all n ≡ Some x
  from_first x rest n all from = let same : n ≡ n + 0 = omega arith in ap (slice_get all) same ∙ sym (from 0)

  all_bounded : (rest : List Def) (rest_plans : List Plan) (earlier : List Def) (known : List Sized)
      → AreFrom rest (length earlier) defs → AreFrom rest_plans (length earlier) plans → ArePlansOf (map signature earlier) rest_plans rest
      → NoneHold (unknown_names (names earlier) rest) → AreBounded earlier known (room_below defs plans (length earlier))
      → AreBounded (onto rest earlier) (sizes_from w (map signature earlier) known rest) (room_below defs plans (length (onto rest earlier)))
  all_bounded [] rest_plans earlier known from from' of none bounded = bounded
  all_bounded (d ∷ rest) [] earlier known from from' of none bounded = absurd of
  all_bounded (d ∷ rest) (p ∷ rest_plans) earlier known from from' of none bounded =
      let size : Size = size_of_definition w (map signature earlier) known d in
      all_bounded rest rest_plans (d ∷ earlier) (record { name = (name_of d).text; size = size } ∷ known)
      (from_next d rest (length earlier) defs from) (from_next p rest_plans (length earlier) plans from') of.1
      (none_second (unknown_in_definition (names earlier) d) _ none)
      (bounded_next earlier known bounded d p size (from_first d rest (length earlier) defs from) (from_first p rest_plans (length earlier) plans from')
      (plan_within earlier known bounded d rest none p of.0))

  room_at : (n callee : ℕ) → callee < n → room_below defs plans n callee ≡ plan_room defs plans callee
  room_at zero callee less = absurd (omega (arith, less))
  room_at (suc n) callee less = of_test (callee == n) refl (room_at n callee)
    where
      of_test : (b : Bool) → (callee == n) ≡ b → (callee < n → room_below defs plans n callee ≡ plan_room defs plans callee)
          → (if b then room_of (room_below defs plans n) (slice_get plans n) (slice_get defs n) else room_below defs plans n callee) ≡ plan_room defs plans callee
      of_test true is later = ap (plan_room defs plans) (sym (eqb-true callee n is))
      of_test false is later = let differs = eqb-false callee n is in later (omega (arith, less, differs))

-- an earlier definition has its number by its name
abbrev IsNumbered : List Def → ℕ → Def → Type 0
IsNumbered earlier k e =
    (callee_number (map signature earlier) (name_of e).text ≡ k) × (is_name_among (names earlier) (name_of e).text ≡ true)

numbered_first : (earlier : List Def) (d : Def) → IsNumbered (d ∷ earlier) (length earlier) d
numbered_first earlier d =
    let same : bytes_eq (name_of d).text (name_of d).text ≡ true = (bytes_eq-Decides (name_of d).text (name_of d).text).1 refl in
    (number_here earlier d (name_of d).text same, ap (λ (b : Bool). b || is_name_among (names earlier) (name_of d).text) same)

numbered_later : (earlier : List Def) (d : Def) → is_name_among (names earlier) (name_of d).text ≡ false → (k : ℕ) (e : Def)
    → IsNumbered earlier k e → IsNumbered (d ∷ earlier) k e
numbered_later earlier d new k e at = (
  number_there earlier d (name_of e).text (differs (bytes_eq (name_of d).text (name_of e).text) refl) ∙ at.0,
  or_found (bytes_eq (name_of e).text (name_of d).text) (is_name_among (names earlier) (name_of e).text) at.1,
)
  where
    or_found : (p q : Bool) → q ≡ true → (p || q) ≡ true
    or_found true q is = refl
    or_found false q is = is

    differs : (b : Bool) → bytes_eq (name_of d).text (name_of e).text ≡ b → bytes_eq (name_of d).text (name_of e).text ≡ false
    differs true is =
        let equal : (name_of d).text ≡ (name_of e).text = (bytes_eq-Decides (name_of d).text (name_of e).text).0 is in
        false_true (sym new ∙ ap (is_name_among (names earlier)) equal ∙ at.1)
    differs false is = is

all_numbered : (defs rest earlier : List Def) → NoneHold (repeated_names (names earlier) rest)
    → ((j : ℕ) → slice_get rest j ≡ slice_get defs (length earlier + j))
    → ((k : ℕ) (e : Def) → k < length earlier → slice_get defs k ≡ Some e → IsNumbered earlier k e)
    → (k : ℕ) (e : Def) → k < length (onto rest earlier) → slice_get defs k ≡ Some e → IsNumbered (onto rest earlier) k e
all_numbered defs [] earlier none from before k e less at = before k e less at
all_numbered defs (d ∷ rest) earlier none from before k e less at =
    all_numbered defs rest (d ∷ earlier) (none_second (repeated_declarations [] (declared_in d) ++ counters_in d) _ none.1)
    (λ j. let same : length earlier + suc j ≡ suc (length earlier) + j = omega arith in from (suc j) ∙ ap (slice_get defs) same)
    now k e less at
  where
    here : slice_get defs (length earlier) ≡ Some d
    here = let same : length earlier ≡ length earlier + 0 = omega arith in ap (slice_get defs) same ∙ sym (from 0)

    now : (k : ℕ) (e : Def) → k < suc (length earlier) → slice_get defs k ≡ Some e → IsNumbered (d ∷ earlier) k e
    now k e less at = elim (cases_lt k (length earlier)) [
      | inl below ↦ numbered_later earlier d none.0 k e (before k e below at)
      | inr above ↦
          let same : k ≡ length earlier = omega (arith, less, above) in
          let is_d : d ≡ e = same_Some d e (sym here ∙ ap (slice_get defs) (sym same) ∙ at) in
          subst (λ (n : ℕ). IsNumbered (d ∷ earlier) n e) (sym same) (subst (λ (f : Def). IsNumbered (d ∷ earlier) (length earlier) f) is_d (numbered_first earlier d))
    ]

length_onto : (rest earlier : List Def) → length (onto rest earlier) ≡ length rest + length earlier
length_onto [] earlier = omega arith
length_onto (d ∷ rest) earlier = let later = length_onto rest (d ∷ earlier) in omega (arith, later)

-- a size that is not too large has few operations
few_operations : (place : Place) (size : Size) → size_fault place size ≡ None → size.operations ≤ most_operations
few_operations place size e = ltb-false most_operations size.operations (no_fault _ _ (nat_lt most_operations size.operations) e)
  where
    no_fault : (fault : Fault) (later : Option Fault) (b : Bool) → (if b then Some fault else later) ≡ None → b ≡ false
    no_fault fault later true e = absurd (none-some fault (sym e))
    no_fault fault later false e = refl

-- what a judged file has passed: its names are distinct and known, and the operations of its entry are few
judged_rooms : (asked_width : Option ℕ) (asked_entry : Option (List ℕ)) (file : File) (width entry : ℕ)
    → IsJudged asked_width asked_entry file width entry
    → NoneHold (repeated_names [] file.defs) × NoneHold (unknown_names [] file.defs)
    × ((definition_size width file.defs (name_at file.defs entry)).operations ≤ most_operations)
judged_rooms asked_width asked_entry file width entry judged =
    let after_names = second_none _ _ judged.no_fault in
    let after_unknown = second_none _ _ after_names in
    let at_entry = subst (λ o. fault_at_entry asked_width file.defs o ≡ None) judged.has_entry (second_none (entry_fault (entry_of asked_entry file.defs)) _ after_unknown) in
    let grids = second_none (width_fault file.defs entry (width_of asked_width file.defs)) _ at_entry in
    let later = subst (λ o. later_fault_at o file.defs entry ≡ None) judged.has_width (second_none (grid_fault file.defs) _ grids) in
    let after_twice = second_none (twice_fault file.defs) _ (second_none (walks_fault width [] file.defs) _ later) in
    let after_cyclic = second_none (cyclic_fault file.defs) _ (second_none (unassigned_fault file.defs) _ after_twice) in (
      none_hold DuplicateName (repeated_names [] file.defs) (first_none _ _ judged.no_fault),
      none_hold UnknownName (unknown_names [] file.defs) (first_none _ _ after_names),
      few_operations (name_place file.defs entry) (definition_size width file.defs (name_at file.defs entry)) after_cyclic,
    )

-- by its plan the entry of a judged file makes at most as many elements as a program may have operations
pub plans_have_room : PlansHaveRoom
plans_have_room asked_width asked_entry file width entry judged plans planned = of_definition (slice_get file.defs entry) refl
  where
    from : (A : Type 0) (xs : List A) (j : ℕ) → slice_get xs j ≡ slice_get xs (0 + j)
    from A xs j = let same : j ≡ 0 + j = omega arith in ap (slice_get xs) same

    no_definition : (o : Option Plan) → room_of (room_below file.defs plans entry) o None ≡ 0
    no_definition (Some p) = refl
    no_definition None = refl

    of_definition : (o : Option Def) → slice_get file.defs entry ≡ o → plan_room file.defs plans entry ≤ most_operations
    of_definition None at =
        let empty : plan_room file.defs plans entry ≡ 0
        = ap (λ (o : Option Def). room_of (room_below file.defs plans entry) (slice_get plans entry) o) at ∙ no_definition (slice_get plans entry) in
        nothing_within (plan_room file.defs plans entry) most_operations empty
    of_definition (Some d) at =
        let passed = judged_rooms asked_width asked_entry file width entry judged in
        let bounded = all_bounded width file.defs plans file.defs plans [] [] (from Def file.defs) (from Plan plans) planned.of passed.1
        (λ name m. false_true m) in
        let count = length_onto file.defs [] in
        let within = slice_get_within file.defs entry d at in
        let less : entry < length (onto file.defs []) = omega (arith, count, within) in
        let found : IsNumbered (onto file.defs []) entry d
        = all_numbered file.defs file.defs [] passed.0 (from Def file.defs) (λ k e less at. absurd (omega (arith, less))) entry d less at in
        let room : room_below file.defs plans (length (onto file.defs [])) (callee_number (map signature (onto file.defs [])) (name_of d).text)
        ≡ plan_room file.defs plans entry
        = ap (room_below file.defs plans (length (onto file.defs []))) found.0 ∙ room_at width file.defs plans (length (onto file.defs [])) entry less in
        let named : (definition_size width file.defs (name_at file.defs entry)).operations
        ≡ (size_named (sizes_from width [] [] file.defs) (name_of d).text).operations
        = ap (λ (n : List ℕ). (definition_size width file.defs n).operations) (at_number file.defs entry d at).1 in
        in_turn (plan_room file.defs plans entry) _ _ _ (sym room) (bounded (name_of d).text found.1) named passed.2
