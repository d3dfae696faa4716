-- The plans of a judged file give what its definitions make.
use Rattle.std.proofs.Common.{◌≡◌, inl, inr, ◌+◌, ◌<◌, ℕ, zero, suc, Bool, true, false, ◌||◌, ◌==◌, List, [], ◌∷◌, ◌++◌, length, map, Option, Some, None, refl, sym, ap, ◌∙◌, subst, arith}
use Rattle.std.specs.Prelude.{bytes_eq, slice_get, if◌then◌else◌}
use Rattle.std.proofs.lemmas.Bool.{eqb-true, eq-eqb, cases_lt}
use Rattle.std.proofs.lemmas.List.{length-map}
use Rattle.std.proofs.lemmas.Option.{same_Some, slice_get_within}
use Rattle.std.proofs.lemmas.Slice.Eq.{bytes_eq-Decides}
use Rattle.usuba_trees.specs.declared.Def.{Def}
use Rattle.usuba_trees.specs.declared.Def.TheVariants as def
use Rattle.usuba_trees.specs.declared.File.{File}
use Rattle.usuba_model.specs.declared.fault.FaultKind.TheVariants.{AssignedTwice}
use Rattle.usuba_model.specs.Assignments.{twice_in, of_nodes, twice_fault}
use Rattle.usuba_model.specs.Entries.{entry_of, entry_fault, width_of, width_fault, grid_fault}
use Rattle.usuba_model.specs.Judging.{IsJudged, fault_at_entry, later_fault_at, walks_fault}
use Rattle.usuba_model.specs.Names.{is_name_among, name_of, names_of, repeated_names, repeated_declarations, declared_in, counters_in, unknown_in_definition}
use Rattle.usuba_model.specs.Numbers.{callee_number, AreDistinct}
use Rattle.usuba_model.specs.Operations.{calls_of}
use Rattle.usuba_model.specs.Rounds.{Operators, definition_outcome, outcomes}
use Rattle.usuba_model.specs.Unrolled.{Expression, cells, number, nothing, joined, call, complement, operation, shift, refresh, Instance, declarations, unrolled}
use Rattle.usuba_model.specs.Walk.{Signature, signature, signature_of}
use Rattle.usuba_model.proofs.CellLemmas.{false_true}
use Rattle.usuba_model.proofs.EntryOutcome.{IsFound, found_first, found_later, judged_passes, at_number}
use Rattle.usuba_model.proofs.FileOutcomes.{onto, names, Pass, AllTotal, none_total, total_next, definition_answers, pass_after, findings_after, signature_name}
use Rattle.usuba_model.proofs.JudgingLemmas.{first_none, second_none}
use Rattle.usuba_model.proofs.Knowing.{NoneHold, none_first, none_second, none_hold, node_knows, AllKnow}
use Rattle.usuba_model.proofs.NodeOutcome.{sized_from}
use Rattle.usuba_model.proofs.NodeSizing.{node_fits}
use Rattle.usuba_model.proofs.Valuing.{AreKnown}
use Rattle.usuba_trees.specs.declared.Decl.{Decl}
use Rattle.usuba_code.specs.Code.{Coded, coded, coded_node, code_of}
use Rattle.usuba_code.specs.CodeLaw.{Each, AnswersSame, CodeGivesValue}
use Rattle.usuba_code.specs.declared.operation.Operation.{Operation}
use Rattle.usuba_code.proofs.Numbering.{distinct_names}
use Rattle.usuba_code.proofs.Running.{each_first, each_second}
use Rattle.usuba_plan.specs.Made.{made_by, made_of, made_below}
use Rattle.usuba_plan.specs.Plans.{IsPlanOf, ArePlansOf, is_planned, CallsPlanned, AllCallsPlanned}
use Rattle.usuba_plan.specs.PlanLaw.{PlanGivesOutcome}
use Rattle.usuba_plan.specs.declared.plans.Plan.{Plan}
use Rattle.usuba_plan.specs.declared.plans.Plan.TheVariants as plan
use Rattle.usuba_plan.proofs.Callees.{made_at}
use Rattle.usuba_plan.proofs.NodePlans.{node_made}
use Rattle.usuba_plan.proofs.Taking.{instance_at}

each_join : {A : Type 0} (P : A → Type 0) (xs ys : List A) → Each P xs → Each P ys → Each P (xs ++ ys)
each_join P [] ys p q = q
each_join P (x ∷ xs) ys p q = (p.0, each_join P xs ys p.1 q)

not_same : (a b : ℕ) → a < b → (a == b) ≡ false
not_same a b less = of_it (a == b) refl
  where
    of_it : (t : Bool) → (a == b) ≡ t → (a == b) ≡ false
    of_it true is = let same = eqb-true a b is in absurd (omega (arith, less, same))
    of_it false is = is

-- the number of an earlier definition is below their count
number_below : (earlier : List Def) (name : List ℕ) → is_name_among (names earlier) name ≡ true → callee_number (map signature earlier) name < length earlier
number_below [] name m = false_true m
number_below (d ∷ earlier) name m = of_test (bytes_eq (signature d).name name) refl (number_below earlier name)
  where
    later : (b : Bool) → bytes_eq name (name_of d).text ≡ b → (b || is_name_among (names earlier) name) ≡ true
        → bytes_eq (signature d).name name ≡ false → is_name_among (names earlier) name ≡ true
    later false is m out = m
    later true is m out =
        let equal : name ≡ (name_of d).text = (bytes_eq-Decides name (name_of d).text).0 is in
        false_true (sym out ∙ (bytes_eq-Decides (signature d).name name).1 (signature_name d ∙ sym equal))

    len : length (map signature earlier) ≡ length earlier
    len = length-map earlier signature

    of_test : (b : Bool) → bytes_eq (signature d).name name ≡ b
        → (is_name_among (names earlier) name ≡ true → callee_number (map signature earlier) name < length earlier)
        → (if b then length (map signature earlier) else callee_number (map signature earlier) name) < suc (length earlier)
    of_test true is among = let same = len in omega (arith, same)
    of_test false is among =
        let below = among (later (bytes_eq name (name_of d).text) refl m is) in omega (arith, below)

-- what an expression calls is planned, where its code says so
calls_planned : (plans : List Plan) (signatures : List Signature) (declared : List Decl) (e : Expression)
    → Each (CallsPlanned plans) (code_of signatures declared e)
    → Each (λ name. is_planned (slice_get plans (callee_number signatures name)) ≡ true) (calls_of e)
calls_planned plans signatures declared (number value) all = tt
calls_planned plans signatures declared (cells read) all = tt
calls_planned plans signatures declared nothing all = tt
calls_planned plans signatures declared (joined a b) all =
    each_join (λ name. is_planned (slice_get plans (callee_number signatures name)) ≡ true) (calls_of a) (calls_of b)
    (calls_planned plans signatures declared a (each_first (CallsPlanned plans) (code_of signatures declared a) (code_of signatures declared b) all))
    (calls_planned plans signatures declared b (each_second (CallsPlanned plans) (code_of signatures declared a) (code_of signatures declared b) all))
calls_planned plans signatures declared (call name args) all = (
  (each_second (CallsPlanned plans) (code_of signatures declared args) _ all).0,
  calls_planned plans signatures declared args (each_first (CallsPlanned plans) (code_of signatures declared args) _ all),
)
calls_planned plans signatures declared (complement a) all =
    calls_planned plans signatures declared a (each_first (CallsPlanned plans) (code_of signatures declared a) _ all)
calls_planned plans signatures declared (operation op a b) all =
    let both = each_first (CallsPlanned plans) (code_of signatures declared a ++ code_of signatures declared b) _ all in
    each_join (λ name. is_planned (slice_get plans (callee_number signatures name)) ≡ true) (calls_of a) (calls_of b)
    (calls_planned plans signatures declared a (each_first (CallsPlanned plans) (code_of signatures declared a) (code_of signatures declared b) both))
    (calls_planned plans signatures declared b (each_second (CallsPlanned plans) (code_of signatures declared a) (code_of signatures declared b) both))
calls_planned plans signatures declared (shift kind k a) all =
    calls_planned plans signatures declared a (each_first (CallsPlanned plans) (code_of signatures declared a) _ all)
calls_planned plans signatures declared (refresh k a) all =
    calls_planned plans signatures declared a (each_first (CallsPlanned plans) (code_of signatures declared a) _ all)

pub known_at : (known : List (List ℕ)) (around : List (List ℕ)) (declared : List Decl) (instances : List Instance) → AllKnow known around declared instances
    → (k : ℕ) → k < length instances → AreKnown known (calls_of (instance_at instances k).right)
known_at known around declared [] knows k less = absurd (omega (arith, less))
known_at known around declared (i ∷ instances) knows zero less = knows.0
known_at known around declared (i ∷ instances) knows (suc k) less = known_at known around declared instances knows.1 k (omega (arith, less))

code_at : (P : Operation → Type 0) (signatures : List Signature) (declared : List Decl) (instances : List Instance)
    → Each (λ instance. Each P instance.code) (map (coded signatures declared) instances)
    → (k : ℕ) → k < length instances → Each P (code_of signatures declared (instance_at instances k).right)
code_at P signatures declared [] all k less = absurd (omega (arith, less))
code_at P signatures declared (i ∷ instances) all zero less = all.0
code_at P signatures declared (i ∷ instances) all (suc k) less = code_at P signatures declared instances all.1 k (omega (arith, less))

module _ {V : Type 0} (operators : Operators V) (law : CodeGivesValue V) (w : ℕ) (some_width : 0 < w) (defs : List Def) (plans : List Plan) where
  -- the planned ones of earlier definitions make by number what they make by name
  abbrev AgreeAll : List Def → Type 0
  AgreeAll earlier = (name : List ℕ) → is_name_among (names earlier) name ≡ true
      → is_planned (slice_get plans (callee_number (map signature earlier) name)) ≡ true
      → (xs : List V) → length xs ≡ (signature_of (map signature earlier) name).inputs
      → made_below operators defs plans (length earlier) (callee_number (map signature earlier) name) xs ≡ outcomes operators earlier name xs

  calls_agree : (earlier : List Def) → AgreeAll earlier → (called : List (List ℕ)) → AreKnown (names earlier) called
      → Each (λ name. is_planned (slice_get plans (callee_number (map signature earlier) name)) ≡ true) called
      → Each (AnswersSame (map signature earlier) (made_below operators defs plans (length earlier)) (outcomes operators earlier)) called
  calls_agree earlier agree [] known planned = tt
  calls_agree earlier agree (name ∷ called) known planned =
      (λ elements fits. agree name known.0 planned.0 elements fits, calls_agree earlier agree called known.1 planned.1)

  -- a definition makes by its plan what it makes
  plan_made : (earlier : List Def) → AgreeAll earlier → AllTotal operators w some_width earlier → (d : Def) (rest : List Def)
      → Pass w earlier (d ∷ rest) → AreDistinct (declared_in d) → NoneHold (of_nodes twice_in (d ∷ rest))
      → (p : Plan) → IsPlanOf (map signature earlier) p d → AllCallsPlanned plans p → is_planned (Some p) ≡ true
      → (xs : List V) → length xs ≡ (signature d).inputs
      → made_by operators (made_below operators defs plans (length earlier)) p d xs ≡ definition_outcome operators (outcomes operators earlier) d xs
  plan_made earlier agree total (def.Node node) rest pass distinct twice (plan.Node p) is calls planned xs len =
      let signatures = map signature earlier in
      let fits = node_fits w some_width signatures node 0 (first_none _ _ pass.walks) in
      let knows = node_knows (names earlier) node (none_first (unknown_in_definition (names earlier) (def.Node node)) _ pass.known) in
      let sized = sized_from w some_width (names earlier) signatures (declarations node) (names_of (declarations node)) (unrolled node) fits knows in
      let called : Each (λ instance. Each (CallsPlanned plans) instance.code) (coded_node signatures node)
      = subst (λ (done : List Coded). Each (λ instance. Each (CallsPlanned plans) instance.code) done) is.table calls in
      node_made w (names earlier) signatures operators (outcomes operators earlier) (made_below operators defs plans (length earlier)) total law node
      (record {
        distinct = distinct;
        sized = sized;
        calls = λ k less. calls_agree earlier agree (calls_of (instance_at (unrolled node) k).right)
            (known_at (names earlier) (names_of (declarations node)) (declarations node) (unrolled node) knows k less)
            (calls_planned plans signatures (declarations node) (instance_at (unrolled node) k).right
            (code_at (CallsPlanned plans) signatures (declarations node) (unrolled node) called k less));
        twice = none_first (twice_in node) (of_nodes twice_in rest) twice;
      })
      p is xs len
  plan_made earlier agree total (def.Node node) rest pass distinct twice (plan.Table outputs) is calls planned xs len = absurd is
  plan_made earlier agree total (def.Node node) rest pass distinct twice plan.Permutation is calls planned xs len = absurd is
  plan_made earlier agree total (def.Node node) rest pass distinct twice plan.Absent is calls planned xs len = false_true planned
  plan_made earlier agree total (def.Table grid) rest pass distinct twice (plan.Node p) is calls planned xs len = absurd is
  plan_made earlier agree total (def.Table grid) rest pass distinct twice (plan.Table outputs) is calls planned xs len =
      ap (λ (m : ℕ). made_by operators (made_below operators defs plans (length earlier)) (plan.Table m) (def.Table grid) xs) is
  plan_made earlier agree total (def.Table grid) rest pass distinct twice plan.Permutation is calls planned xs len = absurd is
  plan_made earlier agree total (def.Table grid) rest pass distinct twice plan.Absent is calls planned xs len = false_true planned
  plan_made earlier agree total (def.Perm grid) rest pass distinct twice (plan.Node p) is calls planned xs len = absurd is
  plan_made earlier agree total (def.Perm grid) rest pass distinct twice (plan.Table outputs) is calls planned xs len = absurd is
  plan_made earlier agree total (def.Perm grid) rest pass distinct twice plan.Permutation is calls planned xs len = refl
  plan_made earlier agree total (def.Perm grid) rest pass distinct twice plan.Absent is calls planned xs len = false_true planned

  -- with one more definition that makes by its plan what it makes, all do
  agree_next : (earlier : List Def) → AgreeAll earlier → (d : Def) (p : Plan) → slice_get defs (length earlier) ≡ Some d
      → slice_get plans (length earlier) ≡ Some p
      → (is_planned (Some p) ≡ true → (xs : List V) → length xs ≡ (signature d).inputs
      → made_by operators (made_below operators defs plans (length earlier)) p d xs ≡ definition_outcome operators (outcomes operators earlier) d xs)
      → AgreeAll (d ∷ earlier)
  agree_next earlier agree d p at_defs at_plans makes name m planned xs len =
      of_test (bytes_eq (name_of d).text name) refl planned len
    where
      count : length (map signature earlier) ≡ length earlier
      count = length-map earlier signature

      -- the callee's number, the inputs of its signature, and what it makes by name
      of_test : (b : Bool) → bytes_eq (name_of d).text name ≡ b
          → is_planned (slice_get plans (callee_number (map signature (d ∷ earlier)) name)) ≡ true
          → length xs ≡ (signature_of (map signature (d ∷ earlier)) name).inputs
          → made_below operators defs plans (suc (length earlier)) (callee_number (map signature (d ∷ earlier)) name) xs
          ≡ (if bytes_eq (name_of d).text name then definition_outcome operators (outcomes operators earlier) d xs else outcomes operators earlier name xs)
      of_test true is planned len =
          let test : bytes_eq (signature d).name name ≡ true = ap (λ (n : List ℕ). bytes_eq n name) (signature_name d) ∙ is in
          let at : callee_number (map signature (d ∷ earlier)) name ≡ length earlier
          = ap (λ (b : Bool). if b then length (map signature earlier) else callee_number (map signature earlier) name) test ∙ count in
          let chosen : signature_of (map signature (d ∷ earlier)) name ≡ signature d
          = ap (λ (b : Bool). if b then signature d else signature_of (map signature earlier) name) test in
          let now_planned : is_planned (Some p) ≡ true
          = ap is_planned (sym at_plans) ∙ ap (λ (k : ℕ). is_planned (slice_get plans k)) (sym at) ∙ planned in
          ap (λ (k : ℕ). made_below operators defs plans (suc (length earlier)) k xs) at
          ∙ ap (λ (b : Bool). if b then made_of operators (made_below operators defs plans (length earlier)) (slice_get plans (length earlier)) (slice_get defs (length earlier)) xs
          else made_below operators defs plans (length earlier) (length earlier) xs) (eq-eqb (length earlier) (length earlier) refl)
          ∙ ap (λ (o : Option Plan). made_of operators (made_below operators defs plans (length earlier)) o (slice_get defs (length earlier)) xs) at_plans
          ∙ ap (λ (o : Option Def). made_of operators (made_below operators defs plans (length earlier)) (Some p) o xs) at_defs
          ∙ makes now_planned xs (len ∙ ap (λ (s : Signature). s.inputs) chosen)
          ∙ sym (ap (λ (b : Bool). if b then definition_outcome operators (outcomes operators earlier) d xs else outcomes operators earlier name xs) is)
      of_test false is planned len =
          let test : bytes_eq (signature d).name name ≡ false = ap (λ (n : List ℕ). bytes_eq n name) (signature_name d) ∙ is in
          let at : callee_number (map signature (d ∷ earlier)) name ≡ callee_number (map signature earlier) name
          = ap (λ (b : Bool). if b then length (map signature earlier) else callee_number (map signature earlier) name) test in
          let chosen : signature_of (map signature (d ∷ earlier)) name ≡ signature_of (map signature earlier) name
          = ap (λ (b : Bool). if b then signature d else signature_of (map signature earlier) name) test in
          let among = later (bytes_eq name (name_of d).text) refl m in
          let low = number_below earlier name among in
          let differs : (callee_number (map signature earlier) name == length earlier) ≡ false
          = not_same (callee_number (map signature earlier) name) (length earlier) low in
          ap (λ (k : ℕ). made_below operators defs plans (suc (length earlier)) k xs) at
          ∙ ap (λ (b : Bool). if b then made_of operators (made_below operators defs plans (length earlier)) (slice_get plans (length earlier)) (slice_get defs (length earlier)) xs
          else made_below operators defs plans (length earlier) (callee_number (map signature earlier) name) xs) differs
          ∙ agree name among (ap (λ (k : ℕ). is_planned (slice_get plans k)) (sym at) ∙ planned) xs (len ∙ ap (λ (s : Signature). s.inputs) chosen)
          ∙ sym (ap (λ (b : Bool). if b then definition_outcome operators (outcomes operators earlier) d xs else outcomes operators earlier name xs) is)
        where
          later : (b : Bool) → bytes_eq name (name_of d).text ≡ b → (b || is_name_among (names earlier) name) ≡ true → is_name_among (names earlier) name ≡ true
          later true same m =
              let equal : name ≡ (name_of d).text = (bytes_eq-Decides name (name_of d).text).0 same in
              false_true (sym is ∙ (bytes_eq-Decides (name_of d).text name).1 (sym equal))
          later false same m = m

  -- the definitions from a place on are those of the file there, and so are the plans
  abbrev AreFrom : {A : Type 0} → List A → ℕ → List A → Type 0
  AreFrom rest n all = (j : ℕ) → slice_get rest j ≡ slice_get all (n + j)

  from_next : {A : Type 0} (x : A) (rest : List A) (n : ℕ) (all : List A) → AreFrom (x ∷ rest) n all → AreFrom rest (suc n) all
  from_next x rest n all from j = let same : n + suc j ≡ suc n + j = omega arith in from (suc j) ∙ ap (slice_get all) same

  from_first : {A : Type 0} (x : A) (rest : List A) (n : ℕ) (all : List A) → AreFrom (x ∷ rest) n all → slice_get all n ≡ Some x
  from_first x rest n all from = let same : n ≡ n + 0 = omega arith in ap (slice_get all) same ∙ sym (from 0)

  -- what is known of the definitions of a file from a place on
  pub record AreSound (earlier rest : List Def) (rest_plans : List Plan) : Type 0 where
    pub defs_from : AreFrom rest (length earlier) defs
    pub plans_from : AreFrom rest_plans (length earlier) plans
    pub of : ArePlansOf (map signature earlier) rest_plans rest
    pub calls : Each (AllCallsPlanned plans) rest_plans
    pub distinct : NoneHold (repeated_names (names earlier) rest)
    pub pass : Pass w earlier rest
    pub twice : NoneHold (of_nodes twice_in rest)

  all_agree : (rest : List Def) (rest_plans : List Plan) (earlier : List Def) → AreSound earlier rest rest_plans
      → AllTotal operators w some_width earlier → AgreeAll earlier → AgreeAll (onto rest earlier)
  all_agree [] rest_plans earlier sound total agree = agree
  all_agree (d ∷ rest) [] earlier sound total agree = absurd sound.of
  all_agree (d ∷ rest) (p ∷ rest_plans) earlier sound total agree =
      let here = none_first (repeated_declarations [] (declared_in d)) (counters_in d)
      (none_first (repeated_declarations [] (declared_in d) ++ counters_in d) (repeated_names ((name_of d).text ∷ names earlier) rest) sound.distinct.1) in
      all_agree rest rest_plans (d ∷ earlier)
      (record {
        defs_from = from_next d rest (length earlier) defs sound.defs_from;
        plans_from = from_next p rest_plans (length earlier) plans sound.plans_from;
        of = sound.of.1;
        calls = sound.calls.1;
        distinct = none_second (repeated_declarations [] (declared_in d) ++ counters_in d) (repeated_names ((name_of d).text ∷ names earlier) rest) sound.distinct.1;
        pass = pass_after operators w some_width earlier d rest sound.pass;
        twice = findings_after operators w some_width twice_in d rest sound.twice;
      })
      (total_next operators w some_width earlier total d (definition_answers operators w some_width earlier total d rest sound.pass))
      (agree_next earlier agree d p
      (from_first d rest (length earlier) defs sound.defs_from)
      (from_first p rest_plans (length earlier) plans sound.plans_from)
      (plan_made earlier agree total d rest sound.pass (distinct_names [] (declared_in d) here).1 sound.twice p sound.of.0 sound.calls.0))

-- an earlier definition is found by its name, and so is its number
abbrev IsAt : List Def → ℕ → Def → Type 0
IsAt earlier k e = (callee_number (map signature earlier) (name_of e).text ≡ k) × IsFound earlier e

at_first : (earlier : List Def) (d : Def) → IsAt (d ∷ earlier) (length earlier) d
at_first earlier d =
    let same : bytes_eq (name_of d).text (name_of d).text ≡ true = (bytes_eq-Decides (name_of d).text (name_of d).text).1 refl in
    let test : bytes_eq (signature d).name (name_of d).text ≡ true = ap (λ (n : List ℕ). bytes_eq n (name_of d).text) (signature_name d) ∙ same in (
      ap (λ (b : Bool). if b then length (map signature earlier) else callee_number (map signature earlier) (name_of d).text) test
          ∙ length-map earlier signature,
      found_first earlier d,
    )

at_later : (earlier : List Def) (d : Def) → is_name_among (names earlier) (name_of d).text ≡ false → (k : ℕ) (e : Def) → IsAt earlier k e → IsAt (d ∷ earlier) k e
at_later earlier d new k e at = (
  ap (λ (b : Bool). if b then length (map signature earlier) else callee_number (map signature earlier) (name_of e).text)
      (ap (λ (n : List ℕ). bytes_eq n (name_of e).text) (signature_name d) ∙ differs (bytes_eq (name_of d).text (name_of e).text) refl)
      ∙ at.0,
  found_later earlier d new e at.1,
)
  where
    differs : (b : Bool) → bytes_eq (name_of d).text (name_of e).text ≡ b → bytes_eq (name_of d).text (name_of e).text ≡ false
    differs true is =
        let equal : (name_of d).text ≡ (name_of e).text = (bytes_eq-Decides (name_of d).text (name_of e).text).0 is in
        false_true (sym new ∙ ap (is_name_among (names earlier)) equal ∙ at.1.0)
    differs false is = is

length_onto : (rest earlier : List Def) → length (onto rest earlier) ≡ length rest + length earlier
length_onto [] earlier = omega arith
length_onto (d ∷ rest) earlier = let later = length_onto rest (d ∷ earlier) in omega (arith, later)

all_at : (defs rest earlier : List Def) → NoneHold (repeated_names (names earlier) rest)
    → ((j : ℕ) → slice_get rest j ≡ slice_get defs (length earlier + j))
    → ((k : ℕ) (e : Def) → k < length earlier → slice_get defs k ≡ Some e → IsAt earlier k e)
    → (k : ℕ) (e : Def) → k < length (onto rest earlier) → slice_get defs k ≡ Some e → IsAt (onto rest earlier) k e
all_at defs [] earlier none from before k e less at = before k e less at
all_at defs (d ∷ rest) earlier none from before k e less at =
    all_at defs rest (d ∷ earlier) (none_second (repeated_declarations [] (declared_in d) ++ counters_in d) _ none.1)
    (λ j. let same : length earlier + suc j ≡ suc (length earlier) + j = omega arith in from (suc j) ∙ ap (slice_get defs) same)
    now k e less at
  where
    here : slice_get defs (length earlier) ≡ Some d
    here = let same : length earlier ≡ length earlier + 0 = omega arith in ap (slice_get defs) same ∙ sym (from 0)

    now : (k : ℕ) (e : Def) → k < suc (length earlier) → slice_get defs k ≡ Some e → IsAt (d ∷ earlier) k e
    now k e less at = elim (cases_lt k (length earlier)) [
      | inl below ↦ at_later earlier d none.0 k e (before k e below at)
      | inr above ↦
          let same : k ≡ length earlier = omega (arith, less, above) in
          let is_d : d ≡ e = same_Some d e (sym here ∙ ap (slice_get defs) (sym same) ∙ at) in
          subst (λ (n : ℕ). IsAt (d ∷ earlier) n e) (sym same) (subst (λ (f : Def). IsAt (d ∷ earlier) (length earlier) f) is_d (at_first earlier d))
    ]

-- a judged file assigns no cell twice
judged_twice : (asked_width : Option ℕ) (asked_entry : Option (List ℕ)) (file : File) (width entry : ℕ)
    → IsJudged asked_width asked_entry file width entry → NoneHold (of_nodes twice_in file.defs)
judged_twice asked_width asked_entry file width entry judged =
    let after_names = second_none _ _ judged.no_fault in
    let after_unknown = second_none _ _ after_names in
    let at_entry = subst (λ o. fault_at_entry asked_width file.defs o ≡ None) judged.has_entry (second_none (entry_fault (entry_of asked_entry file.defs)) _ after_unknown) in
    let grids = second_none (width_fault file.defs entry (width_of asked_width file.defs)) _ at_entry in
    let later = subst (λ o. later_fault_at o file.defs entry ≡ None) judged.has_width (second_none (grid_fault file.defs) _ grids) in
    none_hold AssignedTwice (of_nodes twice_in file.defs) (first_none (twice_fault file.defs) _ (second_none (walks_fault width [] file.defs) _ later))

-- the plan of the entry of a judged file gives what the entry makes
pub plan_gives_outcome : {V : Type 0} → CodeGivesValue V → PlanGivesOutcome V
plan_gives_outcome law operators asked_width asked_entry file width entry judged some_width plans planned d at elements len =
    let defs = file.defs in
    let passed = judged_passes asked_width asked_entry file width entry judged in
    let from : (A : Type 0) (xs : List A) (j : ℕ) → slice_get xs j ≡ slice_get xs (0 + j)
    = λ A xs j. let same : j ≡ 0 + j = omega arith in ap (slice_get xs) same in
    let agree = all_agree operators law width some_width defs plans defs plans [] (record {
      defs_from = from Def defs;
      plans_from = from Plan plans;
      of = planned.of;
      calls = planned.calls;
      distinct = passed.0;
      pass = passed.1;
      twice = judged_twice asked_width asked_entry file width entry judged;
    }) (none_total operators width some_width) (λ name m. false_true m) in
    let count = length_onto defs [] in
    let within = slice_get_within defs entry d at in
    let less : entry < length (onto defs []) = omega (arith, count, within) in
    let found : IsAt (onto defs []) entry d = all_at defs defs [] passed.0 (from Def defs) (λ k e less at. absurd (omega (arith, less))) entry d less at in
    sym (made_at defs plans operators elements (length (onto defs [])) entry less)
    ∙ ap (λ (k : ℕ). made_below operators defs plans (length (onto defs [])) k elements) (sym found.0)
    ∙ agree (name_of d).text found.1.0 (ap (λ (k : ℕ). is_planned (slice_get plans k)) found.0 ∙ planned.entry_planned) elements
    (len ∙ sym (ap (λ (s : Signature). s.inputs) found.1.1))
    ∙ ap (λ (n : List ℕ). outcomes operators (onto defs []) n elements) (sym (at_number defs entry d at).1)
