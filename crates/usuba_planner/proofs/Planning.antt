-- Definitions are planned one after another, from the last to the first.
use Rattle.std.proofs.Common.{◌≡◌, ℕ, zero, suc, ◌+◌, ◌<◌, ◌≤◌, Bool, true, false, ◌||◌, List, [], ◌∷◌, ◌++◌, length, map, take, drop, reverse, replicate, get_or, Some, refl, sym, ap, ◌∙◌, subst, arith, length-set}
use Rattle.std.specs.Prelude.{slice_get}
use Rattle.std.proofs.lemmas.List.{drop_more, drop_all, take_more, get_or-set_same, get_or_past, length-replicate, reverse-append, length-reverse, length-map, length-take-le}
use Rattle.std.proofs.lemmas.Option.{slice_get-get_or, get_or_from_slice_get}
use Rattle.usuba_trees.specs.declared.Def.{Def}
use Rattle.usuba_trees.specs.declared.Def.TheVariants as def
use Rattle.usuba_model.specs.Walk.{Signature, signature}
use Rattle.usuba_model.proofs.CellLemmas.{false_true}
use Rattle.usuba_code.specs.Code.{Coded}
use Rattle.usuba_code.specs.CodeLaw.{Each}
use Rattle.usuba_code.specs.declared.operation.Operation.{Operation}
use Rattle.usuba_code.specs.declared.operation.Operation.TheVariants as make
use Rattle.ready_order.specs.Numbered.{is_one_of}
use Rattle.ready_order.specs.State.Marks.{is_marked, marked}
use Rattle.ready_order.proofs.Among.{AllBelow, or_left, or_right, one_of_first, one_of_later, one_of_left, one_of_right}
use Rattle.ready_order.proofs.MarkLemmas.{all_marked_at, length-all_marked}
use Rattle.usuba_walk.specs.Signatures.{HasOwnName, before_latest}
use Rattle.usuba_plan.specs.Plans.{IsPlanOf, ArePlansOf, is_planned, CallsPlanned, AllCallsPlanned, IsPlanned}
use Rattle.usuba_plan.specs.declared.plans.Plan.{Plan}
use Rattle.usuba_plan.specs.declared.plans.Plan.TheVariants as plan
use Rattle.usuba_planner.specs.State.Calls.{called_in, all_called, called_by}
use Rattle.usuba_planner.specs.State.Sound.{IsSound, AllSound, IsStep, signatures_before}

-- what a plan calls is marked
abbrev pub IsMarked : List Bool → Plan → Type 0
IsMarked marks p = (c : ℕ) → is_one_of (called_by p) c ≡ true → is_marked marks c ≡ true

-- the definitions from a number on are planned, the last first
pub record IsPlannedFrom (defs : List Def) (entry number : ℕ) (earlier : List Signature) (marks : List Bool) (plans : List Plan) : Type 0 where
  pub within : number ≤ length defs
  pub before : earlier ≡ signatures_before defs number
  pub as_many : length marks ≡ length defs
  pub of : ArePlansOf earlier (reverse plans) (drop number defs)
  pub calls : Each (IsMarked marks) (reverse plans)
  pub planned : (j : ℕ) → is_marked marks (number + j) ≡ true → is_planned (slice_get (reverse plans) j) ≡ true
  pub entry_marked : is_marked marks entry ≡ true

-- what calls see of one more definition
pub signatures_next : (defs : List Def) (k : ℕ) (d : Def) → k < length defs → d ≡ get_or defs k d
    → signatures_before defs (k + 1) ≡ signature d ∷ signatures_before defs k
signatures_next defs k d less at =
    ap (λ (ds : List Def). map signature (reverse ds))
    (take_more defs k d less ∙ ap (λ (e : Def). take k defs ++ e ∷ []) (sym at))
    ∙ ap (map signature) (reverse-append (take k defs) (d ∷ []))

pub length-signatures : (defs : List Def) (k : ℕ) → k ≤ length defs → length (signatures_before defs k) ≡ k
length-signatures defs k within =
    let mapped = length-map (reverse (take k defs)) signature in
    let reversed = length-reverse (take k defs) in
    let taken : length (take k defs) ≡ k = length-take-le k defs within in
    mapped ∙ reversed ∙ taken

each_then : {A : Type 0} (P Q : A → Type 0) → ((x : A) → P x → Q x) → (xs : List A) → Each P xs → Each Q xs
each_then P Q f [] all = tt
each_then P Q f (x ∷ xs) all = (f x all.0, each_then P Q f xs all.1)

-- at first no definition is planned, and the entry is marked
pub planned_first : (defs : List Def) (entry : ℕ) (earlier : List Signature) (none marks : List Bool) → entry < length defs
    → earlier ≡ signatures_before defs (length defs) → none ≡ replicate (length defs) false → marks ≡ marked none entry
    → (plans : List Plan) → plans ≡ [] → IsPlannedFrom defs entry (length defs) earlier marks plans
planned_first defs entry earlier none marks less before begun same plans empty =
    let as_many : length marks ≡ length defs
    = ap length same ∙ length-set none entry true ∙ ap length begun ∙ length-replicate (length defs) false in
    let no_plans : reverse plans ≡ [] = ap reverse empty in
    record {
      within = omega arith;
      before = before;
      as_many = as_many;
      of = subst (λ (ps : List Plan). ArePlansOf earlier ps (drop (length defs) defs)) (sym no_plans)
          (subst (λ (ds : List Def). ArePlansOf earlier [] ds) (sym (drop_all (length defs) defs (omega arith))) tt);
      calls = subst (λ (ps : List Plan). Each (IsMarked marks) ps) (sym no_plans) tt;
      planned = λ j m.
          let past : length marks ≤ length defs + j = omega (arith, as_many) in
          false_true (sym (get_or_past marks (length defs + j) false past) ∙ m);
      entry_marked = ap (λ (ms : List Bool). is_marked ms entry) same
          ∙ get_or-set_same none entry true false (omega (arith, less, ap length begun, length-replicate (length defs) false));
    }

some_at : (defs : List Def) (k : ℕ) → k < length defs → (d : Def) × (slice_get defs k ≡ Some d)
some_at [] k less = absurd (omega (arith, less))
some_at (d ∷ defs) zero less = (d, refl)
some_at (d ∷ defs) (suc k) less = some_at defs k (omega (arith, less))

-- the name of the latest definition is its own
pub own_name : (w : ℕ) (defs : List Def) (n k : ℕ) (earlier : List Signature) → n ≡ k + 1 → k < length defs → AllSound w defs
    → earlier ≡ signatures_before defs n → HasOwnName earlier
own_name w defs n k earlier next less sound before =
    let some = some_at defs k less in
    subst HasOwnName
    (sym (before ∙ ap (signatures_before defs) next ∙ signatures_next defs k some.0 less (sym (get_or_from_slice_get defs k some.0 some.0 some.1))))
    (sound k some.0 some.1).new

-- once the latest definition is forgotten, the rest are those before it
pub forgotten : (defs : List Def) (n k : ℕ) (later earlier : List Signature) (d : Def) → n ≡ k + 1 → k < length defs → d ≡ get_or defs k d
    → later ≡ signatures_before defs n → earlier ≡ before_latest later → earlier ≡ signatures_before defs k
forgotten defs n k later earlier d next less at before forgot =
    forgot ∙ ap before_latest (before ∙ ap (signatures_before defs) next ∙ signatures_next defs k d less at)

-- the definition to be planned is sound
pub sound_next : (w : ℕ) (defs : List Def) (n k : ℕ) (later earlier : List Signature) (d : Def) → n ≡ k + 1 → k < length defs
    → d ≡ get_or defs k d → AllSound w defs → later ≡ signatures_before defs n → earlier ≡ before_latest later → IsSound w earlier d
sound_next w defs n k later earlier d next less at sound before forgot =
    subst (λ (ss : List Signature). IsSound w ss d) (sym (forgotten defs n k later earlier d next less at before forgot))
    (sound k d (slice_get-get_or defs k d less ∙ ap Some (sym at)))

-- its number is how many definitions are left
pub number_next : (defs : List Def) (n k : ℕ) (later earlier : List Signature) (d : Def) → n ≡ k + 1 → k < length defs → d ≡ get_or defs k d
    → later ≡ signatures_before defs n → earlier ≡ before_latest later → k ≡ length earlier
number_next defs n k later earlier d next less at before forgot =
    sym (ap length (forgotten defs n k later earlier d next less at before forgot) ∙ length-signatures defs k (omega (arith, less)))

-- what a plan of a sound definition calls is earlier
plan_below : (w : ℕ) (signatures : List Signature) (d : Def) (p : Plan) → IsSound w signatures d → IsPlanOf signatures p d
    → AllBelow (length signatures) (called_by p)
plan_below w signatures (def.Node node) (plan.Node p) sound of =
    subst (λ (done : List Coded). AllBelow (length signatures) (all_called done)) (sym of.table) sound.earlier
plan_below w signatures (def.Table grid) (plan.Node p) sound of = absurd of
plan_below w signatures (def.Perm grid) (plan.Node p) sound of = absurd of
plan_below w signatures d (plan.Table outputs) sound of = λ c m. false_true m
plan_below w signatures d plan.Permutation sound of = λ c m. false_true m
plan_below w signatures d plan.Absent sound of = λ c m. false_true m

-- one more definition is planned
pub planned_next : (w : ℕ) (defs : List Def) (entry n k : ℕ) (later earlier : List Signature) (before after : List Bool) (plans pushed : List Plan)
    (d : Def) (p : Plan) → n ≡ k + 1 → k < length defs → d ≡ get_or defs k d → AllSound w defs
    → IsPlannedFrom defs entry n later before plans → earlier ≡ before_latest later → IsStep earlier d before after p
    → pushed ≡ plans ++ p ∷ [] → IsPlannedFrom defs entry k earlier after pushed
planned_next w defs entry n k later earlier before after plans pushed d p next less at sound from forgot step push = record {
  within = omega (arith, less);
  before = now;
  as_many = ap length step.marks ∙ length-all_marked (called_by p) before ∙ from.as_many;
  of =
      subst (λ (ps : List Plan). ArePlansOf earlier ps (drop k defs)) (sym reversed)
      (subst (λ (ds : List Def). ArePlansOf earlier (p ∷ reverse plans) ds) (sym opened) (
        step.of,
        subst (λ (ss : List Signature). ArePlansOf ss (reverse plans) (drop (k + 1) defs)) latest
            (subst (λ (m : ℕ). ArePlansOf later (reverse plans) (drop m defs)) next from.of),
      ));
  calls =
      subst (λ (ps : List Plan). Each (IsMarked after) ps) (sym reversed) (
        λ c m. is_after c ∙ or_left (is_one_of (called_by p) c) (is_marked before c) m,
        each_then (IsMarked before) (IsMarked after) (λ q marks c m. more c (marks c m)) (reverse plans) from.calls,
      );
  planned = λ j m. subst (λ (ps : List Plan). is_planned (slice_get ps j) ≡ true) (sym reversed) (planned j m);
  entry_marked = more entry from.entry_marked;
}
  where
    latest : later ≡ signature d ∷ earlier
    latest =
        let opened : later ≡ signature d ∷ signatures_before defs k = from.before ∙ ap (signatures_before defs) next ∙ signatures_next defs k d less at in
        opened ∙ ap (λ (ss : List Signature). signature d ∷ ss) (sym (forgot ∙ ap before_latest opened))

    now : earlier ≡ signatures_before defs k
    now = forgotten defs n k later earlier d next less at from.before forgot

    count : length earlier ≡ k
    count = ap length now ∙ length-signatures defs k (omega (arith, less))

    sound_here : IsSound w earlier d
    sound_here = sound_next w defs n k later earlier d next less at sound from.before forgot

    below : AllBelow k (called_by p)
    below = subst (λ (m : ℕ). AllBelow m (called_by p)) count (plan_below w earlier d p sound_here step.of)

    reversed : reverse pushed ≡ p ∷ reverse plans
    reversed = ap reverse push ∙ reverse-append plans (p ∷ [])

    opened : drop k defs ≡ d ∷ drop (k + 1) defs
    opened = drop_more defs k d less ∙ ap (λ (e : Def). e ∷ drop (k + 1) defs) (sym at)

    is_after : (c : ℕ) → is_marked after c ≡ (is_one_of (called_by p) c || is_marked before c)
    is_after c =
        ap (λ (ms : List Bool). is_marked ms c) step.marks
        ∙ all_marked_at (called_by p) before c (λ b m. let small = below b m in omega (arith, small, less, from.as_many))

    more : (c : ℕ) → is_marked before c ≡ true → is_marked after c ≡ true
    more c m = is_after c ∙ or_right (is_one_of (called_by p) c) (is_marked before c) m

    -- the numbers from this one on have no new marks
    old : (c : ℕ) → k ≤ c → is_marked after c ≡ true → is_marked before c ≡ true
    old c from m = by (is_one_of (called_by p) c) refl (sym (is_after c) ∙ m)
      where
        by : (b : Bool) → is_one_of (called_by p) c ≡ b → (b || is_marked before c) ≡ true → is_marked before c ≡ true
        by true is e = let small = below c is in absurd (omega (arith, small, from))
        by false is e = e

    planned : (j : ℕ) → is_marked after (k + j) ≡ true → is_planned (slice_get (p ∷ reverse plans) j) ≡ true
    planned zero m =
        let same : k + 0 ≡ length earlier = omega (arith, count) in
        step.planned ∙ ap (is_marked before) (sym same) ∙ old (k + 0) (omega arith) m
    planned (suc j) m =
        let same : k + suc j ≡ n + j = omega (arith, next) in
        from.planned j (ap (is_marked before) (sym same) ∙ old (k + suc j) (omega arith) m)

module _ (plans : List Plan) where
  code_planned : (code : List Operation) → ((c : ℕ) → is_one_of (called_in code) c ≡ true → is_planned (slice_get plans c) ≡ true)
      → Each (CallsPlanned plans) code
  code_planned [] all = tt
  code_planned (make.Number value ∷ code) all = (tt, code_planned code all)
  code_planned (make.Cell cell ∷ code) all = (tt, code_planned code all)
  code_planned (make.Call callee inputs ∷ code) all = (
    all callee (one_of_first callee (called_in code)),
    code_planned code (λ c m. all c (one_of_later callee (called_in code) c m)),
  )
  code_planned (make.Complement n ∷ code) all = (tt, code_planned code all)
  code_planned (make.Combine op n ∷ code) all = (tt, code_planned code all)
  code_planned (make.Shift kind amount ∷ code) all = (tt, code_planned code all)
  code_planned (make.Refresh k n ∷ code) all = (tt, code_planned code all)

  table_planned : (instances : List Coded) → ((c : ℕ) → is_one_of (all_called instances) c ≡ true → is_planned (slice_get plans c) ≡ true)
      → Each (λ instance. Each (CallsPlanned plans) instance.code) instances
  table_planned [] all = tt
  table_planned (i ∷ instances) all = (
    code_planned i.code (λ c m. all c (one_of_left (called_in i.code) (all_called instances) c m)),
    table_planned instances (λ c m. all c (one_of_right (called_in i.code) (all_called instances) c m)),
  )

  plan_planned : (p : Plan) → ((c : ℕ) → is_one_of (called_by p) c ≡ true → is_planned (slice_get plans c) ≡ true) → AllCallsPlanned plans p
  plan_planned (plan.Node p) all = table_planned p.table.done all
  plan_planned (plan.Table outputs) all = tt
  plan_planned plan.Permutation all = tt
  plan_planned plan.Absent all = tt

-- at last all definitions are planned
pub planned_all : (defs : List Def) (entry n : ℕ) (earlier : List Signature) (marks : List Bool) (plans : List Plan) → n ≡ 0
    → IsPlannedFrom defs entry n earlier marks plans → IsPlanned defs (reverse plans) entry
planned_all defs entry n earlier marks plans none from = record {
  of =
      subst (λ (ss : List Signature). ArePlansOf ss (reverse plans) defs) (from.before ∙ ap (signatures_before defs) none)
      (subst (λ (m : ℕ). ArePlansOf earlier (reverse plans) (drop m defs)) none from.of);
  calls =
      each_then (IsMarked marks) (AllCallsPlanned (reverse plans)) (λ p marked. plan_planned (reverse plans) p (λ c m. planned c (marked c m)))
      (reverse plans) from.calls;
  entry_planned = planned entry from.entry_marked;
}
  where
    planned : (c : ℕ) → is_marked marks c ≡ true → is_planned (slice_get (reverse plans) c) ≡ true
    planned c m = let same : c ≡ n + c = omega (arith, none) in from.planned c (ap (is_marked marks) (sym same) ∙ m)
