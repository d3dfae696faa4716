-- Declared variables one after another.
use Rattle.std.proofs.Common.{◌≡◌, ◌<◌, ◌≤◌, ◌+◌, ℕ, Bool, true, false, List, [], ◌∷◌, ◌++◌, length, drop, take, get_or, slice_range, refl, sym, ap, ◌∙◌, arith, Option, Some, None}
use Rattle.std.specs.Prelude.{if◌then◌else◌, IsSome, MatchOption}
use Rattle.std.specs.Option.{option_or}
use Rattle.std.proofs.lemmas.Bool.{some_since}
use Rattle.std.proofs.lemmas.List.{drop_more, append_cancel_right, take-append-drop}
use Rattle.std.proofs.lemmas.List.Folds.{drop_split}
use Rattle.tor_edge.specs.declared.place.Place.{Place}
use Rattle.usuba_trees.specs.declared.Decl.{Decl}
use Rattle.usuba_trees.specs.declared.Node.{Node}
use Rattle.usuba_model.specs.declared.fault.Fault.{Fault}
use Rattle.usuba_model.specs.declared.fault.FaultKind.TheVariants.{Unassigned}
use Rattle.usuba_model.specs.Faults.{Finding, first_of}
use Rattle.usuba_model.specs.Shapes.{elements, all_elements}
use Rattle.usuba_model.specs.Unrolled.{declarations}
use Rattle.usuba_code.specs.Code.{Coded}
use Rattle.ready_order.specs.Numbered.{is_one_of, assigned_numbers, lacks_assigned, lacks_read, outputs_numbered, locals_numbered}
use Rattle.ready_order.specs.NumberedLaws.{unassigned_numbered}
use Rattle.ready_order.specs.Uses.{Used, has_mark, IsUsedBy}
use Rattle.ready_order.specs.State.Lacking.{lacking, place_lacking, place_unassigned}
use Rattle.ready_order.proofs.Carrying.{all_elements-append}

-- what is left of declared variables begins with the next one
next_declared : (ds : List Decl) (k : ℕ) (d : Decl) → k < length ds → d ≡ get_or ds k d → drop k ds ≡ d ∷ drop (k + 1) ds
next_declared ds k d h e = drop_more ds k d h ∙ ap (λ (x : Decl). x ∷ drop (k + 1) ds) (sym e)

-- one declared variable alone
one_declared : (ds : List Decl) (k : ℕ) (d : Decl) → k < length ds → d ≡ get_or ds k d → slice_range ds k (k + 1) ≡ d ∷ []
one_declared ds k d h e =
    append_cancel_right (slice_range ds k (k + 1)) (d ∷ []) (drop (k + 1) ds)
    (sym (drop_split ds k (k + 1) (omega arith)) ∙ next_declared ds k d h e)

pub one_elements : (ds : List Decl) (k : ℕ) (d : Decl) → k < length ds → d ≡ get_or ds k d → all_elements (slice_range ds k (k + 1)) ≡ elements d
one_elements ds k d h e = ap all_elements (one_declared ds k d h e) ∙ omega arith

-- a part has no more elements than all
pub part_elements : (ds : List Decl) (k : ℕ) → all_elements (slice_range ds k (k + 1)) ≤ all_elements ds
part_elements ds k =
    let whole = ap all_elements (sym (take-append-drop k ds)) in
    let parts = all_elements-append (take k ds) (drop k ds) in
    let rest = ap all_elements (drop_split ds k (k + 1) (omega arith)) in
    let both = all_elements-append (slice_range ds k (k + 1)) (drop (k + 1) ds) in
    omega (arith, whole, parts, rest, both)

module _ (test : ℕ → ℕ → Bool) (ds : List Decl) (k : ℕ) (d : Decl) (h : k < length ds) (e : d ≡ get_or ds k d) (from count : ℕ)
    (is : count ≡ all_elements (slice_range ds k (k + 1))) where
  count_is : count ≡ elements d
  count_is = is ∙ one_elements ds k d h e

  pub sum_step : (sum : ℕ) → from + all_elements (drop k ds) ≡ sum → (from + count) + all_elements (drop (k + 1) ds) ≡ sum
  sum_step sum s =
      let next = ap all_elements (next_declared ds k d h e) in
      let own = count_is in
      omega (arith, next, own, s)

  opened : place_lacking test from (drop k ds)
      ≡ (if test from count then Some d.name.place else place_lacking test (from + count) (drop (k + 1) ds))
  opened =
      ap (place_lacking test from) (next_declared ds k d h e)
      ∙ ap (λ (n : ℕ). if test from n then Some d.name.place else place_lacking test (from + n) (drop (k + 1) ds)) (sym count_is)

  pub lacking_here : (found : Option Place) → true ≡ test from count → place_lacking test from (drop k ds) ≡ found → Some d.name.place ≡ found
  lacking_here found hit done =
      sym (opened ∙ ap (λ (b : Bool). if b then Some d.name.place else place_lacking test (from + count) (drop (k + 1) ds)) (sym hit)) ∙ done

  pub lacking_later : (found : Option Place) → false ≡ test from count → place_lacking test from (drop k ds) ≡ found
      → place_lacking test (from + count) (drop (k + 1) ds) ≡ found
  lacking_later found miss done =
      sym (opened ∙ ap (λ (b : Bool). if b then Some d.name.place else place_lacking test (from + count) (drop (k + 1) ds)) (sym miss)) ∙ done

-- a count that is asked for is there
pub counted : (o : Option ℕ) (n most : ℕ) → MatchOption o (most < n) (λ count. (count ≡ n) × (count ≤ most)) → n ≤ most → IsSome o
counted o n most m le = some_since o (most < n) (λ count. (count ≡ n) × (count ≤ most)) m (λ lt. absurd (omega (arith, lt, le)))

pub node_elements : (node : Node)
    → all_elements (declarations node) ≡ all_elements node.inputs + all_elements node.outputs + all_elements node.locals
node_elements node =
    let all = all_elements-append (node.inputs ++ node.outputs) node.locals in
    let first = all_elements-append node.inputs node.outputs in
    omega (arith, all, first)

-- the fault at a place
abbrev pub unassigned_at : Option Place → Option Fault
unassigned_at None = None
unassigned_at (Some place) = Some (record { kind = Unassigned; place = place })

chosen_at : (b : Bool) (place : Place) (fault : Option Fault) (later : Option Place) → fault ≡ unassigned_at later
    → (if b then Some (record { kind = Unassigned; place = place }) else fault) ≡ unassigned_at (if b then Some place else later)
chosen_at true place fault later e = refl
chosen_at false place fault later e = e

outputs_first : (used : Used) (ds : List Decl) (first : ℕ)
    → first_of Unassigned (outputs_numbered (has_mark used.assigned) first ds) ≡ unassigned_at (place_lacking (lacking used false) first ds)
outputs_first used [] first = refl
outputs_first used (d ∷ ds) first =
    chosen_at (lacks_assigned (has_mark used.assigned) first (elements d)) d.name.place
    (first_of Unassigned (outputs_numbered (has_mark used.assigned) (first + elements d) ds))
    (place_lacking (lacking used false) (first + elements d) ds) (outputs_first used ds (first + elements d))

locals_first : (used : Used) (ds : List Decl) (first : ℕ)
    → first_of Unassigned (locals_numbered (has_mark used.assigned) (has_mark used.read) first ds)
    ≡ unassigned_at (place_lacking (lacking used true) first ds)
locals_first used [] first = refl
locals_first used (d ∷ ds) first =
    chosen_at (lacks_read (has_mark used.assigned) (has_mark used.read) first (elements d)) d.name.place
    (first_of Unassigned (locals_numbered (has_mark used.assigned) (has_mark used.read) (first + elements d) ds))
    (place_lacking (lacking used true) (first + elements d) ds) (locals_first used ds (first + elements d))

first_of-append : (a b : List Finding) → first_of Unassigned (a ++ b) ≡ option_or (first_of Unassigned a) (first_of Unassigned b)
first_of-append [] b = refl
first_of-append (f ∷ a) b = at_first f.holds (first_of-append a b)
  where
    at_first : (t : Bool) → first_of Unassigned (a ++ b) ≡ option_or (first_of Unassigned a) (first_of Unassigned b)
        → (if t then Some (record { kind = Unassigned; place = f.place }) else first_of Unassigned (a ++ b))
        ≡ option_or (if t then Some (record { kind = Unassigned; place = f.place }) else first_of Unassigned a) (first_of Unassigned b)
    at_first true e = refl
    at_first false e = e

either_at : (a b : Option Place) → option_or (unassigned_at a) (unassigned_at b) ≡ unassigned_at (option_or a b)
either_at None b = refl
either_at (Some place) b = refl

-- the first finding that holds is that of the first variable that lacks an assigned cell
pub unassigned_found : (node : Node) (instances : List Coded) (used : Used) → IsUsedBy instances used
    → unassigned_at (place_unassigned used node) ≡ first_of Unassigned (unassigned_numbered node instances)
unassigned_found node instances used is =
    let inputs = all_elements node.inputs in
    let locals = all_elements node.inputs + all_elements node.outputs in
    let first = place_lacking (lacking used false) inputs node.outputs in
    let second = place_lacking (lacking used true) locals node.locals in
    let findings : (ℕ → Bool) → (ℕ → Bool) → Option Fault
    = λ assigned read. first_of Unassigned (outputs_numbered assigned inputs node.outputs ++ locals_numbered assigned read locals node.locals) in
    sym (either_at first second)
    ∙ ap (λ (o : Option Fault). option_or o (unassigned_at second)) (sym (outputs_first used node.outputs inputs))
    ∙ ap (option_or (first_of Unassigned (outputs_numbered (has_mark used.assigned) inputs node.outputs))) (sym (locals_first used node.locals locals))
    ∙ sym (first_of-append (outputs_numbered (has_mark used.assigned) inputs node.outputs)
    (locals_numbered (has_mark used.assigned) (has_mark used.read) locals node.locals))
    ∙ ap (λ (test : ℕ → Bool). findings test (has_mark used.read)) is.assigned
    ∙ ap (λ (test : ℕ → Bool). findings (is_one_of (assigned_numbers instances)) test) is.read
