-- Marks stand for the cells that were marked.
use Rattle.std.proofs.Common.{◌≡◌, ◌<◌, ◌≤◌, inl, inr, ℕ, Bool, true, false, ◌||◌, List, [], ◌∷◌, ◌++◌, length, replicate, refl, sym, ap, ◌∙◌, subst, arith, Option, Some, None, length-set, append_assoc}
use Rattle.std.specs.Prelude.{nat_eq, if◌then◌else◌}
use Rattle.std.specs.Option.{option_or}
use Rattle.std.proofs.lemmas.Bool.{eqb-true, eqb-false, cases_lt}
use Rattle.std.proofs.lemmas.List.{get_or-set_same, get_or-set_other, get_or_past, get_or-replicate, length-replicate}
use Rattle.tor_edge.specs.declared.place.Place.{Place}
use Rattle.usuba_model.specs.declared.fault.Fault.{Fault}
use Rattle.usuba_model.specs.declared.fault.FaultKind.TheVariants.{AssignedTwice}
use Rattle.usuba_model.specs.Faults.{first_of}
use Rattle.usuba_code.specs.Code.{Assigned, Coded}
use Rattle.ready_order.specs.Numbered.{is_one_of, input_numbers, target_numbers, left_numbers, all_targets, assigned_numbers, holds_number_again, numbers_again, twice_numbered, AreBelow}
use Rattle.ready_order.specs.State.Marks.{is_marked, marked, all_marked, has_marked, first_marked}
use Rattle.ready_order.proofs.Among.{or_false, one_of_first, one_of_later, one_of-append, one_of_left, one_of_right, one_of_range, AllBelow}

-- marks stand for a list of cells
abbrev pub StandFor : List Bool → List ℕ → Type 0
StandFor marks taken = (c : ℕ) → is_marked marks c ≡ is_one_of taken c

-- one more mark
pub mark_at : (marks : List Bool) (cell c : ℕ) → cell < length marks → is_marked (marked marks cell) c ≡ (nat_eq c cell || is_marked marks c)
mark_at marks cell c h = of_it (nat_eq c cell) refl
  where
    of_it : (b : Bool) → nat_eq c cell ≡ b → is_marked (marked marks cell) c ≡ (b || is_marked marks c)
    of_it true e = subst (λ (d : ℕ). is_marked (marked marks cell) d ≡ true) (sym (eqb-true c cell e)) (get_or-set_same marks cell true false h)
    of_it false e = get_or-set_other marks cell c true false (eqb-false c cell e)

first_below : (n x : ℕ) (cells : List ℕ) → AllBelow n (x ∷ cells) → x < n
first_below n x cells below = below x (one_of_first x cells)

later_below : (n m x : ℕ) (cells : List ℕ) → n ≡ m → AllBelow n (x ∷ cells) → AllBelow m cells
later_below n m x cells same below c e = subst (λ (k : ℕ). c < k) same (below c (one_of_later x cells c e))

pub length-all_marked : (cells : List ℕ) (marks : List Bool) → length (all_marked marks cells) ≡ length marks
length-all_marked [] marks = refl
length-all_marked (x ∷ cells) marks = length-all_marked cells (marked marks x) ∙ length-set marks x true

pub all_marked-append : (a b : List ℕ) (marks : List Bool) → all_marked marks (a ++ b) ≡ all_marked (all_marked marks a) b
all_marked-append [] b marks = refl
all_marked-append (x ∷ a) b marks = all_marked-append a b (marked marks x)

moved_or : (a b d : Bool) → (a || (b || d)) ≡ ((b || a) || d)
moved_or true true d = refl
moved_or true false d = refl
moved_or false true d = refl
moved_or false false d = refl

-- what is marked after some cells were: these, and what was
pub all_marked_at : (cells : List ℕ) (marks : List Bool) (c : ℕ) → AllBelow (length marks) cells
    → is_marked (all_marked marks cells) c ≡ (is_one_of cells c || is_marked marks c)
all_marked_at [] marks c below = refl
all_marked_at (x ∷ cells) marks c below =
    all_marked_at cells (marked marks x) c (later_below (length marks) (length (marked marks x)) x cells (sym (length-set marks x true)) below)
    ∙ ap (λ (b : Bool). is_one_of cells c || b) (mark_at marks x c (first_below (length marks) x cells below))
    ∙ moved_or (is_one_of cells c) (nat_eq c x) (is_marked marks c)

-- marks that stand for cells stand for more when more are marked
pub stand_more : (marks : List Bool) (taken cells : List ℕ) → StandFor marks taken → AllBelow (length marks) cells
    → StandFor (all_marked marks cells) (cells ++ taken)
stand_more marks taken cells stand below c =
    all_marked_at cells marks c below ∙ ap (λ (b : Bool). is_one_of cells c || b) (stand c) ∙ sym (one_of-append cells taken c)

same_or : {a b p q : Bool} → a ≡ b → p ≡ q → (a || p) ≡ (b || q)
same_or {b = b} {p = p} e f = ap (λ (x : Bool). x || p) e ∙ ap (λ (y : Bool). b || y) f

-- a cell is marked in its turn where it stands for one that was taken, or stands twice
pub has_marked_is : (cells : List ℕ) (marks : List Bool) (taken : List ℕ) → StandFor marks taken → AllBelow (length marks) cells
    → has_marked marks cells ≡ holds_number_again taken cells
has_marked_is [] marks taken stand below = refl
has_marked_is (x ∷ cells) marks taken stand below =
    same_or (stand x)
    (has_marked_is cells (marked marks x) (x ∷ taken)
    (λ c. mark_at marks x c (first_below (length marks) x cells below) ∙ ap (λ (b : Bool). nat_eq c x || b) (stand c))
    (later_below (length marks) (length (marked marks x)) x cells (sym (length-set marks x true)) below))

-- the fault of a left side at this place
abbrev pub twice_at : Option Place → Option Fault
twice_at None = None
twice_at (Some place) = Some (record { kind = AssignedTwice; place = place })

chosen_at : (b : Bool) (place : Place) (fault : Option Fault) (later : Option Place) → fault ≡ twice_at later
    → (if b then Some (record { kind = AssignedTwice; place = place }) else fault) ≡ twice_at (if b then Some place else later)
chosen_at true place fault later e = refl
chosen_at false place fault later e = e

-- the first finding that holds is that of the first left side with a marked cell
pub first_marked_is : (targets : List Assigned) (marks : List Bool) (taken : List ℕ) → StandFor marks taken
    → AllBelow (length marks) (target_numbers targets)
    → first_of AssignedTwice (numbers_again taken targets) ≡ twice_at (first_marked marks targets)
first_marked_is [] marks taken stand below = refl
first_marked_is (target ∷ targets) marks taken stand below =
    let here : AllBelow (length marks) target.cells = λ c m. below c (one_of_left target.cells (target_numbers targets) c m) in
    let rest : AllBelow (length (all_marked marks target.cells)) (target_numbers targets)
    = λ c m. subst (λ (n : ℕ). c < n) (sym (length-all_marked target.cells marks)) (below c (one_of_right target.cells (target_numbers targets) c m)) in
    let later = first_of AssignedTwice (numbers_again (target.cells ++ taken) targets) in
    ap (λ (b : Bool). if b then Some (record { kind = AssignedTwice; place = target.place }) else later)
    (sym (has_marked_is target.cells marks taken stand here))
    ∙ chosen_at (has_marked marks target.cells) target.place later (first_marked (all_marked marks target.cells) targets)
    (first_marked_is targets (all_marked marks target.cells) (target.cells ++ taken) (stand_more marks taken target.cells stand here) rest)

-- no mark is set among marks that are all false
pub none_marked : (n c : ℕ) → is_marked (replicate n false) c ≡ false
none_marked n c = elim (cases_lt c n) [
  | inl lt ↦ get_or-replicate n c false false lt
  | inr ge ↦ (
      let past : length (replicate n false) ≤ c = omega (arith, length-replicate n false) in
      get_or_past (replicate n false) c false past
      )
]

inputs_below : (inputs cells : ℕ) → inputs ≤ cells → AllBelow (length (replicate cells false)) (input_numbers inputs)
inputs_below inputs cells le c m =
    let below = one_of_range 0 inputs c m in omega (arith, below.1, le, length-replicate cells false)

-- the marks at the beginning stand for the inputs
pub inputs_stand : (inputs cells : ℕ) → inputs ≤ cells → StandFor (all_marked (replicate cells false) (input_numbers inputs)) (input_numbers inputs)
inputs_stand inputs cells le c =
    all_marked_at (input_numbers inputs) (replicate cells false) c (inputs_below inputs cells le)
    ∙ ap (λ (b : Bool). is_one_of (input_numbers inputs) c || b) (none_marked cells c)
    ∙ or_false (is_one_of (input_numbers inputs) c)

pub length-inputs : (inputs cells : ℕ) → length (all_marked (replicate cells false) (input_numbers inputs)) ≡ cells
length-inputs inputs cells = length-all_marked (input_numbers inputs) (replicate cells false) ∙ length-replicate cells false

-- the cells of all left sides are the assigned ones
pub target_numbers-append : (a b : List Assigned) → target_numbers (a ++ b) ≡ target_numbers a ++ target_numbers b
target_numbers-append [] b = refl
target_numbers-append (t ∷ a) b = ap (λ cells. t.cells ++ cells) (target_numbers-append a b) ∙ sym (append_assoc t.cells (target_numbers a) (target_numbers b))

pub all_target_numbers : (instances : List Coded) → target_numbers (all_targets instances) ≡ assigned_numbers instances
all_target_numbers [] = refl
all_target_numbers (i ∷ instances) =
    target_numbers-append i.targets (all_targets instances) ∙ ap (λ cells. left_numbers i ++ cells) (all_target_numbers instances)

-- what first_twice answers, where its marks are those of the inputs
pub twice_found : (inputs cells : ℕ) (instances : List Coded) → inputs ≤ cells → AreBelow cells instances
    → first_of AssignedTwice (twice_numbered inputs instances)
    ≡ twice_at (first_marked (all_marked (replicate cells false) (input_numbers inputs)) (all_targets instances))
twice_found inputs cells instances le below =
    first_marked_is (all_targets instances) (all_marked (replicate cells false) (input_numbers inputs)) (input_numbers inputs)
    (inputs_stand inputs cells le)
    (λ c m. subst (λ (n : ℕ). c < n) (sym (length-inputs inputs cells))
    (below.assigned c (ap (λ ns. is_one_of ns c) (sym (all_target_numbers instances)) ∙ m)))

-- left sides one after another
pub first_marked-append : (a b : List Assigned) (marks : List Bool)
    → first_marked marks (a ++ b) ≡ option_or (first_marked marks a) (first_marked (all_marked marks (target_numbers a)) b)
first_marked-append [] b marks = refl
first_marked-append (t ∷ a) b marks =
    at_first (has_marked marks t.cells) (first_marked-append a b (all_marked marks t.cells)
    ∙ ap (λ ms. option_or (first_marked (all_marked marks t.cells) a) (first_marked ms b)) (sym (all_marked-append t.cells (target_numbers a) marks)))
  where
    at_first : (hit : Bool)
        → first_marked (all_marked marks t.cells) (a ++ b)
        ≡ option_or (first_marked (all_marked marks t.cells) a) (first_marked (all_marked marks (t.cells ++ target_numbers a)) b)
        → (if hit then Some t.place else first_marked (all_marked marks t.cells) (a ++ b))
        ≡ option_or (if hit then Some t.place else first_marked (all_marked marks t.cells) a)
        (first_marked (all_marked marks (t.cells ++ target_numbers a)) b)
    at_first true e = refl
    at_first false e = e
