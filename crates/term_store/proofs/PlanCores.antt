-- From the registers of the inputs to the core of what a plan makes of them.
use Rattle.std.proofs.Common.{◌≡◌, ℕ, ◌+◌, ◌≤◌, ◌<◌, List, [], ◌∷◌, ◌++◌, length, map, Some, refl, sym, ap, subst, ◌∙◌, arith}
use Rattle.std.specs.Prelude.{All, IsSome, IfSome, IfOk, Option, Result, Ok, Err, option_map}
use Rattle.std.specs.List.{range_with_len}
use Rattle.std.proofs.lemmas.List.{length-map, map_push}
use Rattle.std.proofs.lemmas.List.FromFn.{length-range_with_len}
use Rattle.usuba_trees.specs.declared.Def.{Def}
use Rattle.usuba0.specs.declared.circuit.Reg.{Reg}
use Rattle.usuba0.specs.declared.limit.TheConstants.{MAX_TERMS}
use Rattle.usuba0.specs.Term.{Term, Input}
use Rattle.usuba0.specs.Builder.{Held, Holds, Names, term_of, input_terms}
use Rattle.usuba0.specs.CoreOfTerms.{core_of_terms}
use Rattle.usuba0.proofs.HeadLemmas.{length-inputs}
use Rattle.usuba0.proofs.StartLemmas.{range-push}
use Rattle.table_anf.specs.State.Emission.{StandFor}
use Rattle.table_anf.proofs.Extending.{StandFor-push}
use Rattle.std.specs.Option.{unwrap_or}
use Rattle.usuba0.specs.Circuit.{Circuit}
use Rattle.usuba_plan.specs.Made.{plan_outcome}
use Rattle.usuba_plan.specs.Room.{plan_room}
use Rattle.usuba_plan.specs.Running.{CanRun}
use Rattle.usuba_plan.specs.Store.{Gives, Keeps}
use Rattle.usuba_plan.specs.declared.plans.Plan.{Plan}
use Rattle.source_terms.specs.SourceTerms.{term_operators}
use Rattle.term_store.specs.TermStore.{term_store}
use Rattle.term_store.specs.PlanCore.{terms_of_inputs, plan_terms, plan_core, CanMake, CanMakeCore}
use Rattle.term_store.proofs.Extended.{each_of_all, all_of_each}

-- the terms of one input more
one_input_more : (k : ℕ) → terms_of_inputs (k + 1) ≡ terms_of_inputs k ++ Input k ∷ []
one_input_more k =
    let place : 0 + k ≡ k = omega arith in
    ap (map Input) (range-push 0 k) ∙ map_push Input (range_with_len 0 k) (0 + k)
    ∙ ap (λ (m : ℕ). terms_of_inputs k ++ Input m ∷ []) place

-- no registers stand for no inputs
pub inputs_start : (a : Held) → StandFor a [] (terms_of_inputs 0)
inputs_start a = record { held = λ i d l. absurd (omega (arith, l)); terms = refl }

-- the register of one more input
pub inputs_go_on : (a : Held) (k : ℕ) (rs after : List Reg) (r : Reg) → StandFor a rs (terms_of_inputs k) → Names a r (Input k)
    → after ≡ rs ++ r ∷ [] → StandFor a after (terms_of_inputs (k + 1))
inputs_go_on a k rs after r stand named is =
    subst (λ (ts : List Term). StandFor a after ts) (sym (one_input_more k))
    (subst (λ (l : List Reg). StandFor a l (terms_of_inputs k ++ Input k ∷ [])) (sym is)
    (StandFor-push a rs (terms_of_inputs k) r (Input k) stand named))

-- a plan can be run on the registers of the inputs
pub can_run : (a : Held) (defs : List Def) (plans : List Plan) (number n : ℕ) (rs : List Reg) → CanMake a defs plans number n
    → StandFor a rs (terms_of_inputs n) → CanRun (term_store a) defs plans number rs
can_run a defs plans number n rs can stand = record {
  fits = can.fits;
  held = each_of_all (Holds a) rs stand.held;
  count = sym (length-map rs (term_of a)) ∙ ap length stand.terms ∙ length-map (range_with_len 0 n) Input ∙ length-range_with_len 0 n ∙ can.count;
  room = can.room;
  makes = subst (λ (ts : List Term). IsSome (plan_outcome (term_operators a.width) defs plans number ts)) (sym stand.terms) can.makes;
}

-- what the plan makes of the registers of the inputs is what it makes of the inputs
pub run_gives : (a b : Held) (defs : List Def) (plans : List Plan) (number n : ℕ) (rs outputs : List Reg) → StandFor a rs (terms_of_inputs n)
    → Gives (term_store b) outputs (plan_outcome (term_operators a.width) defs plans number (map (term_of a) rs))
    → Gives (term_store b) outputs (plan_terms a.width defs plans number n)
run_gives a b defs plans number n rs outputs stand gives =
    subst (λ (ts : List Term). Gives (term_store b) outputs (plan_outcome (term_operators a.width) defs plans number ts)) stand.terms gives

-- a new builder can make the terms
pub can_begin : (a : Held) (w : ℕ) (defs : List Def) (plans : List Plan) (number n : ℕ)
    → a ≡ record { width = w; inputs = n; terms = input_terms n } → CanMakeCore w defs plans number n → CanMake a defs plans number n
can_begin a w defs plans number n is can =
    subst (λ (held : Held). CanMake held defs plans number n) (sym is) (begins (record { width = w; inputs = n; terms = input_terms n }) refl refl refl)
  where
    begins : (b : Held) → b.width ≡ w → b.inputs ≡ n → b.terms ≡ input_terms n → CanMake b defs plans number n
    begins b width inputs terms = record {
      inputs = sym inputs;
      fits = rw width can.fits;
      count = can.count;
      room = let l = ap length terms ∙ length-inputs n in omega (arith, l, can.room);
      makes = rw (width, can.makes) refl;
    }

-- the registers of a plan's outputs: they are some, not too many and held, and their core is the plan's
pub record AreOutputs (b : Held) (w : ℕ) (defs : List Def) (plans : List Plan) (number n : ℕ) (rs : List Reg) : Type 0 where
  pub some : 0 < length rs
  pub few : length rs ≤ MAX_TERMS
  pub held : All (Holds b) rs
  pub core : plan_core w defs plans number n ≡ Some (core_of_terms b.width b.inputs (map (term_of b) rs))

made_outputs : (k : ℕ) (a b : Held) (w : ℕ) (defs : List Def) (plans : List Plan) (number n : ℕ) (rs : List Reg) → a.width ≡ w → a.inputs ≡ n
    → CanMakeCore w defs plans number n → Gives (term_store b) rs (plan_terms a.width defs plans number n)
    → Keeps k (term_store a) (term_store b) → AreOutputs b w defs plans number n rs
made_outputs k a b w defs plans number n rs width inputs can gives keeps =
    let means : plan_terms w defs plans number n ≡ Some (map (term_of b) rs) =
    ap (λ (v : ℕ). plan_terms v defs plans number n) (sym width) ∙ gives.means in
    let same : can.outputs ≡ map (term_of b) rs = some_same can.outputs (map (term_of b) rs) (sym can.makes ∙ means) in
    let count : length can.outputs ≡ length rs = ap length same ∙ length-map rs (term_of b) in
    record {
      some = omega (arith, count, can.some);
      few = omega (arith, count, can.few);
      held = all_of_each (Holds b) rs gives.held;
      core = ap (λ (ts : Option (List Term)). option_map (core_of_terms w n) ts) means
          ∙ ap (λ (v : ℕ). Some (core_of_terms v n (map (term_of b) rs))) (sym (keeps.width ∙ width))
          ∙ ap (λ (m : ℕ). Some (core_of_terms b.width m (map (term_of b) rs))) (sym (keeps.inputs ∙ inputs));
    }
  where
    some_same : (xs ys : List Term) → Some xs ≡ Some ys → xs ≡ ys
    some_same xs ys e = ap (λ (o : Option (List Term)). unwrap_or o xs) e

-- the registers of what a plan makes, begun with a new builder, are those of its outputs
pub outputs_made : (a b : Held) (w : ℕ) (defs : List Def) (plans : List Plan) (number n : ℕ) (rs slice : List Reg) → slice ≡ rs
    → a ≡ record { width = w; inputs = n; terms = input_terms n } → CanMakeCore w defs plans number n
    → Gives (term_store b) rs (plan_terms a.width defs plans number n) → Keeps (plan_room defs plans number) (term_store a) (term_store b)
    → AreOutputs b w defs plans number n slice
outputs_made a b w defs plans number n rs slice is new can gives keeps =
    subst (λ (l : List Reg). AreOutputs b w defs plans number n l) (sym is)
    (made_outputs (plan_room defs plans number) a b w defs plans number n rs (ap (λ (h : Held). h.width) new) (ap (λ (h : Held). h.inputs) new) can gives keeps)

-- what is known of the core that was made
pub core_is : {E : Type 0} (made : Result Circuit E) (asked : Option Circuit) (core : Circuit) → asked ≡ Some core → IfOk made (λ c. c ≡ core)
    → IfOk made (λ c. asked ≡ Some c)
core_is (Ok c) asked core is same = is ∙ ap (λ (x : Circuit). Some x) (sym same)
core_is (Err e) asked core is same = tt

-- what holds of the core that was made holds of the one that was asked for
pub asked_is : (P : Circuit → Type 0) (asked : Option Circuit) (core : Circuit) → asked ≡ Some core → P core → IfSome asked P
asked_is P asked core is holds = subst (λ (o : Option Circuit). IfSome o P) (sym is) holds
