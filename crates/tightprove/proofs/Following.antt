-- Leaks that are followed step by step, by classes and by products.
use Rattle.std.proofs.Common.{◌≡◌, ◌≢◌, ◌↔◌, inl, inr, ℕ, ◌<◌, Bool, true, false, cond, IsTrue, List, [], ◌∷◌, ◌++◌, length, get_or, refl, sym, ap, ◌∙◌, subst, arith}
use Rattle.std.specs.Bool.{OnTrue}
use Rattle.std.proofs.lemmas.List.{get_or_default}
use Rattle.span_model.specs.Columns.{Columns, empty, ◌△◌}
use Rattle.span_model.specs.Span.{InSpan, SameSpan}
use Rattle.span_model.specs.Attack.{Product, HasAttack}
use Rattle.span_model.specs.AttackLaws.{LeaksAreClosed}
use Rattle.span_model.specs.Closure.{Step, on_left, on_right, operand, co_operand, co_operands}
use Rattle.span_model.specs.Refresh.{left_out}
use Rattle.span_model.proofs.Sets.{△_cancel}
use Rattle.span_model.proofs.Members.{in_as, in_with, in_head, in_behind, in_front, spans_none, spans_both, spans_cons, spans_follow}
use Rattle.tightprove.specs.Classes.{class_rows, IsPartner, AreClasses}
use Rattle.tightprove.specs.Growth.{ReachAll, IsGrown}
use Rattle.tightprove.specs.Private.Gathered.{beyond, place_at, IsGatheredOf}
use Rattle.tightprove.specs.Private.Chains.{IsTaken}
use Rattle.tightprove.specs.declared.chains.ClassStep.{ClassStep}
use Rattle.tightprove.specs.declared.class.Class.{Class}
use Rattle.tightprove.specs.declared.gathered.Gathered.{Gathered}
use Rattle.tightprove.specs.declared.gathered.Place.{Place}
use Rattle.tightprove.proofs.Closures.{spans_beside}
use Rattle.tightprove.proofs.Leaving.{length-left_out, place_spans}
use Rattle.tightprove.proofs.Taking.{wide_at}

-- ---- the test whether a row gives a leak

-- a row whose sum with the leak is in the span gives the leak
pub given_leak : (b : Bool) (row leak sum : Columns ℕ) (span : List (Columns ℕ)) (Zero : Type 0) → IsTrue b ↔ Zero → Zero ↔ InSpan span sum
    → sum ≡ row △ leak → OnTrue b (InSpan (row ∷ span) leak)
given_leak true row leak sum span Zero is in_span e =
    in_as (row ∷ span) (△_cancel row leak) (in_with row span (row △ leak) (in_as span e (in_span.0 (is.0 refl))))
given_leak false row leak sum span Zero is in_span e = tt

-- ---- steps that are taken

-- a step of the products that is taken as a step from class to class
pub reach_taken : (classes : List Class) (products : List (Product ℕ)) (v : Columns ℕ) (old new : List (Columns ℕ)) (step : ClassStep) (taken : Step)
    → taken.product < length products → SameSpan (class_rows classes step.from) (operand products taken)
    → SameSpan (class_rows classes step.to) (co_operand products taken) → IsTaken classes v step old new
    → ReachAll products (v ∷ []) old → ReachAll products (v ∷ []) new
reach_taken classes products v old new step taken lt from to (inl same) reach = subst (λ (s : List (Columns ℕ)). ReachAll products (v ∷ []) s) (sym same) reach
reach_taken classes products v old new step taken lt from to (inr (gives, grown)) reach =
    let before : List (Columns ℕ) = co_operands products reach.steps in
    let given : InSpan (operand products taken ++ before) v =
    spans_beside (class_rows classes step.from) (operand products taken) old before (λ u k. (from u).0 k) reach.spanned v gives in
    record {
      steps = taken ∷ reach.steps;
      reached = λ u m. (
        lt,
        spans_cons (operand products taken ++ before) v [] given (spans_none (operand products taken ++ before)) u m,
        reach.reached u m,
      );
      spanned = λ u m. spans_both (co_operand products taken ++ before) old (class_rows classes step.to)
          (spans_follow (co_operand products taken ++ before) before old (in_front (co_operand products taken) before) reach.spanned)
          (spans_follow (co_operand products taken ++ before) (co_operand products taken) (class_rows classes step.to) (in_behind (co_operand products taken) before)
          (λ w k. (to w).0 k)) u ((grown u).0 m);
    }

-- a step to a partner
pub grown_taken : (classes : List Class) (v : Columns ℕ) (old new : List (Columns ℕ)) (step : ClassStep) → IsPartner classes step.from step.to
    → IsTaken classes v step old new → IsGrown classes (v ∷ []) old → IsGrown classes (v ∷ []) new
grown_taken classes v old new step partner taken grown products are =
    let s = are.genuine step.from step.to partner in
    reach_taken classes products v old new step s.0 s.1.product s.1.operand_rows s.1.co_operand_rows taken (grown products are)

-- the steps of a product that is not left out, both ways
pub product_taken : (products : List (Product ℕ)) (gathered : Gathered) (S : ℕ → Bool) (b k : ℕ) (place : Place) (v : Columns ℕ)
    (old mid new : List (Columns ℕ)) → IsGatheredOf products gathered → k < length gathered.places.items
    → beyond S b k ≡ false → place ≡ place_at gathered.places.items k
    → IsTaken gathered.classes.list.items v (record { from = place.left; to = place.right }) old mid
    → IsTaken gathered.classes.list.items v (record { from = place.right; to = place.left }) mid new
    → ReachAll (left_out (beyond S b) products) (v ∷ []) old → ReachAll (left_out (beyond S b) products) (v ∷ []) new
product_taken products gathered S b k place v old mid new is lt stays e first second reach =
    let classes : List Class = gathered.classes.list.items in
    let left : List (Product ℕ) = left_out (beyond S b) products in
    let within : k < length (left_out (beyond S b) products) = omega (arith, is.count, length-left_out (beyond S b) products) in
    let spans = place_spans products gathered gathered.classes.list.items (beyond S b) k place is (λ i. refl) lt
    (e ∙ sym (ap (λ (out : Bool). cond out (record { left = gathered.bare; right = gathered.bare }) (place_at gathered.places.items k)) stays)) in
    reach_taken classes left v mid new (record { from = place.right; to = place.left }) (record { product = k; side = on_right }) within spans.1 spans.0 second
    (reach_taken classes left v old mid (record { from = place.left; to = place.right }) (record { product = k; side = on_left }) within spans.0 spans.1 first reach)

-- ---- leaks

pub reach_none : (products : List (Product ℕ)) (v : Columns ℕ) → ReachAll products (v ∷ []) []
reach_none products v = record { steps = []; reached = λ u m. tt; spanned = spans_none [] }

-- a set that is not empty, and in the span that is reached for it, is the leak of an attack
pub reach_attack : LeaksAreClosed ℕ → (products : List (Product ℕ)) (v : Columns ℕ) (span : List (Columns ℕ)) → ReachAll products (v ∷ []) span
    → InSpan span v × (v ≢ empty) → HasAttack products
reach_attack law products v span reach (within, some) =
    (v, (law products v).1 (some, (reach.steps, reach.reached v (in_head v []), reach.spanned v within)))

-- the first row of a class has as many columns as all
pub first_wide : (columns : ℕ) (classes : List Class) (i : ℕ) (one : Class) (rows : List (List Bool)) (first : List Bool) → AreClasses columns classes → i < length classes
    → one ≡ get_or classes i one → rows ≡ one.rows → 0 < length rows → first ≡ get_or rows 0 first → length first ≡ columns
first_wide columns classes i one rows first are lt is e some at =
    ap (λ (row : List Bool). length row) (at ∙ get_or_default rows 0 first [] some) ∙ wide_at columns classes i one rows are lt is e 0 some
