-- Sizes that grow call by call come to the size of all calls.
use Rattle.std.proofs.Common.{◌≡◌, ℕ, suc, ◌+◌, ◌<◌, ◌≤◌, min, max, List, [], ◌∷◌, ◌++◌, length, drop, get_or, refl, sym, ap, ◌∙◌, arith, add-one}
use Rattle.std.proofs.Math.Seq.{drop-cons}
use Rattle.std.proofs.lemmas.List.{drop_all}
use Rattle.usuba_code.specs.declared.operation.Operation.{Operation}
use Rattle.usuba_code.specs.Code.{Coded, coded_at}
use Rattle.usuba_types.specs.declared.sizes.CappedSize.{CappedSize}
use Rattle.usuba_types.specs.Sizes.{greatest, capped_at, callee_in, callees_in, all_callees, operations_called, chain_called, node_size}
use Rattle.usuba_types.specs.State.Adding.{after_call, after_calls}

-- calls one after another
pub after_calls-append : (known : List CappedSize) (size : CappedSize) (a b : List ℕ)
    → after_calls known size (a ++ b) ≡ after_calls known (after_calls known size a) b
after_calls-append known size [] b = refl
after_calls-append known size (number ∷ a) b = after_calls-append known (after_call size (capped_at known number)) a b

-- what is left of a list begins with the next element
pub drop-next : {A : Type 0} (xs : List A) (i : ℕ) (item : A) → i < length xs → item ≡ get_or xs i item → drop i xs ≡ item ∷ drop (i + 1) xs
drop-next xs i item within is =
    drop-cons xs i item within ∙ ap (λ x. x ∷ drop (suc i) xs) (sym is) ∙ ap (λ k. item ∷ drop k xs) (sym (add-one i))

-- one more operation was looked at
pub code-step : (known : List CappedSize) (code : List Operation) (i : ℕ) (operation : Operation) (before after whole : CappedSize)
    → i < length code → operation ≡ get_or code i operation
    → after ≡ after_calls known before (callee_in operation)
    → after_calls known before (callees_in (drop i code)) ≡ whole
    → after_calls known after (callees_in (drop (i + 1) code)) ≡ whole
code-step known code i operation before after whole within is now so_far =
    let rest : List ℕ = callees_in (drop (i + 1) code) in
    ap (λ size. after_calls known size rest) now ∙ sym (after_calls-append known before (callee_in operation) rest)
    ∙ ap (λ l. after_calls known before (callees_in l)) (sym (drop-next code i operation within is)) ∙ so_far

-- all operations were looked at
pub code-end : (known : List CappedSize) (code : List Operation) (i : ℕ) (before whole : CappedSize)
    → length code ≤ i → after_calls known before (callees_in (drop i code)) ≡ whole → before ≡ whole
code-end known code i before whole past so_far =
    ap (λ l. after_calls known before (callees_in l)) (sym (drop_all i code past)) ∙ so_far

-- one more instance was looked at
pub instance-step : (known : List CappedSize) (instances : List Coded) (k : ℕ) (code : List Operation) (before after whole : CappedSize)
    → k < length instances → code ≡ (coded_at instances k).code
    → after ≡ after_calls known before (callees_in code)
    → after_calls known before (all_callees (drop k instances)) ≡ whole
    → after_calls known after (all_callees (drop (k + 1) instances)) ≡ whole
instance-step known instances k code before after whole within is now so_far =
    let rest : List ℕ = all_callees (drop (k + 1) instances) in
    let opened : drop k instances ≡ coded_at instances k ∷ drop (k + 1) instances =
    drop-cons instances k (record { targets = []; code = [] }) within ∙ ap (λ j. coded_at instances k ∷ drop j instances) (sym (add-one k)) in
    ap (λ size. after_calls known size rest) (now ∙ ap (λ c. after_calls known before (callees_in c)) is)
    ∙ sym (after_calls-append known before (callees_in (coded_at instances k).code) rest)
    ∙ ap (λ l. after_calls known before (all_callees l)) (sym opened) ∙ so_far

-- what calls come to after these counts
calls-come-to : (known : List CappedSize) (a b : ℕ) (numbers : List ℕ)
    → after_calls known (record { operations = min a greatest; chain = min b greatest }) numbers
    ≡ record { operations = min (a + operations_called known numbers) greatest; chain = min (max b (chain_called known numbers)) greatest }
calls-come-to known a b [] =
    let first : min a greatest ≡ min (a + 0) greatest = omega arith in
    let second : min b greatest ≡ min (max b 0) greatest = omega arith in
    ap (λ n. record { operations = n; chain = min b greatest }) first ∙ ap (λ n. record { operations = min (a + 0) greatest; chain = n }) second
calls-come-to known a b (number ∷ numbers) =
    let callee : CappedSize = capped_at known number in
    let x : ℕ = operations_called known numbers in
    let y : ℕ = chain_called known numbers in
    let first : min (min a greatest + callee.operations) greatest ≡ min (a + callee.operations) greatest = omega arith in
    let second : max (min b greatest) (min (callee.chain + 1) greatest) ≡ min (max b (callee.chain + 1)) greatest = omega arith in
    let third : min (a + callee.operations + x) greatest ≡ min (a + (callee.operations + x)) greatest = omega arith in
    let fourth : min (max (max b (callee.chain + 1)) y) greatest ≡ min (max b (max (callee.chain + 1) y)) greatest = omega arith in
    ap (λ n. after_calls known (record { operations = n; chain = max (min b greatest) (min (callee.chain + 1) greatest) }) numbers) first
    ∙ ap (λ n. after_calls known (record { operations = min (a + callee.operations) greatest; chain = n }) numbers) second
    ∙ calls-come-to known (a + callee.operations) (max b (callee.chain + 1)) numbers
    ∙ ap (λ n. record { operations = n; chain = min (max (max b (callee.chain + 1)) y) greatest }) third
    ∙ ap (λ n. record { operations = min (a + (callee.operations + x)) greatest; chain = n }) fourth

-- all instances were looked at, from the operations of the node's own on
pub node-end : (known : List CappedSize) (count : ℕ) (instances : List Coded) (k : ℕ) (before : CappedSize)
    → length instances ≤ k → count ≤ greatest
    → after_calls known before (all_callees (drop k instances))
    ≡ after_calls known (record { operations = count; chain = 0 }) (all_callees instances)
    → before ≡ node_size known count instances
node-end known count instances k before past few so_far =
    let numbers : List ℕ = all_callees instances in
    let first : count ≡ min count greatest = omega arith in
    let second : max 0 (chain_called known numbers) ≡ chain_called known numbers = omega arith in
    ap (λ l. after_calls known before (all_callees l)) (sym (drop_all k instances past)) ∙ so_far
    ∙ ap (λ n. after_calls known (record { operations = n; chain = 0 }) numbers) first
    ∙ calls-come-to known count 0 numbers
    ∙ ap (λ n. record { operations = min (count + operations_called known numbers) greatest; chain = min n greatest }) second
