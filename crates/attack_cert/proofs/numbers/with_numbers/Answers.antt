use Rattle.std.proofs.Common.{◌≡◌, ◌<◌, ◌≤◌, ℕ, List, length, map, get_or, subst, sym, ap, ◌∙◌, arith, All}
use Rattle.std.specs.Prelude.{slice_index}
use Rattle.std.specs.List.{Contains}
use Rattle.std.proofs.lemmas.List.{length-map, take_all}
use Rattle.attack_cert.specs.Kept.{kept_places}
use Rattle.attack_cert.specs.declared.reached.Kept.{Kept}
use Rattle.attack_cert.proofs.Places.{place_below, places_below}
use Rattle.attack_cert.proofs.Numbering.{numbered_step, HaveNumbers, are_numbered}
use Rattle.attack_cert.proofs.numbers.with_numbers.Goals as goal

pub bounds-listed-kept : goal.bounds-listed-kept
bounds-listed-kept c =
    let kept = c.args.reached.now.kept.items in
    let is : c.kept-item.result ≡ get_or kept c.loop-kept.kept-index c.kept-item.result = rw c.deref-kept-items.ensures.value at c.kept-item.is in
    let within : c.loop-kept.kept-index < length kept = rw c.deref-kept-items.ensures.value at c.loop-kept-test.true in
    place_below kept c.loop-kept.kept-index c.kept-item.result (length c.args.listed.now) within is c.requires.below

-- what is below the listed steps is below their numbers
below : (uses slice numbers vector : List ℕ) (n : ℕ) → slice ≡ uses → numbers ≡ vector → length vector ≡ n → All (λ p. p < n) uses → All (λ p. p < length numbers) slice
below uses slice numbers vector n e f g h =
    subst (λ (s : List ℕ). All (λ p. p < length numbers) s) (sym e) (λ k d l. let b = h k d l in let many = ap length f in omega arith)

pub looked_up-requires : goal.looked_up-requires
looked_up-requires c =
    let kept = c.args.reached.now.kept.items in
    let is : c.kept-item.result ≡ get_or kept c.loop-kept.kept-index c.kept-item.result = rw c.deref-kept-items.ensures.value at c.kept-item.is in
    let within : c.loop-kept.kept-index < length kept = rw c.deref-kept-items.ensures.value at c.loop-kept-test.true in
    let uses = c.kept-item.result.uses in
    below uses c.as_slice.result.now c.deref-in-loop-kept.result.now c.in_ok-numbers.numbers.items (length c.args.listed.now)
    c.as_slice.ensures c.deref-in-loop-kept.ensures.value c.in_ok-numbers.ensures.count
    (places_below (kept_places kept) uses (length c.args.listed.now)
    (subst (λ (s : Kept). All (Contains (kept_places kept)) s.uses) (sym is) (c.requires.uses c.loop-kept.kept-index c.kept-item.result within))
    c.requires.below)

pub looked_up-requires-2 : goal.looked_up-requires-2
looked_up-requires-2 c =
    let kept = c.args.reached.now.kept.items in
    below c.args.reached.now.root c.as_slice-2.result.now c.deref-2.result.now c.in_ok-numbers.numbers.items (length c.args.listed.now)
    c.as_slice-2.ensures c.deref-2.ensures.value c.in_ok-numbers.ensures.count
    (places_below (kept_places kept) c.args.reached.now.root (length c.args.listed.now) c.requires.root c.requires.below)

pub returns : goal.returns
returns c =
    let kept = c.args.reached.now.kept.items in
    let numbers = c.in_ok-numbers.numbers.items in
    let have : (k : ℕ) → k < length kept → get_or numbers (get_or (kept_places kept) k 0) 0 ≡ k = rw c.deref.ensures.value at c.in_ok-numbers.ensures.numbers in
    let have' : HaveNumbers numbers (kept_places kept) = λ k h. have k (let many = length-map kept (λ (s : Kept). s.place) in omega arith) in
    let past : length kept ≤ c.loop-kept.kept-index = rw c.deref-kept-items.ensures.value at c.loop-kept-test.false in
    let steps : c.loop-kept.steps ≡ map (numbered_step c.args.listed.now numbers) kept
    = c.loop-kept.invariant ∙ ap (map (numbered_step c.args.listed.now numbers)) (take_all c.loop-kept.kept-index kept past) in
    let root : c.in_ok-root.root ≡ map (slice_index numbers) c.args.reached.now.root
    = c.in_ok-root.ensures ∙ ap (λ (ns : List ℕ). map (slice_index ns) c.as_slice-2.result.now) c.deref-2.ensures.value
    ∙ ap (map (slice_index numbers)) c.as_slice-2.ensures in
    are_numbered c.args.listed.now c.args.reached.now.root numbers c.in_ok-root.root kept c.loop-kept.steps have' c.requires.root c.requires.uses steps root
