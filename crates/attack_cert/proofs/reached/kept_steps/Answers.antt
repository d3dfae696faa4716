use Rattle.std.proofs.Common.{◌≡◌, ◌<◌, ◌≤◌, ◌-◌, ◌⊎◌, ℕ, suc, Bool, false, List, ◌∷◌, length, replicate, reverse, subst, sym, ap, ◌∙◌, arith, All, true≢false}
use Rattle.std.specs.List.{Contains}
use Rattle.std.proofs.lemmas.List.{get_or_default}
use Rattle.span_model.specs.Columns.{set_of}
use Rattle.linear_view.specs.View.{products_of}
use Rattle.attack_cert.specs.Kept.{AreReached}
use Rattle.attack_cert.specs.declared.reached.Kept.{Kept}
use Rattle.attack_cert.proofs.Marks.{IsMarked}
use Rattle.attack_cert.proofs.Reaching.{Reaching, none_marked, reaching_begins, reaching_skips, reaching_keeps, reaching_ends, uses_below, root_below, kept_front}
use Rattle.attack_cert.proofs.reached.kept_steps.Goals as goal

pub mark-requires : goal.mark-requires
mark-requires c = λ k d h.
    let b = root_below (products_of c.args.view.now) (set_of c.args.leak.now) c.args.listed.now c.args.root.now c.requires.root k d h in
    let len = c.in_ok-needed.ensures.len in
    let kept = c.in_ok-needed.needed.ok.0 in
    omega arith

pub loop-place-init : goal.loop-place-init
loop-place-init c =
    let products = products_of c.args.view.now in
    let leak = set_of c.args.leak.now in
    let listed = c.args.listed.now in
    let old : c.in_ok-needed.needed.items ≡ replicate (length listed) false = c.in_ok-needed.ensures.items_if_clones_equal (λ y h. h) in
    let len = c.in_ok-needed.ensures.len in
    let kept = c.in_ok-needed.needed.ok.0 in
    let same = c.mark.ensures.count in
    let count : length c.mark.new.needed.items ≡ length listed = omega arith in
    record {
      within = omega arith;
      count = count;
      reaching = subst (λ (ks : List Kept). Reaching products leak listed c.args.root.now (length listed) c.mark.new.needed.items (reverse ks)) (sym c.new-kept.ensures.items)
          (reaching_begins products leak listed c.args.root.now c.mark.new.needed.items c.in_ok-needed.needed.items (length listed) count
          (λ p m. none_marked (length listed) p (subst (λ (bs : List Bool). IsMarked bs p) old m))
          c.mark.ensures.marked c.mark.ensures.others);
    }

pub mark-requires-then-index : goal.mark-requires-then-index
mark-requires-then-index c =
    let place = c.loop-place.place - 1 in
    let some : 0 < c.loop-place.place = c.loop-place-test.true in
    let upto = c.loop-place.invariant.within in
    let within : place < length c.args.listed.now = omega arith in
    let count = c.loop-place.invariant.count in
    let lower : All (λ u. u < place) c.as_slice.result.now
    = subst (λ (us : List ℕ). All (λ u. u < place) us) (sym c.as_slice.ensures)
    (uses_below (products_of c.args.view.now) (set_of c.args.leak.now) c.args.listed.now c.args.root.now c.requires.supported place c.in_ok-uses.uses within c.in_ok-uses.ensures) in
    λ k d h. let b = lower k d h in omega arith

pub loop-place-preserved-in-Continue-branch-3 : goal.loop-place-preserved-in-Continue-branch-3
loop-place-preserved-in-Continue-branch-3 c =
    let products = products_of c.args.view.now in
    let leak = set_of c.args.leak.now in
    let listed = c.args.listed.now in
    let root = c.args.root.now in
    let place = c.loop-place.place - 1 in
    let needed = c.loop-place.needed.items in
    let new = c.mark-then-index.new.needed.items in
    let uses = c.in_ok-uses.uses in
    let kept = reverse c.loop-place.kept.items in
    let some : 0 < c.loop-place.place = c.loop-place-test.true in
    let upto = c.loop-place.invariant.within in
    let within : place < length listed = omega arith in
    let count = c.loop-place.invariant.count in
    let inside : place < length needed = omega arith in
    let next : c.loop-place.place ≡ suc place = omega arith in
    let before : Reaching products leak listed root (suc place) needed kept
    = subst (λ (n : ℕ). Reaching products leak listed root n needed kept) next c.loop-place.invariant.reaching in
    let marked : IsMarked needed place = sym (get_or_default needed place c.index.result.now false inside) ∙ sym c.index.ensures ∙ c.if-index.true in
    let step : Kept = record { place = place; uses = uses } in
    let front : reverse c.push.new.self.items ≡ step ∷ kept = ap reverse c.in_ok-push.ensures.items ∙ kept_front c.loop-place.kept.items step in
    record {
      within = omega arith;
      count = c.mark-then-index.ensures.count ∙ count;
      reaching = subst (λ (ks : List Kept). Reaching products leak listed root place new ks) (sym front)
          (reaching_keeps products leak listed root place needed new kept uses before within marked c.in_ok-uses.ensures
          (uses_below products leak listed root c.requires.supported place uses within c.in_ok-uses.ensures)
          (subst (λ (us : List ℕ). All (IsMarked new) us) c.as_slice.ensures c.mark-then-index.ensures.marked)
          (subst (λ (us : List ℕ). (p : ℕ) → IsMarked new p → IsMarked needed p ⊎ Contains us p) c.as_slice.ensures c.mark-then-index.ensures.others)
          c.mark-then-index.ensures.still);
    }

pub loop-place-preserved : goal.loop-place-preserved
loop-place-preserved c =
    let products = products_of c.args.view.now in
    let leak = set_of c.args.leak.now in
    let listed = c.args.listed.now in
    let root = c.args.root.now in
    let place = c.loop-place.place - 1 in
    let needed = c.loop-place.needed.items in
    let kept = reverse c.loop-place.kept.items in
    let some : 0 < c.loop-place.place = c.loop-place-test.true in
    let upto = c.loop-place.invariant.within in
    let count = c.loop-place.invariant.count in
    let inside : place < length needed = omega arith in
    let next : c.loop-place.place ≡ suc place = omega arith in
    let before : Reaching products leak listed root (suc place) needed kept
    = subst (λ (n : ℕ). Reaching products leak listed root n needed kept) next c.loop-place.invariant.reaching in
    record {
      within = omega arith;
      count = count;
      reaching = reaching_skips products leak listed root place needed kept before
          (λ m. true≢false (sym (c.index.ensures ∙ get_or_default needed place c.index.result.now false inside ∙ m) ∙ c.if-index.false));
    }

pub returns : goal.returns
returns c =
    let products = products_of c.args.view.now in
    let leak = set_of c.args.leak.now in
    let listed = c.args.listed.now in
    let root = c.args.root.now in
    let none : c.loop-place.place ≤ 0 = c.loop-place-test.false in
    let last : c.loop-place.place ≡ 0 = omega arith in
    let kept = reverse c.loop-place.kept.items in
    let ended : Reaching products leak listed root 0 c.loop-place.needed.items kept
    = subst (λ (n : ℕ). Reaching products leak listed root n c.loop-place.needed.items kept) last c.loop-place.invariant.reaching in
    subst (λ (ks : List Kept). AreReached products leak listed root ks) (sym c.reverse.ensures.items)
    (reaching_ends products leak listed root c.loop-place.needed.items kept ended c.requires.root)
