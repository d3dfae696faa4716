use Rattle.std.proofs.Common.{◌≡◌, length, min, arith}
use Rattle.attack_model.proofs.UseLemmas.{uses_below}
use Rattle.attack_probes.specs.declared.listing.TheConstants.{MANY}
use Rattle.attack_probes.specs.Unfolding.{unfolding_of}
use Rattle.attack_probes.proofs.Counting.{count_whole}
use Rattle.attack_probes.proofs.listing.unfold.Goals as goal

pub counts_of-requires : goal.counts_of-requires
counts_of-requires c = rw c.as_slice-steps.ensures c.requires.earlier

pub count_of_uses-requires : goal.count_of_uses-requires
count_of_uses-requires c =
    let steps = c.args.derivation.now.steps in
    let root = c.args.derivation.now.root in
    let counts = rw c.as_slice-steps.ensures at c.in_ok-counts.ensures in
    rw (c.as_slice.ensures.value, c.as_slice-root.ensures, counts.each) (uses_below (length steps) root c.requires.within)

pub returns-then-count_of_uses-gt-MAX_PROBES : goal.returns-then-count_of_uses-gt-MAX_PROBES
returns-then-count_of_uses-gt-MAX_PROBES c =
    let steps = c.args.derivation.now.steps in
    let root = c.args.derivation.now.root in
    let counts = rw c.as_slice-steps.ensures at c.in_ok-counts.ensures in
    let whole : c.count_of_uses.result ≡ min (length (unfolding_of steps root)) MANY =
    count_whole MANY steps root c.in_ok-counts.counts.items c.count_of_uses.result counts.each counts.counted (uses_below (length steps) root c.requires.within)
    (rw (c.as_slice.ensures.value, c.as_slice-root.ensures) at c.count_of_uses.ensures) in
    omega arith

pub listed-requires-clause-few : goal.listed-requires-clause-few
listed-requires-clause-few c =
    let steps = c.args.derivation.now.steps in
    let root = c.args.derivation.now.root in
    let counts = rw c.as_slice-steps.ensures at c.in_ok-counts.ensures in
    let whole : c.count_of_uses.result ≡ min (length (unfolding_of steps root)) MANY =
    count_whole MANY steps root c.in_ok-counts.counts.items c.count_of_uses.result counts.each counts.counted (uses_below (length steps) root c.requires.within)
    (rw (c.as_slice.ensures.value, c.as_slice-root.ensures) at c.count_of_uses.ensures) in
    rw (c.as_slice-steps.ensures, c.as_slice-root.ensures) (omega arith)

pub returns : goal.returns
returns c =
    let steps = c.args.derivation.now.steps in
    let root = c.args.derivation.now.root in
    let counts = rw c.as_slice-steps.ensures at c.in_ok-counts.ensures in
    let whole : c.count_of_uses.result ≡ min (length (unfolding_of steps root)) MANY =
    count_whole MANY steps root c.in_ok-counts.counts.items c.count_of_uses.result counts.each counts.counted (uses_below (length steps) root c.requires.within)
    (rw (c.as_slice.ensures.value, c.as_slice-root.ensures) at c.count_of_uses.ensures) in
    (omega arith, rw (c.as_slice-steps.ensures, c.as_slice-root.ensures) at c.in_ok-listed.ensures)
