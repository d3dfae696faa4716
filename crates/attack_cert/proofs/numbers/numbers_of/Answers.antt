use Rattle.std.proofs.Common.{◌≡◌, ◌<◌, ◌+◌, ℕ, length, get_or, set, subst, sym, ◌∙◌, arith}
use Rattle.std.proofs.lemmas.List.{length-map, length-set}
use Rattle.attack_cert.specs.Kept.{kept_places}
use Rattle.attack_cert.specs.declared.reached.Kept.{Kept}
use Rattle.attack_cert.proofs.Picks.{rising_from, rising_short}
use Rattle.attack_cert.proofs.Places.{place_read, place_below}
use Rattle.attack_cert.proofs.Numbering.{numbers_more}
use Rattle.attack_cert.proofs.numbers.numbers_of.Goals as goal

pub overflow_cast-number : goal.overflow_cast-number
overflow_cast-number c =
    let short = rising_short (kept_places c.args.kept.now) c.args.places (rising_from (kept_places c.args.kept.now) c.requires.rise) c.requires.below in
    let many = length-map c.args.kept.now (λ (s : Kept). s.place) in
    let within : c.loop-number.number < length c.args.kept.now = c.loop-number-test.true in
    let few = c.requires.few in
    omega arith

pub index_mut-requires : goal.index_mut-requires
index_mut-requires c =
    let within : c.loop-number.number < length c.args.kept.now = c.loop-number-test.true in
    let below = place_below c.args.kept.now c.loop-number.number c.index-kept-number.result c.args.places within c.index-kept-number.is c.requires.below in
    let count = c.loop-number.invariant.count in
    let len = c.loop-number.numbers.ok.0 in
    omega arith

pub loop-number-preserved : goal.loop-number-preserved
loop-number-preserved c =
    let i = c.loop-number.number in
    let numbers = c.loop-number.numbers.items in
    let places = kept_places c.args.kept.now in
    let within : i < length c.args.kept.now = c.loop-number-test.true in
    let many = length-map c.args.kept.now (λ (s : Kept). s.place) in
    let is : c.index-kept-number.result.place ≡ get_or places i 0 = place_read c.args.kept.now i c.index-kept-number.result within c.index-kept-number.is in
    let below = place_below c.args.kept.now i c.index-kept-number.result c.args.places within c.index-kept-number.is c.requires.below in
    let count = c.loop-number.invariant.count in
    record {
      count = length-set numbers c.index-kept-number.result.place i ∙ count;
      numbers = subst (λ (p : ℕ). (k : ℕ) → k < i + 1 → get_or (set numbers p i) (get_or places k 0) 0 ≡ k) (sym is)
          (numbers_more numbers places i (rising_from places c.requires.rise) (omega arith) (omega arith) c.loop-number.invariant.numbers);
    }
