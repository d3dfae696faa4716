use Rattle.std.proofs.Common.{◌≡◌, ◌<◌, ℕ, Bool, not, length, true, false, get_or, set, sym, ap, ◌∙◌, arith}
use Rattle.std.proofs.lemmas.List.{get_or-set_same}
use Rattle.std.proofs.lemmas.List.Elements.{Contains-get_or}
use Rattle.tightprove.proofs.Gathering.{listed_more, flag_kept, lane_more, taken_whole}
use Rattle.tightprove.proofs.classes.list_lane.Goals as goal
use Rattle.tightprove.proofs.classes.list_lane.Goals.{then-not-has+in_ok-push, else-not-has}

pub overflow_cast-number : goal.overflow_cast-number
overflow_cast-number c =
    let h : get_or c.args.lane.now c.loop-i.i-index 0 < length c.args.listed.now =
    c.requires.numbers (get_or c.args.lane.now c.loop-i.i-index 0) (Contains-get_or c.args.lane.now c.loop-i.i-index 0 c.loop-i-test.true) in
    omega (arith, h, c.requires.few)

pub flip-requires : goal.flip-requires
flip-requires c =
    let h : get_or c.args.lane.now c.loop-i.i-index 0 < length c.args.listed.now =
    c.requires.numbers (get_or c.args.lane.now c.loop-i.i-index 0) (Contains-get_or c.args.lane.now c.loop-i.i-index 0 c.loop-i-test.true) in
    omega (arith, h, c.loop-i.invariant.listed.flag_count)

pub loop-i-preserved : goal.loop-i-preserved
loop-i-preserved c =
    let i : ℕ = get_or c.args.lane.now c.loop-i.i-index 0 in
    let lt : i < length c.args.listed.now = c.requires.numbers i (Contains-get_or c.args.lane.now c.loop-i.i-index 0 c.loop-i-test.true) in
    let within : i < length c.loop-i.listed = omega (arith, lt, c.loop-i.invariant.listed.flag_count) in
    let was : get_or c.loop-i.listed i false ≡ c.has.result = sym c.has.ensures in
    elim c.if-not-has.branch [
      | then-not-has+in_ok-push w ↦
          let off : get_or c.loop-i.listed i false ≡ false = was ∙ w.if-not-has.true in
          let flagged : c.if-not-has.listed ≡ set c.loop-i.listed i true = w.listed-is ∙ w.flip.ensures ∙ ap (λ (b : Bool). set c.loop-i.listed i (not b)) off in
          record {
            listed = rw (flagged, w.near-is, w.in_ok-push.ensures.items)
                (listed_more (length c.args.listed.now) c.loop-i.listed c.loop-i.near.items i c.loop-i.invariant.listed lt off);
            kept = rw flagged (λ k on. flag_kept c.loop-i.listed i k (c.loop-i.invariant.kept k on));
            lane = rw flagged (lane_more c.args.lane.now c.loop-i.listed (set c.loop-i.listed i true) c.loop-i.i-index c.loop-i-test.true c.loop-i.invariant.lane
                (λ k on. flag_kept c.loop-i.listed i k on) (get_or-set_same c.loop-i.listed i true false within));
          }
      | else-not-has w ↦ record {
        listed = rw (w.listed-is, w.near-is) c.loop-i.invariant.listed;
        kept = rw w.listed-is c.loop-i.invariant.kept;
        lane = rw w.listed-is (lane_more c.args.lane.now c.loop-i.listed c.loop-i.listed c.loop-i.i-index c.loop-i-test.true c.loop-i.invariant.lane
            (λ k on. on) (was ∙ w.if-not-has.false));
      }
    ]

pub returns-clause-lane : goal.returns-clause-lane
returns-clause-lane c i h = c.loop-i.invariant.lane i (taken_whole c.args.lane.now c.loop-i.i-index i c.loop-i-test.false h)
