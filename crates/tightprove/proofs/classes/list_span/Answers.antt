use Rattle.std.proofs.Common.{◌≡◌, ◌<◌, [], ℕ, List, length, get_or, sym, subst, true, false, arith}
use Rattle.span_model.specs.Columns.{set_of}
use Rattle.gf2_span.specs.Rows.{IsLast}
use Rattle.std.specs.List.{Contains}
use Rattle.tightprove.specs.Classes.{AreListed}
use Rattle.tightprove.proofs.Gathering.{lanes_done, taken_whole}
use Rattle.tightprove.proofs.classes.list_span.Goals as goal

pub list_lane-requires-clause-few : goal.list_lane-requires-clause-few
list_lane-requires-clause-few c = omega (arith, c.requires.few, c.loop-lead.invariant.listed.flag_count)

pub list_lane-requires-clause-numbers : goal.list_lane-requires-clause-numbers
list_lane-requires-clause-numbers c i h =
    let lt : i < length c.args.listed.now =
    c.requires.numbers (get_or c.deref-lead-items.result.now c.loop-lead.lead-index 0) i (c.lane_from.ensures.only i h) in
    omega (arith, lt, c.loop-lead.invariant.listed.flag_count)

pub list_lane-requires-clause-listed : goal.list_lane-requires-clause-listed
list_lane-requires-clause-listed c =
    let P : ℕ → Type 0 = λ n. AreListed n c.loop-lead.listed c.loop-lead.near.items in
    subst P (sym c.loop-lead.invariant.listed.flag_count) c.loop-lead.invariant.listed

pub loop-lead-preserved : goal.loop-lead-preserved
loop-lead-preserved c =
    let P : ℕ → Type 0 = λ n. AreListed n c.list_lane.new.listed c.list_lane.new.near.items in
    let Q : List ℕ → Type 0 = λ js. (i : ℕ) → Contains js i → get_or c.list_lane.new.listed i false ≡ true in
    record {
      listed = subst P c.loop-lead.invariant.listed.flag_count c.in_ok-list_lane.ensures.listed;
      kept = λ i on. c.in_ok-list_lane.ensures.kept i (c.loop-lead.invariant.kept i on);
      lanes = lanes_done c.args.by_lead.now.items c.deref-lead-items.result.now c.loop-lead.listed c.list_lane.new.listed c.args.low c.loop-lead.lead-index c.loop-lead-test.true
          c.loop-lead.invariant.lanes c.in_ok-list_lane.ensures.kept (λ high. subst Q (c.lane_from.ensures.some high) c.in_ok-list_lane.ensures.lane);
    }

pub returns-clause-lanes : goal.returns-clause-lanes
returns-clause-lanes c =
    let leads : List ℕ = c.deref-lead-items.result.now in
    let P : List ℕ → Type 0 = λ xs. (k n : ℕ) → k < length c.args.span.now.rows → IsLast (set_of (get_or c.args.span.now.rows k [])) n → Contains xs n in
    let listed : (k n : ℕ) → k < length c.args.span.now.rows → IsLast (set_of (get_or c.args.span.now.rows k [])) n → Contains leads n = subst P (sym c.deref-lead-items.ensures.value) c.in_ok-leads_of.ensures.leads in
    λ k n i h last high lane. c.loop-lead.invariant.lanes n i (taken_whole leads c.loop-lead.lead-index n c.loop-lead-test.false (listed k n h last)) high lane
