use Rattle.std.proofs.Common.{◌++◌, [], ap, sym, ◌∙◌, arith}
use Rattle.gf2_span.specs.Basis.{Basis, row_sets}
use Rattle.gf2_span.proofs.Leads.{all_within}
use Rattle.gf2_span.proofs.Meeting.{no_leads_none}
use Rattle.tightprove.proofs.Gathering.{none_past}
use Rattle.tightprove.proofs.Rests.{clear_apart, members_more}
use Rattle.tightprove.proofs.apart.reduced.Goals as goal
use Rattle.tightprove.proofs.apart.reduced.Goals.{in-Some+in_ok-add_reduced-in-Some, in-None}

pub loop-k-init : goal.loop-k-init
loop-k-init c = record {
  columns = ap (λ (b : Basis). b.columns) c.in_ok-rest.ensures;
  clear = rw c.in_ok-rest.ensures (no_leads_none (row_sets c.args.span.now));
  members = λ j h. absurd (omega arith);
}

pub loop-k-preserved : goal.loop-k-preserved
loop-k-preserved c = elim c.match-row.branch [
  | in-Some+in_ok-add_reduced-in-Some w ↦ record {
    columns = rw w.rest-is (w.in_ok-add_reduced-in-Some.ensures.columns ∙ c.loop-k.invariant.columns);
    clear = rw w.rest-is w.in_ok-add_reduced-in-Some.ensures.clear;
    members = rw w.rest-is (members_more c.args.a.now.rows (row_sets c.loop-k.rest) (row_sets w.add_reduced.new.rest) (row_sets c.args.span.now) c.loop-k.k w.in-Some.row.now (sym w.in-Some.ensures.value)
        c.loop-k.invariant.members w.in_ok-add_reduced-in-Some.ensures.more w.in_ok-add_reduced-in-Some.ensures.row);
  }
  | in-None w ↦ absurd (none_past c.args.a.now.rows c.loop-k.k [] w.in-None.ensures.value (omega (arith, c.loop-k-test.true, c.rank-k-end.ensures.value)))
]

pub returns-clause-members : goal.returns-clause-members
returns-clause-members c =
    all_within (row_sets c.loop-k.rest ++ row_sets c.args.span.now) c.args.a.now.rows (λ j h. c.loop-k.invariant.members j (omega (arith, h, c.loop-k-test.false, c.rank-k-end.ensures.value)))

pub returns-clause-apart : goal.returns-clause-apart
returns-clause-apart c = clear_apart (row_sets c.loop-k.rest) (row_sets c.args.span.now) c.rank-rank.ensures.leads c.loop-k.invariant.clear
