use Rattle.std.proofs.Common.{◌∷◌, [], List, Bool, ap, sym, subst}
use Rattle.span_model.specs.Columns.{set_of, sets_of}
use Rattle.span_model.specs.Refresh.{left_out}
use Rattle.gf2_span.specs.Basis.{row_sets}
use Rattle.tightprove.specs.Growth.{ReachAll}
use Rattle.tightprove.specs.Private.Gathered.{marks_of, beyond}
use Rattle.tightprove.proofs.Calls.{on_true, of_true}
use Rattle.tightprove.proofs.Following.{reach_none, reach_attack}
use Rattle.tightprove.proofs.chains.leaks_by.Goals as goal

pub loop-k-init : goal.loop-k-init
loop-k-init c = record {
  columns = ap (λ span. span.columns) c.in_ok-span.ensures;
  reached = λ products is.
      subst (λ (rows : List (List Bool)). ReachAll (left_out (beyond (marks_of c.args.set.now) c.args.bound) products) (set_of c.in-Some.leak.now ∷ []) (sets_of rows))
      (sym (ap (λ span. span.rows) c.in_ok-span.ensures))
      (reach_none (left_out (beyond (marks_of c.args.set.now) c.args.bound) products) (set_of c.in-Some.leak.now));
}

pub returns : goal.returns
returns c = on_true c.in_ok-leaks.leaks _ (λ yes products is.
    reach_attack c.leaks_are_closed.ensures (left_out (beyond (marks_of c.args.set.now) c.args.bound) products) (set_of c.in-Some.leak.now) (row_sets c.loop-k.span)
    (c.loop-k.invariant.reached products is) (of_true c.in_ok-leaks.leaks _ yes c.in_ok-leaks.ensures))
