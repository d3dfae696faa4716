use Rattle.std.proofs.Common.{◌≡◌, ◌++◌, [], ◌∷◌, ℕ, Some, None, arith}
use Rattle.tightprove.proofs.Gathering.{leads_more, all_push, contains_more, contains_new}
use Rattle.tightprove.proofs.classes.leads_of.Goals as goal
use Rattle.tightprove.proofs.classes.leads_of.Goals.{in-Some+in_ok-push-in-Some, in-None}

pub loop-k-preserved : goal.loop-k-preserved
loop-k-preserved c = elim c.match-lead_of.branch [
  | in-Some+in_ok-push-in-Some w ↦ record {
    listed = rw (w.leads-is, w.in_ok-push-in-Some.ensures.items)
        (leads_more c.args.span.now.rows c.loop-k.leads.items (c.loop-k.leads.items ++ w.in-Some.lead ∷ []) c.loop-k.k c.loop-k.invariant.listed
        (λ n h. contains_more c.loop-k.leads.items w.in-Some.lead n h)
        (λ n last. contains_new c.loop-k.leads.items w.in-Some.lead n (some_same (w.in-Some.ensures.value n (omega arith) last))));
    within = rw (w.leads-is, w.in_ok-push-in-Some.ensures.items) (all_push c.args.span.now.columns c.loop-k.leads.items w.in-Some.lead c.loop-k.invariant.within w.in-Some.ensures.within);
  }
  | in-None w ↦ record {
    listed = rw w.leads-is (leads_more c.args.span.now.rows c.loop-k.leads.items c.loop-k.leads.items c.loop-k.k c.loop-k.invariant.listed (λ n h. h)
        (λ n last. none_some (w.in-None.ensures.value n (omega arith) last)));
    within = rw w.leads-is c.loop-k.invariant.within;
  }
]
  where
    some_same : {m n : ℕ} → Some m ≡ Some n → m ≡ n
    some_same e = cc e

    none_some : {n : ℕ} {P : Type 0} → None ≡ Some n → P
    none_some e = cc e

pub returns-clause-wide : goal.returns-clause-wide
returns-clause-wide c k h = c.rank-k-end.ensures.wide k (omega (arith, c.rank-k-end.ensures.value))
