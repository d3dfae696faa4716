use Rattle.std.proofs.Common.{List, ℕ, length, sym, ◌∙◌}
use Rattle.std.specs.List.{range_with_len}
use Rattle.ready_order.specs.State.Scan.{progress}
use Rattle.ready_order.proofs.SettleLemmas.{as_many_after, count_after, less_left, settled_after, leads_more}
use Rattle.ready_order.proofs.scan.Scan.settle.Goals as goal

pub loop-smaller : goal.loop-smaller
loop-smaller c =
    less_left c.args.table.now.done (progress c.loop.self) (progress c.pass.new.self) c.in_ok-pass.ensures.passed c.loop.invariant.as_many
    c.loop.invariant.count (sym c.in_ok-pass.ensures.moved ∙ c.if-branch.true)

pub loop-preserved : goal.loop-preserved
loop-preserved c =
    let all : List ℕ = range_with_len 0 (length c.args.table.now.done) in
    record {
      as_many = as_many_after c.args.table.now.done all (progress c.loop.self) (progress c.pass.new.self) c.in_ok-pass.ensures.passed
          c.loop.invariant.as_many;
      count = count_after c.args.table.now.done all (progress c.loop.self) (progress c.pass.new.self) c.in_ok-pass.ensures.passed
          c.loop.invariant.count;
      leads = leads_more c.args.table.now.done (progress c.args.self.now) (progress c.loop.self) (progress c.pass.new.self) all
          c.loop.invariant.leads c.in_ok-pass.ensures.passed;
    }

pub returns-clause-leads : goal.returns-clause-leads
returns-clause-leads c =
    leads_more c.args.table.now.done (progress c.args.self.now) (progress c.loop.self) (progress c.pass.new.self)
    (range_with_len 0 (length c.args.table.now.done)) c.loop.invariant.leads c.in_ok-pass.ensures.passed

pub returns-clause-settled : goal.returns-clause-settled
returns-clause-settled c =
    settled_after c.args.table.now.done (progress c.loop.self) (progress c.pass.new.self) c.in_ok-pass.ensures.passed
    (sym c.in_ok-pass.ensures.moved ∙ c.if-branch.false)
