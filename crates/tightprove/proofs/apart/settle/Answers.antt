use Rattle.span_model.proofs.Members.{in_behind}
use Rattle.gf2_span.specs.Basis.{row_sets}
use Rattle.tightprove.proofs.apart.settle.Goals as goal

pub returns-then-not-share_lead-clause-members : goal.returns-then-not-share_lead-clause-members
returns-then-not-share_lead-clause-members c = in_behind (row_sets c.args.rest.now) (row_sets c.args.span.now)
