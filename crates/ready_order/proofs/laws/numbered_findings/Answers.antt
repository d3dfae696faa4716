use Rattle.ready_order.proofs.Carrying.{numbered_findings}
use Rattle.ready_order.proofs.laws.numbered_findings.Goals as goal

pub returns : goal.returns
returns c = numbered_findings
