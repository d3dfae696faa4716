use Rattle.std.proofs.Common.{ap}
use Rattle.tor_edge.proofs.Writing.{Wrote-is, Wrote-next_stops}
use Rattle.c_text.specs.CText.{statement_text}
use Rattle.c_text.proofs.statement.put_statements.Goals as goal

pub returns-in_err-put_statement : goal.returns-in_err-put_statement
returns-in_err-put_statement g c =
    Wrote-next_stops (λ statement. statement_text statement c.args.depth) _ _ c.statement-item.result
    c.loop-statement-test.true c.loop-statement.invariant
    (Wrote-is (ap (λ statement. statement_text statement c.args.depth) c.statement-item.is)
    c.in_err-put_statement.ensures) c.from_residual.ensures.0
