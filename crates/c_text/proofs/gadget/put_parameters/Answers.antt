use Rattle.std.proofs.Common.{ap}
use Rattle.tor_edge.proofs.Writing.{Wrote-is, Wrote-then, Wrote-stops}
use Rattle.c_text.specs.CText.{parameter_text}
use Rattle.c_text.proofs.Joining.{listed_first}
use Rattle.c_text.proofs.gadget.put_parameters.Goals as goal

pub returns-in_err-put_parameter-in-len1-up : goal.returns-in_err-put_parameter-in-len1-up
returns-in_err-put_parameter-in-len1-up g c =
    Wrote-is (listed_first parameter_text c.args.parameters.now c.first-item.result c.in-len1-up.len_at_least)
    (Wrote-stops _ (Wrote-is (ap parameter_text c.first-item.is) c.in_err-put_parameter-in-len1-up.ensures)
    c.from_residual.ensures.0)

pub returns-in_ok-put_parameter-in-len1-up : goal.returns-in_ok-put_parameter-in-len1-up
returns-in_ok-put_parameter-in-len1-up g c =
    Wrote-is (listed_first parameter_text c.args.parameters.now c.first-item.result c.in-len1-up.len_at_least)
    (Wrote-then (Wrote-is (ap parameter_text c.first-item.is) c.in_ok-put_parameter-in-len1-up.ensures)
    c.put_further.ensures)
