use Rattle.tor_edge.proofs.Writing.{Wrote-is, Wrote-then, Wrote-stops}
use Rattle.c_tree.specs.declared.CArg.TheVariants as argument
use Rattle.c_text.specs.CText.{argument_text}
use Rattle.c_text.proofs.Joining.{listed_first}
use Rattle.c_text.proofs.call.put_arguments.Goals as goal

pub returns-in_err-put_argument-in-len1-up : goal.returns-in_err-put_argument-in-len1-up
returns-in_err-put_argument-in-len1-up g c =
    Wrote-is (listed_first argument_text c.args.arguments.now (argument.Out 0) c.in-len1-up.len_at_least)
    (Wrote-stops _ c.in_err-put_argument-in-len1-up.ensures c.from_residual.ensures.0)

pub returns-in_ok-put_argument-in-len1-up : goal.returns-in_ok-put_argument-in-len1-up
returns-in_ok-put_argument-in-len1-up g c =
    Wrote-is (listed_first argument_text c.args.arguments.now (argument.Out 0) c.in-len1-up.len_at_least)
    (Wrote-then c.in_ok-put_argument-in-len1-up.ensures c.put_further.ensures)
