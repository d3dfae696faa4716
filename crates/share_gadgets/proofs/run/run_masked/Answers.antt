use Rattle.std.proofs.Common.{map, ap, ◌∙◌}
use Rattle.usuba0.specs.Term.{bits_of_width}
use Rattle.share_gadgets.specs.Sharing.{sharing_value}
use Rattle.share_gadgets.proofs.RunLemmas.{masked_values}
use Rattle.share_gadgets.proofs.run.run_masked.Goals as goal

pub returns-clause-values : goal.returns-clause-values
returns-clause-values g c =
    ap (map sharing_value) c.in_ok-outputs.ensures.outputs
    ∙ masked_values (bits_of_width c.args.core.now.width) g.row.D c.args.core.now (map (map g.R.Register.word) c.args.inputs.now) c.args.words.now c.in_ok-outputs.ensures.given
