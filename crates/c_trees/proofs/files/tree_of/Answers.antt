use Rattle.c_trees.proofs.Complete.{made_is}
use Rattle.c_trees.proofs.Looping.{if_ok}
use Rattle.c_trees.proofs.files.tree_of.Goals as goal

pub returns : goal.returns
returns c =
    if_ok c.made_of.result
    (λ f is. made_is c.args.reg_bits c.args.tokens.now c.requires.0 f c.requires.1 is) c.made_of.ensures
