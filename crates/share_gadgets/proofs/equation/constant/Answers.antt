use Rattle.std.proofs.Common.{◌%◌, ◌^◌, map, ap, ◌∙◌}
use Rattle.share_gadgets.proofs.EquationLemmas.{constant_made}
use Rattle.share_gadgets.proofs.equation.constant.Goals as goal

pub returns : goal.returns
returns g c =
    ap (map g.R.Register.word) c.from_vec.ensures
    ∙ constant_made g.R.Register.word g.row.D (c.args.word % 2 ^ g.R.Register.bits) c.in_ok-shares.shares.items c.of_word.result c.requires.some c.in_ok-shares.ensures.words
    (ap g.R.Register.word c.of_word.ensures ∙ g.met.R.Register.word_of_word c.args.word)
