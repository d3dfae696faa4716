use Rattle.std.proofs.Common.{ap, ◌∙◌}
use Rattle.share_gadgets.proofs.ShareLemmas.{crossed_word}
use Rattle.share_gadgets.proofs.pair_loop.crossed.Goals as goal

pub returns : goal.returns
returns g c =
    ap g.R.Register.word (c.xor-2.ensures ∙ (λ k. g.R.Register.xor ((c.xor.ensures ∙ ap (g.R.Register.xor c.args.word) c.and.ensures) k) (c.and-2.ensures k)))
    ∙ crossed_word g.R.Register.word g.R.Register.xor g.met.R.Register.word_xor g.R.Register.and g.met.R.Register.word_and
    c.args.a.now c.args.b.now c.args.word c.index-a-i.result c.index-b-j.result c.index-a-j.result c.index-b-i.result c.args.i c.args.j
    c.requires.first c.requires.second c.requires.same c.index-a-i.is c.index-b-j.is c.index-a-j.is c.index-b-i.is
