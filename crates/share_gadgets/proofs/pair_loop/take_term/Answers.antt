use Rattle.std.proofs.Common.{ap, set, arith}
use Rattle.share_gadgets.proofs.ShareLemmas.{take_words}
use Rattle.share_gadgets.proofs.pair_loop.take_term.Goals as goal

pub returns-clause-words : goal.returns-clause-words
returns-clause-words g c =
    take_words g.R.Register.word g.R.Register.xor g.met.R.Register.word_xor c.args.shares.now.items _ c.args.k c.index.result.now c.args.term
    (omega (arith, c.args.shares.now.ok.0, c.requires)) c.index.ensures (ap (set c.args.shares.now.items c.args.k) c.xor.ensures)
