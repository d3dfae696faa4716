use Rattle.std.proofs.Common.{◌≡◌, ◌%◌, ◌^◌, length, map, ap, ◌∙◌, arith}
use Rattle.share_gadgets.specs.Gadgets.{not_shares}
use Rattle.share_gadgets.proofs.ShareLemmas.{not_words}
use Rattle.share_gadgets.proofs.gadgets.not.Goals as goal

pub returns : goal.returns
returns g c =
    let word : g.R.Register.word c.of_word.result ≡ c.args.mask % 2 ^ g.R.Register.bits =
    ap g.R.Register.word c.of_word.ensures ∙ g.met.R.Register.word_of_word c.args.mask in
    let same = c.in_ok-shares.ensures.items ∙ c.shares.ensures.shares in
    let many : length c.in_ok-shares.shares.items ≡ g.row.D = ap length same ∙ c.shares.ensures.count in
    ap (map g.R.Register.word) c.from_vec.ensures
    ∙ not_words g.R.Register.word g.R.Register.xor g.met.R.Register.word_xor c.in_ok-shares.shares.items c.index.result.now c.of_word.result c.xor.result
    (c.args.mask % 2 ^ g.R.Register.bits) (omega (arith, many, c.shares.ensures.some)) c.index.ensures c.xor.ensures word
    ∙ ap (λ xs. not_shares (c.args.mask % 2 ^ g.R.Register.bits) (map g.R.Register.word xs)) same
