use Rattle.std.proofs.Common.{◌≡◌, ℕ, ◌^◌, ◌<◌, length, get_or, map, sym, ap, ◌∙◌, subst, arith}
use Rattle.std.proofs.lemmas.List.{length-map}
use Rattle.share_gadgets.proofs.ShareLemmas.{read_word}
use Rattle.share_gadgets.proofs.shifts.shift_each.Goals as goal

pub shift_word-requires-clause-word : goal.shift_word-requires-clause-word
shift_word-requires-clause-word g c =
    let i = c.loop-share.share-index in
    let given = c.shares-given.ensures.shares in
    let many : length c.shares-given.result.now ≡ length c.args.a.now = ap length given in
    let within : i < length (map g.R.Register.word c.args.a.now) = omega (arith, length-map c.args.a.now g.R.Register.word, many, c.loop-share-test.true) in
    subst (λ (n : ℕ). n < 2 ^ c.args.bits)
    (sym (read_word g.R.Register.word c.shares-given.result.now i c.share-item.result c.loop-share-test.true c.share-item.is
    ∙ ap (λ xs. get_or (map g.R.Register.word xs) i 0) given))
    (c.requires.words i 0 within)
