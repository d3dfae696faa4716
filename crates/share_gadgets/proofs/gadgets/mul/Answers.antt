use Rattle.std.proofs.Common.{◌≡◌, ℕ, length, map, ap, ◌∙◌}
use Rattle.std.proofs.lemmas.List.{length-map}
use Rattle.std.specs.Prelude.{slice_index}
use Rattle.share_gadgets.specs.Sharing.{sharing_value}
use Rattle.share_gadgets.specs.Gadgets.{product_shares}
use Rattle.share_gadgets.proofs.PairSteps.{product_end}
use Rattle.share_gadgets.proofs.ProductValues.{product_value}
use Rattle.share_gadgets.proofs.gadgets.mul.Goals as goal

pub returns-clause-shares : goal.returns-clause-shares
returns-clause-shares g c =
    let random : ℕ → ℕ = slice_index (map g.R.Register.word c.args.words.now) in
    let many : length c.shares-left.result.now ≡ g.row.D = ap length c.shares-left.ensures.shares ∙ c.shares-left.ensures.count in
    ap (map g.R.Register.word) c.from_vec.ensures ∙ c.product_pairs.ensures.after
    ∙ product_end (length c.shares-left.result.now) (map g.R.Register.word c.shares-left.result.now) (map g.R.Register.word c.shares-right.result.now) random
    ∙ (λ k. product_shares (many k) (map g.R.Register.word (c.shares-left.ensures.shares k)) (map g.R.Register.word (c.shares-right.ensures.shares k)) random)

pub returns-clause-value : goal.returns-clause-value
returns-clause-value g c =
    ap sharing_value (returns-clause-shares g c)
    ∙ product_value g.row.D (map g.R.Register.word c.args.a.now) (map g.R.Register.word c.args.b.now) (slice_index (map g.R.Register.word c.args.words.now))
    (length-map c.args.a.now g.R.Register.word ∙ c.shares-left.ensures.count) (length-map c.args.b.now g.R.Register.word ∙ c.shares-right.ensures.count)
