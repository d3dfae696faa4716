use Rattle.std.proofs.Common.{◌≡◌, ℕ, length, map, ap, ◌∙◌}
use Rattle.std.proofs.lemmas.List.{length-map}
use Rattle.std.specs.Prelude.{slice_index}
use Rattle.share_gadgets.specs.Sharing.{sharing_value}
use Rattle.share_gadgets.specs.Gadgets.{refreshed_shares}
use Rattle.share_gadgets.proofs.PairSteps.{refreshed_start, refreshed_end}
use Rattle.share_gadgets.proofs.ProductValues.{refreshed_value}
use Rattle.share_gadgets.proofs.gadgets.refresh.Goals as goal

pub refresh_pairs-requires-clause-before : goal.refresh_pairs-requires-clause-before
refresh_pairs-requires-clause-before g c =
    let given = c.shares-given.result.now in
    ap (map g.R.Register.word) c.in_ok-shares.ensures.items
    ∙ refreshed_start (length given) (map g.R.Register.word given) (slice_index (map g.R.Register.word c.args.words.now)) (length-map given g.R.Register.word)

pub returns-clause-shares : goal.returns-clause-shares
returns-clause-shares g c =
    let random : ℕ → ℕ = slice_index (map g.R.Register.word c.args.words.now) in
    let many : length c.shares-given.result.now ≡ g.row.D = ap length c.shares-given.ensures.shares ∙ c.shares-given.ensures.count in
    ap (map g.R.Register.word) c.from_vec.ensures ∙ c.refresh_pairs.ensures.after
    ∙ refreshed_end (length c.shares-given.result.now) (map g.R.Register.word c.shares-given.result.now) random
    ∙ (λ k. refreshed_shares (many k) (map g.R.Register.word (c.shares-given.ensures.shares k)) random)

pub returns-clause-value : goal.returns-clause-value
returns-clause-value g c =
    ap sharing_value (returns-clause-shares g c)
    ∙ refreshed_value g.row.D (map g.R.Register.word c.args.a.now) (slice_index (map g.R.Register.word c.args.words.now))
    (length-map c.args.a.now g.R.Register.word ∙ c.shares-given.ensures.count)
