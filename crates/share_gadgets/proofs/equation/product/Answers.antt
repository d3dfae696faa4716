use Rattle.std.proofs.Common.{◌≡◌, ℕ, ◌<◌, List, take, get_or, map, ap, ◌∙◌, IfOk, subst}
use Rattle.std.specs.Prelude.{slice_index}
use Rattle.share_gadgets.specs.Gadgets.{pairs}
use Rattle.share_gadgets.specs.Private.Cut.{cut_word}
use Rattle.share_gadgets.proofs.EquationLemmas.{cut_read}
use Rattle.share_gadgets.proofs.RandomLemmas.{product_random}
use Rattle.share_gadgets.proofs.equation.product.Goals as goal

pub returns : goal.returns
returns g c =
    let d = g.row.D in
    let same : (k : ℕ) → k < pairs d → get_or (map g.R.Register.word c.as_slice.result.now) k 0 ≡ cut_word c.args.bits c.args.words.now k =
    λ k h. ap (λ xs. get_or (map g.R.Register.word xs) k 0) c.as_slice.ensures.value
    ∙ cut_read g.R.Register.word c.args.bits (pairs d) c.in_ok-random.random.items _ c.args.words.now c.in_ok-random.ensures.words
    (ap (λ (n : ℕ). take n c.args.words.now) c.pair_count.ensures) c.requires.words k h in
    let P : List ℕ → Type 0 = λ (to : List ℕ). IfOk c.mul.result (λ sharing. map g.R.Register.word sharing ≡ to) in
    subst P (product_random d (slice_index (map g.R.Register.word c.as_slice.result.now)) (cut_word c.args.bits c.args.words.now) same (map g.R.Register.word c.args.a.now) (map g.R.Register.word c.args.b.now)) c.mul.ensures.shares
