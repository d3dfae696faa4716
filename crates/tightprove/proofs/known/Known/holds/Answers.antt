use Rattle.std.proofs.Common.{◌≡◌, ◌<◌, [], List, ℕ, length, get_or, subst, ◌∙◌}
use Rattle.std.proofs.lemmas.List.{get_or_default}
use Rattle.span_model.specs.Span.{Spans}
use Rattle.gf2_span.specs.Basis.{Basis, row_sets}
use Rattle.tightprove.proofs.known.Known.holds.Goals as goal

pub returns-then-is_within-clause-answer : goal.returns-then-is_within-clause-answer
returns-then-is_within-clause-answer c =
    let n : ℕ = get_or c.lane_at-n-items.result.now c.loop-n.n-index 0 in
    let look = c.in-Some-get.ensures.lookup in
    let P : List Basis → Type 0 = λ xs. (n < length xs) × (c.in-Some-get.span.now ≡ get_or xs n c.in-Some-get.span.now) in
    let at : (n < length c.args.self.now.spans.items) × (c.in-Some-get.span.now ≡ get_or c.args.self.now.spans.items n c.in-Some-get.span.now) = subst P c.deref.ensures.value (look.3.0, look.1) in
    let Q : Basis → Type 0 = λ b. Spans (row_sets b) (row_sets c.args.candidates.now) in
    (n, at.0, subst Q (at.1 ∙ get_or_default c.args.self.now.spans.items n c.in-Some-get.span.now (record { columns = 0; rows = [] }) at.0) c.if-is_within.ensures.answer)
