use Rattle.std.proofs.Common.{◌≡◌, ℕ, Bool, get_or, ap, sym, subst, inl, inr, arith}
use Rattle.std.proofs.lemmas.Bool.{cases_lt, cases_eq, OnTrue_at}
use Rattle.gf2_span.proofs.words.are_same.Goals as goal
use Rattle.gf2_span.proofs.Kernels.{all_same, same_word}

pub loop-at-preserved : goal.loop-at-preserved
loop-at-preserved c = record {
  within = omega arith;
  same = λ k h. elim (cases_lt k c.loop-at.at) [
    | inl before ↦ c.loop-at.invariant.same k before
    | inr here ↦ OnTrue_at c.if-lanes_are_same.true c.lanes_are_same.ensures k here h
  ];
}

pub returns-then-words-at : goal.returns-then-words-at
returns-then-words-at c = λ e.
    let same : get_or c.args.words.now c.loop-at-2.at 0 ≡ get_or c.args.other.now c.loop-at-2.at 0 =
    same_word c.args.words.now c.args.other.now c.loop-at-2.at (c.type_inv.words c.loop-at-2.at).fits
    (c.type_inv.other c.loop-at-2.at).fits (λ d _. ap (λ (set : ℕ → Bool). set d) e) in
    absurd (omega arith)

pub loop-at-2-preserved : goal.loop-at-2-preserved
loop-at-2-preserved c = record {
  within = omega arith;
  same = λ k h. elim (cases_eq k c.loop-at-2.at) [
    | inl here ↦
        let P : ℕ → Type 0 = λ i. get_or c.args.words.now i 0 ≡ get_or c.args.other.now i 0 in
        subst P (sym here) (omega arith)
    | inr other ↦ c.loop-at-2.invariant.same k (omega arith)
  ];
}

pub returns : goal.returns
returns c =
    all_same c.args.words.now c.args.other.now c.args.end c.requires.same c.type_inv.words c.type_inv.other c.requires.clear c.requires.other_clear
    (λ k h. c.loop-at-2.invariant.same k (omega arith))
