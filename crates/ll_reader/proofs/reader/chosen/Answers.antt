use Rattle.std.proofs.Common.{◌≡◌, ◌<◌, ℕ, List, length, get_or, ap, ◌∙◌, arith, below_more}
use Rattle.std.specs.Int.{bit_at}
use Rattle.std.proofs.lemmas.Bool.{iff_false}
use Rattle.std.proofs.lemmas.Option.{get_or_from_slice_get, slice_get_within}
use Rattle.ll_reader.specs.declared.grammar.Production.{Production}
use Rattle.ll_reader.specs.Private.Choice.{GoesOn}
use Rattle.ll_reader.proofs.reader.chosen.Goals as goal
use Rattle.ll_reader.proofs.reader.chosen.Goals.{else-production-rule-via-then-production-rule+else-has, else-production-rule-via-else-production-rule}

other_rule : (table : List Production) (rule class k : ℕ) (d : Production) → ((get_or table k d).rule ≡ rule → ⊥) → GoesOn table rule class k → ⊥
other_rule table rule class k d other on = other (ap (λ (p : Production). p.rule) (get_or_from_slice_get table k on.0 d on.1) ∙ on.2)

other_class : (table : List Production) (rule class k : ℕ) (d : Production) → (bit_at (get_or table k d).first class ≡ 1 → ⊥) → GoesOn table rule class k → ⊥
other_class table rule class k d other on = other (ap (λ (p : Production). bit_at p.first class) (get_or_from_slice_get table k on.0 d on.1) ∙ on.3)

pub loop-k-preserved : goal.loop-k-preserved
loop-k-preserved c =
    below_more _ _ c.loop-k.invariant
    (elim c.else-production-rule.branch [
      | else-production-rule-via-then-production-rule+else-has w ↦ other_class c.args.table.now c.args.rule c.args.class c.loop-k.k _ (iff_false w.has.ensures w.if-has.false)
      | else-production-rule-via-else-production-rule w ↦ other_rule c.args.table.now c.args.rule c.args.class c.loop-k.k _ w.if-production-rule.false
    ])

pub returns-clause-none : goal.returns-clause-none
returns-clause-none c k on =
    let inside : k < length c.args.table.now = slice_get_within c.args.table.now k on.0 on.1 in
    let before : k < c.loop-k.k = omega arith in
    c.loop-k.invariant k before on
