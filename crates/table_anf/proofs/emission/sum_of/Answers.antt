use Rattle.std.proofs.Common.{◌≡◌, ◌+◌, ℕ, refl, sym, ap, ◌∙◌, arith, eq-eqb, ne_eqb, get_or, true≢false}
use Rattle.usuba0.specs.declared.circuit.Reg.{Reg}
use Rattle.table_anf.specs.Coefficients.{coefficient}
use Rattle.table_anf.specs.TableTerms.{is_present}
use Rattle.table_anf.proofs.Sums.{summing_with, summing_without}
use Rattle.table_anf.proofs.emission.sum_of.Goals as goal
use Rattle.table_anf.proofs.emission.sum_of.Goals.{then-coefficient+in_ok-added, else-coefficient}

pub loop-index-preserved : goal.loop-index-preserved
loop-index-preserved c =
    let i = c.loop-index.index in
    let start = c.args.builder.now in
    let products = c.args.products.now in
    let nothing : Reg = record { 0 = 0 } in
    let given : ℕ → ℕ = coefficient c.args.anf.now.inputs c.args.anf.now.outputs c.args.anf.now.entries c.args.output in
    let test = is_present c.args.anf.now.inputs c.args.anf.now.outputs c.args.anf.now.entries c.args.output in
    let turned : 1 + i ≡ i + 1 = omega arith in
    elim c.if-coefficient.branch [
      | then-coefficient+in_ok-added w ↦
          rw (w.builder-is, w.sum-is)
          (summing_with start products test i c.loop-index.builder w.added.new.builder c.loop-index.sum (get_or products i nothing) w.in_ok-added.field-0 nothing
          c.requires.held c.loop-index-test.true refl
          (eq-eqb (given (1 + i)) 1 (ap given turned ∙ c.coefficient.ensures.0 w.if-coefficient.true))
          c.loop-index.invariant w.added.ensures.extends w.in_ok-added.ensures.term)
      | else-coefficient w ↦
          rw (w.builder-is, w.sum-is)
          (summing_without start products test i c.loop-index.builder c.loop-index.sum c.loop-index-test.true
          (ne_eqb (given (1 + i)) 1 (λ e. true≢false (sym (c.coefficient.ensures.1 (sym (ap given turned) ∙ e)) ∙ w.if-coefficient.false)))
          c.loop-index.invariant)
    ]
