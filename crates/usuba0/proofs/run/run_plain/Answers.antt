use Rattle.std.proofs.Common.{◌≡◌, ℕ, List, [], ◌∷◌, ◌++◌, get_or, take, map, sym, ap, ◌∙◌, arith}
use Rattle.std.proofs.lemmas.List.{get_or_read, take_all}
use Rattle.usuba0.specs.declared.circuit.Reg.{Reg}
use Rattle.usuba0.specs.PlainRun.{word_at}
use Rattle.usuba0.proofs.CircuitLemmas.{outputs_step, output_fits}
use Rattle.usuba0.proofs.run.run_plain.Goals as goal

pub index-requires : goal.index-requires
index-requires c =
    output_fits c.args.core.now c.output_slice-registers.result.now _ c.loop-output.output-index (record { 0 = 0 })
    c.output_slice-registers.ensures.core c.output_slice-registers.ensures.registers c.in_ok-words.ensures.all c.loop-output-test.true

pub loop-output-preserved : goal.loop-output-preserved
loop-output-preserved c =
    let words = c.in_ok-words.words.items in
    let rs = c.output_slice-registers.result.now in
    let i = c.loop-output.output-index in
    let zero : Reg = record { 0 = 0 } in
    let fits = output_fits c.args.core.now rs _ i zero
    c.output_slice-registers.ensures.core c.output_slice-registers.ensures.registers c.in_ok-words.ensures.all c.loop-output-test.true in
    let read : c.index.result.now ≡ word_at words (get_or rs i zero) = get_or_read words _ _ (omega (arith, c.in_ok-words.words.ok.0, fits)) c.index.ensures 0 in
    c.in_ok-push.ensures.ok
    ∙ ap (λ (l : List ℕ). l ++ c.index.result.now ∷ []) c.loop-output.invariant
    ∙ ap (λ (x : ℕ). map (word_at words) (take i rs) ++ x ∷ []) read
    ∙ sym (outputs_step words rs i zero c.loop-output-test.true)

pub returns : goal.returns
returns c =
    let rs = c.output_slice-registers.result.now in
    let whole : take c.loop-output.output-index rs ≡ rs = take_all c.loop-output.output-index rs c.loop-output-test.false in
    c.loop-output.invariant
    ∙ ap (map (word_at c.in_ok-words.words.items)) (whole ∙ c.output_slice-registers.ensures.registers)
    ∙ ap (λ (words : List ℕ). map (word_at words) c.args.core.now.outputs) c.in_ok-words.ensures.words
