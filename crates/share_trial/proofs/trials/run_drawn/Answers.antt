use Rattle.std.proofs.Common.{ℕ, List, Err, length, map, refl, sym, ap, ◌∙◌, arith, lit<}
use Rattle.usuba0.specs.PlainRun.{plain_run}
use Rattle.usuba0.specs.Term.{bits_of_width}
use Rattle.share_gadgets.proofs.RunSteps.{bits_are}
use Rattle.share_gadgets.specs.MaskedRun.{masked_run, words_drawn}
use Rattle.share_gadgets.specs.Sharing.{sharing_value}
use Rattle.word_draws.specs.Draws.{start}
use Rattle.share_trial.specs.Trial.{after_sharings, trial_inputs}
use Rattle.share_trial.proofs.Sharings.{length_words, length_sharings, words_fit, words_whole}
use Rattle.share_trial.proofs.trials.run_drawn.Goals as goal

pub run_masked-requires : goal.run_masked-requires
run_masked-requires g c =
    let core = c.args.core.now in
    let B = bits_of_width core.width in
    let count = ap length c.requires.inputs ∙ length_sharings B g.row.D (start c.args.seed) core.inputs in
    let bits = bits_are core.width B refl c.requires.core.some_width c.requires.core.width_fits in
    let words = words_fit B g.row.D (start c.args.seed) core.inputs c.args.drawn.now.inputs c.requires.inputs in
    (lit< tt, (lit< tt, (c.requires.some, (omega (arith, c.requires.few), (count, (bits.1, words))))))

pub unreachable-requires : goal.unreachable-requires
unreachable-requires g c =
    let core = c.args.core.now in
    let B = bits_of_width core.width in
    let many = ap length c.as_slice.ensures.value ∙ ap length c.requires.words
    ∙ length_words B (after_sharings B g.row.D (start c.args.seed) core.inputs) (words_drawn g.row.D core) in
    let less = c.run_masked.ensures.short.0 (c.in-Err-WordsShort.is ∙ ap Err c.in-Err-WordsShort.field-0-is) in
    omega (arith, many, less)

pub returns-in-Ok-clause-outputs : goal.returns-in-Ok-clause-outputs
returns-in-Ok-clause-outputs g c =
    let core = c.args.core.now in
    let B = bits_of_width core.width in
    sym (words_whole c.in-Ok.run'.outputs) ∙ c.in-Ok.ensures.outputs
    ∙ ap (λ (xss : List (List ℕ)). masked_run B g.row.D core xss c.as_slice.result.now) (words_whole c.args.drawn.now.inputs ∙ c.requires.inputs)
    ∙ ap (masked_run B g.row.D core (trial_inputs g.row.D core c.args.seed)) (c.as_slice.ensures.value ∙ c.requires.words)

pub returns-in-Ok-clause-values : goal.returns-in-Ok-clause-values
returns-in-Ok-clause-values g c =
    let core = c.args.core.now in
    let B = bits_of_width core.width in
    ap (map sharing_value) (sym (words_whole c.in-Ok.run'.outputs)) ∙ c.in-Ok.ensures.values
    ∙ ap (λ (xss : List (List ℕ)). plain_run B core (map sharing_value xss)) (words_whole c.args.drawn.now.inputs ∙ c.requires.inputs)
