use Rattle.std.proofs.Common.{◌≡◌, ◌++◌, ℕ, List, get_or, length, take, drop, ap, ◌∙◌, take_at, arith}
use Rattle.std.specs.List.{slice_index}
use Rattle.table_anf.specs.Coefficients.{Table}
use Rattle.table_anf.specs.State.Transform.{transformed, with_pass}
use Rattle.table_anf.proofs.Passes.{after_passes-more, transform_of_passes}
use Rattle.table_anf.proofs.normal_form.anf.Goals as goal

pub loop-bit-preserved : goal.loop-bit-preserved
loop-bit-preserved c =
    let words = c.loop-bit.words.items in
    let after = c.pass.new.words in
    let was : c.deref_mut.result.now ≡ words = c.deref_mut.ensures.value in
    let long : length after ≡ length words = c.pass.auto.words ∙ ap length was in
    let whole : length after ≡ c.loop-bit.words.len = omega (arith, c.loop-bit.words.ok, c.deref_mut.ensures.len, c.pass.auto.words) in
    let same : take c.loop-bit.words.len (after ++ drop (length after) words) ≡ after = take_at after (drop (length after) words) c.loop-bit.words.len whole in
    record {
      all = ap length same ∙ long ∙ c.loop-bit.invariant.all;
      passed = λ x h.
          ap (λ ws. get_or ws x 0) same
          ∙ after_passes-more c.args.inputs c.loop-bit.bit (λ k. get_or c.args.entries.now k 0) words after c.loop-bit.invariant.passed
          (λ y hy.
          c.pass.ensures y (omega (arith, c.loop-bit.invariant.all, ap length was))
          ∙ ap (λ ws. with_pass c.loop-bit.bit (slice_index ws) y) was)
          x h;
    }

pub returns : goal.returns
returns c =
    let e : c.loop-bit.bit ≡ c.args.inputs = omega arith in
    let whole : transformed c.args.inputs c.loop-bit.words.items ≡ c.args.entries.now =
    transform_of_passes c.args.inputs c.loop-bit.words.items c.args.entries.now c.requires.all
    (rw e at c.loop-bit.invariant.passed) in
    let made : List ℕ → Table = λ es. record { inputs = c.args.inputs; outputs = c.args.outputs; entries = es } in
    ap made whole
