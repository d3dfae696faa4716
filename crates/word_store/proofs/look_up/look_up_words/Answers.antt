use Rattle.std.proofs.Common.{◌∙◌, arith}
use Rattle.usuba_model.specs.Meaning.{looked_up_word}
use Rattle.word_store.proofs.LookUps.{many_picked, picked_word, pushed}
use Rattle.word_store.proofs.look_up.look_up_words.Goals as goal

pub word_of_entries-requires-clause-few : goal.word_of_entries-requires-clause-few
word_of_entries-requires-clause-few c =
    let many = many_picked c.args.bits c.args.entries.now c.args.words.now c.as_slice.result.now (c.as_slice.ensures.value ∙ c.in_ok-picked.ensures) in
    omega (arith, many, c.requires.fits)

pub loop-j-preserved : goal.loop-j-preserved
loop-j-preserved c =
    pushed (looked_up_word c.args.bits c.args.outputs c.args.entries.now c.args.words.now) c.loop-j.j c.loop-j.made.items
    c.push.new.self.items c.word_of_entries.result c.loop-j.invariant c.in_ok-push.ensures.items
    (c.word_of_entries.ensures.word
    ∙ picked_word c.args.bits c.args.outputs c.args.entries.now c.args.words.now c.as_slice.result.now c.loop-j.j
    (c.as_slice.ensures.value ∙ c.in_ok-picked.ensures))
