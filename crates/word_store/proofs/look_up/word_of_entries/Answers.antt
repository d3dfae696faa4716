use Rattle.std.proofs.Common.{◌/◌, ◌^◌, get_or, bit_and, arith}
use Rattle.std.proofs.lemmas.Nat.Bits.{shr_and_one}
use Rattle.word_store.proofs.LookUps.{gathered_next}
use Rattle.word_store.proofs.look_up.word_of_entries.Goals as goal

pub loop-position-preserved : goal.loop-position-preserved
loop-position-preserved c =
    gathered_next c.args.entries.now c.args.place c.loop-position.position c.loop-position.word
    (bit_and (get_or c.args.entries.now c.loop-position.position 0 / 2 ^ c.args.place) 1)
    (shr_and_one (get_or c.args.entries.now c.loop-position.position 0) c.args.place) (omega arith) c.loop-position.invariant
