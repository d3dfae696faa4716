use Rattle.word_store.proofs.Shifting.{unshifted}
use Rattle.word_store.proofs.shifts.shift_word.Goals as goal

pub returns-then-amount-eq0 : goal.returns-then-amount-eq0
returns-then-amount-eq0 c =
    unshifted c.args.bits c.args.amount c.args.kind c.args.word c.requires.word c.if-amount-eq0.true
