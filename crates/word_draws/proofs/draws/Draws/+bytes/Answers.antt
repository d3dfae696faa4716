use Rattle.std.proofs.Common.{arith}
use Rattle.word_draws.proofs.Drawing.{drawn_bytes-next, drawn_bytes-none, after_draws-next, after_draws-none, one_byte_more, fits_word}
use Rattle.word_draws.proofs.draws.Draws.+bytes.Goals as goal

pub returns-then-count-eq0-clause-drawn : goal.returns-then-count-eq0-clause-drawn
returns-then-count-eq0-clause-drawn t c = cc (drawn_bytes-none c.args.self.now c.args.count (omega arith))

pub returns-then-count-eq0-clause-state : goal.returns-then-count-eq0-clause-state
returns-then-count-eq0-clause-state t c = cc (after_draws-none c.args.self.now c.args.count (omega arith))

pub overflow_mul-result : goal.overflow_mul-result
overflow_mul-result t c = omega (arith, fits_word c.bytes.result c.args.count (omega arith) (omega arith) c.bytes.ensures.below)

pub overflow_add-result : goal.overflow_add-result
overflow_add-result t c = omega (arith, fits_word c.bytes.result c.args.count (omega arith) (omega arith) c.bytes.ensures.below)

pub returns-clause-drawn : goal.returns-clause-drawn
returns-clause-drawn t c = cc (drawn_bytes-next c.args.self.now c.args.count (omega arith))

pub returns-clause-state : goal.returns-clause-state
returns-clause-state t c = cc (after_draws-next c.args.self.now c.args.count (omega arith))

pub returns-clause-below : goal.returns-clause-below
returns-clause-below t c =
    one_byte_more c.from-low.result c.bytes.result c.args.count (omega arith) (omega arith) c.bytes.ensures.below
