use Rattle.std.proofs.Common.{sym, length-take-le}
use Rattle.c_syntax.proofs.Lines.{lines_within, wrong_within}
use Rattle.c_syntax.proofs.read.read_tokens.Goals as goal

pub slice_bounds-place_after-end : goal.slice_bounds-place_after-end
slice_bounds-place_after-end c =
    sym (length-take-le c.in-Wrong.n c.args.bytes.now (wrong_within c.args.bytes.now c.in-Wrong.n (sym c.in-Wrong.ensures)))

pub behind_lines-requires-clause-within : goal.behind_lines-requires-clause-within
behind_lines-requires-clause-within c =
    lines_within c.args.bytes.now c.in-Lines.bits c.in-Lines.length (sym c.in-Lines.ensures)
