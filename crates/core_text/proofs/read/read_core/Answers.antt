use Rattle.std.proofs.Common.{◌≡◌, length, ap, ◌∙◌, arith}
use Rattle.core_text.proofs.CoreLemmas.{made, lines_few, or_memory}
use Rattle.core_text.specs.Reading.{core_of}
use Rattle.text_lines.specs.Lines.{LinesLeft, lines_of}
use Rattle.core_text.proofs.read.read_core.Goals as goal

pub read_body-requires-clause-few : goal.read_body-requires-clause-few
read_body-requires-clause-few c =
    let same : length c.new-lines.result.lines ≡ length (lines_of c.args.bytes.now) = ap (λ (s : LinesLeft). length s.lines) c.new-lines.ensures in
    omega (arith, same, lines_few c.args.bytes.now, c.in_ok-width.ensures.fewer, c.requires)

pub core_within-requires-clause-few_equations : goal.core_within-requires-clause-few_equations
core_within-requires-clause-few_equations c =
    (made c.args.bytes.now c.new-lines.result c.read_head.new.lines c.in_ok-width.width c.in_ok-width.inputs c.in_ok-read.read.equations.items c.in_ok-read.read.outputs.items
    c.requires c.new-lines.ensures c.in_ok-width.ensures.width.0 c.in_ok-width.ensures.fewer c.in_ok-width.ensures.text c.in_ok-read.ensures).few_equations

pub core_within-requires-clause-few_outputs : goal.core_within-requires-clause-few_outputs
core_within-requires-clause-few_outputs c =
    (made c.args.bytes.now c.new-lines.result c.read_head.new.lines c.in_ok-width.width c.in_ok-width.inputs c.in_ok-read.read.equations.items c.in_ok-read.read.outputs.items
    c.requires c.new-lines.ensures c.in_ok-width.ensures.width.0 c.in_ok-width.ensures.fewer c.in_ok-width.ensures.text c.in_ok-read.ensures).few_outputs

pub core_within-requires-clause-core : goal.core_within-requires-clause-core
core_within-requires-clause-core c =
    (made c.args.bytes.now c.new-lines.result c.read_head.new.lines c.in_ok-width.width c.in_ok-width.inputs c.in_ok-read.read.equations.items c.in_ok-read.read.outputs.items
    c.requires c.new-lines.ensures c.in_ok-width.ensures.width.0 c.in_ok-width.ensures.fewer c.in_ok-width.ensures.text c.in_ok-read.ensures).is_core

pub returns : goal.returns
returns c =
    or_memory c.core_within.result (core_of c.args.bytes.now)
    (c.core_within.ensures
    ∙ (made c.args.bytes.now c.new-lines.result c.read_head.new.lines c.in_ok-width.width c.in_ok-width.inputs c.in_ok-read.read.equations.items c.in_ok-read.read.outputs.items
    c.requires c.new-lines.ensures c.in_ok-width.ensures.width.0 c.in_ok-width.ensures.fewer c.in_ok-width.ensures.text c.in_ok-read.ensures).same)
