use Rattle.tor_edge.proofs.Writing.{Wrote-is}
use Rattle.source_gen.proofs.Texts.{line_pieces}
use Rattle.source_gen.proofs.source.put_line.Goals as goal

pub returns : goal.returns
returns g c =
    Wrote-is
    (line_pieces c.args.line c.args.operands c.variable_of.result.now c.variable_of-2.result.now
    c.variable_of-3.result.now c.element_of.result
    c.element_of-2.result c.element_of-3.result (record
    { variable = c.variable_of.ensures; element = c.element_of.ensures })
    (record { variable = c.variable_of-2.ensures; element = c.element_of-2.ensures })
    (record { variable = c.variable_of-3.ensures; element = c.element_of-3.ensures }))
    c.put_pieces.ensures
