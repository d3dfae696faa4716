use Rattle.std.proofs.Common.{◌++◌, Err, codes, flat_map, refl, sym, ap, ◌∙◌}
use Rattle.std.proofs.lemmas.List.{take_all}
use Rattle.tor_edge.specs.Written.{Wrote}
use Rattle.tor_edge.proofs.Writing.{Wrote-is, Wrote-then, Wrote-stops, Wrote-next_stops}
use Rattle.c_tree.specs.declared.CStmt.TheVariants as s
use Rattle.c_text.specs.CText.{indentation, statement_text}
use Rattle.c_text.proofs.Trees.{inner_text, loop_parts}
use Rattle.c_text.proofs.statement.+put_statement.Goals as goal

pub returns-in_err-put_loop_start-in-For : goal.returns-in_err-put_loop_start-in-For
returns-in_err-put_loop_start-in-For g t c =
    Wrote-is
    (loop_parts c.args.statement.now c.as_str-in-For.result.now c.in-For.low c.in-For.body c.args.depth
    (c.in-For.is ∙ ap (λ name. s.For name c.in-For.low c.in-For.body) (sym c.as_str-in-For.ensures)))
    (Wrote-stops _ c.in_err-put_loop_start-in-For.ensures c.from_residual.ensures.0)

pub returns-in_err-put_statement-in-For : goal.returns-in_err-put_statement-in-For
returns-in_err-put_statement-in-For g t c =
    let items = c.as_slice-inner-items.result.now in
    let inside : Wrote {T = Unit {0}} g.S.Sink.faults g.S.Sink.written c.put_loop_start.new.sink
    c.put_statement.new.sink
    (flat_map (inner_text c.args.depth) items) (Err c.in_err-put_statement-in-For.field-0.0)
    = Wrote-next_stops (inner_text c.args.depth) items c.loop-inner.inner-index c.inner-item.result
    c.loop-inner-test.true c.loop-inner.invariant
    (Wrote-is
    (ap (statement_text c.inner-item.result) c.inner_depth_of.ensures.value
    ∙ ap (inner_text c.args.depth) c.inner-item.is)
    c.in_err-put_statement-in-For.ensures) refl in
    Wrote-is
    (loop_parts c.args.statement.now c.as_str-in-For.result.now c.in-For.low items c.args.depth
    (c.in-For.is ∙ ap (λ name. s.For name c.in-For.low c.in-For.body) (sym c.as_str-in-For.ensures)
    ∙ ap (s.For c.as_str-in-For.result.now c.in-For.low) (sym c.as_slice-inner-items.ensures)))
    (Wrote-then c.in_ok-put_loop_start-in-For.ensures
    (Wrote-stops (indentation c.args.depth
    ++ codes "}\n") inside c.from_residual-in_err-put_statement-in-For.ensures.0))

pub returns-after-loop-inner : goal.returns-after-loop-inner
returns-after-loop-inner g t c =
    let items = c.as_slice-inner-items.result.now in
    Wrote-is
    (loop_parts c.args.statement.now c.as_str-in-For.result.now c.in-For.low items c.args.depth
    (c.in-For.is ∙ ap (λ name. s.For name c.in-For.low c.in-For.body) (sym c.as_str-in-For.ensures)
    ∙ ap (s.For c.as_str-in-For.result.now c.in-For.low) (sym c.as_slice-inner-items.ensures)))
    (Wrote-then c.in_ok-put_loop_start-in-For.ensures
    (Wrote-then
    (Wrote-is (ap (flat_map (inner_text c.args.depth))
    (take_all c.loop-inner.inner-index items c.loop-inner-test.false))
    c.loop-inner.invariant)
    c.put_loop_end.ensures))
