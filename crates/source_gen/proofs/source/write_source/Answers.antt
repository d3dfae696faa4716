use Rattle.std.proofs.Common.{◌++◌, flat_map, sym, append_assoc, codes}
use Rattle.std.specs.List.{range_with_len}
use Rattle.source_gen.specs.Source.{head_text, generated_line}
use Rattle.tor_edge.proofs.Writing.{Wrote-then, Wrote-stops, Wrote-is}
use Rattle.source_gen.proofs.source.write_source.Goals as goal

pub returns-in_err-put_head : goal.returns-in_err-put_head
returns-in_err-put_head g c =
    let lines = flat_map (generated_line c.args.seed) (range_with_len 0 c.args.size) in
    Wrote-is (sym (append_assoc (head_text c.args.size) lines (codes "tel\n")))
    (Wrote-stops (lines ++ codes "tel\n") c.in_err-put_head.ensures c.from_residual.ensures.0)

pub returns-in_err-put_lines : goal.returns-in_err-put_lines
returns-in_err-put_lines g c =
    let lines = flat_map (generated_line c.args.seed) (range_with_len 0 c.args.size) in
    Wrote-is (sym (append_assoc (head_text c.args.size) lines (codes "tel\n")))
    (Wrote-then c.in_ok-put_head.ensures (Wrote-stops (codes "tel\n") c.in_err-put_lines.ensures
    c.from_residual-in_err-put_lines.ensures.0))

pub returns : goal.returns
returns g c =
    let lines = flat_map (generated_line c.args.seed) (range_with_len 0 c.args.size) in
    Wrote-is (sym (append_assoc (head_text c.args.size) lines (codes "tel\n")))
    (Wrote-then c.in_ok-put_head.ensures (Wrote-then c.in_ok-put_lines.ensures c.put_text.ensures.wrote))
