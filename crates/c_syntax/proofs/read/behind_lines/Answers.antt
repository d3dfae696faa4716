use Rattle.std.proofs.Common.{◌≡◌, ◌-◌, length, take, drop, refl, sym, ap, ◌∙◌, length-drop}
use Rattle.std.proofs.Math.Seq.{take-length}
use Rattle.c_syntax.proofs.Spelling.{answered}
use Rattle.c_syntax.proofs.read.behind_lines.Goals as goal

pub returns-in-Ok-clause-file : goal.returns-in-Ok-clause-file
returns-in-Ok-clause-file c =
    let bytes = c.args.bytes.now in
    let n = c.args.n in
    let rest : take (length bytes - n) (drop n bytes) ≡ drop n bytes =
    ap (λ k. take k (drop n bytes)) (sym (length-drop n bytes)) ∙ take-length (drop n bytes) in
    answered c.derived_are_files.ensures bytes c.args.bits n c.requires.lines c.as_slice.result.now
    c.in_ok-tokens.field-0.tokens c.in_ok-tokens.field-0.ending c.in_ok-tokens.field-0.ending c.in-Ok.field-0.items c.as_slice.ensures refl
    c.in-Ok.ensures.derived (take (length bytes - n) (drop n bytes)) rest c.in_ok-tokens.ensures
