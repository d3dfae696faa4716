use Rattle.std.proofs.Common.{length, ap, ◌∙◌, arith}
use Rattle.usuba_types.proofs.Standing.{in-file, name-text, name-stands}
use Rattle.usuba_types.proofs.passing.name_at.Goals as goal

pub returns-clause-text : goal.returns-clause-text
returns-clause-text c =
    let d = c.index-as_slice-entry.result in
    let at = in-file c.as_slice.result.now c.args.file.now.defs c.args.entry d c.as_slice.ensures
    (omega (arith, ap length c.as_slice.ensures, c.requires)) c.index-as_slice-entry.is in
    ap (λ w. w.text) c.name_of.ensures ∙ name-text c.args.file.now.defs c.args.entry d at.0 at.1

pub returns-clause-place : goal.returns-clause-place
returns-clause-place c =
    let d = c.index-as_slice-entry.result in
    let at = in-file c.as_slice.result.now c.args.file.now.defs c.args.entry d c.as_slice.ensures
    (omega (arith, ap length c.as_slice.ensures, c.requires)) c.index-as_slice-entry.is in
    ap (λ w. w.place) c.name_of.ensures ∙ name-stands c.args.file.now.defs c.args.entry d at.0 at.1
