use Rattle.std.proofs.Common.{◌<◌, length, ap, ◌∙◌, arith}
use Rattle.usuba_types.specs.Judged.{Program, inputs_at, outputs_at}
use Rattle.usuba_types.proofs.Deciding.{judged-entry, judged-few, judged-counts}
use Rattle.usuba_types.proofs.judging.Judged.entry_counts.Goals as goal

pub offset_bounds-as_slice-self-inside : goal.offset_bounds-as_slice-self-inside
offset_bounds-as_slice-self-inside c =
    let program : Program = record { file = c.self.inside.file; width = c.self.inside.width; entry = c.self.inside.entry } in
    let within : c.self.inside.entry < length c.self.inside.file.defs = judged-entry program c.self.invariant in
    omega (arith, within, ap length c.as_slice.ensures, c.as_slice.type_inv.1)

pub bounds-as_slice-self-inside : goal.bounds-as_slice-self-inside
bounds-as_slice-self-inside c =
    let program : Program = record { file = c.self.inside.file; width = c.self.inside.width; entry = c.self.inside.entry } in
    let within : c.self.inside.entry < length c.self.inside.file.defs = judged-entry program c.self.invariant in
    omega (arith, within, ap length c.as_slice.ensures)

pub counts_of-requires : goal.counts_of-requires
counts_of-requires c =
    let program : Program = record { file = c.self.inside.file; width = c.self.inside.width; entry = c.self.inside.entry } in
    judged-few program c.self.invariant c.as_slice.result.now c.index-as_slice-self.result c.as_slice.ensures c.index-as_slice-self.is

pub returns-clause-inputs : goal.returns-clause-inputs
returns-clause-inputs c =
    let program : Program = record { file = c.self.inside.file; width = c.self.inside.width; entry = c.self.inside.entry } in
    ap (λ n. n.inputs) c.counts_of.ensures
    ∙ (judged-counts program c.self.invariant c.as_slice.result.now c.index-as_slice-self.result c.as_slice.ensures c.index-as_slice-self.is).0
    ∙ ap (λ (p : Program). inputs_at p.file.defs p.entry) c.self.view_is

pub returns-clause-outputs : goal.returns-clause-outputs
returns-clause-outputs c =
    let program : Program = record { file = c.self.inside.file; width = c.self.inside.width; entry = c.self.inside.entry } in
    ap (λ n. n.outputs) c.counts_of.ensures
    ∙ (judged-counts program c.self.invariant c.as_slice.result.now c.index-as_slice-self.result c.as_slice.ensures c.index-as_slice-self.is).1
    ∙ ap (λ (p : Program). outputs_at p.file.defs p.entry) c.self.view_is
