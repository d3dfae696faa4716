use Rattle.std.proofs.Common.{◌∙◌}
use Rattle.usuba_syntax.proofs.Reading.{predictive, ends_last, text_ended, all_valued, spells_file, classes_are, same_keeps, none_of, same_told, too_big_told, fault_told, memory_told, only_file_if_file, only_fault_if_file, only_file_if_fault, only_fault_if_fault}
use Rattle.usuba_syntax.proofs.Begun.{same_text}
use Rattle.usuba_syntax.proofs.read.read_file.Goals as goal

pub returns-in_err-tokens-clause-fault : goal.returns-in_err-tokens-clause-fault
returns-in_err-tokens-clause-fault c =
    memory_told c.args.bytes.now c.from_residual.result c.in_err-tokens.field-0.0 c.from_residual.ensures.1

pub read-requires : goal.read-requires
read-requires c =
    let same = classes_are _ _ c.in_ok-tokens.field-0.ending _ _ c.as_slice.ensures c.in_ok-classes.ensures c.as_slice-2.ensures.value in
    let r = ends_last c.in_ok-tokens.field-0.tokens c.in_ok-tokens.field-0.ending in
    (predictive, (r.0, same ∙ r.1))

pub tree_of-requires-clause-text : goal.tree_of-requires-clause-text
tree_of-requires-clause-text c =
    let same = classes_are _ _ c.in_ok-tokens.field-0.ending _ _ c.as_slice.ensures c.in_ok-classes.ensures c.as_slice-2.ensures.value in
    text_ended c.in_ok-tokens.field-0.tokens c.in_ok-tokens.field-0.ending c.in-Ok.steps.items (same_text same c.in-Ok.ensures.text)

pub tree_of-requires-clause-valued : goal.tree_of-requires-clause-valued
tree_of-requires-clause-valued c =
    all_valued c.in_ok-tokens.field-0.tokens (none_of c.as_slice-in-Ok.ensures c.in-None.ensures.none)

pub first_fault-requires : goal.first_fault-requires
first_fault-requires c =
    let same = classes_are _ _ c.in_ok-tokens.field-0.ending _ _ c.as_slice.ensures c.in_ok-classes.ensures c.as_slice-2.ensures.value in
    same_told c.in_ok-tokens.field-0.tokens _ c.in_ok-tokens.field-0.ending _ c.in-Err.error same c.as_slice-in-Err.ensures c.in-Err.ensures.fault

pub returns-in_ok-tree_of-in-None-clause-file : goal.returns-in_ok-tree_of-in-None-clause-file
returns-in_ok-tree_of-in-None-clause-file c =
    let same = classes_are _ _ c.in_ok-tokens.field-0.ending _ _ c.as_slice.ensures c.in_ok-classes.ensures c.as_slice-2.ensures.value in
    spells_file c.args.bytes.now c.in_ok-tokens.field-0.tokens c.in_ok-tokens.field-0.ending c.in-Ok.steps.items c.in_ok-tree_of-in-None.field-0
    c.in_ok-tokens.ensures (same_text same c.in-Ok.ensures.text) (same_keeps c.in-Ok.steps.items same c.in-Ok.ensures.shallow)
    (none_of c.as_slice-in-Ok.ensures c.in-None.ensures.none) c.in_ok-tree_of-in-None.ensures

pub returns-in_ok-tree_of-in-None-clause-only_file : goal.returns-in_ok-tree_of-in-None-clause-only_file
returns-in_ok-tree_of-in-None-clause-only_file c =
    only_file_if_file c.args.bytes.now c.in_ok-tree_of-in-None.field-0 (c.one_source.ensures.file c.args.bytes.now) (returns-in_ok-tree_of-in-None-clause-file c)

pub returns-in_ok-tree_of-in-None-clause-only_fault : goal.returns-in_ok-tree_of-in-None-clause-only_fault
returns-in_ok-tree_of-in-None-clause-only_fault c =
    only_fault_if_file c.args.bytes.now c.in_ok-tree_of-in-None.field-0 (c.one_source.ensures.apart c.args.bytes.now) (returns-in_ok-tree_of-in-None-clause-file c)

pub returns-in-Some-clause-fault : goal.returns-in-Some-clause-fault
returns-in-Some-clause-fault c =
    let same = classes_are _ _ c.in_ok-tokens.field-0.ending _ _ c.as_slice.ensures c.in_ok-classes.ensures c.as_slice-2.ensures.value in
    too_big_told c.args.bytes.now c.in_ok-tokens.field-0.tokens _ _ c.in_ok-tokens.field-0.ending c.in-Ok.steps.items c.in-Some.at c.too_big_at.result
    c.in_ok-tokens.ensures (same_text same c.in-Ok.ensures.text) (same_keeps c.in-Ok.steps.items same c.in-Ok.ensures.shallow)
    c.as_slice-in-Ok.ensures c.as_slice-in-Some.ensures c.in-Some.ensures.some c.in-Some.ensures.first c.too_big_at.ensures

pub returns-in-Some-clause-only_file : goal.returns-in-Some-clause-only_file
returns-in-Some-clause-only_file c =
    only_file_if_fault c.args.bytes.now c.too_big_at.result (c.one_source.ensures.apart c.args.bytes.now) (returns-in-Some-clause-fault c)

pub returns-in-Some-clause-only_fault : goal.returns-in-Some-clause-only_fault
returns-in-Some-clause-only_fault c =
    only_fault_if_fault c.args.bytes.now c.too_big_at.result (c.one_source.ensures.fault c.args.bytes.now) (returns-in-Some-clause-fault c)

pub returns-in-Err-clause-fault : goal.returns-in-Err-clause-fault
returns-in-Err-clause-fault c =
    fault_told c.args.bytes.now c.in_ok-tokens.field-0.tokens _ c.in_ok-tokens.field-0.ending c.first_fault.result
    c.in_ok-tokens.ensures c.as_slice-in-Err.ensures c.first_fault.ensures

pub returns-in-Err-clause-only_file : goal.returns-in-Err-clause-only_file
returns-in-Err-clause-only_file c =
    only_file_if_fault c.args.bytes.now c.first_fault.result (c.one_source.ensures.apart c.args.bytes.now) (returns-in-Err-clause-fault c)

pub returns-in-Err-clause-only_fault : goal.returns-in-Err-clause-only_fault
returns-in-Err-clause-only_fault c =
    only_fault_if_fault c.args.bytes.now c.first_fault.result (c.one_source.ensures.fault c.args.bytes.now) (returns-in-Err-clause-fault c)
