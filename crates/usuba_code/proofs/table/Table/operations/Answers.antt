use Rattle.std.proofs.Common.{◌<◌, length, arith}
use Rattle.usuba_code.proofs.Cutting.{instance_within, ends_rise, operations_at}
use Rattle.usuba_code.proofs.table.Table.operations.Goals as goal

pub ends_before-from-requires : goal.ends_before-from-requires
ends_before-from-requires c =
    let within : c.args.k < length c.self.inside.instances.items
    = instance_within _ _ _ _ c.self.invariant c.args.self.now c.self.view_is c.args.k c.requires in
    rw c.deref.ensures.value (omega (arith, within))

pub index-to-requires : goal.index-to-requires
index-to-requires c =
    let within : c.args.k < length c.self.inside.instances.items
    = instance_within _ _ _ _ c.self.invariant c.args.self.now c.self.view_is c.args.k c.requires in
    omega (arith, within, c.self.inside.instances.ok)

pub code_between-requires-clause-rise : goal.code_between-requires-clause-rise
code_between-requires-clause-rise c =
    let within = instance_within _ _ _ _ c.self.invariant c.args.self.now c.self.view_is c.args.k c.requires in
    rw (c.ends_before-from.ensures, c.deref.ensures.value)
    (ends_rise _ _ _ _ c.self.invariant c.args.k within c.index-to.result.now c.index-to.ensures).code

pub code_between-requires-clause-within : goal.code_between-requires-clause-within
code_between-requires-clause-within c =
    let within = instance_within _ _ _ _ c.self.invariant c.args.self.now c.self.view_is c.args.k c.requires in
    rw c.deref-2.ensures.value (ends_rise _ _ _ _ c.self.invariant c.args.k within c.index-to.result.now c.index-to.ensures).code_within

pub returns : goal.returns
returns c =
    let within = instance_within _ _ _ _ c.self.invariant c.args.self.now c.self.view_is c.args.k c.requires in
    rw (c.code_between.ensures, c.deref-2.ensures.value, c.ends_before-from.ensures, c.deref.ensures.value, ← c.self.view_is)
    (operations_at _ _ _ _ c.self.invariant c.args.k within c.index-to.result.now c.index-to.ensures)
