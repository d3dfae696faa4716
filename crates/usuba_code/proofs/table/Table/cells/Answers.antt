use Rattle.std.proofs.Common.{◌<◌, ◌+◌, take, length, arith}
use Rattle.usuba_code.specs.State.Flat.{no_ends, last_ends}
use Rattle.usuba_code.proofs.Cutting.{instance_within, target_within, left_in, cells_in, rise_in}
use Rattle.usuba_code.proofs.table.Table.cells.Goals as goal

pub ends_before-requires : goal.ends_before-requires
ends_before-requires c =
    let within : c.args.k < length c.self.inside.instances.items
    = instance_within _ _ _ _ c.self.invariant c.args.self.now c.self.view_is c.args.k c.requires.instance in
    rw c.deref.ensures.value (omega (arith, within))

pub overflow_add-at : goal.overflow_add-at
overflow_add-at c =
    let within = instance_within _ _ _ _ c.self.invariant c.args.self.now c.self.view_is c.args.k c.requires.instance in
    let there = target_within _ _ _ _ c.self.invariant c.args.self.now c.self.view_is c.args.k c.args.j c.requires.target in
    let inside : (last_ends no_ends (take c.args.k c.self.inside.instances.items)).lefts + c.args.j < length c.self.inside.lefts.items
    = left_in _ _ _ _ c.self.invariant c.args.k within c.args.j there in
    rw (c.ends_before.ensures, c.deref.ensures.value) (omega (arith, inside, c.self.inside.lefts.ok, c.self.inside.lefts.small))

pub cells_before-from-requires : goal.cells_before-from-requires
cells_before-from-requires c =
    let within = instance_within _ _ _ _ c.self.invariant c.args.self.now c.self.view_is c.args.k c.requires.instance in
    let there = target_within _ _ _ _ c.self.invariant c.args.self.now c.self.view_is c.args.k c.args.j c.requires.target in
    let inside : (last_ends no_ends (take c.args.k c.self.inside.instances.items)).lefts + c.args.j < length c.self.inside.lefts.items
    = left_in _ _ _ _ c.self.invariant c.args.k within c.args.j there in
    rw (c.deref-2.ensures.value, c.ends_before.ensures, c.deref.ensures.value) (omega (arith, inside))

pub index-requires : goal.index-requires
index-requires c =
    let within = instance_within _ _ _ _ c.self.invariant c.args.self.now c.self.view_is c.args.k c.requires.instance in
    let there = target_within _ _ _ _ c.self.invariant c.args.self.now c.self.view_is c.args.k c.args.j c.requires.target in
    let inside : (last_ends no_ends (take c.args.k c.self.inside.instances.items)).lefts + c.args.j < length c.self.inside.lefts.items
    = left_in _ _ _ _ c.self.invariant c.args.k within c.args.j there in
    rw (c.ends_before.ensures, c.deref.ensures.value) (omega (arith, inside, c.self.inside.lefts.ok))

pub cells_between-requires-clause-rise : goal.cells_between-requires-clause-rise
cells_between-requires-clause-rise c =
    let within = instance_within _ _ _ _ c.self.invariant c.args.self.now c.self.view_is c.args.k c.requires.instance in
    let there = target_within _ _ _ _ c.self.invariant c.args.self.now c.self.view_is c.args.k c.args.j c.requires.target in
    rw (c.cells_before-from.ensures, c.deref-2.ensures.value, c.ends_before.ensures, c.deref.ensures.value)
    (rise_in _ _ _ _ c.self.invariant c.args.k within c.args.j there c.index.result.now
    (rw (← c.deref.ensures.value, ← c.ends_before.ensures) c.index.ensures)).0

pub cells_between-requires-clause-within : goal.cells_between-requires-clause-within
cells_between-requires-clause-within c =
    let within = instance_within _ _ _ _ c.self.invariant c.args.self.now c.self.view_is c.args.k c.requires.instance in
    let there = target_within _ _ _ _ c.self.invariant c.args.self.now c.self.view_is c.args.k c.args.j c.requires.target in
    rw c.deref-3.ensures.value
    (rise_in _ _ _ _ c.self.invariant c.args.k within c.args.j there c.index.result.now
    (rw (← c.deref.ensures.value, ← c.ends_before.ensures) c.index.ensures)).1

pub returns : goal.returns
returns c =
    let within = instance_within _ _ _ _ c.self.invariant c.args.self.now c.self.view_is c.args.k c.requires.instance in
    let there = target_within _ _ _ _ c.self.invariant c.args.self.now c.self.view_is c.args.k c.args.j c.requires.target in
    rw (
      c.cells_between.ensures,
      c.deref-3.ensures.value,
      c.cells_before-from.ensures,
      c.deref-2.ensures.value,
      c.ends_before.ensures,
      c.deref.ensures.value,
      ← c.self.view_is,
    )
    (cells_in _ _ _ _ c.self.invariant c.args.k within c.args.j there c.index.result.now
    (rw (← c.deref.ensures.value, ← c.ends_before.ensures) c.index.ensures))
