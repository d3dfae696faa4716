use Rattle.std.proofs.Common.{◌<◌, ◌+◌, take, length, arith}
use Rattle.usuba_code.specs.State.Flat.{no_ends, last_ends}
use Rattle.usuba_code.proofs.Cutting.{instance_within, target_within, left_in, place_in}
use Rattle.usuba_code.proofs.table.Table.place.Goals as goal

pub ends_before-requires : goal.ends_before-requires
ends_before-requires c =
    let within : c.args.k < length c.self.inside.instances.items
    = instance_within _ _ _ _ c.self.invariant c.args.self.now c.self.view_is c.args.k c.requires.instance in
    rw c.deref.ensures.value (omega (arith, within))

pub overflow_add-at : goal.overflow_add-at
overflow_add-at c =
    let within = instance_within _ _ _ _ c.self.invariant c.args.self.now c.self.view_is c.args.k c.requires.instance in
    let there = target_within _ _ _ _ c.self.invariant c.args.self.now c.self.view_is c.args.k c.args.j c.requires.target in
    let inside : (last_ends no_ends (take c.args.k c.self.inside.instances.items)).lefts + c.args.j < length c.self.inside.lefts.items
    = left_in _ _ _ _ c.self.invariant c.args.k within c.args.j there in
    rw (c.ends_before.ensures, c.deref.ensures.value) (omega (arith, inside, c.self.inside.lefts.ok, c.self.inside.lefts.small))

pub index-requires : goal.index-requires
index-requires c =
    let within = instance_within _ _ _ _ c.self.invariant c.args.self.now c.self.view_is c.args.k c.requires.instance in
    let there = target_within _ _ _ _ c.self.invariant c.args.self.now c.self.view_is c.args.k c.args.j c.requires.target in
    let inside : (last_ends no_ends (take c.args.k c.self.inside.instances.items)).lefts + c.args.j < length c.self.inside.lefts.items
    = left_in _ _ _ _ c.self.invariant c.args.k within c.args.j there in
    rw (c.ends_before.ensures, c.deref.ensures.value) (omega (arith, inside, c.self.inside.lefts.ok))

pub returns : goal.returns
returns c =
    let within = instance_within _ _ _ _ c.self.invariant c.args.self.now c.self.view_is c.args.k c.requires.instance in
    let there = target_within _ _ _ _ c.self.invariant c.args.self.now c.self.view_is c.args.k c.args.j c.requires.target in
    rw (← c.self.view_is)
    (place_in _ _ _ _ c.self.invariant c.args.k within c.args.j there c.index.result.now
    (rw (← c.deref.ensures.value, ← c.ends_before.ensures) c.index.ensures))
