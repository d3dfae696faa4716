use Rattle.std.proofs.Common.{refl, arith}
use Rattle.usuba_phases.specs.State.Names.{names_in}
use Rattle.usuba_phases.proofs.Repeating.{noting-starts, noting-goes_on, noting-ends}
use Rattle.usuba_phases.proofs.repeated.note_all.Goals as goal

pub loop-declaration-init : goal.loop-declaration-init
loop-declaration-init c = noting-starts (names_in c.args.names.now) c.args.declarations.now _ refl

pub loop-declaration-preserved : goal.loop-declaration-preserved
loop-declaration-preserved c =
    noting-goes_on (names_in c.args.names.now) (names_in c.loop-declaration.names) (names_in c.note.new.names)
    c.args.declarations.now
    c.args.declarations.now c.loop-declaration.declaration-index c.declaration-item.result c.loop-declaration.fault
    c.in_ok-note.field-0 c.or-fault.result
    (omega arith) c.declaration-item.is c.in_ok-note.ensures.found c.or-fault.ensures c.in_ok-note.ensures.noted
    c.loop-declaration.invariant

pub returns-clause-found : goal.returns-clause-found
returns-clause-found c =
    (noting-ends (names_in c.args.names.now) (names_in c.loop-declaration.names) c.args.declarations.now
    c.args.declarations.now
    c.loop-declaration.declaration-index c.loop-declaration.fault (omega arith) c.loop-declaration.invariant).0

pub returns-clause-noted : goal.returns-clause-noted
returns-clause-noted c =
    (noting-ends (names_in c.args.names.now) (names_in c.loop-declaration.names) c.args.declarations.now
    c.args.declarations.now
    c.loop-declaration.declaration-index c.loop-declaration.fault (omega arith) c.loop-declaration.invariant).1
