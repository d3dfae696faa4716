use Rattle.table_anf.proofs.Emitting.{IsEmitting}
use Rattle.table_anf.proofs.emission.emit.Given as goal

abbrev pub invariant-loop-output : goal.invariant-loop-output
invariant-loop-output l =
    IsEmitting l.fn.builder l.args l.anf.inputs l.anf.outputs l.anf.entries l.products.items l.zero l.output l.builder l.outputs
