-- A builder of circuits as a store of terms.
use Rattle.std.specs.Prelude.{◌-◌, length}
use Rattle.usuba0.specs.declared.circuit.Reg.{Reg}
use Rattle.usuba0.specs.declared.limit.TheConstants.{MAX_TERMS}
use Rattle.usuba0.specs.Builder.{Held, Holds, term_of}
use Rattle.usuba0.specs.Term.{Term}
use Rattle.source_terms.specs.SourceTerms.{term_operators}
use Rattle.usuba_plan.specs.Store.{Store}

-- the terms that a builder holds, each behind its register: it has room for 2^25 of them
abbrev pub term_store : Held → Store Reg Term
term_store held = record {
  width = held.width;
  inputs = held.inputs;
  operators = term_operators held.width;
  holds = Holds held;
  meaning = term_of held;
  room = MAX_TERMS - length held.terms;
}
