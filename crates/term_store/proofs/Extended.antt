-- A builder that was extended is a store of terms that keeps what it held.
use Rattle.std.proofs.Common.{ℕ, ◌≤◌, List, [], ◌∷◌, length, ap, arith}
use Rattle.std.specs.Prelude.{All}
use Rattle.std.proofs.lemmas.List.Elements.{All-head, All-tail, All-cons}
use Rattle.usuba0.specs.declared.circuit.Reg.{Reg}
use Rattle.usuba0.specs.Term.{Term}
use Rattle.usuba0.specs.Builder.{Held, Names, Grows}
use Rattle.usuba0.proofs.KeepLemmas.{Holds-named, term_of-named}
use Rattle.table_anf.specs.Extends.{Extends}
use Rattle.table_anf.proofs.Extending.{Extends-grows, Extends-itself, length-extends, Holds-extends, term_of-extends}
use Rattle.usuba_code.specs.CodeLaw.{Each}
use Rattle.usuba_plan.specs.Store.{Made, Keeps}
use Rattle.source_terms.specs.SourceTerms.{term_operators}
use Rattle.term_store.specs.TermStore.{term_store}

-- what was extended by at most so many terms keeps what it held
pub kept : (k : ℕ) (a b : Held) → Extends k a b → Keeps k (term_store a) (term_store b)
kept k a b e = record {
  width = e.width;
  inputs = e.inputs;
  operators = ap term_operators e.width;
  held = λ r held. Holds-extends k a b r e held;
  means = λ r held. term_of-extends k a b r e held;
  room = omega (arith, length-extends k a b e);
}

-- what grew by at most so many terms keeps what it held
pub kept_grown : (makes : List Term) (k : ℕ) (a b : Held) → length makes ≤ k → Grows makes a b → Keeps k (term_store a) (term_store b)
kept_grown makes k a b le grows = kept k a b (Extends-grows makes k a b le grows)

-- a builder keeps what it holds
pub kept_itself : (k : ℕ) (a : Held) → Keeps k (term_store a) (term_store a)
kept_itself k a = kept k a a (Extends-itself k a)

-- a register that names a term stands for it
pub made_named : (b : Held) (r : Reg) (t : Term) → Names b r t → Made (term_store b) r t
made_named b r t named = record { held = Holds-named b r t named; means = term_of-named b r t named }

-- what holds of each of some registers, in two ways to say it
pub each_of_all : (P : Reg → Type 0) (rs : List Reg) → All P rs → Each P rs
each_of_all P [] all = tt
each_of_all P (r ∷ rs) all = (All-head P r rs all, each_of_all P rs (All-tail P r rs all))

pub all_of_each : (P : Reg → Type 0) (rs : List Reg) → Each P rs → All P rs
all_of_each P [] each = λ i d l. absurd (omega (arith, l))
all_of_each P (r ∷ rs) each = All-cons P r rs each.0 (all_of_each P rs each.1)
