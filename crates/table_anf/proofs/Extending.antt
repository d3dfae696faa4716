-- A builder that was extended: its registers stand for what they stood for.
use Rattle.std.proofs.Common.{◌≡◌, ℕ, ◌+◌, ◌≤◌, List, [], ◌∷◌, ◌++◌, length, map, get_or, Some, refl, sym, ap, ap₂, ◌∙◌, arith, length-append, append_assoc}
use Rattle.std.specs.Prelude.{All}
use Rattle.std.proofs.lemmas.List.{append-nil, get_or_append_left, map_push}
use Rattle.std.proofs.lemmas.List.Elements.{All-head, All-tail, All-push}
use Rattle.std.proofs.lemmas.Option.{slice_get-get_or}
use Rattle.usuba0.specs.declared.circuit.Reg.{Reg}
use Rattle.usuba0.specs.Term.{Term, Input}
use Rattle.usuba0.specs.Builder.{Held, Holds, Names, Grows, term_of}
use Rattle.usuba0.proofs.KeepLemmas.{Holds-named, term_of-named}
use Rattle.table_anf.specs.Extends.{Extends}
use Rattle.table_anf.specs.State.Emission.{StandFor}

-- a builder extends itself
pub Extends-itself : (k : ℕ) (held : Held) → Extends k held held
Extends-itself k held = record { width = refl; inputs = refl; added = []; terms = sym (append-nil held.terms); few = omega arith }

-- two extensions one after the other
pub Extends-both : (i j k : ℕ) (a b c : Held) → i + j ≤ k → Extends i a b → Extends j b c → Extends k a c
Extends-both i j k a b c le first second = record {
  width = second.width ∙ first.width;
  inputs = second.inputs ∙ first.inputs;
  added = first.added ++ second.added;
  terms = second.terms ∙ ap (λ ts. ts ++ second.added) first.terms ∙ append_assoc a.terms first.added second.added;
  few = omega (arith, length-append first.added second.added, first.few, second.few);
}

-- more might have been added
pub Extends-more : (i k : ℕ) (a b : Held) → i ≤ k → Extends i a b → Extends k a b
Extends-more i k a b le e = record { width = e.width; inputs = e.inputs; added = e.added; terms = e.terms; few = omega (arith, e.few) }

-- what a call of the builder may add
pub Extends-grows : (makes : List Term) (k : ℕ) (a b : Held) → length makes ≤ k → Grows makes a b → Extends k a b
Extends-grows makes k a b le g = record { width = g.width; inputs = g.inputs; added = g.added; terms = g.terms; few = omega (arith, g.few) }

-- how many terms are held
pub length-extends : (k : ℕ) (a b : Held) → Extends k a b → length b.terms ≤ length a.terms + k
length-extends k a b e = omega (arith, ap length e.terms, length-append a.terms e.added, e.few)

-- what is held stays held
pub Holds-extends : (k : ℕ) (a b : Held) (r : Reg) → Extends k a b → Holds a r → Holds b r
Holds-extends k a b r e held = omega (arith, ap length e.terms, length-append a.terms e.added, held)

-- a register keeps its term
pub term_of-extends : (k : ℕ) (a b : Held) (r : Reg) → Extends k a b → Holds a r → term_of b r ≡ term_of a r
term_of-extends k a b r e held =
    ap (λ ts. get_or ts r.0 (Input 0)) e.terms ∙ get_or_append_left a.terms e.added (Input 0) r.0 held

-- a register that is held names what it stands for
pub Names-held : (a : Held) (r : Reg) → Holds a r → Names a r (term_of a r)
Names-held a r held = slice_get-get_or a.terms r.0 (Input 0) held

-- a register names what it named
pub Names-extends : (k : ℕ) (a b : Held) (r : Reg) (t : Term) → Extends k a b → Names a r t → Names b r t
Names-extends k a b r t e named =
    let held = Holds-named a r t named in
    Names-held b r (Holds-extends k a b r e held) ∙ ap Some (term_of-extends k a b r e held ∙ term_of-named a r t named)

-- registers keep their terms
pub terms-extends : (k : ℕ) (a b : Held) (rs : List Reg) → Extends k a b → All (Holds a) rs → map (term_of b) rs ≡ map (term_of a) rs
terms-extends k a b [] e held = refl
terms-extends k a b (r ∷ rs) e held =
    ap₂ (λ t ts. t ∷ ts) (term_of-extends k a b r e (All-head (Holds a) r rs held)) (terms-extends k a b rs e (All-tail (Holds a) r rs held))

-- registers that are held stay held
pub All-extends : (k : ℕ) (a b : Held) (rs : List Reg) → Extends k a b → All (Holds a) rs → All (Holds b) rs
All-extends k a b rs e held = λ i d l. Holds-extends k a b (get_or rs i d) e (held i d l)

-- registers stand for what they stood for
pub StandFor-extends : (k : ℕ) (a b : Held) (rs : List Reg) (ts : List Term) → Extends k a b → StandFor a rs ts → StandFor b rs ts
StandFor-extends k a b rs ts e s = record { held = All-extends k a b rs e s.held; terms = terms-extends k a b rs e s.held ∙ s.terms }

-- one register more
pub StandFor-push : (a : Held) (rs : List Reg) (ts : List Term) (r : Reg) (t : Term) → StandFor a rs ts → Names a r t
    → StandFor a (rs ++ r ∷ []) (ts ++ t ∷ [])
StandFor-push a rs ts r t s named = record {
  held = All-push (Holds a) rs r s.held (Holds-named a r t named);
  terms = map_push (term_of a) rs r ∙ ap₂ (λ xs x. xs ++ x ∷ []) s.terms (term_of-named a r t named);
}
