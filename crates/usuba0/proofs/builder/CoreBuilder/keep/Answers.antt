use Rattle.std.proofs.Common.{ℕ, subst, refl, arith}
use Rattle.usuba0.specs.State.Heads.{IsHead}
use Rattle.usuba0.proofs.KeepLemmas.{Inserts, inserts, named, length_of_terms}
use Rattle.usuba0.proofs.builder.CoreBuilder.keep.Goals as goal

kept : (c : goal.In_ok-at) → Inserts c.self.inside.width c.self.inside.inputs c.self.inside.heads.keys c.insert_full.new.self.keys c.args.head
kept c =
    let l = length_of_terms c.self.inside.inputs c.self.inside.heads.keys in
    let room = rw (← c.self.view_is) at c.requires.room in
    let is = rw (← c.self.view_is) at c.requires.head in
    inserts _ _ _ _ _ c.in_ok-at.ensures.keys c.self.invariant (subst (λ (m : ℕ). IsHead c.self.inside.width m c.args.head) l is) (omega arith)

pub invariant_of-self-2 : goal.invariant_of-self-2
invariant_of-self-2 c = (kept c).builder

pub returns-clause-term : goal.returns-clause-term
returns-clause-term c =
    let l = length_of_terms c.self.inside.inputs c.self.inside.heads.keys in
    let is = rw (← c.self.view_is) at c.requires.head in
    rw (← c.self.view_is)
    (named _ _ _ _ _ _ (kept c) (subst (λ (m : ℕ). IsHead c.self.inside.width m c.args.head) l is) c.in_ok-at.ensures.stored)

pub returns-clause-grows : goal.returns-clause-grows
returns-clause-grows c =
    rw (← c.self.view_is)
    (record { width = refl; inputs = refl; added = (kept c).added; terms = (kept c).grown; made = (kept c).made; few = (kept c).few; once = (kept c).builder.once })
