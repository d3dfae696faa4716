use Rattle.std.proofs.lemmas.Result.{IfOk-weaker}
use Rattle.usuba0.specs.Term.{or_term, not_term}
use Rattle.usuba0.specs.Builder.{Names, term_of}
use Rattle.usuba0.proofs.KeepLemmas.{or_one, or_two, or_three, or_four, or_named, Holds-named}
use Rattle.usuba0.proofs.builder.CoreBuilder.or.Goals as goal

pub returns-in_err-not_a-clause-grows : goal.returns-in_err-not_a-clause-grows
returns-in_err-not_a-clause-grows c = or_one c.args.self.now _ c.args.a c.args.b c.not.ensures.grows

pub returns-in_err-not_b-clause-grows : goal.returns-in_err-not_b-clause-grows
returns-in_err-not_b-clause-grows c =
    or_two c.args.self.now c.not.new.self _ c.args.a c.args.b c.requires.right c.in_ok-not_a.ensures.grows c.not-2.ensures.grows

pub returns-in_err-neither-clause-grows : goal.returns-in_err-neither-clause-grows
returns-in_err-neither-clause-grows c =
    or_three c.args.self.now c.not.new.self c.not-2.new.self c.and.new.self c.args.a c.args.b c.in_ok-not_a.not_a c.in_ok-not_b.not_b
    c.requires.right c.in_ok-not_a.ensures.grows c.in_ok-not_b.ensures.grows c.and.ensures.grows
    c.in_ok-not_a.ensures.term c.in_ok-not_b.ensures.term

pub not-requires-3-clause-operand : goal.not-requires-3-clause-operand
not-requires-3-clause-operand c = Holds-named c.and.new.self c.in_ok-neither.neither _ c.in_ok-neither.ensures.term

pub returns-clause-term : goal.returns-clause-term
returns-clause-term c =
    IfOk-weaker c.not-3.result
    (λ r. Names c.not-3.new.self r (not_term c.and.new.self.width (term_of c.and.new.self c.in_ok-neither.neither)))
    (λ r. Names c.not-3.new.self r (or_term c.args.self.now.width (term_of c.args.self.now c.args.a) (term_of c.args.self.now c.args.b)))
    (λ r named.
    or_named c.args.self.now c.not.new.self c.not-2.new.self c.and.new.self c.not-3.new.self
    c.args.a c.args.b c.in_ok-not_a.not_a c.in_ok-not_b.not_b c.in_ok-neither.neither r
    c.requires.right c.in_ok-not_a.ensures.grows c.in_ok-not_b.ensures.grows c.in_ok-neither.ensures.grows
    c.in_ok-not_a.ensures.term c.in_ok-not_b.ensures.term c.in_ok-neither.ensures.term named)
    c.not-3.ensures.term

pub returns-clause-grows : goal.returns-clause-grows
returns-clause-grows c =
    or_four c.args.self.now c.not.new.self c.not-2.new.self c.and.new.self c.not-3.new.self
    c.args.a c.args.b c.in_ok-not_a.not_a c.in_ok-not_b.not_b c.in_ok-neither.neither
    c.requires.right c.in_ok-not_a.ensures.grows c.in_ok-not_b.ensures.grows c.in_ok-neither.ensures.grows c.not-3.ensures.grows
    c.in_ok-not_a.ensures.term c.in_ok-not_b.ensures.term c.in_ok-neither.ensures.term
