use Rattle.std.proofs.Common.{◌≡◌, ◌-◌, None, sym, ap, ◌∙◌, arith}
use Rattle.std.specs.Option.{option_copied}
use Rattle.std.specs.List.{slice_get}
use Rattle.usuba0.specs.Term.{constant}
use Rattle.usuba0.proofs.HeadLemmas.{head_at}
use Rattle.usuba0.proofs.KeepLemmas.{terms, input_constant, head_term, constant_fits, length_of_terms, none_within}
use Rattle.usuba0.proofs.builder.CoreBuilder.constant_of.Goals as goal

pub returns-then-r-self-clause-value : goal.returns-then-r-self-clause-value
returns-then-r-self-clause-value c =
    rw (← c.self.view_is) (input_constant c.self.inside.inputs c.self.inside.heads.keys c.args.r.0 c.if-r-self.true)

pub returns-in-Some-clause-value : goal.returns-in-Some-clause-value
returns-in-Some-clause-value c =
    let n = c.self.inside.inputs in
    let hs = c.self.inside.heads.keys in
    let there = sym c.get_index.ensures.key ∙ ap option_copied c.in-Some.is in
    rw (← c.self.view_is)
    (c.constant.ensures (terms n hs) ∙ sym (ap constant (head_term c.self.inside.width n hs c.args.r.0 _ c.self.invariant.earlier c.if-r-self.false there)))

pub returns-in-Some-clause-fits : goal.returns-in-Some-clause-fits
returns-in-Some-clause-fits c =
    let n = c.self.inside.inputs in
    let hs = c.self.inside.heads.keys in
    let there = sym c.get_index.ensures.key ∙ ap option_copied c.in-Some.is in
    rw (← c.self.view_is)
    (rw (c.constant.ensures (terms n hs)) (constant_fits c.self.inside.width _ (terms n hs) _ (head_at c.self.inside.width n hs _ _ c.self.invariant.earlier there)))

pub returns-in-None-clause-value : goal.returns-in-None-clause-value
returns-in-None-clause-value c =
    let n = c.self.inside.inputs in
    let hs = c.self.inside.heads.keys in
    let held = rw (← c.self.view_is) at c.requires in
    let l = length_of_terms n hs in
    let there : slice_get hs (c.args.r.0 - n) ≡ None = sym c.get_index.ensures.key ∙ ap option_copied c.in-None.is in
    let le = c.if-r-self.false in
    absurd (none_within hs (c.args.r.0 - n) (omega arith) there)
