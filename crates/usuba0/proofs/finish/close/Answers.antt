use Rattle.std.proofs.Common.{◌≡◌, ◌<◌, map, get_or, subst, ◌∙◌, arith}
use Rattle.usuba0.specs.declared.limit.TheConstants.{MAX_COLUMNS, MAX_WEIGHT}
use Rattle.usuba0.specs.declared.circuit.Reg.{Reg}
use Rattle.usuba0.specs.Circuit.{Circuit, IsSmall, weight, columns}
use Rattle.usuba0.specs.CoreOfTerms.{core_of_terms}
use Rattle.usuba0.specs.Term.{Input}
use Rattle.usuba0.specs.State.Walk.{all_terms}
use Rattle.usuba0.proofs.CloseLemmas.{closes}
use Rattle.usuba0.proofs.finish.close.Goals as goal

pub new-core-requires-clause-core : goal.new-core-requires-clause-core
new-core-requires-clause-core c =
    let k = closes c.args.width c.args.inputs c.args.heads.now c.args.walk.now.places.items c.args.walk.now.order.items c.requires.builder c.requires.walk c.args.outputs.now
    c.in_ok-equations.equations.items c.in_ok-outputs.outputs.items c.requires.some c.requires.few c.requires.held c.requires.order c.in_ok-equations.ensures c.in_ok-outputs.ensures in
    k.core

pub new-core-requires-clause-few_equations : goal.new-core-requires-clause-few_equations
new-core-requires-clause-few_equations c =
    let k = closes c.args.width c.args.inputs c.args.heads.now c.args.walk.now.places.items c.args.walk.now.order.items c.requires.builder c.requires.walk c.args.outputs.now
    c.in_ok-equations.equations.items c.in_ok-outputs.outputs.items c.requires.some c.requires.few c.requires.held c.requires.order c.in_ok-equations.ensures c.in_ok-outputs.ensures in
    k.few_equations

pub returns-then-weight-gt-MAX_WEIGHT-clause-too_large :
    goal.returns-then-weight-gt-MAX_WEIGHT-clause-too_large
returns-then-weight-gt-MAX_WEIGHT-clause-too_large c =
    let k = closes c.args.width c.args.inputs c.args.heads.now c.args.walk.now.places.items c.args.walk.now.order.items c.requires.builder c.requires.walk c.args.outputs.now
    c.in_ok-equations.equations.items c.in_ok-outputs.outputs.items c.requires.some c.requires.few c.requires.held c.requires.order c.in_ok-equations.ensures c.in_ok-outputs.ensures in
    let same : c.new-core.result ≡ core_of_terms c.args.width c.args.inputs (map (λ (r : Reg). get_or (all_terms c.args.inputs c.args.heads.now) r.0 (Input 0)) c.args.outputs.now) = c.new-core.ensures ∙ k.same in
    λ e.
    let w = c.weight.ensures in let t = c.if-weight-gt-MAX_WEIGHT.true in
    subst (λ (core : Circuit). MAX_WEIGHT < weight core) same (omega arith)

pub returns-then-columns-gt-MAX_COLUMNS-clause-too_many :
    goal.returns-then-columns-gt-MAX_COLUMNS-clause-too_many
returns-then-columns-gt-MAX_COLUMNS-clause-too_many c =
    let k = closes c.args.width c.args.inputs c.args.heads.now c.args.walk.now.places.items c.args.walk.now.order.items c.requires.builder c.requires.walk c.args.outputs.now
    c.in_ok-equations.equations.items c.in_ok-outputs.outputs.items c.requires.some c.requires.few c.requires.held c.requires.order c.in_ok-equations.ensures c.in_ok-outputs.ensures in
    let same : c.new-core.result ≡ core_of_terms c.args.width c.args.inputs (map (λ (r : Reg). get_or (all_terms c.args.inputs c.args.heads.now) r.0 (Input 0)) c.args.outputs.now) = c.new-core.ensures ∙ k.same in
    λ e.
    let w = c.weight.ensures in let n = c.columns.ensures in let t = c.if-weight-gt-MAX_WEIGHT.false in let u = c.if-columns-gt-MAX_COLUMNS.true in
    subst (λ (core : Circuit). IsSmall core × (MAX_COLUMNS < columns core)) same (omega arith, omega arith)

pub returns-else-columns-gt-MAX_COLUMNS-clause-core :
    goal.returns-else-columns-gt-MAX_COLUMNS-clause-core
returns-else-columns-gt-MAX_COLUMNS-clause-core c =
    let k = closes c.args.width c.args.inputs c.args.heads.now c.args.walk.now.places.items c.args.walk.now.order.items c.requires.builder c.requires.walk c.args.outputs.now
    c.in_ok-equations.equations.items c.in_ok-outputs.outputs.items c.requires.some c.requires.few c.requires.held c.requires.order c.in_ok-equations.ensures c.in_ok-outputs.ensures in
    c.new-core.ensures ∙ k.same
