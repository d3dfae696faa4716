use Rattle.std.proofs.Common.{◌≡◌, ◌∷◌, [], List, subst, sym, length, arith, vec_len}
use Rattle.ll_reader.specs.Derivation.{Derives}
use Rattle.ll_reader.specs.declared.grammar.Item.TheVariants as due
use Rattle.ll_reader.specs.declared.grammar.Step.{Step}
use Rattle.ll_reader.specs.declared.grammar.Step.TheVariants.{Take}
use Rattle.usuba_syntax.proofs.Evaluation.{popped}
use Rattle.usuba_syntax.proofs.Runs.{classes}
use Rattle.usuba_syntax.proofs.Texts.{file_of_text}
use Rattle.usuba_syntax.proofs.tree.tree_of.Goals as goal
use Rattle.usuba_syntax.specs.declared.table.TheConstants.{PRODUCTIONS}
use Rattle.usuba_syntax.specs.declared.rule.TheConstants as rule

-- the last step takes the end, and those before it derive the tokens
pub file_of-requires-clause-derives : goal.file_of-requires-clause-derives
file_of-requires-clause-derives c =
    let r = file_of_text c.args.tokens c.args.steps.items c.requires.text in
    let n : vec_len c.args.steps ≡ length c.args.steps.items = omega (arith, c.args.steps.ok.0) in
    let same = popped c.args.steps.items c.pop.new.self.items r.0 c.pop.result Take (vec_len c.args.steps) (vec_len c.pop.new.self) n c.pop.ensures.items c.pop.ensures.cases r.1 in
    let P : List Step → Type 0 = λ xs. Derives PRODUCTIONS (due.Rule rule.FILE ∷ []) (classes c.args.tokens) xs in
    subst P (sym same) r.2.1.derives
