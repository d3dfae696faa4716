-- What the rules of the grammar relate to tokens is derived by the table, and the actions make it.
use Rattle.std.proofs.Common.{ℕ, List, [], ◌∷◌, ◌++◌, ◌≡◌, refl, ap, ◌∙◌, Some, map, slice_get}
use Rattle.ll_reader.specs.Derivation.{Derives, items}
use Rattle.ll_reader.specs.Derivation as derivation
use Rattle.ll_reader.specs.declared.grammar.Item as Items
use Rattle.ll_reader.specs.declared.grammar.Item.TheVariants as due
use Rattle.ll_reader.specs.declared.grammar.Production.{Production}
use Rattle.ll_reader.specs.declared.grammar.Step.{Step}
use Rattle.ll_reader.specs.declared.grammar.Step.TheVariants.{Take, Choose}
use Rattle.usuba_parts.specs.Actions.{act}
use Rattle.usuba_parts.specs.declared.action.Action.{Action}
use Rattle.usuba_parts.specs.declared.part.Part.{Part}
use Rattle.usuba_syntax.specs.Classes.{class_of}
use Rattle.usuba_syntax.specs.Values.{values, part_of, action_of}
use Rattle.usuba_syntax.specs.declared.table.TheConstants.{PRODUCTIONS}
use Rattle.usuba_tokens.specs.declared.token.Token.{Token}

-- the classes of tokens
abbrev pub classes : List Token → List ℕ
classes tokens = map class_of tokens

-- What makes the tokens `after` out of what is due goes on with more steps to make the tokens `before` out of the items and
-- what is due, and the parts of the items stand on top.
pub record Runs (is : List Items.Item) (before : List Token) (ps : List Part) (after : List Token) : Type 0 where
  pub run : (later : List Items.Item) (steps : List Step) → Derives PRODUCTIONS later (classes after) steps →
      (more : List Step) × Derives PRODUCTIONS (is ++ later) (classes before) more × (values more before ≡ ps ++ values steps after)

-- no items are made of no tokens
pub run_nil : {a : List Token} → Runs [] a [] a
run_nil = record { run = λ later steps d. (steps, d, refl) }

-- a token before what the other items are made of
pub run_token : {is : List Items.Item} {a b : List Token} {ps : List Part} (t : Token) → Runs is a ps b → Runs (due.Token (class_of t) ∷ is) (t ∷ a) (part_of t ∷ ps) b
run_token t r = record {
  run = λ later steps d.
      let (more, e, q) = r.run later steps d in (Take ∷ more, derivation.token e, ap (λ xs. part_of t ∷ xs) q);
}

-- a text of a rule before what the other items are made of
pub run_rule : {r : ℕ} {is : List Items.Item} {a b c : List Token} {v : Part} {ps : List Part} →
    Runs (due.Rule r ∷ []) a (v ∷ []) b → Runs is b ps c → Runs (due.Rule r ∷ is) a (v ∷ ps) c
run_rule {is = is} {v = v} f g = record {
  run = λ later steps d.
      let (more, e, q) = g.run later steps d in
      let (most, e', q') = f.run (is ++ later) more e in (most, e', q' ∙ ap (λ xs. v ∷ xs) q);
}

-- a row derives a text of its rule where its action makes this part of the parts of its items
abbrev pub Derived : Production → Action → List Token → List Part → Part → List Token → Type 0
Derived p action a ps v b =
    Runs (items p) a ps b → ((rest : List Part) → act action (ps ++ rest) ≡ v ∷ rest) → Runs (due.Rule p.rule ∷ []) a (v ∷ []) b

-- a row by its number in the table
pub run_by : {a b : List Token} {ps : List Part} {v : Part} (k : ℕ) (p : Production) → slice_get PRODUCTIONS k ≡ Some p →
    Runs (items p) a ps b → ((rest : List Part) → act (action_of k) (ps ++ rest) ≡ v ∷ rest) → Runs (due.Rule p.rule ∷ []) a (v ∷ []) b
run_by k p at r made = record {
  run = λ later steps d.
      let (more, e, q) = r.run later steps d in
      (Choose k ∷ more, derivation.rule at refl e, ap (act (action_of k)) q ∙ made (values steps _));
}
