-- The numbers in a file that is judged fit the width, and its entry stands in it.
use Rattle.std.proofs.Common.{◌≡◌, ◌⊎◌, inl, inr, ℕ, ◌+◌, ◌<◌, ◌^◌, zero, suc, Bool, true, false, List, [], ◌∷◌, map, Option, Some, None, refl, ap, arith}
use Rattle.std.specs.Prelude.{if◌then◌else◌, slice_get}
use Rattle.std.specs.Option.{option_or}
use Rattle.std.proofs.lemmas.Option.{none-some}
use Rattle.usuba_trees.specs.declared.Decl.{Decl}
use Rattle.usuba_trees.specs.declared.Def.{Def}
use Rattle.usuba_trees.specs.declared.Def.TheVariants as def
use Rattle.usuba_model.specs.Entries.{is_asked_for, entry_from}
use Rattle.usuba_model.specs.Judging.{walks_fault}
use Rattle.usuba_model.specs.Unrolled.{Expression, cells, number, nothing, joined, call, complement, operation, shift, refresh, Instance, declarations, unrolled}
use Rattle.usuba_model.specs.Walk.{Signature, signature, definition_steps, walk_fault}
use Rattle.usuba_model.proofs.FileOutcomes.{onto}
use Rattle.usuba_model.proofs.JudgingLemmas.{first_none, second_none}
use Rattle.usuba_model.proofs.NodeSizing.{AllFits, node_fits}
use Rattle.usuba_model.proofs.Relating.{Bounds, FitsIn, AllFit, DefinitionFits, DefinitionsFit}
use Rattle.usuba_model.proofs.Sizing.{IsSized}
use Rattle.source_terms.specs.SourceTerms.{inputs_of}

-- what width w asks of the numbers in a source
abbrev pub width_bounds : ℕ → Bounds
width_bounds w = record {
  number_fits = λ v. v < 2 ^ w;
  amount_fits = λ k. k < w;
  refresh_fits = λ k. Unit {0};
  table_fits = λ m entries. Unit {0};
}

module _ (w : ℕ) (some_width : 0 < w) where
  -- the numbers in an expression that is well sized
  expression_fits : (signatures : List Signature) (x : Expression) → IsSized w signatures x → FitsIn (width_bounds w) x
  expression_fits signatures (number value) sized = sized
  expression_fits signatures (cells read) sized = tt
  expression_fits signatures nothing sized = tt
  expression_fits signatures (joined a b) sized = (expression_fits signatures a sized.0, expression_fits signatures b sized.1)
  expression_fits signatures (call name args) sized = expression_fits signatures args sized.0
  expression_fits signatures (complement a) sized = expression_fits signatures a sized
  expression_fits signatures (operation op a b) sized = (expression_fits signatures a sized.0, expression_fits signatures b sized.1)
  expression_fits signatures (shift kind k a) sized = (sized.2, expression_fits signatures a sized.0)
  expression_fits signatures (refresh k a) sized = (tt, expression_fits signatures a sized.0)

  instances_fit : (signatures : List Signature) (declared : List Decl) (instances : List Instance)
      → AllFits w some_width signatures declared instances → AllFit (width_bounds w) instances
  instances_fit signatures declared [] fits = tt
  instances_fit signatures declared (instance ∷ instances) fits =
      (expression_fits signatures instance.right fits.0.0, instances_fit signatures declared instances fits.1)

  definition_fits : (signatures : List Signature) (d : Def) → walk_fault 0 (definition_steps w signatures d) ≡ None
      → DefinitionFits (width_bounds w) d
  definition_fits signatures (def.Node node) none =
      instances_fit signatures (declarations node) (unrolled node) (node_fits w some_width signatures node 0 none)
  definition_fits signatures (def.Table grid) none = tt
  definition_fits signatures (def.Perm grid) none = tt

  -- the numbers in definitions that are walked without a fault
  pub definitions_fit : (rest earlier : List Def) → DefinitionsFit (width_bounds w) earlier
      → walks_fault w (map signature earlier) rest ≡ None → DefinitionsFit (width_bounds w) (onto rest earlier)
  definitions_fit [] earlier before none = before
  definitions_fit (d ∷ rest) earlier before none =
      definitions_fit rest (d ∷ earlier) (definition_fits (map signature earlier) d (first_none _ _ none), before) (second_none _ _ none)

-- ---- the entry

-- the definition that stands at a number, counted on from k
abbrev StandsAt : ℕ → List Def → ℕ → Type 0
StandsAt k defs found = (j : ℕ) × (d : Def) × (found ≡ k + j) × (slice_get defs j ≡ Some d)

one_later : (k : ℕ) (first : Def) (rest : List Def) (found : ℕ) → StandsAt (suc k) rest found → StandsAt k (first ∷ rest) found
one_later k first rest found at = let e = at.2 in (suc at.0, at.1, omega (arith, e), at.3)

first_or_second : (o p : Option ℕ) (found : ℕ) → option_or o p ≡ Some found → (o ≡ Some found) ⊎ (p ≡ Some found)
first_or_second (Some x) p found e = inl e
first_or_second None p found e = inr e

asked_here : (k : ℕ) (d : Def) (rest : List Def) (found : ℕ) (b : Bool) → (if b then Some k else None) ≡ Some found → StandsAt k (d ∷ rest) found
asked_here k d rest found true e = let s : k ≡ found = cc in (0, d, omega (arith, s), refl)
asked_here k d rest found false e = absurd (none-some found e)

here_or_later : (k : ℕ) (d : Def) (rest : List Def) (found : ℕ) (o : Option ℕ) (b : Bool)
    → (o ≡ Some found → StandsAt (suc k) rest found) → (o ≡ Some found) ⊎ ((if b then Some k else None) ≡ Some found)
    → StandsAt k (d ∷ rest) found
here_or_later k d rest found o b later (inl e) = one_later k d rest found (later e)
here_or_later k d rest found o b later (inr e) = asked_here k d rest found b e

-- an entry is one of the definitions
pub entry_stands : (asked : Option (List ℕ)) (k : ℕ) (defs : List Def) (found : ℕ) → entry_from asked k defs ≡ Some found → StandsAt k defs found
entry_stands asked k [] found e = absurd (none-some found e)
entry_stands asked k (def.Node node ∷ rest) found e =
    here_or_later k (def.Node node) rest found (entry_from asked (suc k) rest) (is_asked_for asked node)
    (entry_stands asked (suc k) rest found)
    (first_or_second (entry_from asked (suc k) rest) (if is_asked_for asked node then Some k else None) found e)
entry_stands asked k (def.Table grid ∷ rest) found e = one_later k (def.Table grid) rest found (entry_stands asked (suc k) rest found e)
entry_stands asked k (def.Perm grid ∷ rest) found e = one_later k (def.Perm grid) rest found (entry_stands asked (suc k) rest found e)

some_same : (a b : Def) → Some a ≡ Some b → a ≡ b
some_same a b e = cc e

-- the inputs of the definition at a number are its inputs
pub inputs_at : (defs : List Def) (k : ℕ) (d : Def) → slice_get defs k ≡ Some d → inputs_of defs k ≡ (signature d).inputs
inputs_at [] k d e = absurd (none-some d e)
inputs_at (f ∷ defs) zero d e = ap (λ (g : Def). (signature g).inputs) (some_same f d e)
inputs_at (f ∷ defs) (suc k) d e = inputs_at defs k d e
