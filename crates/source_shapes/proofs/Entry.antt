-- The width of a file that is spelled and judged, and its entry.
use Rattle.std.proofs.Common.{◌≡◌, ◌⊎◌, inl, inr, ℕ, ◌+◌, suc, Bool, true, false, List, [], ◌∷◌, Option, Some, None, refl, subst, arith}
use Rattle.std.specs.Prelude.{if◌then◌else◌, slice_get, IfSome}
use Rattle.std.specs.List.{AllByRecursion}
use Rattle.std.specs.Option.{option_or}
use Rattle.std.proofs.lemmas.Option.{none-some}
use Rattle.usuba_trees.specs.declared.Base.{Base}
use Rattle.usuba_trees.specs.declared.Base.TheVariants.{Bits, Poly}
use Rattle.usuba_trees.specs.declared.Decl.{Decl}
use Rattle.usuba_trees.specs.declared.Def.{Def}
use Rattle.usuba_trees.specs.declared.Def.TheVariants as def
use Rattle.usuba_model.specs.Entries.{is_asked_for, entry_from, all_declarations, first_width}
use Rattle.usuba_model.specs.Shapes.{base_width}
use Rattle.source_shapes.specs.Shaped.{IsWidth, HasWidth, IsDeclared, TakesAndGives}
use Rattle.source_shapes.specs.ShapeLaws.{JudgedTakesAndGives}
use Rattle.source_shapes.proofs.Files.{spelled_is_shaped}

-- ---- the width

either_width : (o p : Option ℕ) → IfSome o IsWidth → IfSome p IsWidth → IfSome (option_or o p) IsWidth
either_width (Some w) p first second = first
either_width None p first second = second

base_is_width : (base : Base) → HasWidth base → IfSome (base_width base) IsWidth
base_is_width (Bits w) wide = wide
base_is_width Poly wide = tt

first_is_width : (ds : List Decl) → AllByRecursion IsDeclared ds → IfSome (first_width ds) IsWidth
first_is_width [] each = tt
first_is_width (d ∷ ds) each =
    either_width (base_width d.shape.base) (first_width ds) (base_is_width d.shape.base each.0.shape.width) (first_is_width ds each.1)

-- ---- the entry

-- a definition that stands at a number counted on from k, and takes and gives
abbrev StandsAt : ℕ → List Def → ℕ → Type 0
StandsAt k defs found = (j : ℕ) × (d : Def) × (found ≡ k + j) × (slice_get defs j ≡ Some d) × TakesAndGives d

one_later : (k : ℕ) (first : Def) (rest : List Def) (found : ℕ) → StandsAt (suc k) rest found → StandsAt k (first ∷ rest) found
one_later k first rest found (j, d, e, at, ends) = (suc j, d, omega (arith, e), at, ends)

first_or_second : (o p : Option ℕ) (found : ℕ) → option_or o p ≡ Some found → (o ≡ Some found) ⊎ (p ≡ Some found)
first_or_second (Some x) p found e = inl e
first_or_second None p found e = inr e

asked_here : (k : ℕ) (d : Def) (rest : List Def) (found : ℕ) → TakesAndGives d → (b : Bool)
    → (if b then Some k else None) ≡ Some found → StandsAt k (d ∷ rest) found
asked_here k d rest found ends true e = let s : k ≡ found = cc in (0, d, omega (arith, s), refl, ends)
asked_here k d rest found ends false e = absurd (none-some found e)

here_or_later : (k : ℕ) (d : Def) (rest : List Def) (found : ℕ) → TakesAndGives d → (o : Option ℕ) (b : Bool)
    → (o ≡ Some found → StandsAt (suc k) rest found) → (o ≡ Some found) ⊎ ((if b then Some k else None) ≡ Some found)
    → StandsAt k (d ∷ rest) found
here_or_later k d rest found ends o b later (inl e) = one_later k d rest found (later e)
here_or_later k d rest found ends o b later (inr e) = asked_here k d rest found ends b e

-- an entry is one of the definitions
entry_stands : (asked : Option (List ℕ)) (k : ℕ) (defs : List Def) (found : ℕ) → AllByRecursion TakesAndGives defs
    → entry_from asked k defs ≡ Some found → StandsAt k defs found
entry_stands asked k [] found each e = absurd (none-some found e)
entry_stands asked k (def.Node node ∷ rest) found each e =
    here_or_later k (def.Node node) rest found each.0 (entry_from asked (suc k) rest) (is_asked_for asked node)
    (entry_stands asked (suc k) rest found each.1)
    (first_or_second (entry_from asked (suc k) rest) (if is_asked_for asked node then Some k else None) found e)
entry_stands asked k (def.Table grid ∷ rest) found each e =
    one_later k (def.Table grid) rest found (entry_stands asked (suc k) rest found each.1 e)
entry_stands asked k (def.Perm grid ∷ rest) found each e =
    one_later k (def.Perm grid) rest found (entry_stands asked (suc k) rest found each.1 e)

-- ---- both

-- the width is 1 to 64, and the entry takes and gives at least one element
pub judged_takes_and_gives : JudgedTakesAndGives
judged_takes_and_gives bytes asked_width asked_entry file width entry spelled asked judged =
    let shaped = spelled_is_shaped bytes file spelled in
    let first = first_is_width (all_declarations file.defs) shaped.declarations in
    let (j, d, e, at, ends) = entry_stands asked_entry 0 file.defs entry shaped.definitions judged.has_entry in
    let same : j ≡ entry = omega (arith, e) in (
      subst (λ o. IfSome o IsWidth) judged.has_width (either_width asked_width (first_width (all_declarations file.defs)) asked first),
      d,
      subst (λ n. slice_get file.defs n ≡ Some d) same at,
      ends,
    )
