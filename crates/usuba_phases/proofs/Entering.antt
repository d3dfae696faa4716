-- The entry and the width, definition by definition.
use Rattle.std.proofs.Common.{◌≡◌, ℕ, zero, suc, ◌+◌, ◌<◌, ◌≤◌, Bool, true, false, List, [], ◌∷◌, ◌++◌, length, drop}
use Rattle.std.proofs.Common.{get_or, map, Option, Some, None, refl, sym, ap, ◌∙◌, arith, add-one}
use Rattle.std.specs.Prelude.{if◌then◌else◌, IfSome}
use Rattle.std.specs.Option.{option_or}
use Rattle.std.proofs.lemmas.List.{map-append, drop_all}
use Rattle.usuba_trees.specs.declared.Decl.{Decl}
use Rattle.usuba_trees.specs.declared.Def.{Def}
use Rattle.usuba_trees.specs.declared.Def.TheVariants as def
use Rattle.usuba_model.specs.declared.fault.Fault.{Fault}
use Rattle.usuba_model.specs.declared.fault.FaultKind.TheVariants.{MixedWidth, BadTable, BadPerm}
use Rattle.usuba_model.specs.Entries.{entry_from, entry_of, all_declarations, first_width, beginning, name_place, mixed}
use Rattle.usuba_model.specs.Entries.{grid_fault, is_bad_table, is_bad_permutation}
use Rattle.usuba_model.specs.Faults.{first_of}
use Rattle.usuba_model.specs.Names.{name_of, declared_in}
use Rattle.usuba_model.specs.Shapes.{base_width, all_elements}
use Rattle.usuba_phases.specs.State.Phases.{may_be_entry, grid_fault_in}
use Rattle.usuba_phases.proofs.FirstSome.{first_some, or-assoc, drop-next, first_some-append}
use Rattle.usuba_phases.proofs.Firsts.{first_of-append, first_of-map}

-- this definition's place, where it may be the entry
abbrev pub entry_at : Option (List ℕ) → ℕ → Def → Option ℕ
entry_at asked k d = if may_be_entry asked d then Some k else None

entry_from-cons : (asked : Option (List ℕ)) (k : ℕ) (d : Def) (rest : List Def)
    → entry_from asked k (d ∷ rest) ≡ option_or (entry_from asked (suc k) rest) (entry_at asked k d)
entry_from-cons asked k (def.Node node) rest = refl
entry_from-cons asked k (def.Table grid) rest = none-more (entry_from asked (suc k) rest)
  where
    none-more : (o : Option ℕ) → o ≡ option_or o None
    none-more None = refl
    none-more (Some x) = refl
entry_from-cons asked k (def.Perm grid) rest = none-more (entry_from asked (suc k) rest)
  where
    none-more : (o : Option ℕ) → o ≡ option_or o None
    none-more None = refl
    none-more (Some x) = refl

-- one more definition was looked at
pub entry-step : (asked : Option (List ℕ)) (defs : List Def) (i : ℕ) (d : Def) (before found after whole : Option ℕ)
    → i < length defs → d ≡ get_or defs i d → found ≡ entry_at asked i d → after ≡ option_or found before
    → option_or (entry_from asked i (drop i defs)) before ≡ whole
    → option_or (entry_from asked (i + 1) (drop (i + 1) defs)) after ≡ whole
entry-step asked defs i d before found after whole within is gives now so_far =
    let rest : List Def = drop (i + 1) defs in
    ap (option_or (entry_from asked (i + 1) rest)) (now ∙ ap (λ o. option_or o before) gives)
    ∙ ap (λ k. option_or (entry_from asked k rest) (option_or (entry_at asked i d) before)) (add-one i)
    ∙ sym (or-assoc (entry_from asked (suc i) rest) (entry_at asked i d) before)
    ∙ ap (λ o. option_or o before) (sym (entry_from-cons asked i d rest))
    ∙ ap (λ ds. option_or (entry_from asked i ds) before) (sym (drop-next defs i d within is))
    ∙ so_far

-- all definitions were looked at
pub entry-end : (asked : Option (List ℕ)) (defs : List Def) (i : ℕ) (before whole : Option ℕ) → length defs ≤ i
    → option_or (entry_from asked i (drop i defs)) before ≡ whole → before ≡ whole
entry-end asked defs i before whole past so_far =
    ap (λ ds. option_or (entry_from asked i ds) before) (sym (drop_all i defs past)) ∙ so_far

-- nothing was looked at
pub entry-starts : (asked : Option (List ℕ)) (defs : List Def)
    → option_or (entry_from asked 0 defs) None ≡ entry_of asked defs
entry-starts asked defs = none-more (entry_from asked 0 defs)
  where
    none-more : (o : Option ℕ) → option_or o None ≡ o
    none-more None = refl
    none-more (Some x) = refl

-- the entry is one of the definitions
entry_from-within : (asked : Option (List ℕ)) (k : ℕ) (defs : List Def) (entry : ℕ)
    → entry_from asked k defs ≡ Some entry → entry < k + length defs
entry_from-within asked k [] entry is = cc is
entry_from-within asked k (d ∷ rest) entry is =
    at (entry_from asked (suc k) rest) (may_be_entry asked d) (sym (entry_from-cons asked k d rest) ∙ is)
    (entry_from-within asked (suc k) rest entry)
  where
    at : (later : Option ℕ) (may_be : Bool) → option_or later (if may_be then Some k else None) ≡ Some entry
        → (later ≡ Some entry → entry < suc k + length rest) → entry < k + length (d ∷ rest)
    at (Some x) may_be is within = let below : entry < suc k + length rest = within is in omega arith
    at None true is within = let same : k ≡ entry = cc is in omega arith
    at None false is within = cc is

-- an entry that was found is one of the definitions
pub entry-within : (asked : Option (List ℕ)) (defs : List Def) (found : Option ℕ) → found ≡ entry_of asked defs
    → IfSome found (λ entry. entry < length defs)
entry-within asked defs None is = tt
entry-within asked defs (Some entry) is =
    let below : entry < 0 + length defs = entry_from-within asked 0 defs entry (sym is) in omega arith

-- the place of a definition's name
pub name_place-some : (defs : List Def) (k : ℕ) (d : Def) → k < length defs → d ≡ get_or defs k d
    → name_place defs k ≡ (name_of d).place
name_place-some [] k d within is = absurd (omega arith)
name_place-some (first ∷ rest) zero d within is = ap (λ (e : Def). (name_of e).place) (sym is)
name_place-some (first ∷ rest) (suc k) d within is = name_place-some rest k d (omega arith) is

-- past the definitions it is where the file begins
pub name_place-none : (defs : List Def) (k : ℕ) → length defs ≤ k → name_place defs k ≡ beginning
name_place-none [] k past = refl
name_place-none (first ∷ rest) zero past = absurd (omega arith)
name_place-none (first ∷ rest) (suc k) past = name_place-none rest k (omega arith)

-- widths

-- the width of a declaration's type
abbrev pub width_in : Decl → Option ℕ
width_in d = base_width d.shape.base

-- the first width is found declaration by declaration
pub first_width-is : (ds : List Decl) → first_width ds ≡ first_some width_in ds
first_width-is [] = refl
first_width-is (d ∷ ds) = ap (option_or (width_in d)) (first_width-is ds)

first_width-append : (a b : List Decl) → first_width (a ++ b) ≡ option_or (first_width a) (first_width b)
first_width-append a b =
    first_width-is (a ++ b) ∙ first_some-append width_in a b
    ∙ ap (λ o. option_or o (first_some width_in b)) (sym (first_width-is a))
    ∙ ap (option_or (first_width a)) (sym (first_width-is b))

-- the first width of three lists
pub first_width-three : (whole a b c : List Decl) → whole ≡ a ++ b ++ c
    → option_or (option_or (first_width a) (first_width b)) (first_width c) ≡ first_width whole
first_width-three whole a b c is =
    ap (λ o. option_or o (first_width c)) (sym (first_width-append a b)) ∙ sym (first_width-append (a ++ b) c)
    ∙ ap first_width (sym is)

-- the first width of what a definition declares
abbrev pub width_declared : Def → Option ℕ
width_declared d = first_width (declared_in d)

-- and definition by definition
pub first_width-all : (defs : List Def) → first_width (all_declarations defs) ≡ first_some width_declared defs
first_width-all [] = refl
first_width-all (d ∷ defs) =
    first_width-append (declared_in d) (all_declarations defs)
    ∙ ap (option_or (width_declared d)) (first_width-all defs)

-- the fault of a declaration whose width is not the program's
abbrev pub mixed_fault : ℕ → Decl → Option Fault
mixed_fault width d = first_of MixedWidth (mixed width d ∷ [])

-- the first of those
abbrev pub mixed_faults : ℕ → List Decl → Option Fault
mixed_faults width ds = first_of MixedWidth (map (mixed width) ds)

-- the first fault of another width is found declaration by declaration
pub mixed_faults-is : (width : ℕ) (ds : List Decl) → mixed_faults width ds ≡ first_some (mixed_fault width) ds
mixed_faults-is width ds = first_of-map MixedWidth (mixed width) ds

mixed_faults-append : (width : ℕ) (a b : List Decl)
    → mixed_faults width (a ++ b) ≡ option_or (mixed_faults width a) (mixed_faults width b)
mixed_faults-append width a b =
    ap (first_of MixedWidth) (map-append (mixed width) a b)
    ∙ first_of-append MixedWidth (map (mixed width) a) (map (mixed width) b)

-- the first fault of three lists
pub mixed_faults-three : (width : ℕ) (whole a b c : List Decl) → whole ≡ a ++ b ++ c
    → option_or (option_or (mixed_faults width a) (mixed_faults width b)) (mixed_faults width c)
    ≡ mixed_faults width whole
mixed_faults-three width whole a b c is =
    ap (λ o. option_or o (mixed_faults width c)) (sym (mixed_faults-append width a b))
    ∙ sym (mixed_faults-append width (a ++ b) c) ∙ ap (mixed_faults width) (sym is)

-- the first of those that a definition declares
abbrev pub mixed_declared : ℕ → Def → Option Fault
mixed_declared width d = mixed_faults width (declared_in d)

-- and it is found definition by definition
pub mixed_faults-all : (width : ℕ) (defs : List Def)
    → mixed_faults width (all_declarations defs) ≡ first_some (mixed_declared width) defs
mixed_faults-all width [] = refl
mixed_faults-all width (d ∷ defs) =
    mixed_faults-append width (declared_in d) (all_declarations defs)
    ∙ ap (option_or (mixed_declared width d)) (mixed_faults-all width defs)

-- tables and permutations

chosen : (bad : Bool) (fault : Fault) (rest : Option Fault)
    → (if bad then Some fault else rest) ≡ option_or (if bad then Some fault else None) rest
chosen true fault rest = refl
chosen false fault rest = refl

grid_fault-cons : (d : Def) (rest : List Def) → grid_fault (d ∷ rest) ≡ option_or (grid_fault_in d) (grid_fault rest)
grid_fault-cons (def.Node node) rest = refl
grid_fault-cons (def.Table grid) rest =
    chosen (is_bad_table (all_elements grid.inputs) (all_elements grid.outputs) grid.entries)
    (record { kind = BadTable; place = grid.name.place }) (grid_fault rest)
grid_fault-cons (def.Perm grid) rest =
    chosen (is_bad_permutation (all_elements grid.inputs) (all_elements grid.outputs) grid.entries)
    (record { kind = BadPerm; place = grid.name.place }) (grid_fault rest)

-- the first bad table or permutation is found definition by definition
pub grid_fault-is : (defs : List Def) → grid_fault defs ≡ first_some grid_fault_in defs
grid_fault-is [] = refl
grid_fault-is (d ∷ rest) = grid_fault-cons d rest ∙ ap (option_or (grid_fault_in d)) (grid_fault-is rest)
