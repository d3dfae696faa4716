-- The names of a file, definition by definition.
use Rattle.std.proofs.Common.{◌≡◌, ℕ, ◌+◌, ◌<◌, ◌≤◌, true, false, List, [], ◌∷◌, ◌++◌, length, drop, get_or, Option}
use Rattle.std.proofs.Common.{Some, None, refl, sym, ap, ◌∙◌}
use Rattle.std.specs.Prelude.{is_some}
use Rattle.std.specs.Option.{option_or}
use Rattle.std.proofs.lemmas.Bool.{true≢false}
use Rattle.std.proofs.lemmas.List.{append-nil, drop_all}
use Rattle.usuba_trees.specs.declared.Decl.{Decl}
use Rattle.usuba_trees.specs.declared.Def.{Def}
use Rattle.usuba_model.specs.declared.fault.Fault.{Fault}
use Rattle.usuba_model.specs.declared.fault.FaultKind.TheVariants.{DuplicateName, UnknownName}
use Rattle.usuba_model.specs.Faults.{first_of}
use Rattle.usuba_model.specs.Names.{is_name_among, name_of, declared_in, names_of, repeated, repeated_declarations}
use Rattle.usuba_model.specs.Names.{counters_in, repeated_names, unknown_in_definition, unknown_names}
use Rattle.usuba_phases.specs.State.Names.{AreSame, counters_among, unknown_among}
use Rattle.usuba_phases.proofs.FirstSome.{drop-next}
use Rattle.usuba_phases.proofs.Firsts.{first_of-append, of-parts}
use Rattle.usuba_phases.proofs.Repeating.{declared_fault}
use Rattle.usuba_phases.proofs.SameNames.{counters_among-same, counters_in-among, repeated_names-same}
use Rattle.usuba_phases.proofs.SameNames.{unknown_among-same, unknown_in_definition-among, unknown_names-same}

some-first : (a b : Option Fault) → is_some a ≡ true → a ≡ option_or a b
some-first (Some fault) b some = refl
some-first None b some = absurd (true≢false (sym some))

none-first : (a b : Option Fault) → is_some a ≡ false → option_or a b ≡ b
none-first (Some fault) b none = absurd (true≢false none)
none-first None b none = refl

-- faults that are found definition by definition, from the names of those before
module _ (faults : List (List ℕ) → List Def → Option Fault) (own : List (List ℕ) → Def → Option Fault)
    (none_in : (names : List (List ℕ)) → faults names [] ≡ None)
    (first_in : (names : List (List ℕ)) (d : Def) (rest : List Def) → faults names (d ∷ rest)
    ≡ option_or (own names d) (faults ((name_of d).text ∷ names) rest))
    (same_in : (names others : List (List ℕ)) (defs : List Def) → AreSame names others → faults names defs
    ≡ faults others defs) where
  -- a definition without a fault
  passes-one : (names after : List (List ℕ)) (defs : List Def) (i : ℕ) (d : Def) (found whole : Option Fault)
      → i < length defs → d ≡ get_or defs i d → found ≡ own names d → is_some found ≡ false
      → AreSame after ((name_of d).text ∷ names)
      → faults names (drop i defs) ≡ whole → faults after (drop (i + 1) defs) ≡ whole
  passes-one names after defs i d found whole within is found_is none added so_far =
      let rest : List Def = drop (i + 1) defs in
      same_in after ((name_of d).text ∷ names) rest added
      ∙ sym (none-first found (faults ((name_of d).text ∷ names) rest) none)
      ∙ ap (λ o. option_or o (faults ((name_of d).text ∷ names) rest)) found_is
      ∙ sym (first_in names d rest) ∙ ap (faults names) (sym (drop-next defs i d within is)) ∙ so_far

  -- the first definition with a fault
  stops-at : (names : List (List ℕ)) (defs : List Def) (i : ℕ) (d : Def) (found whole : Option Fault)
      → i < length defs → d ≡ get_or defs i d → found ≡ own names d → is_some found ≡ true
      → faults names (drop i defs) ≡ whole → found ≡ whole
  stops-at names defs i d found whole within is found_is some so_far =
      let rest : List Def = drop (i + 1) defs in
      some-first found (faults ((name_of d).text ∷ names) rest) some
      ∙ ap (λ o. option_or o (faults ((name_of d).text ∷ names) rest)) found_is
      ∙ sym (first_in names d rest) ∙ ap (faults names) (sym (drop-next defs i d within is)) ∙ so_far

  -- no definition has a fault
  ends-without : (names : List (List ℕ)) (defs : List Def) (i : ℕ) (whole : Option Fault) → length defs ≤ i
      → faults names (drop i defs) ≡ whole → None ≡ whole
  ends-without names defs i whole past so_far =
      sym (none_in names) ∙ ap (faults names) (sym (drop_all i defs past)) ∙ so_far

-- names that repeat

-- the first name of these definitions that repeats another
abbrev pub repeated_fault : List (List ℕ) → List Def → Option Fault
repeated_fault names defs = first_of DuplicateName (repeated_names names defs)

-- the first of this definition
abbrev pub repeated_own : List (List ℕ) → Def → Option Fault
repeated_own names d =
    first_of DuplicateName (repeated names (name_of d) ∷ repeated_declarations [] (declared_in d) ++ counters_in d)

repeated-first : (names : List (List ℕ)) (d : Def) (rest : List Def)
    → repeated_fault names (d ∷ rest)
    ≡ option_or (repeated_own names d) (repeated_fault ((name_of d).text ∷ names) rest)
repeated-first names d rest =
    first_of-append DuplicateName
    (repeated names (name_of d) ∷ repeated_declarations [] (declared_in d) ++ counters_in d)
    (repeated_names ((name_of d).text ∷ names) rest)

repeated-same : (names others : List (List ℕ)) (defs : List Def) → AreSame names others
    → repeated_fault names defs ≡ repeated_fault others defs
repeated-same names others defs same = ap (first_of DuplicateName) (repeated_names-same names others defs same)

-- a definition in which no name repeats
pub repeated-passes : (names after : List (List ℕ)) (defs : List Def) (i : ℕ) (d : Def) (found whole : Option Fault)
    → i < length defs → d ≡ get_or defs i d → found ≡ repeated_own names d → is_some found ≡ false
    → AreSame after ((name_of d).text ∷ names)
    → repeated_fault names (drop i defs) ≡ whole → repeated_fault after (drop (i + 1) defs) ≡ whole
repeated-passes = passes-one repeated_fault repeated_own (λ names. refl) repeated-first repeated-same

-- the first definition in which a name repeats
pub repeated-stops : (names : List (List ℕ)) (defs : List Def) (i : ℕ) (d : Def) (found whole : Option Fault)
    → i < length defs → d ≡ get_or defs i d → found ≡ repeated_own names d → is_some found ≡ true
    → repeated_fault names (drop i defs) ≡ whole → found ≡ whole
repeated-stops = stops-at repeated_fault repeated_own (λ names. refl) repeated-first repeated-same

-- no definition has such a name
pub repeated-ends : (names : List (List ℕ)) (defs : List Def) (i : ℕ) (whole : Option Fault) → length defs ≤ i
    → repeated_fault names (drop i defs) ≡ whole → None ≡ whole
repeated-ends = ends-without repeated_fault repeated_own (λ names. refl) repeated-first repeated-same

-- what was declared from nothing on
only-declared : (start names : List (List ℕ)) (ds : List Decl) → start ≡ [] → AreSame names (names_of ds ++ start)
    → AreSame names (names_of ds)
only-declared start names ds empty same = λ name.
    same name ∙ ap (λ s. is_name_among (names_of ds ++ s) name) empty
    ∙ ap (λ l. is_name_among l name) (append-nil (names_of ds))

-- the name of a definition, its declarations and its counters, one after another
pub repeated_own-is : (names start declared : List (List ℕ)) (d : Def) (x y z : Option Fault)
    → start ≡ [] → x ≡ first_of DuplicateName (repeated names (name_of d) ∷ [])
    → y ≡ declared_fault start (declared_in d)
    → AreSame declared (names_of (declared_in d) ++ start) → z ≡ first_of DuplicateName (counters_among declared d)
    → option_or (option_or x y) z ≡ repeated_own names d
repeated_own-is names start declared d x y z empty name declarations same counters =
    let ds : List Decl = declared_in d in
    of-parts DuplicateName (repeated names (name_of d) ∷ repeated_declarations [] ds ++ counters_in d)
    (repeated names (name_of d) ∷ repeated_declarations [] ds) (counters_in d) (option_or x y) z refl
    (of-parts DuplicateName (repeated names (name_of d) ∷ repeated_declarations [] ds) (repeated names (name_of d) ∷ [])
    (repeated_declarations [] ds) x y refl name (declarations ∙ ap (λ s. declared_fault s ds) empty))
    (counters
    ∙ ap (first_of DuplicateName)
    (counters_among-same declared (names_of ds) d (only-declared start declared ds empty same)
    ∙ sym (counters_in-among d)))

-- names that are unknown

-- the first unknown name of these definitions
abbrev pub unknown_fault : List (List ℕ) → List Def → Option Fault
unknown_fault names defs = first_of UnknownName (unknown_names names defs)

-- the first of this definition
abbrev pub unknown_own : List (List ℕ) → Def → Option Fault
unknown_own names d = first_of UnknownName (unknown_in_definition names d)

unknown-first : (names : List (List ℕ)) (d : Def) (rest : List Def)
    → unknown_fault names (d ∷ rest) ≡ option_or (unknown_own names d) (unknown_fault ((name_of d).text ∷ names) rest)
unknown-first names d rest =
    first_of-append UnknownName (unknown_in_definition names d) (unknown_names ((name_of d).text ∷ names) rest)

unknown-same : (names others : List (List ℕ)) (defs : List Def) → AreSame names others
    → unknown_fault names defs ≡ unknown_fault others defs
unknown-same names others defs same = ap (first_of UnknownName) (unknown_names-same names others defs same)

-- a definition in which no name is unknown
pub unknown-passes : (names after : List (List ℕ)) (defs : List Def) (i : ℕ) (d : Def) (found whole : Option Fault)
    → i < length defs → d ≡ get_or defs i d → found ≡ unknown_own names d → is_some found ≡ false
    → AreSame after ((name_of d).text ∷ names)
    → unknown_fault names (drop i defs) ≡ whole → unknown_fault after (drop (i + 1) defs) ≡ whole
unknown-passes = passes-one unknown_fault unknown_own (λ names. refl) unknown-first unknown-same

-- the first definition in which a name is unknown
pub unknown-stops : (names : List (List ℕ)) (defs : List Def) (i : ℕ) (d : Def) (found whole : Option Fault)
    → i < length defs → d ≡ get_or defs i d → found ≡ unknown_own names d → is_some found ≡ true
    → unknown_fault names (drop i defs) ≡ whole → found ≡ whole
unknown-stops = stops-at unknown_fault unknown_own (λ names. refl) unknown-first unknown-same

-- no definition has such a name
pub unknown-ends : (names : List (List ℕ)) (defs : List Def) (i : ℕ) (whole : Option Fault) → length defs ≤ i
    → unknown_fault names (drop i defs) ≡ whole → None ≡ whole
unknown-ends = ends-without unknown_fault unknown_own (λ names. refl) unknown-first unknown-same

-- the names in a definition, among what it declares
pub unknown_own-is : (defined start declared : List (List ℕ)) (d : Def) (x : Option Fault)
    → start ≡ [] → AreSame declared (names_of (declared_in d) ++ start)
    → x ≡ first_of UnknownName (unknown_among defined declared d)
    → x ≡ unknown_own defined d
unknown_own-is defined start declared d x empty same is =
    let ds : List Decl = declared_in d in
    is
    ∙ ap (first_of UnknownName)
    (unknown_among-same defined defined declared (names_of ds) (λ name. refl)
    (only-declared start declared ds empty same) d
    ∙ sym (unknown_in_definition-among defined d))
