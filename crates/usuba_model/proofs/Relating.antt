-- What is made of related elements by operators that keep a relation is related: the outcomes of one source over two kinds of
-- elements.
use Rattle.std.proofs.Common.{◌-◌, ℕ, zero, suc, List, [], ◌∷◌, ◌++◌, length, map, Option, Some, None, Bool, true, false}
use Rattle.std.specs.Prelude.{option_map, option_and_then, bytes_eq, if◌then◌else◌}
use Rattle.std.specs.List.{range_with_len}
use Rattle.std.specs.Option.{option_or}
use Rattle.usuba_trees.specs.declared.BitOp.{BitOp}
use Rattle.usuba_trees.specs.declared.Def.{Def}
use Rattle.usuba_trees.specs.declared.Def.TheVariants as def
use Rattle.usuba_trees.specs.declared.ShiftKind.{ShiftKind}
use Rattle.usuba_model.specs.Cells.{Cell, same_cell, declared_cells}
use Rattle.usuba_model.specs.Names.{name_of}
use Rattle.usuba_model.specs.Shapes.{all_elements}
use Rattle.usuba_model.specs.Rounds.{Operators, Environment, Callees, both, whole, element_by_element, value_of, given, defined, rounds, outcome, element_at, definition_outcome, outcomes}
use Rattle.usuba_model.specs.Unrolled.{Expression, cells, number, nothing, joined, call, complement, operation, shift, refresh, Instance, left_cells, unrolled}

-- what is asked of the numbers in an expression
pub record Bounds : Type 1 where
  pub number_fits : ℕ → Type 0
  pub amount_fits : ℕ → Type 0
  pub refresh_fits : ℕ → Type 0
  pub table_fits : ℕ → List ℕ → Type 0

-- each number of an expression is as it is asked
abbrev pub FitsIn : Bounds → Expression → Type 0
FitsIn bounds (number value) = bounds.number_fits value
FitsIn bounds (cells read) = Unit {0}
FitsIn bounds nothing = Unit {0}
FitsIn bounds (joined a b) = FitsIn bounds a × FitsIn bounds b
FitsIn bounds (call name args) = FitsIn bounds args
FitsIn bounds (complement a) = FitsIn bounds a
FitsIn bounds (operation op a b) = FitsIn bounds a × FitsIn bounds b
FitsIn bounds (shift kind amount a) = bounds.amount_fits amount × FitsIn bounds a
FitsIn bounds (refresh k a) = bounds.refresh_fits k × FitsIn bounds a

-- each right side of some instances fits
abbrev pub AllFit : Bounds → List Instance → Type 0
AllFit bounds [] = Unit {0}
AllFit bounds (instance ∷ instances) = FitsIn bounds instance.right × AllFit bounds instances

-- a definition fits
abbrev pub DefinitionFits : Bounds → Def → Type 0
DefinitionFits bounds (def.Node node) = AllFit bounds (unrolled node)
DefinitionFits bounds (def.Table grid) = bounds.table_fits (all_elements grid.outputs) grid.entries
DefinitionFits bounds (def.Perm grid) = Unit {0}

-- each of some definitions fits
abbrev pub DefinitionsFit : Bounds → List Def → Type 0
DefinitionsFit bounds [] = Unit {0}
DefinitionsFit bounds (d ∷ rest) = DefinitionFits bounds d × DefinitionsFit bounds rest

-- two lists are related element by element
abbrev pub AllRelated : {V W : Type 0} → (V → W → Type 0) → List V → List W → Type 0
AllRelated R [] [] = Unit {0}
AllRelated R [] (y ∷ ys) = ⊥
AllRelated R (x ∷ xs) [] = ⊥
AllRelated R (x ∷ xs) (y ∷ ys) = R x y × AllRelated R xs ys

-- two optional values are both missing, or both there and related
abbrev pub Matched : {A B : Type 0} → (A → B → Type 0) → Option A → Option B → Type 0
Matched R None None = Unit {0}
Matched R None (Some b) = ⊥
Matched R (Some a) None = ⊥
Matched R (Some a) (Some b) = R a b

-- operators on two kinds of elements keep a relation between them
pub record Preserve {V W : Type 0} (bounds : Bounds) (R : V → W → Type 0) (a : Operators V) (b : Operators W) : Type 0 where
  pub numbers : (n : ℕ) → bounds.number_fits n → R (a.number_of n) (b.number_of n)
  pub complements : (x : V) (y : W) → R x y → R (a.complement_of x) (b.complement_of y)
  pub operations : (op : BitOp) (x x' : V) (y y' : W) → R x y → R x' y' → R (a.operation_of op x x') (b.operation_of op y y')
  pub shifts : (kind : ShiftKind) (k : ℕ) (x : V) (y : W) → bounds.amount_fits k → R x y → R (a.shift_of kind k x) (b.shift_of kind k y)
  pub refreshes : (k : ℕ) (x : V) (y : W) → bounds.refresh_fits k → R x y → R (a.refresh_of k x) (b.refresh_of k y)
  pub look_ups : (m : ℕ) (entries : List ℕ) (xs : List V) (ys : List W) (j : ℕ) → bounds.table_fits m entries
      → AllRelated R xs ys → R (a.look_up m entries xs j) (b.look_up m entries ys j)

module _ {V W : Type 0} (R : V → W → Type 0) where
  matched_or : (o o' : Option V) (p p' : Option W) → Matched R o p → Matched R o' p' → Matched R (option_or o o') (option_or p p')
  matched_or None o' None p' m m' = m'
  matched_or None o' (Some y) p' m m' = absurd m
  matched_or (Some x) o' None p' m m' = absurd m
  matched_or (Some x) o' (Some y) p' m m' = m

  matched_if : (b : Bool) (o o' : Option V) (p p' : Option W) → Matched R o p → Matched R o' p'
      → Matched R (if b then o else o') (if b then p else p')
  matched_if true o o' p p' m m' = m
  matched_if false o o' p p' m m' = m'

  related_append : (xs xs' : List V) (ys ys' : List W) → AllRelated R xs ys → AllRelated R xs' ys' → AllRelated R (xs ++ xs') (ys ++ ys')
  related_append [] xs' [] ys' r r' = r'
  related_append [] xs' (y ∷ ys) ys' r r' = absurd r
  related_append (x ∷ xs) xs' [] ys' r r' = absurd r
  related_append (x ∷ xs) xs' (y ∷ ys) ys' r r' = (r.0, related_append xs xs' ys ys' r.1 r')

  related_map : (f : V → V) (g : W → W) → ((x : V) (y : W) → R x y → R (f x) (g y)) → (xs : List V) (ys : List W)
      → AllRelated R xs ys → AllRelated R (map f xs) (map g ys)
  related_map f g keeps [] [] r = tt
  related_map f g keeps [] (y ∷ ys) r = absurd r
  related_map f g keeps (x ∷ xs) [] r = absurd r
  related_map f g keeps (x ∷ xs) (y ∷ ys) r = (keeps x y r.0, related_map f g keeps xs ys r.1)

  related_two : (f : V → V → V) (g : W → W → W) → ((x x' : V) (y y' : W) → R x y → R x' y' → R (f x x') (g y y'))
      → (xs xs' : List V) (ys ys' : List W) → AllRelated R xs ys → AllRelated R xs' ys'
      → AllRelated R (element_by_element f xs xs') (element_by_element g ys ys')
  related_two f g keeps [] xs' [] ys' r r' = tt
  related_two f g keeps [] xs' (y ∷ ys) ys' r r' = absurd r
  related_two f g keeps (x ∷ xs) xs' [] ys' r r' = absurd r
  related_two f g keeps (x ∷ xs) [] (y ∷ ys) [] r r' = tt
  related_two f g keeps (x ∷ xs) [] (y ∷ ys) (y' ∷ ys') r r' = absurd r'
  related_two f g keeps (x ∷ xs) (x' ∷ xs') (y ∷ ys) [] r r' = absurd r'
  related_two f g keeps (x ∷ xs) (x' ∷ xs') (y ∷ ys) (y' ∷ ys') r r' =
      (keeps x x' y y' r.0 r'.0, related_two f g keeps xs xs' ys ys' r.1 r'.1)

  -- values that are both there are joined to related ones
  matched_both : (f : List V → List V → List V) (g : List W → List W → List W)
      → ((xs xs' : List V) (ys ys' : List W) → AllRelated R xs ys → AllRelated R xs' ys' → AllRelated R (f xs xs') (g ys ys'))
      → (o o' : Option (List V)) (p p' : Option (List W)) → Matched (AllRelated R) o p → Matched (AllRelated R) o' p'
      → Matched (AllRelated R) (both f o o') (both g p p')
  matched_both f g keeps None o' None p' m m' = tt
  matched_both f g keeps None o' (Some y) p' m m' = absurd m
  matched_both f g keeps (Some x) o' None p' m m' = absurd m
  matched_both f g keeps (Some x) None (Some y) None m m' = tt
  matched_both f g keeps (Some x) None (Some y) (Some y') m m' = absurd m'
  matched_both f g keeps (Some x) (Some x') (Some y) None m m' = absurd m'
  matched_both f g keeps (Some x) (Some x') (Some y) (Some y') m m' = keeps x x' y y' m m'

  matched_map : (f : List V → List V) (g : List W → List W)
      → ((xs : List V) (ys : List W) → AllRelated R xs ys → AllRelated R (f xs) (g ys))
      → (o : Option (List V)) (p : Option (List W)) → Matched (AllRelated R) o p → Matched (AllRelated R) (option_map f o) (option_map g p)
  matched_map f g keeps None None m = tt
  matched_map f g keeps None (Some y) m = absurd m
  matched_map f g keeps (Some x) None m = absurd m
  matched_map f g keeps (Some x) (Some y) m = keeps x y m

  matched_then : (f : List V → Option (List V)) (g : List W → Option (List W))
      → ((xs : List V) (ys : List W) → AllRelated R xs ys → Matched (AllRelated R) (f xs) (g ys))
      → (o : Option (List V)) (p : Option (List W)) → Matched (AllRelated R) o p
      → Matched (AllRelated R) (option_and_then f o) (option_and_then g p)
  matched_then f g keeps None None m = tt
  matched_then f g keeps None (Some y) m = absurd m
  matched_then f g keeps (Some x) None m = absurd m
  matched_then f g keeps (Some x) (Some y) m = keeps x y m

  -- each of some optional elements
  matched_whole : (os : List (Option V)) (ps : List (Option W)) → AllRelated (Matched R) os ps → Matched (AllRelated R) (whole os) (whole ps)
  matched_whole [] [] r = tt
  matched_whole [] (p ∷ ps) r = absurd r
  matched_whole (o ∷ os) [] r = absurd r
  matched_whole (None ∷ os) (None ∷ ps) r = tt
  matched_whole (None ∷ os) (Some y ∷ ps) r = absurd r.0
  matched_whole (Some x ∷ os) (None ∷ ps) r = absurd r.0
  matched_whole (Some x ∷ os) (Some y ∷ ps) r = matched_cons x y r.0 (whole os) (whole ps) (matched_whole os ps r.1)
    where
      matched_cons : (x : V) (y : W) → R x y → (o : Option (List V)) (p : Option (List W)) → Matched (AllRelated R) o p
          → Matched (AllRelated R) (both (λ v vs. v ∷ vs) (Some x) o) (both (λ v vs. v ∷ vs) (Some y) p)
      matched_cons x y r None None m = tt
      matched_cons x y r None (Some ys) m = absurd m
      matched_cons x y r (Some xs) None m = absurd m
      matched_cons x y r (Some xs) (Some ys) m = (r, m)

  -- what related environments hold at some cells
  related_cells : (e : Environment V) (e' : Environment W) → ((c : Cell) → Matched R (e c) (e' c)) → (cs : List Cell)
      → AllRelated (Matched R) (map e cs) (map e' cs)
  related_cells e e' m [] = tt
  related_cells e e' m (c ∷ cs) = (m c, related_cells e e' m cs)

  related_given : (cs : List Cell) (xs : List V) (ys : List W) → AllRelated R xs ys → (cell : Cell) → Matched R (given cs xs cell) (given cs ys cell)
  related_given [] xs ys r cell = tt
  related_given (c ∷ cs) [] [] r cell = tt
  related_given (c ∷ cs) [] (y ∷ ys) r cell = absurd r
  related_given (c ∷ cs) (x ∷ xs) [] r cell = absurd r
  related_given (c ∷ cs) (x ∷ xs) (y ∷ ys) r cell =
      matched_if (same_cell cell c) (Some x) (given cs xs cell) (Some y) (given cs ys cell) r.0 (related_given cs xs ys r.1 cell)

  related_at : (xs : List V) (ys : List W) → AllRelated R xs ys → (k : ℕ) → Matched R (element_at xs k) (element_at ys k)
  related_at [] [] r k = tt
  related_at [] (y ∷ ys) r k = absurd r
  related_at (x ∷ xs) [] r k = absurd r
  related_at (x ∷ xs) (y ∷ ys) r zero = r.0
  related_at (x ∷ xs) (y ∷ ys) r (suc k) = related_at xs ys r.1 k

  related_entries : (xs : List V) (ys : List W) → AllRelated R xs ys → (entries : List ℕ)
      → AllRelated (Matched R) (map (λ entry. element_at xs (entry - 1)) entries) (map (λ entry. element_at ys (entry - 1)) entries)
  related_entries xs ys r [] = tt
  related_entries xs ys r (entry ∷ entries) = (related_at xs ys r (entry - 1), related_entries xs ys r entries)

-- the outcomes of one source, where the operators keep the relation
module _ {V W : Type 0} (bounds : Bounds) (R : V → W → Type 0) (a : Operators V) (b : Operators W) (keeps : Preserve bounds R a b) where
  -- what definitions make of related inputs is related
  abbrev MatchedCallees : Callees V → Callees W → Type 0
  MatchedCallees f g = (name : List ℕ) (xs : List V) (ys : List W) → AllRelated R xs ys → Matched (AllRelated R) (f name xs) (g name ys)

  abbrev MatchedEnvironments : Environment V → Environment W → Type 0
  MatchedEnvironments e e' = (cell : Cell) → Matched R (e cell) (e' cell)

  related_values : (f : Callees V) (g : Callees W) → MatchedCallees f g → (e : Environment V) (e' : Environment W) → MatchedEnvironments e e'
      → (x : Expression) → FitsIn bounds x → Matched (AllRelated R) (value_of a f e x) (value_of b g e' x)
  related_values f g m e e' r (number value) fits = (keeps.numbers value fits, tt)
  related_values f g m e e' r (cells read) fits = matched_whole R (map e read) (map e' read) (related_cells R e e' r read)
  related_values f g m e e' r nothing fits = tt
  related_values f g m e e' r (joined x y) fits =
      matched_both R (λ xs ys. xs ++ ys) (λ xs ys. xs ++ ys) (λ xs xs' ys ys' s s'. related_append R xs xs' ys ys' s s')
      (value_of a f e x) (value_of a f e y) (value_of b g e' x) (value_of b g e' y)
      (related_values f g m e e' r x fits.0) (related_values f g m e e' r y fits.1)
  related_values f g m e e' r (call name args) fits =
      matched_then R (f name) (g name) (m name) (value_of a f e args) (value_of b g e' args) (related_values f g m e e' r args fits)
  related_values f g m e e' r (complement x) fits =
      matched_map R (map a.complement_of) (map b.complement_of) (related_map R a.complement_of b.complement_of keeps.complements)
      (value_of a f e x) (value_of b g e' x) (related_values f g m e e' r x fits)
  related_values f g m e e' r (operation op x y) fits =
      matched_both R (element_by_element (a.operation_of op)) (element_by_element (b.operation_of op))
      (related_two R (a.operation_of op) (b.operation_of op) (keeps.operations op))
      (value_of a f e x) (value_of a f e y) (value_of b g e' x) (value_of b g e' y)
      (related_values f g m e e' r x fits.0) (related_values f g m e e' r y fits.1)
  related_values f g m e e' r (shift kind k x) fits =
      matched_map R (map (a.shift_of kind k)) (map (b.shift_of kind k))
      (related_map R (a.shift_of kind k) (b.shift_of kind k) (λ v w. keeps.shifts kind k v w fits.0))
      (value_of a f e x) (value_of b g e' x) (related_values f g m e e' r x fits.1)
  related_values f g m e e' r (refresh k x) fits =
      matched_map R (map (a.refresh_of k)) (map (b.refresh_of k))
      (related_map R (a.refresh_of k) (b.refresh_of k) (λ v w. keeps.refreshes k v w fits.0))
      (value_of a f e x) (value_of b g e' x) (related_values f g m e e' r x fits.1)

  -- elements that are found at a cell
  matched_find : (f : List V → Option V) (g : List W → Option W) → ((xs : List V) (ys : List W) → AllRelated R xs ys → Matched R (f xs) (g ys))
      → (o : Option (List V)) (p : Option (List W)) → Matched (AllRelated R) o p → Matched R (option_and_then f o) (option_and_then g p)
  matched_find f g keeps None None m = tt
  matched_find f g keeps None (Some y) m = absurd m
  matched_find f g keeps (Some x) None m = absurd m
  matched_find f g keeps (Some x) (Some y) m = keeps x y m

  related_defined : (f : Callees V) (g : Callees W) → MatchedCallees f g → (e : Environment V) (e' : Environment W) → MatchedEnvironments e e'
      → (instances : List Instance) → AllFit bounds instances → MatchedEnvironments (defined a f e instances) (defined b g e' instances)
  related_defined f g m e e' r [] fits cell = tt
  related_defined f g m e e' r (instance ∷ instances) fits cell =
      matched_or R
      (option_and_then (λ elements. given (left_cells instance) elements cell) (value_of a f e instance.right))
      (defined a f e instances cell)
      (option_and_then (λ elements. given (left_cells instance) elements cell) (value_of b g e' instance.right))
      (defined b g e' instances cell)
      (matched_find (λ elements. given (left_cells instance) elements cell) (λ elements. given (left_cells instance) elements cell)
      (λ xs ys s. related_given R (left_cells instance) xs ys s cell)
      (value_of a f e instance.right) (value_of b g e' instance.right)
      (related_values f g m e e' r instance.right fits.0))
      (related_defined f g m e e' r instances fits.1 cell)

  related_rounds : (f : Callees V) (g : Callees W) → MatchedCallees f g → (instances : List Instance) → AllFit bounds instances
      → (n : ℕ) (e : Environment V) (e' : Environment W) → MatchedEnvironments e e'
      → MatchedEnvironments (rounds a f instances n e) (rounds b g instances n e')
  related_rounds f g m instances fits zero e e' r cell = r cell
  related_rounds f g m instances fits (suc n) e e' r cell =
      matched_or R
      (rounds a f instances n e cell)
      (defined a f (rounds a f instances n e) instances cell)
      (rounds b g instances n e' cell)
      (defined b g (rounds b g instances n e') instances cell)
      (related_rounds f g m instances fits n e e' r cell)
      (related_defined f g m (rounds a f instances n e) (rounds b g instances n e') (related_rounds f g m instances fits n e e' r) instances fits cell)

  related_outcome : (f : Callees V) (g : Callees W) → MatchedCallees f g → (instances : List Instance) → AllFit bounds instances
      → (inputs : List Cell) (xs : List V) (ys : List W) → AllRelated R xs ys → (outputs : List Cell)
      → Matched (AllRelated R) (outcome a f instances inputs xs outputs) (outcome b g instances inputs ys outputs)
  related_outcome f g m instances fits inputs xs ys r outputs =
      let e : Environment V = rounds a f instances (length instances) (given inputs xs) in
      let e' : Environment W = rounds b g instances (length instances) (given inputs ys) in
      matched_whole R (map e outputs) (map e' outputs)
      (related_cells R e e'
      (related_rounds f g m instances fits (length instances) (given inputs xs) (given inputs ys) (related_given R inputs xs ys r)) outputs)

  related_look_ups : (m : ℕ) (entries : List ℕ) → bounds.table_fits m entries → (xs : List V) (ys : List W) → AllRelated R xs ys
      → (js : List ℕ) → AllRelated R (map (a.look_up m entries xs) js) (map (b.look_up m entries ys) js)
  related_look_ups m entries fits xs ys r [] = tt
  related_look_ups m entries fits xs ys r (j ∷ js) =
      (keeps.look_ups m entries xs ys j fits r, related_look_ups m entries fits xs ys r js)

  related_definition : (f : Callees V) (g : Callees W) → MatchedCallees f g → (d : Def) → DefinitionFits bounds d
      → (xs : List V) (ys : List W) → AllRelated R xs ys → Matched (AllRelated R) (definition_outcome a f d xs) (definition_outcome b g d ys)
  related_definition f g m (def.Node node) fits xs ys r =
      related_outcome f g m (unrolled node) fits (declared_cells node.inputs) xs ys r (declared_cells node.outputs)
  related_definition f g m (def.Table grid) fits xs ys r =
      related_look_ups (all_elements grid.outputs) grid.entries fits xs ys r (range_with_len 0 (all_elements grid.outputs))
  related_definition f g m (def.Perm grid) fits xs ys r =
      matched_whole R (map (λ entry. element_at xs (entry - 1)) grid.entries) (map (λ entry. element_at ys (entry - 1)) grid.entries)
      (related_entries R xs ys r grid.entries)

  matched_choice : (c : Bool) (o o' : Option (List V)) (p p' : Option (List W)) → Matched (AllRelated R) o p → Matched (AllRelated R) o' p'
      → Matched (AllRelated R) (if c then o else o') (if c then p else p')
  matched_choice true o o' p p' m m' = m
  matched_choice false o o' p p' m m' = m'

  -- what definitions make of related elements is related
  pub related_outcomes : (defs : List Def) → DefinitionsFit bounds defs → MatchedCallees (outcomes a defs) (outcomes b defs)
  related_outcomes [] fits name xs ys r = tt
  related_outcomes (d ∷ earlier) fits name xs ys r =
      matched_choice (bytes_eq (name_of d).text name)
      (definition_outcome a (outcomes a earlier) d xs) (outcomes a earlier name xs)
      (definition_outcome b (outcomes b earlier) d ys) (outcomes b earlier name ys)
      (related_definition (outcomes a earlier) (outcomes b earlier) (related_outcomes earlier fits.1) d fits.0 xs ys r)
      (related_outcomes earlier fits.1 name xs ys r)
