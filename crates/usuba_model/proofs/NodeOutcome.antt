-- A node whose instances are well sized and become ready, and whose outputs are assigned, has an outcome of its size.
use Rattle.std.proofs.Common.{◌≡◌, ◌<◌, inl, inr, ℕ, zero, suc, Bool, true, false, not, ◌||◌, List, [], ◌∷◌, ◌++◌, length, map, Some, refl, sym, ap, ◌∙◌, subst, arith}
use Rattle.std.specs.List.{list_any, range_with_len}
use Rattle.std.proofs.lemmas.List.{length-append, length-map}
use Rattle.std.proofs.lemmas.List.Folds.{list_any-append}
use Rattle.std.proofs.lemmas.List.FromFn.{length-range_with_len}
use Rattle.usuba_trees.specs.declared.Decl.{Decl}
use Rattle.usuba_trees.specs.declared.Node.{Node}
use Rattle.usuba_model.specs.Assignments.{assigned_cells, is_ready, known_after, variable_cells, output_finding, unassigned_in, cyclic_in, first_target}
use Rattle.usuba_model.specs.Cells.{Cell, same_cell, is_among, cells_of, declared_cells}
use Rattle.usuba_model.specs.Rounds.{Operators, Environment, Callees, given, rounds, node_outcome}
use Rattle.usuba_model.specs.Shapes.{elements, all_elements}
use Rattle.usuba_model.specs.Unrolled.{Instance, left_cells, unrolled}
use Rattle.usuba_model.specs.Walk.{Signature}
use Rattle.usuba_model.proofs.CellLemmas.{false_true, given_all, among_defined}
use Rattle.usuba_model.proofs.Knowing.{NoneHold, none_first, AllKnow}
use Rattle.usuba_model.proofs.NodeSizing.{AllFits}
use Rattle.usuba_model.proofs.Ordering.{IsIn}
use Rattle.usuba_model.proofs.Reaching.{AreSized, ready_assigned}
use Rattle.usuba_model.proofs.Stability.{ready_before}
use Rattle.usuba_model.proofs.Valuing.{AreTotal, AllDefined, whole_defined}

-- instances that fit and whose calls are known are well sized
pub sized_from : (w : ℕ) (some_width : 0 < w) (known : List (List ℕ)) (signatures : List Signature) (declared : List Decl)
    (names : List (List ℕ)) (instances : List Instance)
    → AllFits w some_width signatures declared instances → AllKnow known names declared instances → AreSized w known signatures instances
sized_from w some_width known signatures declared names [] fits knows = tt
sized_from w some_width known signatures declared names (i ∷ instances) fits knows = (
  record { right = fits.0.0; calls = knows.0; sizes = fits.0.1 },
  sized_from w some_width known signatures declared names instances fits.1 knows.1,
)

length-declared_cells : (declared : List Decl) → length (declared_cells declared) ≡ all_elements declared
length-declared_cells [] = refl
length-declared_cells (d ∷ rest) =
    let here : length (cells_of d.name.text (range_with_len 0 (elements d))) ≡ elements d
    = length-map (range_with_len 0 (elements d)) (λ number. record { name = d.name.text; element = number })
    ∙ length-range_with_len 0 (elements d) in
    let more = length-declared_cells rest in
    length-append (cells_of d.name.text (range_with_len 0 (elements d))) (declared_cells rest) ∙ omega (arith, here, more)

-- a cell that some instance assigns is a left cell of one
assigned_by : (instances : List Instance) (c : Cell) → is_among (assigned_cells instances) c ≡ true
    → (i : Instance) × IsIn i instances × (is_among (left_cells i) c ≡ true)
assigned_by [] c m = false_true m
assigned_by (i ∷ instances) c m =
    of_it (is_among (left_cells i) c) refl (sym (list_any-append (same_cell c) (left_cells i) (assigned_cells instances)) ∙ m)
    (λ later. let found = assigned_by instances c later in (found.0, inr found.1, found.2))
  where
    of_it : (b : Bool) → is_among (left_cells i) c ≡ b → (is_among (left_cells i) c || is_among (assigned_cells instances) c) ≡ true
        → (is_among (assigned_cells instances) c ≡ true → (j : Instance) × IsIn j (i ∷ instances) × (is_among (left_cells j) c ≡ true))
        → (j : Instance) × IsIn j (i ∷ instances) × (is_among (left_cells j) c ≡ true)
    of_it true is e later = (i, inl refl, is)
    of_it false is e later = later (sym (ap (λ (b : Bool). b || is_among (assigned_cells instances) c) is) ∙ e)

-- where no finding of the cyclic ones holds, each instance becomes ready
all_ready : (known : List Cell) (instances : List Instance)
    → NoneHold (map (λ instance. record { place = first_target instance.targets; holds = not (is_ready known instance) }) instances)
    → (i : Instance) → IsIn i instances → is_ready known i ≡ true
all_ready known [] none i h = absurd h
all_ready known (j ∷ instances) none i (inl same) = subst (λ k. is_ready known k ≡ true) same (doubled (is_ready known j) none.0)
  where
    doubled : (b : Bool) → not b ≡ false → b ≡ true
    doubled true e = refl
    doubled false e = false_true (sym e)
all_ready known (j ∷ instances) none i (inr h) = all_ready known instances none.1 i h

-- each cell of some is assigned
abbrev AllAssigned : List Cell → List Cell → Type 0
AllAssigned assigned [] = Unit {0}
AllAssigned assigned (c ∷ cs) = (is_among assigned c ≡ true) × AllAssigned assigned cs

none_unassigned : (assigned : List Cell) (cs : List Cell) → list_any (λ cell. not (is_among assigned cell)) cs ≡ false → AllAssigned assigned cs
none_unassigned assigned [] e = tt
none_unassigned assigned (c ∷ cs) e =
    let parts = neither (is_among assigned c) (list_any (λ cell. not (is_among assigned cell)) cs) e in
    (parts.0, none_unassigned assigned cs parts.1)
  where
    neither : (p q : Bool) → (not p || q) ≡ false → (p ≡ true) × (q ≡ false)
    neither true q e = (refl, e)
    neither false q e = false_true (sym e)

assigned_append : (assigned a b : List Cell) → AllAssigned assigned a → AllAssigned assigned b → AllAssigned assigned (a ++ b)
assigned_append assigned [] b p q = q
assigned_append assigned (c ∷ a) b p q = (p.0, assigned_append assigned a b p.1 q)

outputs_assigned : (assigned : List Cell) (outputs : List Decl) → NoneHold (map (output_finding assigned) outputs) → AllAssigned assigned (declared_cells outputs)
outputs_assigned assigned [] none = tt
outputs_assigned assigned (d ∷ outputs) none =
    assigned_append assigned (variable_cells d) (declared_cells outputs) (none_unassigned assigned (variable_cells d) none.0)
    (outputs_assigned assigned outputs none.1)

module _ {V : Type 0} (w : ℕ) (known : List (List ℕ)) (signatures : List Signature) (operators : Operators V) (callees : Callees V)
    (total : AreTotal known signatures callees) where
  -- the assigned cells are defined after as many rounds as there are instances
  assigned_defined : (instances : List Instance) → AreSized w known signatures instances → (inputs : List Cell) (e0 : Environment V)
      → AllDefined e0 inputs
      → ((i : Instance) → IsIn i instances → is_ready (known_after instances (length instances) inputs) i ≡ true)
      → (n : ℕ) → length instances ≡ n → (c : Cell) → is_among (assigned_cells instances) c ≡ true
      → (v : V) × (rounds operators callees instances n e0 c ≡ Some v)
  assigned_defined instances sized inputs e0 d ready zero len c m =
      let found = assigned_by instances c m in absurd (none_in instances len found.0 found.1)
    where
      none_in : (instances : List Instance) → length instances ≡ 0 → (i : Instance) → IsIn i instances → ⊥
      none_in [] len i h = h
      none_in (j ∷ instances) len i h = absurd (omega (arith, len))
  assigned_defined instances sized inputs e0 d ready (suc n) len c m =
      let found = assigned_by instances c m in
      let ready' : (i : Instance) → IsIn i instances → is_ready (known_after instances (suc n) inputs) i ≡ true
      = subst (λ k. (i : Instance) → IsIn i instances → is_ready (known_after instances k inputs) i ≡ true) len ready in
      let left = ready_assigned w known signatures operators callees total instances sized inputs e0 d n instances (λ i h. h) sized
      (ready_before instances inputs n len ready') found.0 found.1 in
      among_defined (rounds operators callees instances (suc n) e0) (left_cells found.0) left c found.2

  cells_defined : (e : Environment V) (assigned : List Cell) → ((c : Cell) → is_among assigned c ≡ true → (v : V) × (e c ≡ Some v))
      → (cs : List Cell) → AllAssigned assigned cs → AllDefined e cs
  cells_defined e assigned d [] m = tt
  cells_defined e assigned d (c ∷ cs) m = (d c m.0, cells_defined e assigned d cs m.1)

  -- a node answers elements for its inputs by as many elements as it has outputs
  pub node_total : (node : Node) → AreSized w known signatures (unrolled node) → NoneHold (unassigned_in node) → NoneHold (cyclic_in node)
      → (xs : List V) → length xs ≡ all_elements node.inputs
      → (ys : List V) × (node_outcome operators callees node xs ≡ Some ys) × (length ys ≡ all_elements node.outputs)
  node_total node sized unassigned cyclic xs len =
      let instances = unrolled node in
      let inputs = declared_cells node.inputs in
      let assigned = assigned_cells instances in
      let known' = known_after instances (length instances) inputs in
      let start : AllDefined (given inputs xs) inputs = given_all inputs xs (len ∙ sym (length-declared_cells node.inputs)) in
      let end : Environment V = rounds operators callees instances (length instances) (given inputs xs) in
      let defined = assigned_defined instances sized inputs (given inputs xs) start (all_ready known' instances cyclic) (length instances) refl in
      let outputs = outputs_assigned assigned node.outputs (none_first (map (output_finding assigned) node.outputs) _ unassigned) in
      let answer = whole_defined end (declared_cells node.outputs) (cells_defined end assigned defined (declared_cells node.outputs) outputs) in
      (answer.0, answer.1, answer.2 ∙ length-declared_cells node.outputs)
