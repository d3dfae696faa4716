-- The findings over numbered cells are those over named cells.
use Rattle.std.proofs.Common.{◌≡◌, ◌<◌, ◌≤◌, ◌+◌, ℕ, zero, suc, Bool, true, false, not, ◌||◌, ◌&&◌, List, [], ◌∷◌, ◌++◌, length, map, refl, sym, ap, ◌∙◌, subst, arith, append_assoc, append-nil}
use Rattle.std.specs.Prelude.{if◌then◌else◌, flat_map}
use Rattle.std.specs.List.{list_any, list_all, range_with_len}
use Rattle.std.proofs.lemmas.Bool.{and_parts, and_from}
use Rattle.std.proofs.lemmas.List.{map-append, length-map}
use Rattle.std.proofs.lemmas.List.Folds.{list_all-append}
use Rattle.usuba_trees.specs.declared.Decl.{Decl}
use Rattle.usuba_trees.specs.declared.Node.{Node}
use Rattle.usuba_model.specs.Assignments.{holds_again, assigned_again, twice_in, cells_read, assigned_cells, read_cells, variable_cells, output_finding, local_finding, unassigned_in, is_ready, made_ready, known_after, first_target, cyclic_in}
use Rattle.usuba_model.specs.Cells.{Cell, is_among, cells_of, declared_cells}
use Rattle.usuba_model.specs.Faults.{Finding}
use Rattle.usuba_model.specs.Numbers.{cell_number, is_declared, AreDistinct}
use Rattle.usuba_model.specs.Shapes.{elements, all_elements}
use Rattle.usuba_model.specs.Unrolled.{Target, Instance, left_cells, target_cells, declarations, unrolled}
use Rattle.usuba_model.specs.Walk.{Signature}
use Rattle.usuba_code.proofs.Numbering.{input_numbers as node_inputs}
use Rattle.usuba_code.specs.Code.{Assigned, assigned, coded, coded_node}
use Rattle.ready_order.specs.Numbered.{is_one_of, left_numbers, all_targets, read_numbers, holds_number_again, numbers_again, twice_numbered, lacks_assigned, lacks_read, outputs_numbered, locals_numbered, is_ready_numbered, numbers_made, numbers_after, first_place, stuck_finding, cyclic_numbered}
use Rattle.ready_order.specs.NumberedLaws.{unassigned_numbered, NumberedFindings}
use Rattle.ready_order.proofs.CodedNumbers.{AreDeclared, among_numbers, code_numbers, left_cells_numbers, assigned_cells_numbers, read_cells_all_numbers, all_below, own_number, own_declared}
use Rattle.ready_order.proofs.Declared.{AllDeclared, all_join, node_declared}

all_cut : (declared : List Decl) (a b : List Cell) → AllDeclared declared (a ++ b) → AllDeclared declared a × AllDeclared declared b
all_cut declared a b p =
    and_parts (list_all (is_declared declared) a) (list_all (is_declared declared) b) (sym (list_all-append (is_declared declared) a b) ∙ p)

module _ (declared : List Decl) where
  abbrev numbered : List Cell → List ℕ
  numbered cells = map (cell_number declared) cells

  -- TWICE

  again_same : (taken cells : List Cell) → AllDeclared declared taken → AllDeclared declared cells
      → holds_number_again (numbered taken) (numbered cells) ≡ holds_again taken cells
  again_same taken [] t p = refl
  again_same taken (c ∷ cells) t p =
      let parts = and_parts (is_declared declared c) (list_all (is_declared declared) cells) p in
      ap (λ (b : Bool). b || holds_number_again (numbered (c ∷ taken)) (numbered cells)) (among_numbers declared taken c t parts.0)
      ∙ ap (λ (b : Bool). is_among taken c || b)
      (again_same (c ∷ taken) cells (and_from (is_declared declared c) (list_all (is_declared declared) taken) parts.0 t) parts.1)

  pub numbers_again_same : (targets : List Target) (taken : List Cell) → AllDeclared declared taken → AllDeclared declared (target_cells targets)
      → numbers_again (numbered taken) (map (assigned declared) targets) ≡ assigned_again taken targets
  numbers_again_same [] taken t p = refl
  numbers_again_same (target ∷ targets) taken t p =
      let parts = all_cut declared target.cells (target_cells targets) p in
      ap (λ (b : Bool). record { place = target.name.place; holds = b } ∷ numbers_again (numbered target.cells ++ numbered taken) (map (assigned declared) targets))
      (again_same taken target.cells t parts.0)
      ∙ ap (λ (ns : List ℕ). record { place = target.name.place; holds = holds_again taken target.cells } ∷ numbers_again ns (map (assigned declared) targets))
      (sym (map-append (cell_number declared) target.cells taken))
      ∙ ap (λ (fs : List Finding). record { place = target.name.place; holds = holds_again taken target.cells } ∷ fs)
      (numbers_again_same targets (target.cells ++ taken) (all_join declared target.cells taken parts.0 t) parts.1)

  all_targets_same : (signatures : List Signature) (instances : List Instance)
      → all_targets (map (coded signatures declared) instances) ≡ map (assigned declared) (flat_map (λ instance. instance.targets) instances)
  all_targets_same signatures [] = refl
  all_targets_same signatures (i ∷ instances) =
      ap (λ (ts : List Assigned). map (assigned declared) i.targets ++ ts) (all_targets_same signatures instances)
      ∙ sym (map-append (assigned declared) i.targets (flat_map (λ instance. instance.targets) instances))

  target_cells-append : (a b : List Target) → target_cells (a ++ b) ≡ target_cells a ++ target_cells b
  target_cells-append [] b = refl
  target_cells-append (t ∷ a) b =
      ap (λ (cs : List Cell). t.cells ++ cs) (target_cells-append a b) ∙ sym (append_assoc t.cells (target_cells a) (target_cells b))

  all_target_cells : (instances : List Instance) → target_cells (flat_map (λ instance. instance.targets) instances) ≡ assigned_cells instances
  all_target_cells [] = refl
  all_target_cells (i ∷ instances) =
      target_cells-append i.targets (flat_map (λ instance. instance.targets) instances)
      ∙ ap (λ (cs : List Cell). left_cells i ++ cs) (all_target_cells instances)

  -- CYCLIC

  ready_same : (signatures : List Signature) (known : List Cell) (i : Instance) → AllDeclared declared known → AllDeclared declared (cells_read i.right)
      → is_ready_numbered (numbered known) (coded signatures declared i) ≡ is_ready known i
  ready_same signatures known i k p =
      ap (λ (ns : List ℕ). list_all (is_one_of (numbered known)) ns) (code_numbers signatures declared i.right) ∙ each (cells_read i.right) p
    where
      each : (cells : List Cell) → AllDeclared declared cells → list_all (is_one_of (numbered known)) (numbered cells) ≡ list_all (is_among known) cells
      each [] p = refl
      each (c ∷ cells) p =
          let parts = and_parts (is_declared declared c) (list_all (is_declared declared) cells) p in
          ap (λ (b : Bool). b && list_all (is_one_of (numbered known)) (numbered cells)) (among_numbers declared known c k parts.0)
          ∙ ap (λ (b : Bool). is_among known c && b) (each cells parts.1)

  made_same : (signatures : List Signature) (known : List Cell) (instances : List Instance) → AllDeclared declared known → AllDeclared declared (read_cells instances)
      → numbers_made (numbered known) (map (coded signatures declared) instances) ≡ numbered (made_ready known instances)
  made_same signatures known [] k p = refl
  made_same signatures known (i ∷ instances) k p =
      let parts = all_cut declared (cells_read i.right) (read_cells instances) p in
      let rest = numbers_made (numbered known) (map (coded signatures declared) instances) in
      ap (λ (b : Bool). if b then left_numbers (coded signatures declared i) ++ rest else rest) (ready_same signatures known i k parts.0)
      ∙ at_first (is_ready known i) (made_same signatures known instances k parts.1)
    where
      at_first : (b : Bool) → numbers_made (numbered known) (map (coded signatures declared) instances) ≡ numbered (made_ready known instances)
          → (if b then left_numbers (coded signatures declared i) ++ numbers_made (numbered known) (map (coded signatures declared) instances)
          else numbers_made (numbered known) (map (coded signatures declared) instances))
          ≡ numbered (if b then left_cells i ++ made_ready known instances else made_ready known instances)
      at_first true e =
          ap (λ (ns : List ℕ). ns ++ numbers_made (numbered known) (map (coded signatures declared) instances)) (left_cells_numbers signatures declared i)
          ∙ ap (λ (ns : List ℕ). numbered (left_cells i) ++ ns) e
          ∙ sym (map-append (cell_number declared) (left_cells i) (made_ready known instances))
      at_first false e = e

  made_declared : (known : List Cell) (instances : List Instance) → AllDeclared declared (assigned_cells instances)
      → AllDeclared declared (made_ready known instances)
  made_declared known [] p = refl
  made_declared known (i ∷ instances) p =
      let parts = all_cut declared (left_cells i) (assigned_cells instances) p in
      at_first (is_ready known i) parts.0 (made_declared known instances parts.1)
    where
      at_first : (b : Bool) → AllDeclared declared (left_cells i) → AllDeclared declared (made_ready known instances)
          → AllDeclared declared (if b then left_cells i ++ made_ready known instances else made_ready known instances)
      at_first true here rest = all_join declared (left_cells i) (made_ready known instances) here rest
      at_first false here rest = rest

  after_declared : (instances : List Instance) (n : ℕ) (known : List Cell) → AllDeclared declared (assigned_cells instances) → AllDeclared declared known
      → AllDeclared declared (known_after instances n known)
  after_declared instances zero known p k = k
  after_declared instances (suc n) known p k =
      let before = known_after instances n known in
      all_join declared (made_ready before instances) before (made_declared before instances p) (after_declared instances n known p k)

  after_same : (signatures : List Signature) (instances : List Instance) (n : ℕ) (known : List Cell) → AreDeclared declared instances → AllDeclared declared known
      → numbers_after (map (coded signatures declared) instances) n (numbered known) ≡ numbered (known_after instances n known)
  after_same signatures instances zero known p k = refl
  after_same signatures instances (suc n) known p k =
      let before = known_after instances n known in
      let made : List ℕ → List ℕ = λ ns. numbers_made ns (map (coded signatures declared) instances) ++ ns in
      ap made (after_same signatures instances n known p k)
      ∙ ap (λ (ns : List ℕ). ns ++ numbered before)
      (made_same signatures before instances (after_declared instances n known p.assigned k) p.read)
      ∙ sym (map-append (cell_number declared) (made_ready before instances) before)

  place_same : (targets : List Target) → first_place (map (assigned declared) targets) ≡ first_target targets
  place_same [] = refl
  place_same (t ∷ targets) = refl

  stuck_same : (signatures : List Signature) (known : List Cell) (instances : List Instance) → AllDeclared declared known → AllDeclared declared (read_cells instances)
      → map (stuck_finding (numbered known)) (map (coded signatures declared) instances)
      ≡ map (λ instance. record { place = first_target instance.targets; holds = not (is_ready known instance) }) instances
  stuck_same signatures known [] k p = refl
  stuck_same signatures known (i ∷ instances) k p =
      let parts = all_cut declared (cells_read i.right) (read_cells instances) p in
      let others = map (stuck_finding (numbered known)) (map (coded signatures declared) instances) in
      ap (λ (b : Bool). record { place = first_place (map (assigned declared) i.targets); holds = not b } ∷ others)
      (ready_same signatures known i k parts.0)
      ∙ ap (λ place. record { place = place; holds = not (is_ready known i) } ∷ others) (place_same i.targets)
      ∙ ap (λ (fs : List Finding). record { place = first_target i.targets; holds = not (is_ready known i) } ∷ fs)
      (stuck_same signatures known instances k parts.1)

  pub cyclic_same : (signatures : List Signature) (inputs : List Cell) (count : ℕ) (instances : List Instance) → AreDeclared declared instances
      → AllDeclared declared inputs → numbered inputs ≡ range_with_len 0 count
      → cyclic_numbered count (map (coded signatures declared) instances)
      ≡ map (λ instance. record { place = first_target instance.targets; holds = not (is_ready (known_after instances (length instances) inputs) instance) }) instances
  cyclic_same signatures inputs count instances p k e =
      let all = map (coded signatures declared) instances in
      ap (λ (ns : List ℕ). map (stuck_finding (numbers_after all (length all) ns)) all) (sym e)
      ∙ ap (λ (n : ℕ). map (stuck_finding (numbers_after all n (numbered inputs))) all) (length-map instances (coded signatures declared))
      ∙ ap (λ (ns : List ℕ). map (stuck_finding ns) all) (after_same signatures instances (length instances) inputs p k)
      ∙ stuck_same signatures (known_after instances (length instances) inputs) instances
      (after_declared instances (length instances) inputs p.assigned k) p.read

  -- UNASSIGNED

  -- a test of the elements of one variable is the test of their numbers
  any_range : (p : Cell → Bool) (name : List ℕ) (q : ℕ → Bool) (n from start : ℕ)
      → ((e : ℕ) → e < n → p (record { name = name; element = from + e }) ≡ q (start + e))
      → list_any p (cells_of name (range_with_len from n)) ≡ list_any q (range_with_len start n)
  any_range p name q zero from start same = refl
  any_range p name q (suc n) from start same =
      let none : from ≡ from + 0 = omega arith in
      let none' : start + 0 ≡ start = omega arith in
      ap (λ (b : Bool). b || list_any p (cells_of name (range_with_len (from + 1) n)))
      (ap (λ (k : ℕ). p (record { name = name; element = k })) none ∙ same 0 (omega arith) ∙ ap q none')
      ∙ ap (λ (b : Bool). q start || b)
      (any_range p name q n (from + 1) (start + 1)
      (λ e h. let next : from + 1 + e ≡ from + (e + 1) = omega arith in
      let next' : start + (e + 1) ≡ start + 1 + e = omega arith in
      ap (λ (k : ℕ). p (record { name = name; element = k })) next ∙ same (e + 1) (omega (arith, h)) ∙ ap q next'))

  own_same : (before : List Decl) (d : Decl) (after : List Decl) → declared ≡ before ++ d ∷ after → AreDistinct declared
      → (some : List Cell) → AllDeclared declared some → (e : ℕ) → e < elements d
      → is_among some (record { name = d.name.text; element = 0 + e }) ≡ is_one_of (numbered some) (all_elements before + e)
  own_same before d after at distinct some p e h =
      let none : 0 + e ≡ e = omega arith in
      let own : Cell = record { name = d.name.text; element = e } in
      let distinct' : AreDistinct (before ++ d ∷ after) = subst AreDistinct at distinct in
      let mine : is_declared declared own ≡ true
      = ap (λ (ds : List Decl). is_declared ds own) at ∙ own_declared before d after distinct' e h in
      let number : cell_number declared own ≡ all_elements before + e
      = ap (λ (ds : List Decl). cell_number ds own) at ∙ own_number before d after distinct' e in
      ap (λ (k : ℕ). is_among some (record { name = d.name.text; element = k })) none
      ∙ sym (among_numbers declared some own p mine)
      ∙ ap (is_one_of (numbered some)) number

  output_same : (before : List Decl) (d : Decl) (after : List Decl) → declared ≡ before ++ d ∷ after → AreDistinct declared
      → (assigned_here : List Cell) → AllDeclared declared assigned_here
      → lacks_assigned (is_one_of (numbered assigned_here)) (all_elements before) (elements d)
      ≡ list_any (λ cell. not (is_among assigned_here cell)) (variable_cells d)
  output_same before d after at distinct assigned_here p =
      sym (any_range (λ cell. not (is_among assigned_here cell)) d.name.text
      (λ cell. not (is_one_of (numbered assigned_here) cell)) (elements d) 0 (all_elements before)
      (λ e h. ap not (own_same before d after at distinct assigned_here p e h)))

  local_same : (before : List Decl) (d : Decl) (after : List Decl) → declared ≡ before ++ d ∷ after → AreDistinct declared
      → (assigned_here read_here : List Cell) → AllDeclared declared assigned_here → AllDeclared declared read_here
      → lacks_read (is_one_of (numbered assigned_here)) (is_one_of (numbered read_here)) (all_elements before) (elements d)
      ≡ list_any (λ cell. is_among read_here cell && not (is_among assigned_here cell)) (variable_cells d)
  local_same before d after at distinct assigned_here read_here p r =
      sym (any_range (λ cell. is_among read_here cell && not (is_among assigned_here cell)) d.name.text
      (λ cell. is_one_of (numbered read_here) cell && not (is_one_of (numbered assigned_here) cell)) (elements d) 0 (all_elements before)
      (λ e h. both_same (own_same before d after at distinct read_here r e h) (own_same before d after at distinct assigned_here p e h)))
    where
      both_same : {a b x y : Bool} → a ≡ b → x ≡ y → (a && not x) ≡ (b && not y)
      both_same {b = b} {x = x} e f = ap (λ (t : Bool). t && not x) e ∙ ap (λ (t : Bool). b && not t) f

pub all_elements-append : (a b : List Decl) → all_elements (a ++ b) ≡ all_elements a + all_elements b
all_elements-append [] b = omega arith
all_elements-append (d ∷ a) b = let more = all_elements-append a b in omega (arith, more)

-- one more declaration before
one_more : (before : List Decl) (d : Decl) → all_elements before + elements d ≡ all_elements (before ++ d ∷ [])
one_more before d = let more = all_elements-append before (d ∷ []) in omega (arith, more)

outputs_same : (declared : List Decl) → AreDistinct declared → (assigned_here : List Cell) → AllDeclared declared assigned_here
    → (outputs before after : List Decl) → declared ≡ before ++ (outputs ++ after) → (first : ℕ) → first ≡ all_elements before
    → outputs_numbered (is_one_of (map (cell_number declared) assigned_here)) first outputs ≡ map (output_finding assigned_here) outputs
outputs_same declared distinct assigned_here p [] before after at first is = refl
outputs_same declared distinct assigned_here p (d ∷ outputs) before after at first is =
    let test : ℕ → Bool = is_one_of (map (cell_number declared) assigned_here) in
    let more : first + elements d ≡ all_elements (before ++ d ∷ []) = ap (λ (n : ℕ). n + elements d) is ∙ one_more before d in
    let at' : declared ≡ (before ++ d ∷ []) ++ (outputs ++ after) = at ∙ sym (append_assoc before (d ∷ []) (outputs ++ after)) in
    ap (λ (b : Bool). record { place = d.name.place; holds = b } ∷ outputs_numbered test (first + elements d) outputs)
    (ap (λ (n : ℕ). lacks_assigned test n (elements d)) is ∙ output_same declared before d (outputs ++ after) at distinct assigned_here p)
    ∙ ap (λ (fs : List Finding). output_finding assigned_here d ∷ fs)
    (outputs_same declared distinct assigned_here p outputs (before ++ d ∷ []) after at' (first + elements d) more)

locals_same : (declared : List Decl) → AreDistinct declared → (assigned_here read_here : List Cell) → AllDeclared declared assigned_here
    → AllDeclared declared read_here → (locals before after : List Decl) → declared ≡ before ++ (locals ++ after) → (first : ℕ) → first ≡ all_elements before
    → locals_numbered (is_one_of (map (cell_number declared) assigned_here)) (is_one_of (map (cell_number declared) read_here)) first locals
    ≡ map (local_finding assigned_here read_here) locals
locals_same declared distinct assigned_here read_here p r [] before after at first is = refl
locals_same declared distinct assigned_here read_here p r (d ∷ locals) before after at first is =
    let test : ℕ → Bool = is_one_of (map (cell_number declared) assigned_here) in
    let reads : ℕ → Bool = is_one_of (map (cell_number declared) read_here) in
    let more : first + elements d ≡ all_elements (before ++ d ∷ []) = ap (λ (n : ℕ). n + elements d) is ∙ one_more before d in
    let at' : declared ≡ (before ++ d ∷ []) ++ (locals ++ after) = at ∙ sym (append_assoc before (d ∷ []) (locals ++ after)) in
    ap (λ (b : Bool). record { place = d.name.place; holds = b } ∷ locals_numbered test reads (first + elements d) locals)
    (ap (λ (n : ℕ). lacks_read test reads n (elements d)) is ∙ local_same declared before d (locals ++ after) at distinct assigned_here read_here p r)
    ∙ ap (λ (fs : List Finding). local_finding assigned_here read_here d ∷ fs)
    (locals_same declared distinct assigned_here read_here p r locals (before ++ d ∷ []) after at' (first + elements d) more)

-- the cells of declared inputs are elements of declared variables
own_cells : (declared before : List Decl) (d : Decl) (after : List Decl) → declared ≡ before ++ d ∷ after → AreDistinct declared
    → (n from : ℕ) → from + n ≤ elements d → AllDeclared declared (cells_of d.name.text (range_with_len from n))
own_cells declared before d after at distinct zero from h = refl
own_cells declared before d after at distinct (suc n) from h =
    let own : Cell = record { name = d.name.text; element = from } in
    let mine : is_declared declared own ≡ true
    = ap (λ (ds : List Decl). is_declared ds own) at ∙ own_declared before d after (subst AreDistinct at distinct) from (omega (arith, h)) in
    and_from (is_declared declared own) (list_all (is_declared declared) (cells_of d.name.text (range_with_len (from + 1) n))) mine
    (own_cells declared before d after at distinct n (from + 1) (omega (arith, h)))

declared_own : (declared : List Decl) → AreDistinct declared → (here before after : List Decl) → declared ≡ before ++ (here ++ after)
    → AllDeclared declared (declared_cells here)
declared_own declared distinct [] before after at = refl
declared_own declared distinct (d ∷ here) before after at =
    let at' : declared ≡ (before ++ d ∷ []) ++ (here ++ after) = at ∙ sym (append_assoc before (d ∷ []) (here ++ after)) in
    all_join declared (cells_of d.name.text (range_with_len 0 (elements d))) (declared_cells here)
    (own_cells declared before d (here ++ after) at distinct (elements d) 0 (omega arith))
    (declared_own declared distinct here (before ++ d ∷ []) after at')

-- THE LAW

module _ (signatures : List Signature) (node : Node) (distinct : AreDistinct (declarations node)) (all : AreDeclared (declarations node) (unrolled node)) where
  inputs_own : AllDeclared (declarations node) (declared_cells node.inputs)
  inputs_own = declared_own (declarations node) distinct node.inputs [] (node.outputs ++ node.locals) (append_assoc node.inputs node.outputs node.locals)

  node_twice : twice_numbered (all_elements node.inputs) (coded_node signatures node) ≡ twice_in node
  node_twice =
      let declared = declarations node in
      let instances = unrolled node in
      ap (λ (ns : List ℕ). numbers_again ns (all_targets (coded_node signatures node))) (sym (node_inputs node distinct))
      ∙ ap (λ (ts : List Assigned). numbers_again (map (cell_number declared) (declared_cells node.inputs)) ts) (all_targets_same declared signatures instances)
      ∙ numbers_again_same declared (flat_map (λ instance. instance.targets) instances) (declared_cells node.inputs) inputs_own
      (ap (λ (cs : List Cell). list_all (is_declared declared) cs) (all_target_cells declared instances) ∙ all.assigned)

  node_cyclic : cyclic_numbered (all_elements node.inputs) (coded_node signatures node) ≡ cyclic_in node
  node_cyclic =
      cyclic_same (declarations node) signatures (declared_cells node.inputs) (all_elements node.inputs) (unrolled node) all inputs_own
      (node_inputs node distinct)

  node_unassigned : unassigned_numbered node (coded_node signatures node) ≡ unassigned_in node
  node_unassigned =
      let declared = declarations node in
      let made = assigned_cells (unrolled node) in
      let read = read_cells (unrolled node) in
      let inputs = all_elements node.inputs in
      let findings : List ℕ → List ℕ → List Finding
      = λ made_here read_here. outputs_numbered (is_one_of made_here) inputs node.outputs
      ++ locals_numbered (is_one_of made_here) (is_one_of read_here) (inputs + all_elements node.outputs) node.locals in
      let all_numbered = coded_node signatures node in
      ap (λ (ns : List ℕ). findings ns (read_numbers all_numbered)) (assigned_cells_numbers signatures declared (unrolled node))
      ∙ ap (λ (ns : List ℕ). findings (map (cell_number declared) made) ns) (read_cells_all_numbers signatures declared (unrolled node))
      ∙ ap (λ (fs : List Finding). fs ++ locals_numbered (is_one_of (map (cell_number declared) made)) (is_one_of (map (cell_number declared) read))
      (inputs + all_elements node.outputs) node.locals)
      (outputs_same declared distinct made all.assigned node.outputs node.inputs node.locals
      (append_assoc node.inputs node.outputs node.locals) inputs refl)
      ∙ ap (λ (fs : List Finding). map (output_finding made) node.outputs ++ fs)
      (locals_same declared distinct made read all.assigned all.read node.locals (node.inputs ++ node.outputs) []
      (sym (ap (λ (ds : List Decl). (node.inputs ++ node.outputs) ++ ds) (append-nil node.locals)))
      (inputs + all_elements node.outputs) (sym (all_elements-append node.inputs node.outputs)))

-- the findings over numbered cells are those over named cells
pub numbered_findings : NumberedFindings
numbered_findings = record {
  below = λ signatures node. all_below signatures (declarations node) (unrolled node) (node_declared node);
  twice = λ signatures node distinct. node_twice signatures node distinct (node_declared node);
  unassigned = λ signatures node distinct. node_unassigned signatures node distinct (node_declared node);
  cyclic = λ signatures node distinct. node_cyclic signatures node distinct (node_declared node);
}
