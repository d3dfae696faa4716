-- The file of a generated source is judged without a fault.
use Rattle.std.proofs.Common.{◌≡◌, ℕ, suc, ◌+◌, ◌*◌, ◌≤◌, ◌∙◌, Bool, false, not, List, [], ◌∷◌, ◌++◌, length, map, flat_map, Option, Some, None, refl, sym, ap, subst, arith}
use Rattle.std.specs.Prelude.{if◌then◌else◌, nat_lt}
use Rattle.std.specs.List.{list_any, range_with_len}
use Rattle.std.proofs.lemmas.Bool.Decides.{nat_tests}
use Rattle.tor_edge.specs.declared.place.Place.{Place}
use Rattle.source_gen.specs.declared.operands.Operands.{Operands}
use Rattle.usuba_trees.specs.declared.Def.{Def}
use Rattle.usuba_trees.specs.declared.Def.TheVariants as def
use Rattle.usuba_model.specs.declared.fault.Fault.{Fault}
use Rattle.usuba_model.specs.declared.fault.FaultKind.TheVariants.{DuplicateName, UnknownName, TooManyOps, AssignedTwice, Unassigned, Cyclic}
use Rattle.usuba_model.specs.Assignments.{assigned_again, assigned_cells, is_ready, known_after, first_target, twice_in, unassigned_in, cyclic_in, twice_fault, unassigned_fault, cyclic_fault}
use Rattle.usuba_model.specs.Cells.{Cell, is_among, cells_of}
use Rattle.usuba_model.specs.Faults.{first_of, either}
use Rattle.usuba_model.specs.Judging.{walks_fault, IsJudged}
use Rattle.usuba_model.specs.Names.{repeated_counters, findings_of, unknown_in_item, repeated_names, unknown_names}
use Rattle.usuba_model.specs.Operations.{Size, all_calls, called_operations, called_chain, size_fault, definition_size}
use Rattle.usuba_model.specs.Unrolled.{Instance, unrolled}
use Rattle.usuba_model.specs.Walk.{Step, walk_fault, count_of, node_steps, most_operations}
use Rattle.usuba_model.proofs.Knowing.{NoneHold}
use Rattle.generated_files.proofs.Lines.{LinePlaces, items_of}
use Rattle.generated_files.proofs.Spelling.{AllBelow, node_of, file_of}
use Rattle.generated_files.proofs.Instances.{instances_from, instances_are, lines_steps, steps_are, step_passed, lines_passed, lines_count, none_append, first_none, no_counters, declared_names, all_known}
use Rattle.generated_files.proofs.Assigning.{AreKnown, input_cells, inputs_fresh, none_twice, assigned_are, none_left, no_calls, known_in_rounds, none_stuck}

-- neither of two faults
either_none : (a b : Option Fault) → a ≡ None → b ≡ None → either a b ≡ None
either_none a b p q = ap (λ (o : Option Fault). either o b) p ∙ q

module _ (operands : ℕ → Operands) (below : AllBelow operands) (size : ℕ) (few : size ≤ 4096)
    (places : List LinePlaces) (count : length places ≡ size) where
  abbrev defs : List Def
  defs = def.Node (node_of operands size places) ∷ []

  abbrev instances : List Instance
  instances = instances_from operands 0 places

  within : 0 + length places ≤ size
  within = omega (arith, count)

  pub unrolled_is : unrolled (node_of operands size places) ≡ instances
  unrolled_is = instances_are operands below size few places 0 within

  steps_is : node_steps 1 [] (node_of operands size places)
      ≡ record { place = (node_of operands size places).name.place; adds = 8 * 1 + (size * 1 + 0); fault = None }
      ∷ lines_steps places
  steps_is =
      ap (λ (steps : List Step). record {
        place = (node_of operands size places).name.place;
        adds
            = 8 * 1 + (size * 1 + 0);
        fault = None;
      } ∷ steps)
      (steps_are operands below size few places 0 within)

  -- no name repeats
  names_once : first_of DuplicateName (repeated_names [] defs) ≡ None
  names_once =
      let counters = no_counters operands declared_names places 0 in
      first_none DuplicateName (findings_of (map (repeated_counters declared_names) (items_of operands 0 places)) []
      ++ [])
      (none_append _ [] counters tt)

  -- and each is known
  names_known : first_of UnknownName (unknown_names [] defs) ≡ None
  names_known =
      first_none UnknownName (findings_of (map (unknown_in_item [] declared_names) (items_of operands 0 places)) []
      ++ [])
      (none_append _ [] (all_known operands places 0) tt)

  -- the walk passes
  walk_passed : walks_fault 1 [] defs ≡ None
  walk_passed =
      let room : 0 + (8 * 1 + (size * 1 + 0)) + 7 * length places ≤ most_operations = omega (arith, count, few) in
      either_none (walk_fault 0 (node_steps 1 [] (node_of operands size places))) None
      (ap (walk_fault 0) steps_is
      ∙ step_passed (node_of operands size places).name.place (8 * 1 + (size * 1 + 0)) 0 (lines_steps places)
      (omega (arith, room)) (lines_passed places (0 + (8 * 1 + (size * 1 + 0))) room))
      refl

  -- nothing is assigned twice
  assigned_once : twice_fault defs ≡ None
  assigned_once =
      let none : NoneHold (twice_in (node_of operands size places))
      = subst (λ (is : List Instance). NoneHold (assigned_again input_cells
      (flat_map (λ (i : Instance). i.targets) is))) (sym unrolled_is)
      (none_twice operands places 0 input_cells inputs_fresh) in
      first_none AssignedTwice (twice_in (node_of operands size places) ++ []) (none_append _ [] none tt)

  -- each output is assigned
  all_assigned : unassigned_fault defs ≡ None
  all_assigned =
      let cells : List Cell = cells_of (122 ∷ []) (range_with_len 0 (size * 1)) in
      let same_size : length places ≡ size * 1 = omega (arith, count) in
      let assigned : assigned_cells (unrolled (node_of operands size places)) ≡ cells
      = ap assigned_cells unrolled_is ∙ assigned_are operands places 0
      ∙ ap (λ (n : ℕ). cells_of (122 ∷ []) (range_with_len 0 n)) same_size in
      let there : list_any (λ (c : Cell). not (is_among (assigned_cells (unrolled (node_of operands size places))) c))
      cells ≡ false
      = ap (λ (all : List Cell). list_any (λ (c : Cell). not (is_among all c)) cells) assigned ∙ none_left [] cells in
      first_none Unassigned (unassigned_in (node_of operands size places) ++ []) (there, tt)

  -- each line becomes ready
  none_cyclic : cyclic_fault defs ≡ None
  none_cyclic =
      let known : List Instance → List Cell = λ is. known_after is (length is) input_cells in
      let Stuck : List Instance → Type 0
      = λ is. NoneHold (map (λ (i : Instance). record
      { place = first_target i.targets; holds = not (is_ready (known is) i) }) is) in
      let len : length instances ≡ length places = length_instances 0 places in
      let all = known_in_rounds operands below places (length places) (omega arith) in
      let stuck : Stuck instances
      = none_stuck operands below (known instances) places 0 (length places) (omega arith)
      (subst (λ (n : ℕ). AreKnown (length places) (known_after instances n input_cells)) (sym len) all) in
      first_none Cyclic (cyclic_in (node_of operands size places) ++ [])
      (none_append _ [] (subst Stuck (sym unrolled_is) stuck) tt)
    where
      length_instances : (k : ℕ) (places : List LinePlaces) → length (instances_from operands k places) ≡ length places
      length_instances k [] = refl
      length_instances k (at ∷ places) = ap suc (length_instances (k + 1) places)

  -- the operations are few
  few_operations : (place : Place) → size_fault place (definition_size 1 defs (103 ∷ [])) ≡ None
  few_operations place =
      let calls : all_calls (unrolled (node_of operands size places)) ≡ [] = ap all_calls unrolled_is
      ∙ no_calls operands places 0 in
      let lines = lines_count places in
      let steps : count_of (node_steps 1 [] (node_of operands size places)) ≡ 8 * 1 + (size * 1 + 0) + count_of
      (lines_steps places) = ap count_of steps_is in
      let total : count_of (node_steps 1 [] (node_of operands size places)) + 0 ≤ most_operations
      = omega (arith, lines, steps, count, few) in
      let sized : List (List ℕ) → Size
      = λ names. record {
        operations = count_of (node_steps 1 [] (node_of operands size places)) + called_operations
            [] names;
        chain = called_chain [] names;
      } in
      ap (λ (names : List (List ℕ)). size_fault place (sized names)) calls
      ∙ small (count_of (node_steps 1 [] (node_of operands size places)) + 0) total
    where
      small : (n : ℕ) → n ≤ most_operations → size_fault place (record { operations = n; chain = 0 }) ≡ None
      small n fits =
          let no_more : nat_lt most_operations n ≡ false = grind (arith, nat_tests) in
          ap (λ (b : Bool). if b then Some (record { kind = TooManyOps; place = place }) else None) no_more

  -- the file is judged
  pub judged : IsJudged None None (file_of operands size places) 1 0
  judged = record {
    no_fault = either_none (first_of DuplicateName (repeated_names [] defs)) _ names_once
        (either_none (first_of UnknownName (unknown_names [] defs)) _ names_known
        (either_none (walks_fault 1 [] defs) _ walk_passed
        (either_none (twice_fault defs) _ assigned_once
        (either_none (unassigned_fault defs) _ all_assigned
        (either_none (cyclic_fault defs) _ none_cyclic (few_operations (node_of operands size places).name.place))))));
    has_width = refl;
    has_entry = refl;
  }
