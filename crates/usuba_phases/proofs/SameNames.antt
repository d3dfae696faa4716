-- Findings stand on which names are among some, and not on how often or in which order.
use Rattle.std.proofs.Common.{◌≡◌, ℕ, Bool, ◌||◌, List, [], ◌∷◌, ◌++◌, refl, sym, ap, ◌∙◌}
use Rattle.std.specs.Prelude.{not, flat_map, bytes_eq}
use Rattle.std.proofs.lemmas.List.Folds.{list_any-append}
use mathlib.Core.Path.{fun_ext}
use Rattle.tor_edge.specs.declared.place.Place.{Place}
use Rattle.usuba_trees.specs.declared.Decl.{Decl}
use Rattle.usuba_trees.specs.declared.Def.{Def}
use Rattle.usuba_trees.specs.declared.Def.TheVariants as def
use Rattle.usuba_trees.specs.declared.Expr.{fold-Expr}
use Rattle.usuba_trees.specs.declared.Expr.TheOpen.{Expr-F}
use Rattle.usuba_trees.specs.declared.Item.{Item, fold-Item}
use Rattle.usuba_trees.specs.declared.Item.TheOpen.{Item-F}
use Rattle.usuba_trees.specs.declared.Link.{Link-F}
use Rattle.usuba_trees.specs.declared.Loop.{Loop-F}
use Rattle.usuba_trees.specs.declared.Spot.{Spot}
use Rattle.usuba_trees.specs.declared.Word.{Word}
use Rattle.usuba_model.specs.Faults.{Finding}
use Rattle.usuba_model.specs.Names.{is_name_among, name_of, declared_in, names_of, Findings, findings_of, repeated}
use Rattle.usuba_model.specs.Names.{repeated_declarations, repeated_level, repeated_counters, counters_in}
use Rattle.usuba_model.specs.Names.{repeated_names, unknown, unknown_in_index, unknown_in_pick, unknown_in_spot}
use Rattle.usuba_model.specs.Names.{unknown_level, unknown_in_expression, unknown_item_level, unknown_in_item}
use Rattle.usuba_model.specs.Names.{unknown_in_definition, unknown_names}
use Rattle.usuba_phases.specs.State.Names.{AreSame, counters_among, unknown_among}
use Rattle.usuba_phases.proofs.Firsts.{flat_map-map}

-- one more name on both sides
pub same-cons : (name : List ℕ) (a b : List (List ℕ)) → AreSame a b → AreSame (name ∷ a) (name ∷ b)
same-cons name a b same = λ other. ap (λ among. bytes_eq other name || among) (same other)

-- a name is among two lists where it is among one of them
pub is_name_among-append : (a b : List (List ℕ)) (name : List ℕ)
    → is_name_among (a ++ b) name ≡ (is_name_among a name || is_name_among b name)
is_name_among-append a b name = list_any-append (bytes_eq name) a b

-- further names on both sides
pub same-append : (a b more : List (List ℕ)) → AreSame a b → AreSame (a ++ more) (b ++ more)
same-append a b more same = λ name.
    is_name_among-append a more name ∙ ap (λ among. among || is_name_among more name) (same name)
    ∙ sym (is_name_among-append b more name)

-- a finding at a place
abbrev finding_at : Place → Bool → Finding
finding_at place holds = record { place = place; holds = holds }

repeated-same : (a b : List (List ℕ)) (name : Word) → AreSame a b → repeated a name ≡ repeated b name
repeated-same a b name same = ap (finding_at name.place) (same name.text)

unknown-same : (a b : List (List ℕ)) (name : Word) → AreSame a b → unknown a name ≡ unknown b name
unknown-same a b name same = ap (λ among. finding_at name.place (not among)) (same name.text)

-- declared names that repeat are the same after the same names
pub repeated_declarations-same : (a b : List (List ℕ)) (declared : List Decl) → AreSame a b
    → repeated_declarations a declared ≡ repeated_declarations b declared
repeated_declarations-same a b [] same = refl
repeated_declarations-same a b (d ∷ rest) same =
    ap (λ finding. finding ∷ repeated_declarations (d.name.text ∷ a) rest) (repeated-same a b d.name same)
    ∙ ap (λ findings. repeated b d.name ∷ findings)
    (repeated_declarations-same (d.name.text ∷ a) (d.name.text ∷ b) rest (same-cons d.name.text a b same))

-- one level of a loop's counters
abbrev counter_level : List (List ℕ) → Loop-F Findings Findings → Findings
counter_level taken loop counters =
    repeated (taken ++ counters) loop.counter ∷ findings_of loop.items (loop.counter.text ∷ counters)

repeated_counters-same : (a b : List (List ℕ)) → AreSame a b → repeated_counters a ≡ repeated_counters b
repeated_counters-same a b same = ap (λ level. fold-Item Findings Findings repeated_level level) levels
  where
    levels : counter_level a ≡ counter_level b
    levels = fun_ext (λ loop. fun_ext (λ counters.
        ap (λ finding. finding ∷ findings_of loop.items (loop.counter.text ∷ counters))
        (repeated-same (a ++ counters) (b ++ counters) loop.counter (same-append a b counters same))))

-- counters that repeat are the same among the same names
pub counters_among-same : (a b : List (List ℕ)) (d : Def) → AreSame a b → counters_among a d ≡ counters_among b d
counters_among-same a b (def.Node node) same =
    ap (λ counters. flat_map (λ (item : Item). counters item []) node.items) (repeated_counters-same a b same)
counters_among-same a b (def.Table grid) same = refl
counters_among-same a b (def.Perm grid) same = refl

-- the counters of a definition stand on what it declares
pub counters_in-among : (d : Def) → counters_in d ≡ counters_among (names_of (declared_in d)) d
counters_in-among (def.Node node) =
    flat_map-map (λ (part : Findings). part []) (repeated_counters (names_of (declared_in (def.Node node)))) node.items
counters_in-among (def.Table grid) = refl
counters_in-among (def.Perm grid) = refl

-- names that repeat are the same after the same names
pub repeated_names-same : (a b : List (List ℕ)) (defs : List Def) → AreSame a b
    → repeated_names a defs ≡ repeated_names b defs
repeated_names-same a b [] same = refl
repeated_names-same a b (d ∷ rest) same =
    ap (λ finding. finding ∷ repeated_declarations [] (declared_in d) ++ counters_in d
    ++ repeated_names ((name_of d).text ∷ a) rest)
    (repeated-same a b (name_of d) same)
    ∙ ap (λ findings. repeated b (name_of d) ∷ repeated_declarations [] (declared_in d) ++ counters_in d ++ findings)
    (repeated_names-same ((name_of d).text ∷ a) ((name_of d).text ∷ b) rest (same-cons (name_of d).text a b same))

module _ (defined defined' declared declared' : List (List ℕ)) (same_defined : AreSame defined defined')
    (same_declared : AreSame declared declared') where
  spot-same : (counters : List (List ℕ)) (spot : Spot)
      → unknown_in_spot declared counters spot ≡ unknown_in_spot declared' counters spot
  spot-same counters spot =
      ap (λ finding. finding ∷ flat_map (unknown_in_pick counters) spot.picks)
      (unknown-same declared declared' spot.name same_declared)

  level-same : (y : Expr-F Findings Findings) (counters : List (List ℕ))
      → unknown_level defined declared y counters ≡ unknown_level defined' declared' y counters
  level-same (Expr-F.Number place value) counters = refl
  level-same (Expr-F.Spot spot) counters = spot-same counters spot
  level-same (Expr-F.Tuple parts) counters = refl
  level-same (Expr-F.Call name args) counters =
      ap (λ finding. finding ∷ findings_of args counters) (unknown-same defined defined' name same_defined)
  level-same (Expr-F.Not place inner) counters = refl
  level-same (Expr-F.Chain op first rest) counters = refl
  level-same (Expr-F.Shift first moves) counters = refl
  level-same (Expr-F.Refresh place inner k) counters = refl

  expression-same : unknown_in_expression defined declared ≡ unknown_in_expression defined' declared'
  expression-same =
      ap (λ level. fold-Expr Findings Findings level (λ (link : Link-F Findings Findings). link.operand))
      (fun_ext (λ y. fun_ext (λ counters. level-same y counters)))

  item_level-same : (y : Item-F Findings Findings) (counters : List (List ℕ))
      → unknown_item_level defined declared y counters ≡ unknown_item_level defined' declared' y counters
  item_level-same (Item-F.Equation equation) counters =
      ap (λ of_spot. flat_map of_spot equation.left ++ unknown_in_expression defined declared equation.right counters)
      (fun_ext (λ spot. spot-same counters spot))
      ∙ ap
      (λ of_expression. flat_map (unknown_in_spot declared' counters) equation.left
      ++ of_expression equation.right counters)
      expression-same
  item_level-same (Item-F.Loop loop) counters = refl

  -- the loops of an item, whatever is known
  abbrev loop_level : Loop-F Findings Findings → Findings
  loop_level loop counters =
      unknown_in_index loop.low counters ++ unknown_in_index loop.high counters ++ findings_of loop.items
      (loop.counter.text ∷ counters)

  item-same : unknown_in_item defined declared ≡ unknown_in_item defined' declared'
  item-same =
      ap (λ level. fold-Item Findings Findings level loop_level)
      (fun_ext (λ y. fun_ext (λ counters. item_level-same y counters)))

  -- unknown names of a definition are the same among the same names
  pub unknown_among-same : (d : Def) → unknown_among defined declared d ≡ unknown_among defined' declared' d
  unknown_among-same (def.Node node) = ap (λ of_item. flat_map (λ (item : Item). of_item item []) node.items) item-same
  unknown_among-same (def.Table grid) = refl
  unknown_among-same (def.Perm grid) = refl

-- the names in a definition stand on what it declares
pub unknown_in_definition-among : (defined : List (List ℕ)) (d : Def)
    → unknown_in_definition defined d ≡ unknown_among defined (names_of (declared_in d)) d
unknown_in_definition-among defined (def.Node node) =
    flat_map-map (λ (part : Findings). part []) (unknown_in_item defined (names_of (declared_in (def.Node node))))
    node.items
unknown_in_definition-among defined (def.Table grid) = refl
unknown_in_definition-among defined (def.Perm grid) = refl

-- and after definitions of the same names
pub unknown_in_definition-same : (a b : List (List ℕ)) (d : Def) → AreSame a b
    → unknown_in_definition a d ≡ unknown_in_definition b d
unknown_in_definition-same a b d same =
    let declared = names_of (declared_in d) in
    unknown_in_definition-among a d ∙ unknown_among-same a b declared declared same (λ name. refl) d
    ∙ sym (unknown_in_definition-among b d)

-- unknown names of a file are the same after definitions of the same names
pub unknown_names-same : (a b : List (List ℕ)) (defs : List Def) → AreSame a b
    → unknown_names a defs ≡ unknown_names b defs
unknown_names-same a b [] same = refl
unknown_names-same a b (d ∷ rest) same =
    ap (λ findings. findings ++ unknown_names ((name_of d).text ∷ a) rest) (unknown_in_definition-same a b d same)
    ∙ ap (λ findings. unknown_in_definition b d ++ findings)
    (unknown_names-same ((name_of d).text ∷ a) ((name_of d).text ∷ b) rest (same-cons (name_of d).text a b same))
