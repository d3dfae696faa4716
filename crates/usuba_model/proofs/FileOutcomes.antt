-- The definitions of a judged file answer each number of elements that they take, over every kind of element.
use Rattle.std.proofs.Common.{◌≡◌, ◌-◌, ◌<◌, ◌≤◌, ℕ, zero, suc, Bool, true, false, not, ◌||◌, ◌==◌, List, [], ◌∷◌, length, map, Option, Some, None, refl, sym, ap, ◌∙◌, subst, arith, nat_lt}
use Rattle.std.specs.Prelude.{bytes_eq, if◌then◌else◌}
use Rattle.std.specs.List.{list_any, range_with_len}
use Rattle.std.proofs.lemmas.Bool.{eqb-true, ltb-false}
use Rattle.std.proofs.lemmas.List.{length-map}
use Rattle.std.proofs.lemmas.List.FromFn.{length-range_with_len}
use Rattle.std.proofs.lemmas.Option.{none-some}
use Rattle.std.proofs.lemmas.Slice.Eq.{bytes_eq-Decides}
use Rattle.usuba_trees.specs.declared.Def.{Def}
use Rattle.usuba_trees.specs.declared.Def.TheVariants as def
use Rattle.usuba_trees.specs.declared.Node.{Node}
use Rattle.usuba_model.specs.declared.fault.Fault.{Fault}
use Rattle.usuba_model.specs.Assignments.{unassigned_in, cyclic_in, of_nodes}
use Rattle.usuba_model.specs.Entries.{is_bad_permutation, is_no_input, grid_fault}
use Rattle.usuba_model.specs.Faults.{Finding}
use Rattle.usuba_model.specs.Judging.{walks_fault}
use Rattle.usuba_model.specs.Names.{is_name_among, name_of, names_of, unknown_names, unknown_in_definition}
use Rattle.usuba_model.specs.Rounds.{Operators, both, element_at, permuted, looked_up, definition_outcome, outcomes}
use Rattle.usuba_model.specs.Shapes.{all_elements}
use Rattle.usuba_model.specs.Unrolled.{declarations, unrolled}
use Rattle.usuba_model.specs.Walk.{Signature, signature, signature_of, definition_steps, walk_fault}
use Rattle.usuba_model.proofs.CellLemmas.{false_true}
use Rattle.usuba_model.proofs.JudgingLemmas.{first_none, second_none}
use Rattle.usuba_model.proofs.Knowing.{NoneHold, none_first, none_second, node_knows}
use Rattle.usuba_model.proofs.NodeOutcome.{sized_from, node_total}
use Rattle.usuba_model.proofs.NodeSizing.{node_fits}
use Rattle.usuba_model.proofs.Valuing.{AreTotal}

-- the element at a number below the length is there
at_below : {V : Type 0} (xs : List V) (k : ℕ) → k < length xs → (v : V) × (element_at xs k ≡ Some v)
at_below [] k less = absurd (omega (arith, less))
at_below (x ∷ xs) zero less = (x, refl)
at_below (x ∷ xs) (suc k) less = at_below xs k (omega (arith, less))

either_false : (p q : Bool) → (p || q) ≡ false → (p ≡ false) × (q ≡ false)
either_false true q e = false_true (sym e)
either_false false q e = (refl, e)

-- an entry that counts an input is one of 1 to n
entry_below : (n entry : ℕ) → is_no_input n entry ≡ false → entry - 1 < n
entry_below n zero e = false_true (sym e)
entry_below n (suc k) e =
    let high : suc k ≤ n = ltb-false n (suc k) (either_false (suc k == 0) (nat_lt n (suc k)) e).1 in omega (arith, high)

-- a permutation whose entries count inputs answers as many elements as it has entries
permuted_total : {V : Type 0} (n : ℕ) (entries : List ℕ) → list_any (is_no_input n) entries ≡ false → (xs : List V) → length xs ≡ n
    → (ys : List V) × (permuted entries xs ≡ Some ys) × (length ys ≡ length entries)
permuted_total n [] e xs len = ([], refl, refl)
permuted_total n (entry ∷ entries) e xs len =
    let parts = either_false (is_no_input n entry) (list_any (is_no_input n) entries) e in
    let below = entry_below n entry parts.0 in
    let here = at_below xs (entry - 1) (subst (λ m. entry - 1 < m) (sym len) below) in
    let rest = permuted_total n entries parts.1 xs len in (
      here.0 ∷ rest.0,
      ap (λ o. both (λ v vs. v ∷ vs) o (permuted entries xs)) here.1 ∙ ap (both (λ v vs. v ∷ vs) (Some here.0)) rest.1,
      ap suc rest.2,
    )

-- what a permutation that is not bad has
good_permutation : (n m : ℕ) (entries : List ℕ) → is_bad_permutation n m entries ≡ false
    → (length entries ≡ m) × (list_any (is_no_input n) entries ≡ false)
good_permutation n m entries e =
    let parts = either_false (not (length entries == m)) (list_any (is_no_input n) entries) e in
    (eqb-true (length entries) m (doubled (length entries == m) parts.0), parts.1)
  where
    doubled : (b : Bool) → not b ≡ false → b ≡ true
    doubled true e = refl
    doubled false e = false_true (sym e)

-- the definitions after these, the latest first
abbrev pub onto : List Def → List Def → List Def
onto [] earlier = earlier
onto (d ∷ rest) earlier = onto rest (d ∷ earlier)

abbrev pub names : List Def → List (List ℕ)
names defs = map (λ d. (name_of d).text) defs

-- the definitions after these have no fault
pub record Pass (w : ℕ) (earlier rest : List Def) : Type 0 where
  pub walks : walks_fault w (map signature earlier) rest ≡ None
  pub known : NoneHold (unknown_names (names earlier) rest)
  pub grids : grid_fault rest ≡ None
  pub unassigned : NoneHold (of_nodes unassigned_in rest)
  pub cyclic : NoneHold (of_nodes cyclic_in rest)

-- names of definitions are those that calls see
pub signature_name : (d : Def) → (signature d).name ≡ (name_of d).text
signature_name (def.Node node) = refl
signature_name (def.Table grid) = refl
signature_name (def.Perm grid) = refl

module _ {V : Type 0} (operators : Operators V) (w : ℕ) (some_width : 0 < w) where
  -- the definitions answer whatever fits them
  abbrev pub AllTotal : List Def → Type 0
  AllTotal earlier = AreTotal (names earlier) (map signature earlier) (outcomes operators earlier)

  -- one definition answers elements for its inputs by as many elements as it has outputs
  abbrev pub Answers : List Def → Def → Type 0
  Answers earlier d = (xs : List V) → length xs ≡ (signature d).inputs
      → (ys : List V) × (definition_outcome operators (outcomes operators earlier) d xs ≡ Some ys) × (length ys ≡ (signature d).outputs)

  pub definition_answers : (earlier : List Def) → AllTotal earlier → (d : Def) (rest : List Def) → Pass w earlier (d ∷ rest) → Answers earlier d
  definition_answers earlier total (def.Node node) rest pass xs len =
      let fits = node_fits w some_width (map signature earlier) node 0 (first_none _ _ pass.walks) in
      let knows = node_knows (names earlier) node (none_first (unknown_in_definition (names earlier) (def.Node node)) _ pass.known) in
      let sized = sized_from w some_width (names earlier) (map signature earlier) (declarations node) (names_of (declarations node)) (unrolled node) fits knows in
      node_total w (names earlier) (map signature earlier) operators (outcomes operators earlier) total node sized
      (none_first (unassigned_in node) _ pass.unassigned) (none_first (cyclic_in node) _ pass.cyclic) xs len
  definition_answers earlier total (def.Table grid) rest pass xs len = (
    looked_up operators (all_elements grid.outputs) grid.entries xs,
    refl,
    length-map (range_with_len 0 (all_elements grid.outputs)) (operators.look_up (all_elements grid.outputs) grid.entries xs)
        ∙ length-range_with_len 0 (all_elements grid.outputs),
  )
  definition_answers earlier total (def.Perm grid) rest pass xs len =
      let n = all_elements grid.inputs in
      let m = all_elements grid.outputs in
      let good = good_permutation n m grid.entries (not_bad _ _ (is_bad_permutation n m grid.entries) pass.grids) in
      let answer = permuted_total n grid.entries good.1 xs len in
      (answer.0, answer.1, answer.2 ∙ good.0)
    where
      not_bad : (fault : Fault) (later : Option Fault) (b : Bool) → (if b then Some fault else later) ≡ None → b ≡ false
      not_bad fault later true e = absurd (none-some _ (sym e))
      not_bad fault later false e = refl

  -- with one more definition that answers, all answer
  pub total_next : (earlier : List Def) → AllTotal earlier → (d : Def) → Answers earlier d → AllTotal (d ∷ earlier)
  total_next earlier total d answers name m xs len =
      of_test (bytes_eq (name_of d).text name) refl m len
    where
      of_test : (b : Bool) → bytes_eq (name_of d).text name ≡ b
          → (bytes_eq name (name_of d).text || is_name_among (names earlier) name) ≡ true
          → length xs ≡ (if bytes_eq (signature d).name name then signature d else signature_of (map signature earlier) name).inputs
          → (ys : List V)
          × ((if bytes_eq (name_of d).text name then definition_outcome operators (outcomes operators earlier) d xs else outcomes operators earlier name xs) ≡ Some ys)
          × (length ys ≡ (if bytes_eq (signature d).name name then signature d else signature_of (map signature earlier) name).outputs)
      of_test true is m len =
          let test : bytes_eq (signature d).name name ≡ true = ap (λ (n : List ℕ). bytes_eq n name) (signature_name d) ∙ is in
          let chosen : (if bytes_eq (signature d).name name then signature d else signature_of (map signature earlier) name) ≡ signature d
          = ap (λ (b : Bool). if b then signature d else signature_of (map signature earlier) name) test in
          let answer = answers xs (len ∙ ap (λ (s : Signature). s.inputs) chosen) in (
            answer.0,
            ap (λ (b : Bool). if b then definition_outcome operators (outcomes operators earlier) d xs else outcomes operators earlier name xs) is ∙ answer.1,
            answer.2 ∙ sym (ap (λ (s : Signature). s.outputs) chosen),
          )
      of_test false is m len =
          let test : bytes_eq (signature d).name name ≡ false = ap (λ (n : List ℕ). bytes_eq n name) (signature_name d) ∙ is in
          let chosen : (if bytes_eq (signature d).name name then signature d else signature_of (map signature earlier) name) ≡ signature_of (map signature earlier) name
          = ap (λ (b : Bool). if b then signature d else signature_of (map signature earlier) name) test in
          let answer = total name (later (bytes_eq name (name_of d).text) refl m) xs (len ∙ ap (λ (s : Signature). s.inputs) chosen) in (
            answer.0,
            ap (λ (b : Bool). if b then definition_outcome operators (outcomes operators earlier) d xs else outcomes operators earlier name xs) is ∙ answer.1,
            answer.2 ∙ sym (ap (λ (s : Signature). s.outputs) chosen),
          )
        where
          later : (b : Bool) → bytes_eq name (name_of d).text ≡ b → (b || is_name_among (names earlier) name) ≡ true → is_name_among (names earlier) name ≡ true
          later true same m =
              let equal : name ≡ (name_of d).text = (bytes_eq-Decides name (name_of d).text).0 same in
              false_true (sym is ∙ (bytes_eq-Decides (name_of d).text name).1 (sym equal))
          later false same m = m

  grids_after : (d : Def) (rest : List Def) → grid_fault (d ∷ rest) ≡ None → grid_fault rest ≡ None
  grids_after (def.Node node) rest e = e
  grids_after (def.Table grid) rest e = at_test _ (grid_fault rest) _ e
    where
      at_test : (fault : Fault) (later : Option Fault) (b : Bool) → (if b then Some fault else later) ≡ None → later ≡ None
      at_test fault later true e = absurd (none-some _ (sym e))
      at_test fault later false e = e
  grids_after (def.Perm grid) rest e = at_test _ (grid_fault rest) _ e
    where
      at_test : (fault : Fault) (later : Option Fault) (b : Bool) → (if b then Some fault else later) ≡ None → later ≡ None
      at_test fault later true e = absurd (none-some _ (sym e))
      at_test fault later false e = e

  pub findings_after : (of : Node → List Finding) (d : Def) (rest : List Def) → NoneHold (of_nodes of (d ∷ rest)) → NoneHold (of_nodes of rest)
  findings_after of (def.Node node) rest none = none_second (of node) (of_nodes of rest) none
  findings_after of (def.Table grid) rest none = none
  findings_after of (def.Perm grid) rest none = none

  pub pass_after : (earlier : List Def) (d : Def) (rest : List Def) → Pass w earlier (d ∷ rest) → Pass w (d ∷ earlier) rest
  pass_after earlier d rest pass = record {
    walks = second_none (walk_fault 0 (definition_steps w (map signature earlier) d)) _ pass.walks;
    known = none_second (unknown_in_definition (names earlier) d) _ pass.known;
    grids = grids_after d rest pass.grids;
    unassigned = findings_after unassigned_in d rest pass.unassigned;
    cyclic = findings_after cyclic_in d rest pass.cyclic;
  }

  -- all definitions of a file without faults answer
  pub all_total : (rest earlier : List Def) → AllTotal earlier → Pass w earlier rest → AllTotal (onto rest earlier)
  all_total [] earlier total pass = total
  all_total (d ∷ rest) earlier total pass =
      all_total rest (d ∷ earlier) (total_next earlier total d (definition_answers earlier total d rest pass)) (pass_after earlier d rest pass)

  -- no definition is none that answers
  pub none_total : AllTotal []
  none_total name m xs len = false_true m
