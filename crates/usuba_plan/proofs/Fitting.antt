-- The plans of a judged file fit.
use Rattle.std.proofs.Common.{◌≡◌, ◌+◌, ◌-◌, ◌<◌, ◌≤◌, ◌^◌, inl, inr, ℕ, suc, Bool, true, false, not, ◌||◌, ◌==◌, List, [], ◌∷◌, ◌++◌, length, map, Option, Some, None, refl, sym, ap, ◌∙◌, subst, arith, nat_lt, nat_le}
use Rattle.std.specs.Prelude.{bytes_eq, slice_get, if◌then◌else◌}
use Rattle.std.specs.List.{list_any, list_all}
use Rattle.std.proofs.lemmas.Bool.{eqb-true, ltb-false, leb-false, cases_lt, and_parts}
use Rattle.std.proofs.lemmas.List.{length-map}
use Rattle.std.proofs.lemmas.Option.{none-some, same_Some}
use Rattle.std.proofs.lemmas.Slice.Eq.{bytes_eq-Decides}
use Rattle.usuba_trees.specs.declared.Decl.{Decl}
use Rattle.usuba_trees.specs.declared.Def.{Def}
use Rattle.usuba_trees.specs.declared.Def.TheVariants as def
use Rattle.usuba_model.specs.declared.fault.Fault.{Fault}
use Rattle.usuba_model.specs.Cells.{Cell}
use Rattle.usuba_model.specs.Entries.{has_wrong_entries, is_bad_table}
use Rattle.usuba_model.specs.Names.{is_name_among, name_of, names_of, unknown_in_definition}
use Rattle.usuba_model.specs.Numbers.{cell_number, callee_number, is_declared}
use Rattle.usuba_model.specs.Operations.{calls_of}
use Rattle.usuba_model.specs.Rounds.{Operators}
use Rattle.usuba_model.specs.Shapes.{all_elements}
use Rattle.usuba_model.specs.Unrolled.{Expression, cells, number, nothing, joined, call, complement, operation, shift, refresh, left_cells, declarations, unrolled}
use Rattle.usuba_model.specs.Walk.{signature, signature_of}
use Rattle.usuba_model.proofs.CellLemmas.{false_true}
use Rattle.usuba_model.proofs.EntryOutcome.{judged_passes}
use Rattle.usuba_model.proofs.FileOutcomes.{names, Pass, pass_after, signature_name}
use Rattle.usuba_model.proofs.JudgingLemmas.{first_none}
use Rattle.usuba_model.proofs.Knowing.{none_first, node_knows}
use Rattle.usuba_model.proofs.NodeOutcome.{sized_from}
use Rattle.usuba_model.proofs.NodeSizing.{node_fits}
use Rattle.usuba_model.proofs.Sizing.{IsSized}
use Rattle.usuba_model.proofs.Valuing.{AreKnown}
use Rattle.usuba_code.specs.Code.{Coded, coded, coded_at, code_of, read_cell}
use Rattle.usuba_code.specs.CodeLaw.{Each}
use Rattle.usuba_code.proofs.Numbering.{number_below}
use Rattle.ready_order.proofs.CodedNumbers.{left_cells_numbers}
use Rattle.ready_order.proofs.Declared.{node_declared}
use Rattle.usuba_plan.specs.Fit.{inputs_of, inputs_at, OperationFits, InstanceFits, TableFits, PlanFits}
use Rattle.usuba_plan.specs.Plans.{IsPlanOf, ArePlansOf}
use Rattle.usuba_plan.specs.PlanLaw.{PlansFit}
use Rattle.usuba_plan.specs.declared.plans.Plan.{Plan}
use Rattle.usuba_plan.specs.declared.plans.Plan.TheVariants as plan
use Rattle.usuba_plan.proofs.Eaches.{each_append}
use Rattle.usuba_plan.proofs.FilePlans.{known_at}
use Rattle.usuba_plan.proofs.NodePlans.{each_from, part_declared, sized_at}
use Rattle.usuba_plan.proofs.Taking.{instance_at, no_instance, AllDeclared, get_or-map}

-- earlier definitions stand in the file, each at its place
abbrev ArePlaced : List Def → List Def → Type 0
ArePlaced defs [] = Unit {0}
ArePlaced defs (d ∷ earlier) = (slice_get defs (length earlier) ≡ Some d) × ArePlaced defs earlier

-- a known name's inputs are those of the definition at its number
inputs_known : (defs earlier : List Def) → ArePlaced defs earlier → (name : List ℕ) → is_name_among (names earlier) name ≡ true
    → inputs_at defs (callee_number (map signature earlier) name) ≡ (signature_of (map signature earlier) name).inputs
inputs_known defs [] placed name m = false_true m
inputs_known defs (d ∷ earlier) placed name m = of_test (bytes_eq (signature d).name name) refl (inputs_known defs earlier placed.1 name)
  where
    later : (b : Bool) → bytes_eq name (name_of d).text ≡ b → (b || is_name_among (names earlier) name) ≡ true
        → bytes_eq (signature d).name name ≡ false → is_name_among (names earlier) name ≡ true
    later false is m out = m
    later true is m out =
        let equal : name ≡ (name_of d).text = (bytes_eq-Decides name (name_of d).text).0 is in
        false_true (sym out ∙ (bytes_eq-Decides (signature d).name name).1 (signature_name d ∙ sym equal))

    of_test : (b : Bool) → bytes_eq (signature d).name name ≡ b
        → (is_name_among (names earlier) name ≡ true
        → inputs_at defs (callee_number (map signature earlier) name) ≡ (signature_of (map signature earlier) name).inputs)
        → inputs_at defs (if b then length (map signature earlier) else callee_number (map signature earlier) name)
        ≡ (if b then signature d else signature_of (map signature earlier) name).inputs
    of_test true is before =
        ap (inputs_at defs) (length-map earlier signature) ∙ ap (λ (o : Option Def). inputs_of o) placed.0
    of_test false is before = before (later (bytes_eq name (name_of d).text) refl m is)

known_left : (known a b : List (List ℕ)) → AreKnown known (a ++ b) → AreKnown known a
known_left known [] b k = tt
known_left known (name ∷ a) b k = (k.0, known_left known a b k.1)

known_right : (known a b : List (List ℕ)) → AreKnown known (a ++ b) → AreKnown known b
known_right known [] b k = k
known_right known (name ∷ a) b k = known_right known a b k.1

module _ (w : ℕ) (defs earlier : List Def) (placed : ArePlaced defs earlier) (declared : List Decl) where
  reads_fit : (read : List Cell) → Each (OperationFits w defs) (map (read_cell declared) read)
  reads_fit [] = tt
  reads_fit (c ∷ read) = (tt, reads_fit read)

  -- the code of a well-sized expression fits
  code_fits : (e : Expression) → IsSized w (map signature earlier) e → AreKnown (names earlier) (calls_of e)
      → Each (OperationFits w defs) (code_of (map signature earlier) declared e)
  code_fits (number value) sized known = (sized, tt)
  code_fits (cells read) sized known = reads_fit read
  code_fits nothing sized known = tt
  code_fits (joined a b) sized known =
      each_append (OperationFits w defs) (code_of (map signature earlier) declared a) (code_of (map signature earlier) declared b)
      (code_fits a sized.0 (known_left (names earlier) (calls_of a) (calls_of b) known))
      (code_fits b sized.1 (known_right (names earlier) (calls_of a) (calls_of b) known))
  code_fits (call name args) sized known =
      each_append (OperationFits w defs) (code_of (map signature earlier) declared args) _
      (code_fits args sized.0 known.1)
      (sym sized.1 ∙ sym (inputs_known defs earlier placed name known.0), tt)
  code_fits (complement a) sized known =
      each_append (OperationFits w defs) (code_of (map signature earlier) declared a) _ (code_fits a sized known) (tt, tt)
  code_fits (operation op a b) sized known =
      each_append (OperationFits w defs) (code_of (map signature earlier) declared a ++ code_of (map signature earlier) declared b) _
      (each_append (OperationFits w defs) (code_of (map signature earlier) declared a) (code_of (map signature earlier) declared b)
      (code_fits a sized.0 (known_left (names earlier) (calls_of a) (calls_of b) known))
      (code_fits b sized.1 (known_right (names earlier) (calls_of a) (calls_of b) known)))
      (tt, tt)
  code_fits (shift kind k a) sized known =
      each_append (OperationFits w defs) (code_of (map signature earlier) declared a) _ (code_fits a sized.0 known) (sized.2, tt)
  code_fits (refresh k a) sized known =
      each_append (OperationFits w defs) (code_of (map signature earlier) declared a) _ (code_fits a sized.0 known) (sized.1, tt)

cells_below : (declared : List Decl) (cs : List Cell) → AllDeclared declared cs → Each (λ cell. cell < all_elements declared) (map (cell_number declared) cs)
cells_below declared [] all = tt
cells_below declared (c ∷ cs) all =
    let parts = and_parts (is_declared declared c) (list_all (is_declared declared) cs) all in
    (number_below declared c parts.0, cells_below declared cs parts.1)

-- operators on nothing
no_operators : Operators (Unit {0})
no_operators = record {
  number_of = λ value. tt;
  complement_of = λ a. tt;
  operation_of = λ op a b. tt;
  shift_of = λ kind k a. tt;
  refresh_of = λ k a. tt;
  look_up = λ m entries elements j. tt;
}

-- a table that is not bad fits
neither : (p q : Bool) → (p || q) ≡ false → (p ≡ false) × (q ≡ false)
neither true q e = false_true (sym e)
neither false q e = (refl, e)

table_good : (n m : ℕ) (entries : List ℕ) → is_bad_table n m entries ≡ false → TableFits n m entries
table_good n m entries e = of_sizes (nat_lt 8 n || nat_lt 64 m) refl e
  where
    small : (es : List ℕ) → list_any (nat_le (2 ^ m)) es ≡ false → Each (λ entry. entry < 2 ^ m) es
    small [] e = tt
    small (entry ∷ es) e =
        let parts = neither (nat_le (2 ^ m) entry) (list_any (nat_le (2 ^ m)) es) e in
        (leb-false (2 ^ m) entry parts.0, small es parts.1)

    not_not : (b : Bool) → not b ≡ false → b ≡ true
    not_not true e = refl
    not_not false e = false_true (sym e)

    of_sizes : (b : Bool) → (nat_lt 8 n || nat_lt 64 m) ≡ b → (if b then true else has_wrong_entries n m entries) ≡ false → TableFits n m entries
    of_sizes true is e = false_true (sym e)
    of_sizes false is e =
        let sizes = neither (nat_lt 8 n) (nat_lt 64 m) is in
        let parts = neither (not (length entries == 2 ^ n)) (list_any (nat_le (2 ^ m)) entries) e in record {
          few_inputs = ltb-false 8 n sizes.0;
          few_outputs = ltb-false 64 m sizes.1;
          whole = eqb-true (length entries) (2 ^ n) (not_not (length entries == 2 ^ n) parts.0);
          small = small entries parts.1;
        }

module _ (w : ℕ) (some_width : 0 < w) (defs : List Def) (plans : List Plan) where
  -- the plan of a definition fits
  plan_fits : (earlier : List Def) → ArePlaced defs earlier → (d : Def) (rest : List Def) → Pass w earlier (d ∷ rest)
      → (p : Plan) → IsPlanOf (map signature earlier) p d → PlanFits w defs p d
  plan_fits earlier placed (def.Node node) rest pass (plan.Node p) is =
      let signatures = map signature earlier in
      let declared = declarations node in
      let instances = unrolled node in
      let fits = node_fits w some_width signatures node 0 (first_none _ _ pass.walks) in
      let knows = node_knows (names earlier) node (none_first (unknown_in_definition (names earlier) (def.Node node)) _ pass.known) in
      let sized = sized_from w some_width (names earlier) signatures declared (names_of declared) instances fits knows in
      let len : length p.table.done ≡ length instances
      = ap (λ (done : List Coded). length done) is.table ∙ length-map instances (coded signatures declared) in
      record {
        within = each_from (λ k. k < length p.table.done) p.order.items (λ k m. is.order.within k m);
        instances = each_from (λ k. InstanceFits w defs p.cells (coded_at p.table.done k)) p.order.items
            (λ k m.
            let less : k < length instances = subst (λ n. k < n) len (is.order.within k m) in
            let here : coded_at p.table.done k ≡ coded signatures declared (instance_at instances k)
            = ap (λ (done : List Coded). coded_at done k) is.table ∙ get_or-map (coded signatures declared) instances k no_instance in
            subst (λ (i : Coded). InstanceFits w defs p.cells i) (sym here) (record {
              code = code_fits w defs earlier placed declared (instance_at instances k).right (sized_at w (names earlier) signatures instances sized k less).right
                  (known_at (names earlier) (names_of declared) declared instances knows k less);
              left =
                  subst (λ (ns : List ℕ). Each (λ cell. cell < p.cells) ns) (sym (left_cells_numbers signatures declared (instance_at instances k)))
                  (subst (λ (n : ℕ). Each (λ cell. cell < n) (map (cell_number declared) (left_cells (instance_at instances k)))) (sym is.cells)
                  (cells_below declared (left_cells (instance_at instances k)) (part_declared declared left_cells instances (node_declared node).assigned k less)));
            }));
      }
  plan_fits earlier placed (def.Node node) rest pass (plan.Table outputs) is = absurd is
  plan_fits earlier placed (def.Node node) rest pass plan.Permutation is = tt
  plan_fits earlier placed (def.Node node) rest pass plan.Absent is = tt
  plan_fits earlier placed (def.Table grid) rest pass (plan.Node p) is = absurd is
  plan_fits earlier placed (def.Table grid) rest pass (plan.Table outputs) is =
      subst (λ (m : ℕ). TableFits (all_elements grid.inputs) m grid.entries) (sym is)
      (table_good (all_elements grid.inputs) (all_elements grid.outputs) grid.entries
      (not_bad _ _ (is_bad_table (all_elements grid.inputs) (all_elements grid.outputs) grid.entries) pass.grids))
    where
      not_bad : (fault : Fault) (later : Option Fault) (b : Bool) → (if b then Some fault else later) ≡ None → b ≡ false
      not_bad fault later true e = absurd (none-some _ (sym e))
      not_bad fault later false e = refl
  plan_fits earlier placed (def.Table grid) rest pass plan.Permutation is = tt
  plan_fits earlier placed (def.Table grid) rest pass plan.Absent is = tt
  plan_fits earlier placed (def.Perm grid) rest pass (plan.Node p) is = absurd is
  plan_fits earlier placed (def.Perm grid) rest pass (plan.Table outputs) is = absurd is
  plan_fits earlier placed (def.Perm grid) rest pass plan.Permutation is = tt
  plan_fits earlier placed (def.Perm grid) rest pass plan.Absent is = tt

  -- those from a place on do
  rest_fit : (rest : List Def) (rest_plans : List Plan) (earlier : List Def) → ArePlaced defs earlier
      → ((j : ℕ) → slice_get rest j ≡ slice_get defs (length earlier + j)) → ((j : ℕ) → slice_get rest_plans j ≡ slice_get plans (length earlier + j))
      → ArePlansOf (map signature earlier) rest_plans rest → Pass w earlier rest
      → (at_number : ℕ) (p : Plan) (d : Def) → length earlier ≤ at_number → slice_get plans at_number ≡ Some p → slice_get defs at_number ≡ Some d
      → PlanFits w defs p d
  rest_fit [] rest_plans earlier placed from from' of pass at_number p d le at at' =
      let same : length earlier + (at_number - length earlier) ≡ at_number = omega (arith, le) in
      absurd (none-some d (from (at_number - length earlier) ∙ ap (slice_get defs) same ∙ at'))
  rest_fit (e ∷ rest) [] earlier placed from from' of pass at_number p d le at at' = absurd of
  rest_fit (e ∷ rest) (q ∷ rest_plans) earlier placed from from' of pass at_number p d le at at' =
      let first : length earlier + 0 ≡ length earlier = omega arith in
      let e_at : slice_get defs (length earlier) ≡ Some e = sym (from 0 ∙ ap (slice_get defs) first) in
      let q_at : slice_get plans (length earlier) ≡ Some q = sym (from' 0 ∙ ap (slice_get plans) first) in
      elim (cases_lt (length earlier) at_number) [
        | inl above ↦
            rest_fit rest rest_plans (e ∷ earlier) (e_at, placed)
            (λ j. let same : length earlier + suc j ≡ suc (length earlier) + j = omega arith in from (suc j) ∙ ap (slice_get defs) same)
            (λ j. let same : length earlier + suc j ≡ suc (length earlier) + j = omega arith in from' (suc j) ∙ ap (slice_get plans) same)
            of.1 (pass_after no_operators w some_width earlier e rest pass) at_number p d (omega (arith, above)) at at'
        | inr below ↦
            let same : length earlier ≡ at_number = omega (arith, le, below) in
            let is_p : q ≡ p = same_Some q p (sym q_at ∙ ap (slice_get plans) same ∙ at) in
            let is_d : e ≡ d = same_Some e d (sym e_at ∙ ap (slice_get defs) same ∙ at') in
            subst (λ (r : Plan). PlanFits w defs r d) is_p
            (subst (λ (f : Def). PlanFits w defs q f) is_d (plan_fits earlier placed e rest pass q of.0))
      ]

-- the plans of a judged file fit
pub plans_fit : PlansFit
plans_fit asked_width asked_entry file width entry judged some_width plans planned at_number p d at at' =
    let passed = judged_passes asked_width asked_entry file width entry judged in
    let from : (A : Type 0) (xs : List A) (j : ℕ) → slice_get xs j ≡ slice_get xs (0 + j)
    = λ A xs j. let same : j ≡ 0 + j = omega arith in ap (slice_get xs) same in
    rest_fit width some_width file.defs plans file.defs plans [] tt (from Def file.defs) (from Plan plans) planned.of passed.1 at_number p d (omega arith) at at'
