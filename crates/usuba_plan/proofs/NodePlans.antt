-- The plan of a node gives what the rounds of the node give.
use Rattle.std.proofs.Common.{◌≡◌, inl, ◌+◌, ◌<◌, ℕ, zero, suc, Bool, true, false, ◌||◌, ◌==◌, List, [], ◌∷◌, ◌++◌, length, map, Option, Some, refl, sym, ap, ◌∙◌, subst, arith, append_assoc}
use Rattle.std.specs.Prelude.{option_and_then, flat_map, if◌then◌else◌}
use Rattle.std.specs.List.{list_all, range_with_len}
use Rattle.std.proofs.lemmas.Bool.{eqb-true, eq-eqb, and_parts, and_from}
use Rattle.std.proofs.lemmas.List.{length-append, length-map}
use Rattle.std.proofs.lemmas.List.FromFn.{length-range_with_len}
use Rattle.std.proofs.lemmas.List.Folds.{list_all-append}
use Rattle.usuba_trees.specs.declared.Decl.{Decl}
use Rattle.usuba_trees.specs.declared.Node.{Node}
use Rattle.usuba_model.specs.Assignments.{cells_read, twice_in}
use Rattle.usuba_model.specs.Cells.{Cell, same_cell, is_among, cells_of, declared_cells}
use Rattle.usuba_model.specs.Numbers.{cell_number, is_declared, AreDistinct}
use Rattle.usuba_model.specs.Operations.{calls_of}
use Rattle.usuba_model.specs.Rounds.{Operators, Environment, Callees, whole, given, element_at, node_outcome}
use Rattle.usuba_model.specs.Shapes.{elements, all_elements}
use Rattle.usuba_model.specs.Unrolled.{Instance, left_cells, declarations, unrolled}
use Rattle.usuba_model.specs.Walk.{Signature}
use Rattle.usuba_model.proofs.CellLemmas.{false_true, same_cell_itself, given_all}
use Rattle.usuba_model.proofs.Knowing.{NoneHold}
use Rattle.usuba_model.proofs.Ordering.{given_among, outcome_in_order}
use Rattle.usuba_model.proofs.Reaching.{IsSizedInstance, AreSized}
use Rattle.usuba_model.proofs.Valuing.{AreTotal}
use Rattle.usuba_code.specs.Code.{Coded, coded, coded_at, coded_node}
use Rattle.usuba_code.specs.CodeLaw.{Each, AnswersSame, CodeGivesValue}
use Rattle.usuba_code.specs.Machine.{NumberedCallees, NumberedEnvironment}
use Rattle.usuba_code.proofs.Numbering.{cell_declared, input_numbers, output_numbers}
use Rattle.ready_order.specs.Numbered.{is_one_of}
use Rattle.ready_order.specs.Order.{IsReadyOrder, AreReady}
use Rattle.ready_order.proofs.Declared.{node_declared}
use Rattle.usuba_plan.specs.Made.{given_at, taken_in_order, made_by_node}
use Rattle.usuba_plan.specs.Plans.{IsNodePlan}
use Rattle.usuba_plan.specs.declared.plans.NodePlan.{NodePlan}
use Rattle.usuba_plan.proofs.Fresh.{fresh_in_order, order_fresh, order_in, all_ordered}
use Rattle.usuba_plan.proofs.Taking.{instance_at, AllDeclared, Agree, given_same, IsGood, AreTaken, all_taken}

-- the element at a cell that counts the elements
element_given : {V : Type 0} (vs : List V) (a m n : ℕ) → a + m ≡ n → given_at (range_with_len a (length vs)) vs n ≡ element_at vs m
element_given [] a m n e = refl
element_given (v ∷ vs) a zero n e =
    ap (λ (b : Bool). if b then Some v else given_at (range_with_len (a + 1) (length vs)) vs n) (eq-eqb n a (omega (arith, e)))
element_given (v ∷ vs) a (suc m) n e = of_test (n == a) refl (element_given vs (a + 1) m n (omega (arith, e)))
  where
    of_test : (b : Bool) → (n == a) ≡ b → given_at (range_with_len (a + 1) (length vs)) vs n ≡ element_at vs m
        → (if b then Some v else given_at (range_with_len (a + 1) (length vs)) vs n) ≡ element_at vs m
    of_test true is later = let same = eqb-true n a is in absurd (omega (arith, same, e))
    of_test false is later = later

length_cells : (declared : List Decl) → length (declared_cells declared) ≡ all_elements declared
length_cells [] = refl
length_cells (d ∷ rest) =
    let here : length (cells_of d.name.text (range_with_len 0 (elements d))) ≡ elements d
    = length-map (range_with_len 0 (elements d)) (λ number. record { name = d.name.text; element = number })
    ∙ length-range_with_len 0 (elements d) in
    let more = length_cells rest in
    length-append (cells_of d.name.text (range_with_len 0 (elements d))) (declared_cells rest) ∙ omega (arith, here, more)

declared_append : (a b : List Decl) → declared_cells (a ++ b) ≡ declared_cells a ++ declared_cells b
declared_append [] b = refl
declared_append (d ∷ a) b =
    ap (λ (cs : List Cell). cells_of d.name.text (range_with_len 0 (elements d)) ++ cs) (declared_append a b)
    ∙ sym (append_assoc (cells_of d.name.text (range_with_len 0 (elements d))) (declared_cells a) (declared_cells b))

or_first : (p q : Bool) → p ≡ true → (p || q) ≡ true
or_first true q e = refl
or_first false q e = false_true e

or_second : (p q : Bool) → q ≡ true → (p || q) ≡ true
or_second true q e = refl
or_second false q e = e

among_first : (xs ys : List Cell) (c : Cell) → is_among xs c ≡ true → is_among (xs ++ ys) c ≡ true
among_first [] ys c m = false_true m
among_first (x ∷ xs) ys c m = of_it (same_cell c x) m (among_first xs ys c)
  where
    of_it : (b : Bool) → (b || is_among xs c) ≡ true → (is_among xs c ≡ true → is_among (xs ++ ys) c ≡ true) → (b || is_among (xs ++ ys) c) ≡ true
    of_it true m later = refl
    of_it false m later = later m

among_second : (xs ys : List Cell) (c : Cell) → is_among ys c ≡ true → is_among (xs ++ ys) c ≡ true
among_second [] ys c m = m
among_second (x ∷ xs) ys c m = or_second (same_cell c x) (is_among (xs ++ ys) c) (among_second xs ys c m)

-- each of some things is what each one of them is
pub each_from : (P : ℕ → Type 0) (xs : List ℕ) → ((x : ℕ) → is_one_of xs x ≡ true → P x) → Each P xs
each_from P [] holds = tt
each_from P (x ∷ xs) holds = (
  holds x (or_first (x == x) (is_one_of xs x) (eq-eqb x x refl)),
  each_from P xs (λ y m. holds y (or_second (y == x) (is_one_of xs y) m)),
)

all_from : (declared : List Decl) (cs : List Cell) → ((c : Cell) → is_among cs c ≡ true → is_declared declared c ≡ true) → AllDeclared declared cs
all_from declared [] holds = refl
all_from declared (c ∷ cs) holds =
    and_from (is_declared declared c) (list_all (is_declared declared) cs)
    (holds c (or_first (same_cell c c) (is_among cs c) (same_cell_itself c)))
    (all_from declared cs (λ d m. holds d (or_second (same_cell d c) (is_among cs d) m)))

-- where the cells of all instances are declared, those of one are
pub part_declared : (declared : List Decl) (f : Instance → List Cell) (instances : List Instance) → AllDeclared declared (flat_map f instances)
    → (k : ℕ) → k < length instances → AllDeclared declared (f (instance_at instances k))
part_declared declared f [] all k less = absurd (omega (arith, less))
part_declared declared f (i ∷ instances) all zero less =
    (and_parts (list_all (is_declared declared) (f i)) (list_all (is_declared declared) (flat_map f instances))
    (sym (list_all-append (is_declared declared) (f i) (flat_map f instances)) ∙ all)).0
part_declared declared f (i ∷ instances) all (suc k) less =
    part_declared declared f instances
    (and_parts (list_all (is_declared declared) (f i)) (list_all (is_declared declared) (flat_map f instances))
    (sym (list_all-append (is_declared declared) (f i) (flat_map f instances)) ∙ all)).1
    k (omega (arith, less))

pub sized_at : (w : ℕ) (known : List (List ℕ)) (signatures : List Signature) (instances : List Instance) → AreSized w known signatures instances
    → (k : ℕ) → k < length instances → IsSizedInstance w known signatures (instance_at instances k)
sized_at w known signatures [] sized k less = absurd (omega (arith, less))
sized_at w known signatures (i ∷ instances) sized zero less = sized.0
sized_at w known signatures (i ∷ instances) sized (suc k) less = sized_at w known signatures instances sized.1 k (omega (arith, less))

-- declared cells hold the same by number
map_agree : {V : Type 0} (declared : List Decl) (numbered : NumberedEnvironment V) (e : Environment V) → Agree declared numbered e → (cs : List Cell)
    → AllDeclared declared cs → map numbered (map (cell_number declared) cs) ≡ map e cs
map_agree declared numbered e agree [] all = refl
map_agree {V} declared numbered e agree (c ∷ cs) all =
    let parts = and_parts (is_declared declared c) (list_all (is_declared declared) cs) all in
    ap (λ (o : Option V). o ∷ map numbered (map (cell_number declared) cs)) (agree c parts.0)
    ∙ ap (λ (os : List (Option V)). e c ∷ os) (map_agree declared numbered e agree cs parts.1)

module _ (node : Node) (distinct : AreDistinct (declarations node)) where
  inputs_declared : AllDeclared (declarations node) (declared_cells node.inputs)
  inputs_declared = all_from (declarations node) (declared_cells node.inputs)
      (λ c m. cell_declared (declarations node) distinct c
      (ap (λ (cs : List Cell). is_among cs c) (declared_append (node.inputs ++ node.outputs) node.locals)
      ∙ among_first (declared_cells (node.inputs ++ node.outputs)) (declared_cells node.locals) c
      (ap (λ (cs : List Cell). is_among cs c) (declared_append node.inputs node.outputs)
      ∙ among_first (declared_cells node.inputs) (declared_cells node.outputs) c m)))

  outputs_declared : AllDeclared (declarations node) (declared_cells node.outputs)
  outputs_declared = all_from (declarations node) (declared_cells node.outputs)
      (λ c m. cell_declared (declarations node) distinct c
      (ap (λ (cs : List Cell). is_among cs c) (declared_append (node.inputs ++ node.outputs) node.locals)
      ∙ among_first (declared_cells (node.inputs ++ node.outputs)) (declared_cells node.locals) c
      (ap (λ (cs : List Cell). is_among cs c) (declared_append node.inputs node.outputs)
      ∙ among_second (declared_cells node.inputs) (declared_cells node.outputs) c m)))

  -- the inputs are the first cells
  start_agrees : {V : Type 0} (vs : List V) → length vs ≡ all_elements node.inputs
      → Agree (declarations node) (element_at vs) (given (declared_cells node.inputs) vs)
  start_agrees vs len c here =
      let n = cell_number (declarations node) c in
      sym (element_given vs 0 n n (omega arith))
      ∙ ap (λ (m : ℕ). given_at (range_with_len 0 m) vs n) len
      ∙ ap (λ (ns : List ℕ). given_at ns vs n) (sym (input_numbers node distinct))
      ∙ given_same (declarations node) (declared_cells node.inputs) vs c inputs_declared here

module _ {V : Type 0} (w : ℕ) (known_names : List (List ℕ)) (signatures : List Signature) (operators : Operators V) (callees : Callees V)
    (answers : NumberedCallees V) (total : AreTotal known_names signatures callees) (law : CodeGivesValue V) (node : Node) where
  -- what is known of a node whose plan is run
  pub record IsSound : Type 0 where
    pub distinct : AreDistinct (declarations node)
    pub sized : AreSized w known_names signatures (unrolled node)
    pub calls : (k : ℕ) → k < length (unrolled node) → Each (AnswersSame signatures answers callees) (calls_of (instance_at (unrolled node) k).right)
    pub twice : NoneHold (twice_in node)

  good_at : IsSound → (k : ℕ) → k < length (unrolled node)
      → IsGood w known_names signatures (declarations node) operators callees answers total law (instance_at (unrolled node) k)
  good_at sound k less = record {
    sized = sized_at w known_names signatures (unrolled node) sound.sized k less;
    reads = part_declared (declarations node) (λ instance. cells_read instance.right) (unrolled node) (node_declared node).read k less;
    assigns = part_declared (declarations node) left_cells (unrolled node) (node_declared node).assigned k less;
    calls = sound.calls k less;
  }

  order_taken : IsSound → (order : List ℕ) → IsReadyOrder (all_elements node.inputs) (coded_node signatures node) order
      → (vs : List V) → length vs ≡ all_elements node.inputs
      → AreTaken w known_names signatures (declarations node) operators callees answers total law (unrolled node) order
      (element_at vs) (given (declared_cells node.inputs) vs)
  order_taken sound order ready vs len =
      let instances = unrolled node in
      let declared = declarations node in
      let inputs = declared_cells node.inputs in
      let count : length (coded_node signatures node) ≡ length instances = length-map instances (coded signatures declared) in
      let within : Each (λ k. k < length instances) order
      = each_from (λ k. k < length instances) order (λ k m. subst (λ n. k < n) count (ready.within k m)) in
      all_taken w known_names signatures declared operators callees answers total law instances order
      (each_from (λ k. IsGood w known_names signatures declared operators callees answers total law (instance_at instances k)) order
      (λ k m. good_at sound k (subst (λ n. k < n) count (ready.within k m))))
      inputs (inputs_declared node sound.distinct) (element_at vs) (given inputs vs)
      (start_agrees node sound.distinct vs len)
      (given_all inputs vs (len ∙ sym (length_cells node.inputs)))
      (λ c y s. given_among inputs vs c y s)
      (order_fresh instances inputs (fresh_in_order instances inputs inputs (λ c m. m) sound.twice) order within ready.distinct inputs (λ c m. inl m))
      (subst (λ (ns : List ℕ). AreReady ns (map (coded_at (coded_node signatures node)) order)) (sym (input_numbers node sound.distinct)) ready.ready)

  -- the plan makes what the node makes
  pub node_made : IsSound → (p : NodePlan) → IsNodePlan signatures node p → (vs : List V) → length vs ≡ all_elements node.inputs
      → made_by_node operators answers p vs ≡ node_outcome operators callees node vs
  node_made sound p is vs len =
      let instances = unrolled node in
      let declared = declarations node in
      let order = p.order.items in
      let ready : IsReadyOrder (all_elements node.inputs) (coded_node signatures node) order
      = subst (λ (n : ℕ). IsReadyOrder n (coded_node signatures node) order) is.inputs
      (subst (λ (done : List Coded). IsReadyOrder p.inputs done order) is.table is.order) in
      let taken = order_taken sound order ready vs len in
      let count : length (coded_node signatures node) ≡ length instances = length-map instances (coded signatures declared) in
      let within : Each (λ k. k < length instances) order
      = each_from (λ k. k < length instances) order (λ k m. subst (λ n. k < n) count (ready.within k m)) in
      let fresh = order_fresh instances (declared_cells node.inputs)
      (fresh_in_order instances (declared_cells node.inputs) (declared_cells node.inputs) (λ c m. m) sound.twice)
      order within ready.distinct (declared_cells node.inputs) (λ c m. inl m) in
      let made : List Coded → ℕ → ℕ → Option (List V)
      = λ done i o. option_and_then (λ environment. whole (map environment (range_with_len i o)))
      (taken_in_order operators answers done order (element_at vs)) in
      ap (λ (done : List Coded). made done p.inputs p.outputs) is.table
      ∙ ap (λ (i : ℕ). made (coded_node signatures node) i p.outputs) is.inputs
      ∙ ap (λ (o : ℕ). made (coded_node signatures node) (all_elements node.inputs) o) is.outputs
      ∙ ap (option_and_then (λ environment. whole (map environment (range_with_len (all_elements node.inputs) (all_elements node.outputs))))) taken.by_number
      ∙ ap (λ (ns : List ℕ). whole (map taken.numbered_end ns)) (sym (output_numbers node sound.distinct))
      ∙ ap (λ (os : List (Option V)). whole os)
      (map_agree declared taken.numbered_end taken.end taken.agree (declared_cells node.outputs) (outputs_declared node sound.distinct))
      ∙ sym (outcome_in_order operators callees instances (map (instance_at instances) order) (declared_cells node.inputs) vs taken.end
      (declared_cells node.outputs)
      (length-map order (instance_at instances) ∙ ready.count ∙ count)
      (order_in instances order within)
      (all_ordered instances order (λ k less. ready.complete k (subst (λ n. k < n) (sym count) less)))
      fresh taken.by_name)
