-- A definition is walked as its cells and its items are.
use Rattle.std.proofs.Common.{◌≡◌, ℕ, ◌+◌, List, [], ◌∷◌, ◌++◌, map, Some, sym, ap, ◌∙◌, subst, arith}
use Rattle.std.proofs.lemmas.List.{append-nil, append_assoc}
use Rattle.usuba_trees.specs.declared.Decl.{Decl}
use Rattle.usuba_trees.specs.declared.Item.{Item}
use Rattle.usuba_trees.specs.declared.Node.{Node}
use Rattle.usuba_cells.specs.declared.computing.Counter as given
use Rattle.usuba_cells.specs.Counters.{around}
use Rattle.usuba_model.specs.declared.fault.Fault.{Fault}
use Rattle.usuba_model.specs.Shapes.{all_elements}
use Rattle.usuba_model.specs.Unrolled.{declarations, of_each, unrolled_item}
use Rattle.usuba_model.specs.Walk.{Step, Signature, declared_step, node_steps, steps_of_each, item_steps, walk_fault, count_of}
use Rattle.usuba_code.specs.Code.{Built, Assigned, Coded, coded, coded_node}
use Rattle.usuba_walk.specs.declared.progress.Progress.{Progress}
use Rattle.usuba_walk.specs.State.Progress.{with_targets, with_code, with_end, with_instances, with_done, Takes, IsAfter}
use Rattle.usuba_walk.proofs.Faulting.{fault-first, fault-second, count_of-append}

-- the elements of two lists of variables
pub all_elements-append : (a b : List Decl) → all_elements (a ++ b) ≡ all_elements a + all_elements b
all_elements-append [] b = omega arith
all_elements-append (d ∷ a) b =
    let rest = all_elements-append a b in
    omega (arith, rest)

with_targets-done : (done : List Coded) (before targets : List Assigned)
    → with_targets (record { done = done; targets = before; cells = []; code = [] }) targets ≡ record { done = done; targets = before ++ targets; cells = []; code = [] }
with_targets-done done before [] = ap (λ ts. record { done = done; targets = ts; cells = []; code = [] }) (sym (append-nil before))
with_targets-done done before (target ∷ targets) =
    with_targets-done done (before ++ target ∷ []) targets
    ∙ ap (λ ts. record { done = done; targets = ts; cells = []; code = [] }) (append_assoc before (target ∷ []) targets)

-- instances that are added to whole ones stand after them
pub with_instances-done : (done instances : List Coded) → with_instances (with_done done) instances ≡ with_done (done ++ instances)
with_instances-done done [] = ap with_done (sym (append-nil done))
with_instances-done done (instance ∷ instances) =
    ap (λ (t : Built). with_instances (with_end (with_code t instance.code)) instances) (with_targets-done done [] instance.targets)
    ∙ with_instances-done (done ++ instance ∷ []) instances
    ∙ ap with_done (append_assoc done (instance ∷ []) instances)

module _ (w : ℕ) (signatures : List Signature) (node : Node) where
  abbrev declared : List Step
  declared = declared_step node.name.place (declarations node) ∷ []

  abbrev items : List Step
  items = steps_of_each (map (item_steps w signatures (declarations node)) node.items) []

  -- the steps and the instances of items among these variables, inside these loops
  abbrev pub ItemsTaken : Progress → Progress → List Decl → List given.Counter → List Item → Type 0
  ItemsTaken begun last variables counters listed =
      Takes begun last (steps_of_each (map (item_steps w signatures variables) listed) (around counters))
      (with_instances begun.table (map (coded signatures variables) (of_each (map (unrolled_item variables) listed) (around counters))))

  -- a node is walked once its cells are counted and its items are walked
  pub node-after : (begun last : Progress) (variables : List Decl) (counters : List given.Counter) (listed : List Item)
      → ItemsTaken begun last variables counters listed → variables ≡ declarations node → counters ≡ [] → listed ≡ node.items
      → IsAfter begun declared [] → IsAfter last (node_steps w signatures node) (coded_node signatures node)
  node-after begun last variables counters listed taken are none all one =
      let two : ItemsTaken begun last (declarations node) [] node.items =
      subst (ItemsTaken begun last (declarations node) []) all
      (subst (λ cs. ItemsTaken begun last (declarations node) cs listed) none (subst (λ vs. ItemsTaken begun last vs counters listed) are taken)) in
      let both = count_of-append declared items in
      let at_start : begun.count ≡ 0 + count_of declared = omega (arith, one.count) in
      record {
        clean = fault-second 0 declared items one.clean ∙ ap (λ n. walk_fault n items) (sym at_start) ∙ two.clean;
        count = omega (arith, one.count, two.count, both);
        table = two.table ∙ ap (λ t. with_instances t (coded_node signatures node)) one.table ∙ with_instances-done [] (coded_node signatures node);
      }

  -- a fault at the cells
  pub node-declared_fault : (fault : Fault) → walk_fault 0 declared ≡ Some fault → walk_fault 0 (node_steps w signatures node) ≡ Some fault
  node-declared_fault fault known = fault-first 0 declared items fault known

  -- a fault in the items
  pub node-items_fault : (begun : Progress) (variables : List Decl) (counters : List given.Counter) (listed : List Item) (fault : Fault)
      → walk_fault begun.count (steps_of_each (map (item_steps w signatures variables) listed) (around counters)) ≡ Some fault
      → variables ≡ declarations node → counters ≡ [] → listed ≡ node.items → IsAfter begun declared []
      → walk_fault 0 (node_steps w signatures node) ≡ Some fault
  node-items_fault begun variables counters listed fault known are none all one =
      let here : walk_fault begun.count items ≡ Some fault =
      ap (λ l. walk_fault begun.count (steps_of_each (map (item_steps w signatures (declarations node)) l) [])) (sym all)
      ∙ ap (λ cs. walk_fault begun.count (steps_of_each (map (item_steps w signatures (declarations node)) listed) (around cs))) (sym none)
      ∙ ap (λ vs. walk_fault begun.count (steps_of_each (map (item_steps w signatures vs) listed) (around counters))) (sym are) ∙ known in
      let at_start : begun.count ≡ 0 + count_of declared = omega (arith, one.count) in
      fault-second 0 declared items one.clean ∙ ap (λ n. walk_fault n items) (sym at_start) ∙ here
