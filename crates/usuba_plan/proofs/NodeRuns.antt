-- Instances that are taken, one after another, over cells of handles.
use Rattle.std.proofs.Common.{◌≡◌, ℕ, zero, suc, ◌+◌, ◌-◌, ◌<◌, ◌≤◌, Bool, true, false, ◌==◌, List, [], ◌∷◌, ◌++◌, length, map, take, drop, get_or, Option, Some, None, refl, sym, ap, ◌∙◌, subst, arith}
use Rattle.std.specs.Prelude.{option_map, option_and_then, IsSome, if◌then◌else◌}
use Rattle.std.specs.List.{range_with_len}
use Rattle.std.specs.Option.{option_or}
use mathlib.Core.Path.{fun_ext}
use Rattle.std.proofs.lemmas.List.{at_drop_more, at_drop_all, take_more}
use Rattle.std.proofs.lemmas.Option.{none-some}
use Rattle.usuba_trees.specs.declared.Def.{Def}
use Rattle.usuba_model.specs.Rounds.{Operators, both, whole, element_at, permuted}
use Rattle.usuba_code.specs.Code.{Coded, coded_at}
use Rattle.usuba_code.specs.CodeLaw.{Each}
use Rattle.usuba_code.specs.Machine.{NumberedEnvironment, run_code}
use Rattle.ready_order.specs.Numbered.{left_numbers}
use Rattle.usuba_plan.specs.Fit.{InstanceFits, NodeFits, AllFit}
use Rattle.usuba_plan.specs.Made.{given_at, with_given, taken, taken_in_order, made_by_node, made_below}
use Rattle.usuba_plan.specs.Room.{code_room, order_room, room_below}
use Rattle.usuba_plan.specs.State.Handles.{handle_at, environment_of, CellsHeld}
use Rattle.usuba_plan.specs.State.Runs.{CanRunNode, CanRunCode}
use Rattle.usuba_plan.specs.Store.{Store, Gives, Keeps, meanings}
use Rattle.usuba_plan.specs.declared.plans.NodePlan.{NodePlan}
use Rattle.usuba_plan.specs.declared.plans.Plan.{Plan}
use Rattle.usuba_code.specs.declared.operation.Operation.{Operation}
use Rattle.usuba_plan.proofs.Eaches.{each_at, each_then}
use Rattle.usuba_plan.proofs.Picking.{map_there, false_true}
use Rattle.usuba_plan.proofs.Stores.{kept_itself, kept_on, kept_within, cells_held_on, same_environment}

order_more : (callees : ℕ → ℕ) (done : List Coded) (order : List ℕ) (i k : ℕ) → i < length order → k ≡ get_or order i k
    → order_room callees done (take (i + 1) order) ≡ order_room callees done (take i order) + code_room callees (coded_at done k).code
order_more callees done order i k less is =
    ap (order_room callees done) (take_more order i k less ∙ ap (λ (j : ℕ). take i order ++ j ∷ []) (sym is)) ∙ pushed (take i order)
  where
    pushed : (ks : List ℕ) → order_room callees done (ks ++ k ∷ []) ≡ order_room callees done ks + code_room callees (coded_at done k).code
    pushed [] = omega arith
    pushed (j ∷ ks) = let later = pushed ks in omega (arith, later)

order_part : (callees : ℕ → ℕ) (done : List Coded) (order : List ℕ) (i : ℕ) → order_room callees done (take i order) ≤ order_room callees done order
order_part callees done order zero = omega arith
order_part callees done [] (suc i) = omega arith
order_part callees done (k ∷ order) (suc i) = let later = order_part callees done order i in omega (arith, later)

-- the number of an instance is that of one in the table, which fits
pub within_at : (defs : List Def) (w : ℕ) (node : NodePlan) (i k : ℕ) → NodeFits w defs node → i < length node.order.items → k ≡ get_or node.order.items i k
    → k < length node.table.done
within_at defs w node i k fits less is =
    subst (λ (j : ℕ). j < length node.table.done) (sym is) (each_at (λ j. j < length node.table.done) node.order.items i k less fits.within)

pub fits_at : (defs : List Def) (w : ℕ) (node : NodePlan) (i k : ℕ) → NodeFits w defs node → i < length node.order.items → k ≡ get_or node.order.items i k
    → InstanceFits w defs node.cells (coded_at node.table.done k)
fits_at defs w node i k fits less is =
    subst (λ (j : ℕ). InstanceFits w defs node.cells (coded_at node.table.done j)) (sym is)
    (each_at (λ j. InstanceFits w defs node.cells (coded_at node.table.done j)) node.order.items i k less fits.instances)

module _ {H V : Type 0} where
  -- what handles at cells stand for
  given_means : (f : H → V) (cells : List ℕ) (hs : List H) (n : ℕ) → option_map f (given_at cells hs n) ≡ given_at cells (map f hs) n
  given_means f [] hs n = refl
  given_means f (c ∷ cells) [] n = refl
  given_means f (c ∷ cells) (h ∷ hs) n = of_test (n == c) (given_means f cells hs n)
    where
      of_test : (b : Bool) → option_map f (given_at cells hs n) ≡ given_at cells (map f hs) n
          → option_map f (if b then Some h else given_at cells hs n) ≡ (if b then Some (f h) else given_at cells (map f hs) n)
      of_test true later = refl
      of_test false later = later

  or_means : (f : H → V) (o p : Option H) → option_map f (option_or o p) ≡ option_or (option_map f o) (option_map f p)
  or_means f (Some h) p = refl
  or_means f None p = refl

  -- the cells after an instance got its handles
  pub assigned_means : (s : Store H V) (old new : List (Option H)) (cells : List ℕ) (hs : List H)
      → ((n : ℕ) → handle_at new n ≡ with_given cells hs (handle_at old) n)
      → environment_of s new ≡ with_given cells (meanings s hs) (environment_of s old)
  assigned_means s old new cells hs is = fun_ext (λ n.
      ap (option_map s.meaning) (is n)
      ∙ or_means s.meaning (given_at cells hs n) (handle_at old n)
      ∙ ap (λ (o : Option V). option_or o (environment_of s old n)) (given_means s.meaning cells hs n))

  given_held : (s : Store H V) (cells : List ℕ) (hs : List H) → Each s.holds hs → (n : ℕ) (h : H) → given_at cells hs n ≡ Some h → s.holds h
  given_held s [] hs held n h e = absurd (none-some h e)
  given_held s (c ∷ cells) [] held n h e = absurd (none-some h e)
  given_held s (c ∷ cells) (x ∷ hs) held n h e = of_test (n == c) (given_held s cells hs held.1 n h) e
    where
      some_same : (a b : H) → Some a ≡ Some b → a ≡ b
      some_same a b e = cc e

      of_test : (b : Bool) → (given_at cells hs n ≡ Some h → s.holds h) → (if b then Some x else given_at cells hs n) ≡ Some h → s.holds h
      of_test true later e = subst s.holds (some_same x h e) held.0
      of_test false later e = later e

  pub assigned_held : (s : Store H V) (old new : List (Option H)) (cells : List ℕ) (hs : List H)
      → ((n : ℕ) → handle_at new n ≡ with_given cells hs (handle_at old) n) → CellsHeld s old → Each s.holds hs → CellsHeld s new
  assigned_held s old new cells hs is old_held held n h e = of_given (given_at cells hs n) refl (sym (is n) ∙ e)
    where
      of_given : (o : Option H) → given_at cells hs n ≡ o → option_or o (handle_at old n) ≡ Some h → s.holds h
      of_given (Some x) given e = given_held s cells hs held n h (given ∙ e)
      of_given None given e = old_held n h e

  -- the cells at the beginning hold the inputs
  pub begun_means : (s : Store H V) (inputs : List H) (cells : List (Option H)) → ((n : ℕ) → handle_at cells n ≡ element_at inputs n)
      → environment_of s cells ≡ element_at (meanings s inputs)
  begun_means s inputs cells is = fun_ext (λ n. ap (option_map s.meaning) (is n) ∙ at inputs n)
    where
      at : (hs : List H) (n : ℕ) → option_map s.meaning (element_at hs n) ≡ element_at (map s.meaning hs) n
      at [] n = refl
      at (h ∷ hs) zero = refl
      at (h ∷ hs) (suc n) = at hs n

  pub begun_held : (s : Store H V) (inputs : List H) (cells : List (Option H)) → ((n : ℕ) → handle_at cells n ≡ element_at inputs n)
      → Each s.holds inputs → CellsHeld s cells
  begun_held s inputs cells is held n h e = at inputs held n (sym (is n) ∙ e)
    where
      some_same : (a b : H) → Some a ≡ Some b → a ≡ b
      some_same a b e = cc e

      at : (hs : List H) → Each s.holds hs → (n : ℕ) → element_at hs n ≡ Some h → s.holds h
      at [] held n e = absurd (none-some h e)
      at (x ∷ hs) held zero e = subst s.holds (some_same x h e) held.0
      at (x ∷ hs) held (suc n) e = at hs held.1 n e

  -- the handles of outputs
  pub outputs_there : (s : Store H V) (cells : List (Option H)) (ns : List ℕ) → IsSome (whole (map (environment_of s cells) ns))
      → IsSome (whole (map (handle_at cells) ns))
  outputs_there s cells [] there = refl
  outputs_there s cells (n ∷ ns) there = of_both (handle_at cells n) (whole (map (environment_of s cells) ns)) (whole (map (handle_at cells) ns)) there (outputs_there s cells ns)
    where
      of_both : (o : Option H) (p : Option (List V)) (q : Option (List H)) → IsSome (both (λ v vs. v ∷ vs) (option_map s.meaning o) p)
          → (IsSome p → IsSome q) → IsSome (both (λ v vs. v ∷ vs) o q)
      of_both (Some h) (Some vs) (Some hs) there later = refl
      of_both (Some h) (Some vs) None there later = later refl
      of_both (Some h) None q there later = false_true there
      of_both None p q there later = false_true there

  pub outputs_mean : (s : Store H V) (cells : List (Option H)) (ns : List ℕ) (hs : List H) → CellsHeld s cells → whole (map (handle_at cells) ns) ≡ Some hs
      → Gives s hs (whole (map (environment_of s cells) ns))
  outputs_mean s cells [] hs cells_held e = nothing hs e
    where
      some_same : (a b : List H) → Some a ≡ Some b → a ≡ b
      some_same a b e = cc e

      nothing : (xs : List H) → Some [] ≡ Some xs → Gives s xs (Some [])
      nothing xs e = subst (λ (ys : List H). Gives s ys (Some [])) (some_same [] xs e) (record { held = tt; means = refl })
  outputs_mean s cells (n ∷ ns) hs cells_held e =
      of_both (handle_at cells n) refl (whole (map (handle_at cells) ns)) refl (λ rest is. outputs_mean s cells ns rest cells_held is) e
    where
      some_same : (a b : List H) → Some a ≡ Some b → a ≡ b
      some_same a b e = cc e

      of_both : (o : Option H) → handle_at cells n ≡ o → (q : Option (List H)) → whole (map (handle_at cells) ns) ≡ q
          → ((rest : List H) → whole (map (handle_at cells) ns) ≡ Some rest → Gives s rest (whole (map (environment_of s cells) ns)))
          → both (λ v vs. v ∷ vs) o q ≡ Some hs → Gives s hs (both (λ v vs. v ∷ vs) (option_map s.meaning (handle_at cells n)) (whole (map (environment_of s cells) ns)))
      of_both (Some h) is (Some rest) is' others e =
          let later = others rest is' in
          subst (λ (ys : List H). Gives s ys (both (λ v vs. v ∷ vs) (option_map s.meaning (handle_at cells n)) (whole (map (environment_of s cells) ns))))
          (some_same (h ∷ rest) hs e)
          (record {
            held = (cells_held n h is, later.held);
            means =
                ap (λ (o : Option H). both (λ v vs. v ∷ vs) (option_map s.meaning o) (whole (map (environment_of s cells) ns))) is
                ∙ ap (both (λ v vs. v ∷ vs) (Some (s.meaning h))) later.means;
          })
      of_both (Some h) is None is' others e = absurd (none-some hs e)
      of_both None is q is' others e = absurd (none-some hs e)

  module _ (defs : List Def) (plans : List Plan) (number : ℕ) where
    -- instances so far are taken, and what is left makes the whole
    pub record Taking (old now : Store H V) (node : NodePlan) (inputs : List H) (cells : List (Option H)) (i : ℕ) : Type 0 where
      pub kept : Keeps (order_room (room_below defs plans number) node.table.done (take i node.order.items)) old now
      pub cells_held : CellsHeld now cells
      pub wide : node.cells ≤ length cells
      pub left : taken_in_order old.operators (made_below old.operators defs plans number) node.table.done (drop i node.order.items) (environment_of now cells)
          ≡ taken_in_order old.operators (made_below old.operators defs plans number) node.table.done node.order.items (element_at (meanings old inputs))

    pub take_begin : (s : Store H V) (node : NodePlan) (inputs : List H) (cells : List (Option H)) → Each s.holds inputs
        → ((n : ℕ) → handle_at cells n ≡ element_at inputs n) → node.cells ≤ length cells → Taking s s node inputs cells 0
    take_begin s node inputs cells held is wide = record {
      kept = kept_itself s;
      cells_held = begun_held s inputs cells is held;
      wide = wide;
      left = ap (taken_in_order s.operators (made_below s.operators defs plans number) node.table.done node.order.items) (begun_means s inputs cells is);
    }

    -- what is left at an instance
    left_at : (old now : Store H V) (node : NodePlan) (inputs : List H) (cells : List (Option H)) (i k : ℕ) → i < length node.order.items
        → k ≡ get_or node.order.items i k → Taking old now node inputs cells i
        → option_and_then (taken_in_order old.operators (made_below old.operators defs plans number) node.table.done (drop (i + 1) node.order.items))
        (taken old.operators (made_below old.operators defs plans number) (coded_at node.table.done k) (environment_of now cells))
        ≡ taken_in_order old.operators (made_below old.operators defs plans number) node.table.done node.order.items (element_at (meanings old inputs))
    left_at old now node inputs cells i k less is t =
        let run : List ℕ → Option (NumberedEnvironment V)
        = λ ks. taken_in_order old.operators (made_below old.operators defs plans number) node.table.done ks (environment_of now cells) in
        ap (λ (j : ℕ). run (j ∷ drop (i + 1) node.order.items)) is ∙ sym (at_drop_more run node.order.items i k less) ∙ t.left

    all_there : (old : Store H V) (node : NodePlan) (inputs : List H) → CanRunNode old defs plans number node inputs
        → IsSome (taken_in_order old.operators (made_below old.operators defs plans number) node.table.done node.order.items (element_at (meanings old inputs)))
    all_there old node inputs can =
        option_there (λ environment. whole (map environment (range_with_len node.inputs node.outputs)))
        (taken_in_order old.operators (made_below old.operators defs plans number) node.table.done node.order.items (element_at (meanings old inputs)))
        can.makes
      where
        option_there : {B C : Type 0} (f : B → Option C) (o : Option B) → IsSome (option_and_then f o) → IsSome o
        option_there f (Some b) e = refl
        option_there f None e = e

    same_taken : (old now : Store H V) (m : ℕ) → Keeps m old now → (instance : Coded) (e : NumberedEnvironment V)
        → taken now.operators (made_below now.operators defs plans number) instance e ≡ taken old.operators (made_below old.operators defs plans number) instance e
    same_taken old now m kept instance e = ap (λ (ops : Operators V). taken ops (made_below ops defs plans number) instance e) kept.operators

    pub can_take : (old now : Store H V) (node : NodePlan) (inputs : List H) (cells : List (Option H)) (i k : ℕ)
        → CanRunNode old defs plans number node inputs → i < length node.order.items → k ≡ get_or node.order.items i k
        → Taking old now node inputs cells i
        → CanRunCode now defs plans number (coded_at node.table.done k).code cells []
    can_take old now node inputs cells i k can less is t =
        let callees = room_below defs plans number in
        let instance = coded_at node.table.done k in
        let there : IsSome (taken old.operators (made_below old.operators defs plans number) instance (environment_of now cells))
        = then_environment (taken old.operators (made_below old.operators defs plans number) instance (environment_of now cells))
        (subst (λ (q : Option (NumberedEnvironment V)). IsSome q) (sym (left_at old now node inputs cells i k less is t)) (all_there old node inputs can)) in
        record {
          fits = subst (λ (w : ℕ). AllFit w defs plans) (sym t.kept.width) can.fits;
          code_fits = (fits_at defs now.width node i k (subst (λ (w : ℕ). NodeFits w defs node) (sym t.kept.width) can.node_fits) less is).code;
          cells_held = t.cells_held;
          held = tt;
          room =
              let kept = t.kept.room in
              let all = can.room in
              let more = order_more callees node.table.done node.order.items i k less is in
              let part = order_part callees node.table.done node.order.items (i + 1) in
              omega (arith, kept, all, more, part);
          makes =
              map_there (λ elements. with_given (left_numbers instance) elements (environment_of now cells))
              (run_code now.operators (made_below now.operators defs plans number) (environment_of now cells) instance.code [])
              (subst (λ (q : Option (NumberedEnvironment V)). IsSome q)
              (sym (same_taken old now (order_room callees node.table.done (take i node.order.items)) t.kept instance (environment_of now cells))) there);
        }
      where
        then_environment : (o : Option (NumberedEnvironment V))
            → IsSome (option_and_then (taken_in_order old.operators (made_below old.operators defs plans number) node.table.done (drop (i + 1) node.order.items)) o)
            → IsSome o
        then_environment (Some e) there = refl
        then_environment None there = there

    pub take_next : (old now next : Store H V) (node : NodePlan) (inputs stack : List H) (cells after : List (Option H)) (i k : ℕ)
        → CanRunNode old defs plans number node inputs → i < length node.order.items → k ≡ get_or node.order.items i k
        → Taking old now node inputs cells i
        → Gives next stack (run_code now.operators (made_below now.operators defs plans number) (environment_of now cells) (coded_at node.table.done k).code [])
        → Keeps (code_room (room_below defs plans number) (coded_at node.table.done k).code) now next
        → ((n : ℕ) → handle_at after n ≡ with_given (left_numbers (coded_at node.table.done k)) stack (handle_at cells) n) → length after ≡ length cells
        → Taking old next node inputs after (i + 1)
    take_next old now next node inputs stack cells after i k can less is t gives kept assigned same =
        let callees = room_below defs plans number in
        let instance = coded_at node.table.done k in
        let held_next = cells_held_on (code_room callees instance.code) now next kept cells t.cells_held in
        let now_environment : environment_of next cells ≡ environment_of now cells
        = same_environment (code_room callees instance.code) now next kept cells t.cells_held in
        let after_is : environment_of next after ≡ with_given (left_numbers instance) (meanings next stack) (environment_of now cells)
        = assigned_means next cells after (left_numbers instance) stack assigned
        ∙ ap (λ (e : NumberedEnvironment V). with_given (left_numbers instance) (meanings next stack) e) now_environment in
        let taken_is : taken old.operators (made_below old.operators defs plans number) instance (environment_of now cells) ≡ Some (environment_of next after)
        = sym (same_taken old now (order_room callees node.table.done (take i node.order.items)) t.kept instance (environment_of now cells))
        ∙ ap (option_map (λ elements. with_given (left_numbers instance) elements (environment_of now cells))) gives.means
        ∙ ap (λ (e : NumberedEnvironment V). Some e) (sym after_is) in
        record {
          kept = subst (λ (m : ℕ). Keeps m old next) (sym (order_more callees node.table.done node.order.items i k less is))
              (kept_on (order_room callees node.table.done (take i node.order.items)) (code_room callees instance.code) old now next t.kept kept);
          cells_held = assigned_held next cells after (left_numbers instance) stack assigned held_next gives.held;
          wide = let wide = t.wide in omega (arith, wide, same);
          left =
              sym (ap (option_and_then (taken_in_order old.operators (made_below old.operators defs plans number) node.table.done (drop (i + 1) node.order.items))) taken_is)
              ∙ left_at old now node inputs cells i k less is t;
        }

    -- all instances are taken
    taken_all : (old now : Store H V) (node : NodePlan) (inputs : List H) (cells : List (Option H)) (i : ℕ) → length node.order.items ≤ i
        → Taking old now node inputs cells i
        → taken_in_order old.operators (made_below old.operators defs plans number) node.table.done node.order.items (element_at (meanings old inputs))
        ≡ Some (environment_of now cells)
    taken_all old now node inputs cells i past t =
        sym t.left
        ∙ at_drop_all (λ ks. taken_in_order old.operators (made_below old.operators defs plans number) node.table.done ks (environment_of now cells)) node.order.items i past

    made_all : (old now : Store H V) (node : NodePlan) (inputs : List H) (cells : List (Option H)) (i : ℕ) → length node.order.items ≤ i
        → Taking old now node inputs cells i
        → made_by_node old.operators (made_below old.operators defs plans number) node (meanings old inputs)
        ≡ whole (map (environment_of now cells) (range_with_len node.inputs node.outputs))
    made_all old now node inputs cells i past t =
        ap (option_and_then (λ environment. whole (map environment (range_with_len node.inputs node.outputs)))) (taken_all old now node inputs cells i past t)

    pub take_there : (old now : Store H V) (node : NodePlan) (inputs : List H) (cells : List (Option H)) (i : ℕ) → length node.order.items ≤ i
        → CanRunNode old defs plans number node inputs → Taking old now node inputs cells i
        → IsSome (whole (map (handle_at cells) (range_with_len node.inputs node.outputs)))
    take_there old now node inputs cells i past can t =
        outputs_there now cells (range_with_len node.inputs node.outputs)
        (subst (λ (q : Option (List V)). IsSome q) (made_all old now node inputs cells i past t) can.makes)

    pub take_done : (old now : Store H V) (node : NodePlan) (inputs : List H) (cells : List (Option H)) (found : List H) (i : ℕ) → length node.order.items ≤ i
        → Taking old now node inputs cells i → whole (map (handle_at cells) (range_with_len node.inputs node.outputs)) ≡ Some found
        → Gives now found (made_by_node old.operators (made_below old.operators defs plans number) node (meanings old inputs))
    take_done old now node inputs cells found i past t is =
        let outputs = outputs_mean now cells (range_with_len node.inputs node.outputs) found t.cells_held is in record {
          held = outputs.held;
          means = made_all old now node inputs cells i past t ∙ outputs.means;
        }

    pub take_kept : (old now : Store H V) (node : NodePlan) (inputs : List H) (cells : List (Option H)) (i : ℕ) → Taking old now node inputs cells i
        → Keeps (order_room (room_below defs plans number) node.table.done node.order.items) old now
    take_kept old now node inputs cells i t =
        kept_within (order_room (room_below defs plans number) node.table.done (take i node.order.items))
        (order_room (room_below defs plans number) node.table.done node.order.items) old now t.kept
        (order_part (room_below defs plans number) node.table.done node.order.items i)

    -- the same where the code of an instance wanted memory, or was run
    pub take_kept_after : (old now next : Store H V) (node : NodePlan) (inputs : List H) (cells : List (Option H)) (i k : ℕ)
        → i < length node.order.items → k ≡ get_or node.order.items i k → Taking old now node inputs cells i
        → Keeps (code_room (room_below defs plans number) (coded_at node.table.done k).code) now next
        → Keeps (order_room (room_below defs plans number) node.table.done node.order.items) old next
    take_kept_after old now next node inputs cells i k less is t kept =
        let callees = room_below defs plans number in
        kept_within (order_room callees node.table.done (take i node.order.items) + code_room callees (coded_at node.table.done k).code)
        (order_room callees node.table.done node.order.items) old next
        (kept_on (order_room callees node.table.done (take i node.order.items)) (code_room callees (coded_at node.table.done k).code) old now next t.kept kept)
        (subst (λ (m : ℕ). m ≤ order_room callees node.table.done node.order.items) (order_more callees node.table.done node.order.items i k less is)
        (order_part callees node.table.done node.order.items (i + 1)))

-- the handles that a permutation picks
module _ {H V : Type 0} (s : Store H V) where
  element_means : (hs : List H) (k : ℕ) → option_map s.meaning (element_at hs k) ≡ element_at (meanings s hs) k
  element_means [] k = refl
  element_means (h ∷ hs) zero = refl
  element_means (h ∷ hs) (suc k) = element_means hs k

  element_held : (hs : List H) → Each s.holds hs → (k : ℕ) (h : H) → element_at hs k ≡ Some h → s.holds h
  element_held [] held k h e = absurd (none-some h e)
  element_held (x ∷ hs) held zero h e = subst s.holds (some_same x h e) held.0
    where
      some_same : (a b : H) → Some a ≡ Some b → a ≡ b
      some_same a b e = cc e
  element_held (x ∷ hs) held (suc k) h e = element_held hs held.1 k h e

  pub picked_there : (entries : List ℕ) (hs : List H) → IsSome (permuted entries (meanings s hs)) → IsSome (permuted entries hs)
  picked_there [] hs there = refl
  picked_there (entry ∷ entries) hs there =
      of_both (element_at hs (entry - 1)) (permuted entries (meanings s hs)) (permuted entries hs)
      (subst (λ (o : Option V). IsSome (both (λ v vs. v ∷ vs) o (permuted entries (meanings s hs)))) (sym (element_means hs (entry - 1))) there)
      (picked_there entries hs)
    where
      of_both : (o : Option H) (p : Option (List V)) (q : Option (List H)) → IsSome (both (λ v vs. v ∷ vs) (option_map s.meaning o) p)
          → (IsSome p → IsSome q) → IsSome (both (λ v vs. v ∷ vs) o q)
      of_both (Some h) (Some vs) (Some ks) there later = refl
      of_both (Some h) (Some vs) None there later = later refl
      of_both (Some h) None q there later = false_true there
      of_both None p q there later = false_true there

  pub picked_mean : (entries : List ℕ) (hs found : List H) → Each s.holds hs → permuted entries hs ≡ Some found
      → Gives s found (permuted entries (meanings s hs))
  picked_mean [] hs found held e = subst (λ (ys : List H). Gives s ys (Some [])) (some_same [] found e) (record { held = tt; means = refl })
    where
      some_same : (a b : List H) → Some a ≡ Some b → a ≡ b
      some_same a b e = cc e
  picked_mean (entry ∷ entries) hs found held e =
      of_both (element_at hs (entry - 1)) refl (permuted entries hs) refl (λ rest is. picked_mean entries hs rest held is) e
    where
      some_same : (a b : List H) → Some a ≡ Some b → a ≡ b
      some_same a b e = cc e

      of_both : (o : Option H) → element_at hs (entry - 1) ≡ o → (q : Option (List H)) → permuted entries hs ≡ q
          → ((rest : List H) → permuted entries hs ≡ Some rest → Gives s rest (permuted entries (meanings s hs)))
          → both (λ v vs. v ∷ vs) o q ≡ Some found
          → Gives s found (both (λ v vs. v ∷ vs) (element_at (meanings s hs) (entry - 1)) (permuted entries (meanings s hs)))
      of_both (Some h) is (Some rest) is' others e =
          let later = others rest is' in
          subst (λ (ys : List H). Gives s ys (both (λ v vs. v ∷ vs) (element_at (meanings s hs) (entry - 1)) (permuted entries (meanings s hs))))
          (some_same (h ∷ rest) found e)
          (record {
            held = (element_held hs held (entry - 1) h is, later.held);
            means =
                ap (λ (o : Option V). both (λ v vs. v ∷ vs) o (permuted entries (meanings s hs))) (sym (element_means hs (entry - 1)) ∙ ap (option_map s.meaning) is)
                ∙ ap (both (λ v vs. v ∷ vs) (Some (s.meaning h))) later.means;
          })
      of_both (Some h) is None is' others e = absurd (none-some found e)
      of_both None is q is' others e = absurd (none-some found e)

-- the same over what the calls of a run give
module _ {H V : Type 0} (defs : List Def) (plans : List Plan) (number : ℕ) (old now : Store H V) (node : NodePlan) (inputs : List H) (cells : List (Option H)) (i k : ℕ)
    (can : CanRunNode old defs plans number node inputs) (less : i < length node.order.items) (is : k ≡ get_or node.order.items i k)
    (t : Taking defs plans number old now node inputs cells i) (code : List Operation) (code_is : code ≡ (coded_at node.table.done k).code) where
  pub instance_within : k < length node.table.done
  instance_within = within_at defs old.width node i k can.node_fits less is

  pub can_take_at : (slice : List (Option H)) → slice ≡ cells → (stack : List H) → stack ≡ [] → CanRunCode now defs plans number code slice stack
  can_take_at slice slice_is stack stack_is =
      subst (λ (hs : List H). CanRunCode now defs plans number code slice hs) (sym stack_is)
      (subst (λ (cs : List (Option H)). CanRunCode now defs plans number code cs []) (sym slice_is)
      (subst (λ (ops : List Operation). CanRunCode now defs plans number ops cells []) (sym code_is)
      (can_take defs plans number old now node inputs cells i k can less is t)))

  pub take_kept_at : (next : Store H V) → Keeps (code_room (room_below defs plans number) code) now next
      → Keeps (order_room (room_below defs plans number) node.table.done node.order.items) old next
  take_kept_at next kept =
      take_kept_after defs plans number old now next node inputs cells i k less is t
      (subst (λ (ops : List Operation). Keeps (code_room (room_below defs plans number) ops) now next) code_is kept)

  pub can_assign : (ns : List ℕ) → ns ≡ left_numbers (coded_at node.table.done k) → Each (λ cell. cell < length cells) ns
  can_assign ns ns_is =
      subst (λ (ms : List ℕ). Each (λ cell. cell < length cells) ms) (sym ns_is)
      (each_then (λ cell. cell < node.cells) (λ cell. cell < length cells) (λ cell below. let wide = t.wide in omega (arith, below, wide))
      (left_numbers (coded_at node.table.done k)) (fits_at defs old.width node i k can.node_fits less is).left)

  pub take_next_at : (next : Store H V) (slice : List (Option H)) → slice ≡ cells → (first : List H) → first ≡ [] → (stack : List H)
      → Gives next stack (run_code now.operators (made_below now.operators defs plans number) (environment_of now slice) code (meanings now first))
      → Keeps (code_room (room_below defs plans number) code) now next
      → (ns : List ℕ) → ns ≡ left_numbers (coded_at node.table.done k) → (hs : List H) → hs ≡ stack → (after : List (Option H))
      → ((n : ℕ) → handle_at after n ≡ with_given ns hs (handle_at cells) n) → length after ≡ length cells
      → Taking defs plans number old next node inputs after (i + 1)
  take_next_at next slice slice_is first first_is stack gives kept ns ns_is hs hs_is after assigned same =
      let run : List (Option H) → List Operation → List H → Option (List V)
      = λ cs ops from. run_code now.operators (made_below now.operators defs plans number) (environment_of now cs) ops (meanings now from) in
      let gives' : Gives next stack (run cells (coded_at node.table.done k).code [])
      = subst (λ (from : List H). Gives next stack (run cells (coded_at node.table.done k).code from)) first_is
      (subst (λ (ops : List Operation). Gives next stack (run cells ops first)) code_is
      (subst (λ (cs : List (Option H)). Gives next stack (run cs code first)) slice_is gives)) in
      take_next defs plans number old now next node inputs stack cells after i k can less is t gives'
      (subst (λ (ops : List Operation). Keeps (code_room (room_below defs plans number) ops) now next) code_is kept)
      (λ n. assigned n
      ∙ ap (λ (ms : List ℕ). with_given ms hs (handle_at cells) n) ns_is
      ∙ ap (λ (xs : List H). with_given (left_numbers (coded_at node.table.done k)) xs (handle_at cells) n) hs_is)
      same
