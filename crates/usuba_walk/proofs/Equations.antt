-- An equation is walked as its sides are.
use Rattle.std.proofs.Common.{◌≡◌, ℕ, ◌+◌, ◌≤◌, List, [], ◌∷◌, ◌++◌, map, length, Some, None, refl, sym, ap, ◌∙◌, subst, arith, length-append}
use Rattle.tor_edge.specs.declared.place.Place.{Place}
use Rattle.usuba_trees.specs.declared.Decl.{Decl}
use Rattle.usuba_trees.specs.declared.Equation.{Equation}
use Rattle.usuba_trees.specs.declared.Spot.{Spot}
use Rattle.usuba_model.specs.declared.fault.Fault.{Fault}
use Rattle.usuba_model.specs.Cells.{spot_read}
use Rattle.usuba_model.specs.Indexes.{Counter}
use Rattle.usuba_model.specs.Numbers.{cell_number}
use Rattle.usuba_model.specs.Unrolled.{targets_of, target_cells, instance_of}
use Rattle.usuba_model.specs.Walk.{Step, Signature, size_of, spot_step, left_steps, first_name, equation_steps, walk_of, walk_fault, count_of}
use Rattle.usuba_model.proofs.WalkLemmas.{walk_unrolls}
use Rattle.usuba_code.specs.Code.{Built, Assigned, assigned, coded, code_of}
use Rattle.usuba_walk.specs.declared.progress.Progress.{Progress}
use Rattle.usuba_walk.specs.State.Progress.{with_code, with_targets, with_end, with_instances, Takes, IsWalked, end_step}
use Rattle.usuba_walk.proofs.Faulting.{fault-first, fault-second}
use Rattle.usuba_walk.proofs.Taking.{Leads, leads-step, leads-end, leads-fault, takes-then, takes-fault}

module _ (declared : List Decl) (counters : List Counter) where
  -- a left side over numbered cells
  abbrev target : Spot → Assigned
  target spot = record { place = spot.name.place; cells = map (cell_number declared) (spot_read declared counters spot).cells }

  abbrev targets : List Spot → List Assigned
  targets spots = map (assigned declared) (targets_of declared counters spots)

  abbrev cells_in : List Spot → ℕ
  cells_in spots = length (target_cells (targets_of declared counters spots))

  -- left sides, of which some are left
  pub record LeftSoFar (first now : Progress) (made : ℕ) (all rest : List Spot) : Type 0 where
    pub leads : Leads first now (left_steps declared counters all) (left_steps declared counters rest) (with_targets first.table (targets all)) (with_targets now.table (targets rest))
    pub size_is : cells_in all ≡ made + cells_in rest
    pub few : made + first.count ≤ now.count

  -- one more left side is walked
  pub left-step : (first now next : Progress) (made more : ℕ) (all left rest : List Spot) (spot : Spot)
      → LeftSoFar first now made all left → left ≡ spot ∷ rest
      → more ≡ length (spot_read declared counters spot).cells → more + now.count ≤ next.count
      → Takes now next (spot_step spot.name.place (spot_read declared counters spot) ∷ []) (with_targets now.table (target spot ∷ []))
      → LeftSoFar first next (made + more) all rest
  left-step first now next made more all left rest spot so is size few takes =
      let here : LeftSoFar first now made all (spot ∷ rest) = subst (LeftSoFar first now made all) is so in
      let both = length-append (spot_read declared counters spot).cells (target_cells (targets_of declared counters rest)) in
      record {
        leads = leads-step first now next (left_steps declared counters all) (spot_step spot.name.place (spot_read declared counters spot) ∷ [])
            (left_steps declared counters rest) (with_targets first.table (targets all)) (with_targets now.table (targets (spot ∷ rest)))
            (with_targets now.table (target spot ∷ [])) (with_targets next.table (targets rest)) here.leads takes
            (ap (λ table. with_targets table (targets rest)) (sym takes.table));
        size_is = omega (arith, here.size_is, both, size);
        few = omega (arith, here.few, few);
      }

  -- a fault at the next left side
  pub left-fault : (first now : Progress) (made : ℕ) (all left rest : List Spot) (spot : Spot) (fault : Fault)
      → LeftSoFar first now made all left → left ≡ spot ∷ rest
      → walk_fault now.count (spot_step spot.name.place (spot_read declared counters spot) ∷ []) ≡ Some fault
      → walk_fault first.count (left_steps declared counters all) ≡ Some fault
  left-fault first now made all left rest spot fault so is known =
      let here : LeftSoFar first now made all (spot ∷ rest) = subst (LeftSoFar first now made all) is so in
      leads-fault first now (left_steps declared counters all) (spot_step spot.name.place (spot_read declared counters spot) ∷ [])
      (left_steps declared counters rest) (with_targets first.table (targets all)) (with_targets now.table (targets (spot ∷ rest))) fault here.leads known

  -- all left sides are walked
  pub left-end : (first now : Progress) (made : ℕ) (all left : List Spot) → LeftSoFar first now made all left → left ≡ []
      → Takes first now (left_steps declared counters all) (with_targets first.table (targets all))
  left-end first now made all left so is =
      let here : LeftSoFar first now made all [] = subst (LeftSoFar first now made all) is so in
      leads-end first now (left_steps declared counters all) (with_targets first.table (targets all)) (with_targets now.table []) here.leads refl

  pub left-size : (first now : Progress) (made : ℕ) (all left : List Spot) → LeftSoFar first now made all left → left ≡ []
      → made ≡ cells_in all
  left-size first now made all left so is =
      let here : LeftSoFar first now made all [] = subst (LeftSoFar first now made all) is so in
      omega (arith, here.size_is)

module _ (w : ℕ) (signatures : List Signature) (declared : List Decl) (counters : List Counter) (equation : Equation) where
  abbrev start : Step
  start = record { place = first_name equation.equal equation.left; adds = 1; fault = None }

  abbrev lefts : List Step
  lefts = left_steps declared counters equation.left

  abbrev right_steps : List Step
  right_steps = (walk_of w signatures declared equation.right counters).steps

  abbrev left_size : ℕ
  left_size = length (target_cells (targets_of declared counters equation.left))

  abbrev right_size : ℕ
  right_size = size_of signatures (walk_of w signatures declared equation.right counters).is

  abbrev whole : List Step
  whole = equation_steps w signatures declared counters equation

  -- what an equation adds to a table
  abbrev pub added : Built → Built
  added table = with_instances table (coded signatures declared (instance_of declared counters equation) ∷ [])

  -- an equation is walked, once it is begun, its sides are walked and it is ended
  pub equation-takes : (first begun middle last ended : Progress) (left right : ℕ)
      → Takes first begun (start ∷ []) first.table
      → Takes begun middle lefts (with_targets begun.table (map (assigned declared) (targets_of declared counters equation.left)))
      → left ≡ left_size
      → IsWalked signatures declared middle last right (walk_of w signatures declared equation.right counters)
      → Takes last ended (end_step equation.equal left right ∷ []) (with_end last.table)
      → Takes first ended whole (added first.table)
  equation-takes first begun middle last ended left right one two is three four =
      let T = map (assigned declared) (targets_of declared counters equation.left) in
      let code = code_of signatures declared (walk_of w signatures declared equation.right counters).is in
      let sizes : end_step equation.equal left right ≡ end_step equation.equal left_size right_size = ap (λ n. end_step equation.equal n right) is ∙ ap (end_step equation.equal left_size) three.size in
      let closing : Takes last ended (end_step equation.equal left_size right_size ∷ []) (with_end last.table)
      = subst (λ (s : Step). Takes last ended (s ∷ []) (with_end last.table)) sizes four in
      let all : Takes first ended whole (with_end last.table)
      = takes-then first last ended ((start ∷ lefts) ++ right_steps) (end_step equation.equal left_size right_size ∷ [])
      (with_code middle.table code) (with_end last.table)
      (takes-then first middle last (start ∷ lefts) right_steps (with_targets begun.table T) (with_code middle.table code)
      (takes-then first begun middle (start ∷ []) lefts first.table (with_targets begun.table T) one two) three.makes.takes)
      closing in
      let same : with_end last.table ≡ added first.table
      = ap with_end (three.makes.takes.table
      ∙ ap (λ t. with_code t code) (two.table ∙ ap (λ t. with_targets t T) one.table)
      ∙ ap (λ e. with_code (with_targets first.table T) (code_of signatures declared e)) (walk_unrolls w signatures declared equation.right counters)) in
      subst (Takes first ended whole) same all

  -- a fault where an equation begins
  pub begin-fault : (count : ℕ) (fault : Fault) → walk_fault count (start ∷ []) ≡ Some fault → walk_fault count whole ≡ Some fault
  begin-fault count fault known =
      fault-first count ((start ∷ lefts) ++ right_steps) (end_step equation.equal left_size right_size ∷ []) fault
      (fault-first count (start ∷ lefts) right_steps fault (fault-first count (start ∷ []) lefts fault known))

  -- a fault in the left sides
  pub lefts-fault : (first begun : Progress) (fault : Fault) → Takes first begun (start ∷ []) first.table
      → walk_fault begun.count lefts ≡ Some fault → walk_fault first.count whole ≡ Some fault
  lefts-fault first begun fault one known =
      fault-first first.count ((start ∷ lefts) ++ right_steps) (end_step equation.equal left_size right_size ∷ []) fault
      (fault-first first.count (start ∷ lefts) right_steps fault (takes-fault first begun (start ∷ []) lefts first.table fault one known))

  -- a fault in the right side
  pub right-fault : (first begun middle : Progress) (table : Built) (fault : Fault) → Takes first begun (start ∷ []) first.table
      → Takes begun middle lefts table
      → walk_fault middle.count right_steps ≡ Some fault → walk_fault first.count whole ≡ Some fault
  right-fault first begun middle table fault one two known =
      fault-first first.count ((start ∷ lefts) ++ right_steps) (end_step equation.equal left_size right_size ∷ []) fault
      (takes-fault first middle (start ∷ lefts) right_steps table fault
      (takes-then first begun middle (start ∷ []) lefts first.table table one two) known)

  -- a fault at the sign `=`
  pub end-fault : (first begun middle last : Progress) (table : Built) (left right : ℕ) (fault : Fault) → Takes first begun (start ∷ []) first.table
      → Takes begun middle lefts table → left ≡ left_size
      → IsWalked signatures declared middle last right (walk_of w signatures declared equation.right counters)
      → walk_fault last.count (end_step equation.equal left right ∷ []) ≡ Some fault → walk_fault first.count whole ≡ Some fault
  end-fault first begun middle last table left right fault one two is three known =
      let code = code_of signatures declared (walk_of w signatures declared equation.right counters).is in
      let sizes : end_step equation.equal left_size right_size ≡ end_step equation.equal left right = ap (λ n. end_step equation.equal n right_size) (sym is) ∙ ap (end_step equation.equal left) (sym three.size) in
      takes-fault first last ((start ∷ lefts) ++ right_steps) (end_step equation.equal left_size right_size ∷ []) (with_code middle.table code) fault
      (takes-then first middle last (start ∷ lefts) right_steps table (with_code middle.table code)
      (takes-then first begun middle (start ∷ []) lefts first.table table one two) three.makes.takes)
      (ap (λ (s : Step). walk_fault last.count (s ∷ [])) sizes ∙ known)

  -- an equation is begun at the first name of its left side
  pub begun-takes : (first begun : Progress) (place : Place) → place ≡ first_name equation.equal equation.left
      → walk_fault first.count (record { place = place; adds = 1; fault = None } ∷ []) ≡ None
      → begun.count ≡ first.count + 1 → begun.table ≡ first.table → Takes first begun (start ∷ []) first.table
  begun-takes first begun place is clean count table = record {
    clean = ap (λ p. walk_fault first.count (record { place = p; adds = 1; fault = None } ∷ [])) (sym is) ∙ clean;
    count = omega (arith, count);
    table = table;
  }

  -- left sides that are walked as they are listed
  abbrev pub LeftsTaken : Progress → Progress → List Spot → Type 0
  LeftsTaken begun middle slice =
      Takes begun middle (left_steps declared counters slice) (with_targets begun.table (map (assigned declared) (targets_of declared counters slice)))

  pub lefts-as : (begun middle : Progress) (slice : List Spot) → LeftsTaken begun middle slice → slice ≡ equation.left → LeftsTaken begun middle equation.left
  lefts-as begun middle slice taken is = subst (LeftsTaken begun middle) is taken

  -- a fault in the left sides of an equation that was begun
  pub begun-fault : (count next : ℕ) (place : Place) (slice : List Spot) (fault : Fault) → place ≡ first_name equation.equal equation.left
      → walk_fault count (record { place = place; adds = 1; fault = None } ∷ []) ≡ None → next ≡ count + 1 → slice ≡ equation.left
      → walk_fault next (left_steps declared counters slice) ≡ Some fault → walk_fault count whole ≡ Some fault
  begun-fault count next place slice fault is clean at_next same known =
      let begun : walk_fault count (start ∷ []) ≡ None = ap (λ p. walk_fault count (record { place = p; adds = 1; fault = None } ∷ [])) (sym is) ∙ clean in
      let at_lefts : count + count_of (start ∷ []) ≡ next = omega (arith, at_next) in
      fault-first count ((start ∷ lefts) ++ right_steps) (end_step equation.equal left_size right_size ∷ []) fault
      (fault-first count (start ∷ lefts) right_steps fault
      (fault-second count (start ∷ []) lefts begun ∙ ap (λ n. walk_fault n lefts) at_lefts
      ∙ ap (λ l. walk_fault next (left_steps declared counters l)) (sym same) ∙ known))
