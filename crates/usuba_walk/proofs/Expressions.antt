-- An expression is walked as its parts are.
use Rattle.std.proofs.Common.{◌≡◌, ℕ, suc, ◌+◌, ◌<◌, ◌≤◌, List, [], ◌∷◌, ◌++◌, map, length, drop, get_or, Some, None, refl, sym, ap, ◌∙◌, subst, add-one, arith}
use Rattle.std.proofs.Math.Seq.{drop-cons}
use Rattle.std.proofs.lemmas.List.{length-map}
use Rattle.tor_edge.specs.declared.place.Place.{Place}
use Rattle.usuba_trees.specs.declared.BitOp.{BitOp}
use Rattle.usuba_trees.specs.declared.Decl.{Decl}
use Rattle.usuba_trees.specs.declared.Expr.{Expr}
use Rattle.usuba_trees.specs.declared.Expr.TheVariants as e
use Rattle.usuba_trees.specs.declared.Index.{Index}
use Rattle.usuba_trees.specs.declared.Link.{Link}
use Rattle.usuba_trees.specs.declared.ShiftLink.{ShiftLink}
use Rattle.usuba_trees.specs.declared.Spot.{Spot}
use Rattle.usuba_trees.specs.declared.Word.{Word}
use Rattle.usuba_model.specs.declared.fault.Fault.{Fault}
use Rattle.usuba_model.specs.Cells.{Cell, spot_read}
use Rattle.usuba_model.specs.Indexes.{Counter, computed}
use Rattle.usuba_model.specs.Unrolled.{number, cells, natural}
use Rattle.usuba_model.specs.Walk.{Step, Signature, signature_of, size_of, number_step, spot_step, call_step, operator_step, shift_step, refresh_step, Walked, walked_parts, walked_call, walked_complement, walked_chain, walked_shifts, walked_refresh, walk_of, walk_fault, count_of}
use Rattle.usuba_code.specs.declared.operation.Operation.{Operation}
use Rattle.usuba_code.specs.declared.operation.Operation.TheVariants as make
use Rattle.usuba_model.specs.Numbers.{cell_number, callee_number}
use Rattle.usuba_code.specs.Code.{code_of, read_cell}
use Rattle.usuba_walk.specs.declared.progress.Progress.{Progress}
use Rattle.usuba_walk.specs.State.Progress.{with_code, Takes, Makes, IsWalked, links_steps, links_code, moves_steps, moves_code, moved_size, cell_code}
use Rattle.usuba_walk.proofs.Chains.{code-joined_all, size-joined_all, steps-walked_chain, code-walked_chain, size-walked_chain, steps-walked_shifts, code-walked_shifts, size-walked_shifts}
use Rattle.usuba_walk.proofs.Faulting.{fault-first}
use Rattle.usuba_walk.proofs.Taking.{with_code-nil, Leads, leads-end, leads-code, leads-fault, takes-code, takes-fault}
use Rattle.usuba_walk.proofs.Trees.{parts_of, links_of, walked-number, walked-spot, walked-tuple, walked-call, walked-not, walked-chain, walked-shift, walked-refresh}

-- the code that reads cells reads their numbers
pub cell_code-numbers : (declared : List Decl) (read : List _) → cell_code (map (cell_number declared) read) ≡ map (read_cell declared) read
cell_code-numbers declared [] = refl
cell_code-numbers declared (cell ∷ read) = ap (λ code. read_cell declared cell ∷ code) (cell_code-numbers declared read)

-- the cells of a spot are read once its step is taken and their code is added
pub read-makes : (declared : List Decl) (first middle last : Progress) (size : ℕ) (step : Step) (numbers : List ℕ) (read : List Cell)
    → Takes first middle (step ∷ []) first.table → numbers ≡ map (cell_number declared) read → last.count ≡ middle.count
    → last.table ≡ with_code middle.table (cell_code numbers) → size ≡ length numbers → step.adds ≡ length read
    → Makes first last size (step ∷ []) (map (read_cell declared) read)
read-makes declared first middle last size step numbers read takes are count table size_is adds_is =
    let many : length numbers ≡ length read = ap length are ∙ length-map read (cell_number declared) in
    record {
      takes = record {
        clean = takes.clean;
        count = count ∙ takes.count;
        table = table ∙ ap (λ t. with_code t (cell_code numbers)) takes.table
            ∙ ap (λ ns. with_code first.table (cell_code ns)) are ∙ ap (with_code first.table) (cell_code-numbers declared read);
      };
      few = omega (arith, count, takes.count, size_is, adds_is, many);
    }

-- what is left of a list begins with the next element
pub drop-next : {A : Type 0} (xs : List A) (i : ℕ) (item : A) → i < length xs → item ≡ get_or xs i item → drop i xs ≡ item ∷ drop (i + 1) xs
drop-next xs i item within is =
    drop-cons xs i item within ∙ ap (λ x. x ∷ drop (suc i) xs) (sym is) ∙ ap (λ k. item ∷ drop k xs) (sym (add-one i))

module _ (w : ℕ) (signatures : List Signature) (declared : List Decl) (counters : List Counter) where
  abbrev pub W : Expr → Walked
  W expression = walk_of w signatures declared expression counters

  -- expressions one after another
  abbrev pub Parts : List Expr → Walked
  Parts parts = walked_parts (parts_of w signatures declared counters parts)

  abbrev pub code : Walked → List Operation
  code walked = code_of signatures declared walked.is

  abbrev pub size : Walked → ℕ
  size walked = size_of signatures walked.is

  -- an expression by its variant
  pub is-number : (whole : Expr) (place : Place) (value : ℕ) → whole ≡ e.Number place value
      → W whole ≡ record { is = number value; steps = number_step w place value ∷ [] }
  is-number whole place value is = ap W is ∙ walked-number w signatures declared counters place value

  pub is-spot : (whole : Expr) (spot : Spot) → whole ≡ e.Spot spot
      → W whole ≡ record { is = cells (spot_read declared counters spot).cells; steps = spot_step spot.name.place (spot_read declared counters spot) ∷ [] }
  is-spot whole spot is = ap W is ∙ walked-spot w signatures declared counters spot

  pub is-tuple : (whole : Expr) (parts slice : List Expr) → whole ≡ e.Tuple parts → slice ≡ parts → W whole ≡ Parts slice
  is-tuple whole parts slice is same = ap W is ∙ walked-tuple w signatures declared counters parts ∙ ap Parts (sym same)

  pub is-call : (whole : Expr) (name : Word) (args slice : List Expr) → whole ≡ e.Call name args → slice ≡ args
      → W whole ≡ walked_call signatures name.text name.place (Parts slice)
  is-call whole name args slice is same =
      ap W is ∙ walked-call w signatures declared counters name args
      ∙ ap (λ parts. walked_call signatures name.text name.place (Parts parts)) (sym same)

  pub is-not : (whole inner given : Expr) (place : Place) → whole ≡ e.Not place inner → given ≡ inner
      → W whole ≡ walked_complement signatures place (W given)
  is-not whole inner given place is same =
      ap W is ∙ walked-not w signatures declared counters place inner ∙ ap (λ a. walked_complement signatures place (W a)) (sym same)

  pub is-chain : (whole first given : Expr) (op : BitOp) (rest slice : List Link) → whole ≡ e.Chain op first rest → given ≡ first → slice ≡ rest
      → W whole ≡ walked_chain signatures counters op (W given) (links_of w signatures declared slice)
  is-chain whole first given op rest slice is same too =
      ap W is ∙ walked-chain w signatures declared counters op first rest
      ∙ ap (λ a. walked_chain signatures counters op (W a) (links_of w signatures declared rest)) (sym same)
      ∙ ap (λ links. walked_chain signatures counters op (W given) (links_of w signatures declared links)) (sym too)

  pub is-shift : (whole first given : Expr) (moves slice : List ShiftLink) → whole ≡ e.Shift first moves → given ≡ first → slice ≡ moves
      → W whole ≡ walked_shifts w signatures counters (W given) slice
  is-shift whole first given moves slice is same too =
      ap W is ∙ walked-shift w signatures declared counters first moves
      ∙ ap (λ a. walked_shifts w signatures counters (W a) moves) (sym same)
      ∙ ap (walked_shifts w signatures counters (W given)) (sym too)

  pub is-refresh : (whole inner given : Expr) (place : Place) (k : Index) → whole ≡ e.Refresh place inner k → given ≡ inner
      → W whole ≡ walked_refresh signatures place (W given) (computed k counters)
  is-refresh whole inner given place k is same =
      ap W is ∙ walked-refresh w signatures declared counters place inner k
      ∙ ap (λ a. walked_refresh signatures place (W a) (computed k counters)) (sym same)

  -- a walk is known by what it is
  pub walked-as : (before after : Progress) (made : ℕ) (walked same : Walked) → walked ≡ same
      → IsWalked signatures declared before after made same → IsWalked signatures declared before after made walked
  walked-as before after made walked same is known = subst (IsWalked signatures declared before after made) (sym is) known

  pub fault-as : (count : ℕ) (walked same : Walked) (fault : Fault) → walked ≡ same
      → walk_fault count same.steps ≡ Some fault → walk_fault count walked.steps ≡ Some fault
  fault-as count walked same fault is known = ap (λ (x : Walked). walk_fault count x.steps) is ∙ known

  -- a number is walked
  pub number-walked : (before after : Progress) (made : ℕ) (whole : Expr) (place : Place) (value : ℕ) → whole ≡ e.Number place value
      → made ≡ 1 → Makes before after made (number_step w place value ∷ []) (make.Number value ∷ [])
      → IsWalked signatures declared before after made (W whole)
  number-walked before after made whole place value is one makes =
      walked-as before after made (W whole) _ (is-number whole place value is) (record { makes = makes; size = one })

  -- a spot is walked
  pub spot-walked : (before after : Progress) (made : ℕ) (whole : Expr) (spot : Spot) → whole ≡ e.Spot spot
      → made ≡ length (spot_read declared counters spot).cells
      → Makes before after made (spot_step spot.name.place (spot_read declared counters spot) ∷ []) (map (read_cell declared) (spot_read declared counters spot).cells)
      → IsWalked signatures declared before after made (W whole)
  spot-walked before after made whole spot is all makes =
      walked-as before after made (W whole) _ (is-spot whole spot is) (record { makes = makes; size = all })

  -- after an operand further steps were taken, which hang on its size
  pub rest-walked : (before middle after : Progress) (given made : ℕ) (inner walked : Walked) (steps : ℕ → List Step) (more : ℕ → List Operation)
      → IsWalked signatures declared before middle given inner → Takes middle after (steps given) (with_code middle.table (more given))
      → made ≡ size walked → walked.steps ≡ inner.steps ++ steps (size inner) → code walked ≡ code inner ++ more (size inner)
      → made + before.count ≤ after.count → IsWalked signatures declared before after made walked
  rest-walked before middle after given made inner walked steps more one two is steps_are code_is few =
      let both : Takes before after (inner.steps ++ steps given) (with_code before.table (code inner ++ more given)) =
      takes-code before middle after inner.steps (steps given) (code inner) (more given) one.makes.takes two in
      let same_steps : inner.steps ++ steps given ≡ walked.steps = ap (λ n. inner.steps ++ steps n) one.size ∙ sym steps_are in
      let same_code : code inner ++ more given ≡ code walked = ap (λ n. code inner ++ more n) one.size ∙ sym code_is in
      record {
        makes = record {
          takes = subst (λ s. Takes before after s (with_code before.table (code walked))) same_steps
              (subst (λ c. Takes before after (inner.steps ++ steps given) (with_code before.table c)) same_code both);
          few = few;
        };
        size = is;
      }

  -- a fault in the further steps
  pub rest-fault : (before middle : Progress) (given : ℕ) (inner walked : Walked) (steps : ℕ → List Step) (fault : Fault)
      → IsWalked signatures declared before middle given inner → walked.steps ≡ inner.steps ++ steps (size inner)
      → walk_fault middle.count (steps given) ≡ Some fault → walk_fault before.count walked.steps ≡ Some fault
  rest-fault before middle given inner walked steps fault one steps_are known =
      let same_steps : walked.steps ≡ inner.steps ++ steps given = steps_are ∙ ap (λ n. inner.steps ++ steps n) (sym one.size) in
      ap (walk_fault before.count) same_steps
      ∙ takes-fault before middle inner.steps (steps given) (with_code before.table (code inner)) fault one.makes.takes known

  -- a fault in the operand
  pub operand-fault : (count : ℕ) (inner walked : Walked) (rest : List Step) (fault : Fault) → walked.steps ≡ inner.steps ++ rest
      → walk_fault count inner.steps ≡ Some fault → walk_fault count walked.steps ≡ Some fault
  operand-fault count inner walked rest fault steps_are known =
      ap (walk_fault count) steps_are ∙ fault-first count inner.steps rest fault known

  -- a call after its arguments
  pub call-walked : (before middle after : Progress) (given made : ℕ) (name : Word) (args : Walked)
      → IsWalked signatures declared before middle given args
      → made ≡ (signature_of signatures name.text).outputs
      → Makes middle after made (call_step name.place (signature_of signatures name.text) given ∷ []) (make.Call (callee_number signatures name.text) given ∷ [])
      → IsWalked signatures declared before after made (walked_call signatures name.text name.place args)
  call-walked before middle after given made name args one is two =
      let few : made + before.count ≤ after.count = omega (arith, one.makes.takes.count, two.few) in
      rest-walked before middle after given made args (walked_call signatures name.text name.place args)
      (λ n. call_step name.place (signature_of signatures name.text) n ∷ []) (λ n. make.Call (callee_number signatures name.text) n ∷ [])
      one two.takes is refl refl few

  -- a complement after its operand
  pub complement-walked : (before middle after : Progress) (given made : ℕ) (place : Place) (inner : Walked)
      → IsWalked signatures declared before middle given inner → made ≡ given
      → Makes middle after made (record { place = place; adds = given; fault = None } ∷ []) (make.Complement given ∷ [])
      → IsWalked signatures declared before after made (walked_complement signatures place inner)
  complement-walked before middle after given made place inner one is two =
      let few : made + before.count ≤ after.count = omega (arith, one.makes.takes.count, two.few) in
      rest-walked before middle after given made inner (walked_complement signatures place inner)
      (λ n. record { place = place; adds = n; fault = None } ∷ []) (λ n. make.Complement n ∷ [])
      one two.takes (is ∙ one.size) refl refl few

  -- a refresh after its operand
  pub refresh-walked : (before middle after : Progress) (given made : ℕ) (place : Place) (k : Index) (inner : Walked)
      → IsWalked signatures declared before middle given inner → made ≡ given
      → Makes middle after made (refresh_step place given (computed k counters) ∷ []) (make.Refresh (natural (computed k counters).value) given ∷ [])
      → IsWalked signatures declared before after made (walked_refresh signatures place inner (computed k counters))
  refresh-walked before middle after given made place k inner one is two =
      let few : made + before.count ≤ after.count = omega (arith, one.makes.takes.count, two.few) in
      rest-walked before middle after given made inner (walked_refresh signatures place inner (computed k counters))
      (λ n. refresh_step place n (computed k counters) ∷ []) (λ n. make.Refresh (natural (computed k counters).value) n ∷ [])
      one two.takes (is ∙ one.size) refl refl few

  -- a chain after its first operand
  pub chain-walked : (before middle after : Progress) (given made : ℕ) (op : BitOp) (first : Walked) (links : List Link)
      → IsWalked signatures declared before middle given first → made ≡ given
      → Takes middle after (links_steps w signatures declared counters op given links) (with_code middle.table (links_code w signatures declared counters op given links))
      → IsWalked signatures declared before after made (walked_chain signatures counters op first (links_of w signatures declared links))
  chain-walked before middle after given made op first links one is two =
      let few : made + before.count ≤ after.count = omega (arith, one.makes.few, is, two.count) in
      rest-walked before middle after given made first (walked_chain signatures counters op first (links_of w signatures declared links))
      (λ n. links_steps w signatures declared counters op n links) (λ n. links_code w signatures declared counters op n links)
      one two (is ∙ one.size ∙ sym (size-walked_chain w signatures declared counters op first links))
      (steps-walked_chain w signatures declared counters op first links) (code-walked_chain w signatures declared counters op first links) few

  moved_few : (p q r n : ℕ) (moves : List ShiftLink) → n + p ≤ q → r ≡ q + count_of (moves_steps w counters n moves) → moved_size n moves + p ≤ r
  moved_few p q r n [] few is = omega (arith, few, is)
  moved_few p q r n (move ∷ moves) few is = omega (arith, few, is)

  -- shifts after their operand
  pub shifts-walked : (before middle after : Progress) (given made : ℕ) (first : Walked) (moves : List ShiftLink)
      → IsWalked signatures declared before middle given first → made ≡ moved_size given moves
      → Takes middle after (moves_steps w counters given moves) (with_code middle.table (moves_code counters moves))
      → IsWalked signatures declared before after made (walked_shifts w signatures counters first moves)
  shifts-walked before middle after given made first moves one is two =
      let least = moved_few before.count middle.count after.count given moves one.makes.few two.count in
      let few : made + before.count ≤ after.count = omega (arith, is, least) in
      rest-walked before middle after given made first (walked_shifts w signatures counters first moves)
      (λ n. moves_steps w counters n moves) (λ n. moves_code counters moves)
      one two (is ∙ ap (λ n. moved_size n moves) one.size ∙ sym (size-walked_shifts w signatures declared counters first moves))
      (steps-walked_shifts w signatures declared counters first moves) (code-walked_shifts w signatures declared counters first moves) few

  -- a fault at a call, and in its arguments
  pub call-fault : (before middle : Progress) (given : ℕ) (name : Word) (args : Walked) (fault : Fault)
      → IsWalked signatures declared before middle given args
      → walk_fault middle.count (call_step name.place (signature_of signatures name.text) given ∷ []) ≡ Some fault
      → walk_fault before.count (walked_call signatures name.text name.place args).steps ≡ Some fault
  call-fault before middle given name args fault one known =
      rest-fault before middle given args (walked_call signatures name.text name.place args)
      (λ n. call_step name.place (signature_of signatures name.text) n ∷ []) fault one refl known

  pub call-args_fault : (count : ℕ) (name : Word) (args : Walked) (fault : Fault) → walk_fault count args.steps ≡ Some fault
      → walk_fault count (walked_call signatures name.text name.place args).steps ≡ Some fault
  call-args_fault count name args fault known = operand-fault count args (walked_call signatures name.text name.place args) _ fault refl known

  -- a fault at a complement, and in its operand
  pub complement-fault : (before middle : Progress) (given : ℕ) (place : Place) (inner : Walked) (fault : Fault)
      → IsWalked signatures declared before middle given inner
      → walk_fault middle.count (record { place = place; adds = given; fault = None } ∷ []) ≡ Some fault
      → walk_fault before.count (walked_complement signatures place inner).steps ≡ Some fault
  complement-fault before middle given place inner fault one known =
      rest-fault before middle given inner (walked_complement signatures place inner) (λ n. record { place = place; adds = n; fault = None } ∷ []) fault one refl known

  pub complement-inner_fault : (count : ℕ) (place : Place) (inner : Walked) (fault : Fault) → walk_fault count inner.steps ≡ Some fault
      → walk_fault count (walked_complement signatures place inner).steps ≡ Some fault
  complement-inner_fault count place inner fault known = operand-fault count inner (walked_complement signatures place inner) _ fault refl known

  -- a fault at a refresh, and in its operand
  pub refresh-fault : (before middle : Progress) (given : ℕ) (place : Place) (k : Index) (inner : Walked) (fault : Fault)
      → IsWalked signatures declared before middle given inner
      → walk_fault middle.count (refresh_step place given (computed k counters) ∷ []) ≡ Some fault
      → walk_fault before.count (walked_refresh signatures place inner (computed k counters)).steps ≡ Some fault
  refresh-fault before middle given place k inner fault one known =
      rest-fault before middle given inner (walked_refresh signatures place inner (computed k counters)) (λ n. refresh_step place n (computed k counters) ∷ []) fault one refl known

  pub refresh-inner_fault : (count : ℕ) (place : Place) (k : Index) (inner : Walked) (fault : Fault) → walk_fault count inner.steps ≡ Some fault
      → walk_fault count (walked_refresh signatures place inner (computed k counters)).steps ≡ Some fault
  refresh-inner_fault count place k inner fault known = operand-fault count inner (walked_refresh signatures place inner (computed k counters)) _ fault refl known

  -- a fault in the further operands of a chain, and in its first
  pub chain-fault : (before middle : Progress) (given : ℕ) (op : BitOp) (first : Walked) (links : List Link) (fault : Fault)
      → IsWalked signatures declared before middle given first
      → walk_fault middle.count (links_steps w signatures declared counters op given links) ≡ Some fault
      → walk_fault before.count (walked_chain signatures counters op first (links_of w signatures declared links)).steps ≡ Some fault
  chain-fault before middle given op first links fault one known =
      rest-fault before middle given first (walked_chain signatures counters op first (links_of w signatures declared links))
      (λ n. links_steps w signatures declared counters op n links) fault one (steps-walked_chain w signatures declared counters op first links) known

  pub chain-first_fault : (count : ℕ) (op : BitOp) (first : Walked) (links : List Link) (fault : Fault) → walk_fault count first.steps ≡ Some fault
      → walk_fault count (walked_chain signatures counters op first (links_of w signatures declared links)).steps ≡ Some fault
  chain-first_fault count op first links fault known =
      operand-fault count first (walked_chain signatures counters op first (links_of w signatures declared links))
      (links_steps w signatures declared counters op (size first) links) fault (steps-walked_chain w signatures declared counters op first links) known

  -- a fault at shifts, and in their operand
  pub shifts-fault : (before middle : Progress) (given : ℕ) (first : Walked) (moves : List ShiftLink) (fault : Fault)
      → IsWalked signatures declared before middle given first
      → walk_fault middle.count (moves_steps w counters given moves) ≡ Some fault
      → walk_fault before.count (walked_shifts w signatures counters first moves).steps ≡ Some fault
  shifts-fault before middle given first moves fault one known =
      rest-fault before middle given first (walked_shifts w signatures counters first moves) (λ n. moves_steps w counters n moves) fault one
      (steps-walked_shifts w signatures declared counters first moves) known

  pub shifts-first_fault : (count : ℕ) (first : Walked) (moves : List ShiftLink) (fault : Fault) → walk_fault count first.steps ≡ Some fault
      → walk_fault count (walked_shifts w signatures counters first moves).steps ≡ Some fault
  shifts-first_fault count first moves fault known =
      operand-fault count first (walked_shifts w signatures counters first moves) (moves_steps w counters (size first) moves) fault
      (steps-walked_shifts w signatures declared counters first moves) known

  -- expressions one after another, of which some are left
  pub record PartsSoFar (first now : Progress) (made : ℕ) (all rest : List Expr) : Type 0 where
    pub leads : Leads first now (Parts all).steps (Parts rest).steps (with_code first.table (code (Parts all))) (with_code now.table (code (Parts rest)))
    pub size_is : size (Parts all) ≡ made + size (Parts rest)
    pub few : made + first.count ≤ now.count

  -- one more part is walked
  pub parts-step : (first now next : Progress) (made more : ℕ) (all left rest : List Expr) (part : Expr)
      → PartsSoFar first now made all left → left ≡ part ∷ rest → IsWalked signatures declared now next more (W part)
      → PartsSoFar first next (made + more) all rest
  parts-step first now next made more all left rest part so is walked =
      let here : PartsSoFar first now made all (part ∷ rest) = subst (PartsSoFar first now made all) is so in
      let code_is = code-joined_all signatures declared (W part).is (map (λ (p : Walked). p.is) (parts_of w signatures declared counters rest)) in
      let size_is = size-joined_all signatures declared (W part).is (map (λ (p : Walked). p.is) (parts_of w signatures declared counters rest)) in
      let split : Leads first now (Parts all).steps (Parts (part ∷ rest)).steps (with_code first.table (code (Parts all))) (with_code now.table (code (W part) ++ code (Parts rest)))
      = subst (λ c. Leads first now (Parts all).steps (Parts (part ∷ rest)).steps (with_code first.table (code (Parts all))) (with_code now.table c)) code_is here.leads in
      record {
        leads = leads-code first now next (Parts all).steps (W part).steps (Parts rest).steps (with_code first.table (code (Parts all)))
            (code (W part)) (code (Parts rest)) split walked.makes.takes;
        size_is = omega (arith, here.size_is, size_is, walked.size);
        few = omega (arith, here.few, walked.makes.few);
      }

  -- a fault in the next part
  pub parts-fault : (first now : Progress) (made : ℕ) (all left rest : List Expr) (part : Expr) (fault : Fault)
      → PartsSoFar first now made all left → left ≡ part ∷ rest → walk_fault now.count (W part).steps ≡ Some fault
      → walk_fault first.count (Parts all).steps ≡ Some fault
  parts-fault first now made all left rest part fault so is known =
      let here : PartsSoFar first now made all (part ∷ rest) = subst (PartsSoFar first now made all) is so in
      leads-fault first now (Parts all).steps (W part).steps (Parts rest).steps (with_code first.table (code (Parts all)))
      (with_code now.table (code (Parts (part ∷ rest)))) fault here.leads known

  -- all parts are walked
  pub parts-end : (first now : Progress) (made : ℕ) (all left : List Expr) → PartsSoFar first now made all left → left ≡ []
      → IsWalked signatures declared first now made (Parts all)
  parts-end first now made all left so is =
      let here : PartsSoFar first now made all [] = subst (PartsSoFar first now made all) is so in
      record {
        makes = record {
          takes = leads-end first now (Parts all).steps (with_code first.table (code (Parts all))) (with_code now.table []) here.leads (with_code-nil now.table);
          few = here.few;
        };
        size = omega (arith, here.size_is);
      }

  -- further operands of a chain, of which some are left
  abbrev pub LinksSoFar : BitOp → ℕ → Progress → Progress → List Link → List Link → Type 0
  LinksSoFar op given first now all rest =
      Leads first now (links_steps w signatures declared counters op given all) (links_steps w signatures declared counters op given rest)
      (with_code first.table (links_code w signatures declared counters op given all))
      (with_code now.table (links_code w signatures declared counters op given rest))

  -- one more operand and its sign are walked
  pub links-step : (op : BitOp) (given made : ℕ) (first now middle next : Progress) (all left rest : List Link) (link : Link)
      → LinksSoFar op given first now all left → left ≡ link ∷ rest
      → IsWalked signatures declared now middle made (W link.operand)
      → Takes middle next (operator_step op link.place given made ∷ []) (with_code middle.table (make.Combine op given ∷ []))
      → LinksSoFar op given first next all rest
  links-step op given made first now middle next all left rest link so is walked sign =
      let operand = W link.operand in
      let signed : Takes middle next (operator_step op link.place given (size operand) ∷ []) (with_code middle.table (make.Combine op given ∷ []))
      = subst (λ n. Takes middle next (operator_step op link.place given n ∷ []) (with_code middle.table (make.Combine op given ∷ []))) walked.size sign in
      leads-code first now next (links_steps w signatures declared counters op given all)
      (operand.steps ++ operator_step op link.place given (size operand) ∷ []) (links_steps w signatures declared counters op given rest)
      (with_code first.table (links_code w signatures declared counters op given all))
      (code operand ++ make.Combine op given ∷ []) (links_code w signatures declared counters op given rest)
      (subst (LinksSoFar op given first now all) is so)
      (takes-code now middle next operand.steps (operator_step op link.place given (size operand) ∷ []) (code operand) (make.Combine op given ∷ []) walked.makes.takes signed)

  -- a fault in the next operand
  pub links-operand_fault : (op : BitOp) (given : ℕ) (first now : Progress) (all left rest : List Link) (link : Link) (fault : Fault)
      → LinksSoFar op given first now all left → left ≡ link ∷ rest → walk_fault now.count (W link.operand).steps ≡ Some fault
      → walk_fault first.count (links_steps w signatures declared counters op given all) ≡ Some fault
  links-operand_fault op given first now all left rest link fault so is known =
      let operand = W link.operand in
      let sign : List Step = operator_step op link.place given (size operand) ∷ [] in
      leads-fault first now (links_steps w signatures declared counters op given all)
      (operand.steps ++ sign) (links_steps w signatures declared counters op given rest)
      (with_code first.table (links_code w signatures declared counters op given all))
      (with_code now.table (links_code w signatures declared counters op given (link ∷ rest)))
      fault (subst (LinksSoFar op given first now all) is so) (fault-first now.count operand.steps sign fault known)

  -- a fault at the next sign
  pub links-sign_fault : (op : BitOp) (given made : ℕ) (first now middle : Progress) (all left rest : List Link) (link : Link) (fault : Fault)
      → LinksSoFar op given first now all left → left ≡ link ∷ rest
      → IsWalked signatures declared now middle made (W link.operand)
      → walk_fault middle.count (operator_step op link.place given made ∷ []) ≡ Some fault
      → walk_fault first.count (links_steps w signatures declared counters op given all) ≡ Some fault
  links-sign_fault op given made first now middle all left rest link fault so is walked known =
      let operand = W link.operand in
      let sign : ℕ → List Step = λ n. operator_step op link.place given n ∷ [] in
      leads-fault first now (links_steps w signatures declared counters op given all)
      (operand.steps ++ sign (size operand)) (links_steps w signatures declared counters op given rest)
      (with_code first.table (links_code w signatures declared counters op given all))
      (with_code now.table (links_code w signatures declared counters op given (link ∷ rest)))
      fault (subst (LinksSoFar op given first now all) is so)
      (takes-fault now middle operand.steps (sign (size operand)) (with_code now.table (code operand)) fault walked.makes.takes
      (ap (λ n. walk_fault middle.count (sign n)) (sym walked.size) ∙ known))

  -- all operands are walked
  pub links-end : (op : BitOp) (given : ℕ) (first now : Progress) (all left : List Link) → LinksSoFar op given first now all left → left ≡ []
      → Takes first now (links_steps w signatures declared counters op given all) (with_code first.table (links_code w signatures declared counters op given all))
  links-end op given first now all left so is =
      leads-end first now (links_steps w signatures declared counters op given all) (with_code first.table (links_code w signatures declared counters op given all))
      (with_code now.table []) (subst (LinksSoFar op given first now all) is so) (with_code-nil now.table)

module _ (w : ℕ) (counters : List Counter) where
  -- shifts, of which some are left
  pub record MovesSoFar (first now : Progress) (given made : ℕ) (all rest : List ShiftLink) : Type 0 where
    pub leads : Leads first now (moves_steps w counters given all) (moves_steps w counters made rest)
        (with_code first.table (moves_code counters all)) (with_code now.table (moves_code counters rest))
    pub size_is : moved_size given all ≡ moved_size made rest

  -- one more shift is walked
  pub moves-step : (first now next : Progress) (given made : ℕ) (all left rest : List ShiftLink) (move : ShiftLink)
      → MovesSoFar first now given made all left → left ≡ move ∷ rest
      → Takes now next (shift_step w move.place made (computed move.amount counters) ∷ [])
      (with_code now.table (make.Shift move.kind (natural (computed move.amount counters).value) ∷ []))
      → MovesSoFar first next given 1 all rest
  moves-step first now next given made all left rest move so is takes =
      let here : MovesSoFar first now given made all (move ∷ rest) = subst (MovesSoFar first now given made all) is so in
      record {
        leads = leads-code first now next (moves_steps w counters given all) (shift_step w move.place made (computed move.amount counters) ∷ [])
            (moves_steps w counters 1 rest) (with_code first.table (moves_code counters all))
            (make.Shift move.kind (natural (computed move.amount counters).value) ∷ []) (moves_code counters rest) here.leads takes;
        size_is = here.size_is ∙ one_left rest;
      }
    where
      one_left : (rest : List ShiftLink) → 1 ≡ moved_size 1 rest
      one_left [] = refl
      one_left (m ∷ ms) = refl

  -- a fault at the next shift
  pub moves-fault : (first now : Progress) (given made : ℕ) (all left rest : List ShiftLink) (move : ShiftLink) (fault : Fault)
      → MovesSoFar first now given made all left → left ≡ move ∷ rest
      → walk_fault now.count (shift_step w move.place made (computed move.amount counters) ∷ []) ≡ Some fault
      → walk_fault first.count (moves_steps w counters given all) ≡ Some fault
  moves-fault first now given made all left rest move fault so is known =
      let here : MovesSoFar first now given made all (move ∷ rest) = subst (MovesSoFar first now given made all) is so in
      leads-fault first now (moves_steps w counters given all) (shift_step w move.place made (computed move.amount counters) ∷ [])
      (moves_steps w counters 1 rest) (with_code first.table (moves_code counters all)) (with_code now.table (moves_code counters (move ∷ rest))) fault here.leads known

  -- all shifts are walked
  pub moves-end : (first now : Progress) (given made : ℕ) (all left : List ShiftLink) → MovesSoFar first now given made all left → left ≡ []
      → Takes first now (moves_steps w counters given all) (with_code first.table (moves_code counters all))
  moves-end first now given made all left so is =
      let here : MovesSoFar first now given made all [] = subst (MovesSoFar first now given made all) is so in
      leads-end first now (moves_steps w counters given all) (with_code first.table (moves_code counters all)) (with_code now.table []) here.leads (with_code-nil now.table)

  pub moves-size : (first now : Progress) (given made : ℕ) (all left : List ShiftLink) → MovesSoFar first now given made all left → left ≡ []
      → made ≡ moved_size given all
  moves-size first now given made all left so is =
      let here : MovesSoFar first now given made all [] = subst (MovesSoFar first now given made all) is so in
      sym here.size_is
